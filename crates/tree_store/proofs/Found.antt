-- What the open directories tell of the place at a path.
use Rattle.std.proofs.Common.{◌≡◌, ◌≢◌, ℕ, ◌<◌, ◌==◌, Bool, true, false, [], ◌∷◌, ◌++◌, length, Option, Some, None, is_none, refl, sym, ap, ◌∙◌, subst, inl, inr, true≢false, arith}
use Rattle.std.specs.Prelude.{option_and_then, option_map, not, is_some as is_there}
use Rattle.std.specs.FinMap.Entries as finite
use Rattle.fl_digest.specs.declared.Hash.{Hash}
use Rattle.kvs_model.specs.Store.{Name, Path, Node, Directory, Store, IsStore, node_at}
use Rattle.kvs_model.specs.Operation.{is_directory}
use Rattle.tree_rules.specs.Held.{Table}
use Rattle.tree_rules.specs.Names.{name_cmp}
use Rattle.kvs_txn.specs.declared.words.Target.{Target}
use Rattle.tree_rules.specs.Objects.{Tree, val, valref, dir, dirref, symlink, Entries, listed}
use Rattle.tree_store.specs.Shown.{Directories, opened_at, above, object_in, object_at, Stands, Shows, OpensAbove, link_target}
use Rattle.tree_store.proofs.Opening.{above_child, is_some, not_both}
use Rattle.tree_store.proofs.Making.{parent_open}
use Rattle.tree_store.proofs.Turns.{split_end}

pub more_of : (n : ℕ) → (n == 0) ≡ false → 0 < n
more_of n e = grind arith

pub zero_of : (n : ℕ) → (n == 0) ≡ true → n ≡ 0
zero_of n e = grind arith

-- ---- the object at a path

pub object_parts : (ds : Directories) (path front : Path) (name : Name) → path ≡ front ++ name ∷ [] → object_at ds path ≡ object_in ds (front, name)
object_parts ds path front name is = ap (λ (o : Option (Path × Name)). option_and_then (object_in ds) o) (ap above is ∙ above_child front name)

pub object_found : (ds : Directories) (path front : Path) (name : Name) (es : Entries) → path ≡ front ++ name ∷ [] → Some es ≡ opened_at ds front → finite.find name_cmp name (listed es) ≡ object_at ds path
object_found ds path front name es is found =
    ap (λ (o : Option Entries). option_and_then (λ (xs : Entries). finite.find name_cmp name (listed xs)) o) found ∙ sym (object_parts ds path front name is)

pub object_none : (ds : Directories) (path front : Path) (name : Name) → path ≡ front ++ name ∷ [] → None ≡ opened_at ds front → None ≡ object_at ds path
object_none ds path front name is found =
    ap (λ (o : Option Entries). option_and_then (λ (xs : Entries). finite.find name_cmp name (listed xs)) o) found ∙ sym (object_parts ds path front name is)

pub object_root : (ds : Directories) (path : Path) → length path ≡ 0 → None ≡ object_at ds path
object_root ds [] e = refl
object_root ds (x ∷ path) e = absurd (omega arith)

-- ---- it stands for what the store has there

pub child_none : (st : Store) → IsStore st → (p : Path) (n : Name) → node_at st p ≢ Some Directory → node_at st (p ++ n ∷ []) ≡ None
child_none st is p n unlike = nothing (node_at st (p ++ n ∷ [])) refl
  where
    nothing : (o : Option Node) → node_at st (p ++ n ∷ []) ≡ o → o ≡ None
    nothing None e = refl
    nothing (Some node) e = absurd (unlike (is.parents p n (is_some (node_at st (p ++ n ∷ [])) node e)))

stands_child : (h : Hash) (table : Table) (ds : Directories) (st : Store) (p : Path) (n : Name) → Shows h table ds st → OpensAbove ds st (p ++ n ∷ []) → Stands h table ds st (p ++ n ∷ []) (object_at ds (p ++ n ∷ []))
stands_child h table ds st p n shows opens =
    subst (Stands h table ds st (p ++ n ∷ [])) (sym (object_parts ds (p ++ n ∷ []) p n refl)) (found (opened_at ds p) refl)
  where
    found : (o : Option Entries) → opened_at ds p ≡ o → Stands h table ds st (p ++ n ∷ []) (option_and_then (λ (xs : Entries). finite.find name_cmp n (listed xs)) o)
    found (Some es) e = shows.told p es n e
    found None e = child_none st shows.store p n (λ d. not_both (opened_at ds p) (parent_open ds st p n opens d) e)

pub stands_at : (h : Hash) (table : Table) (ds : Directories) (st : Store) (path : Path) → Shows h table ds st → OpensAbove ds st path → 0 < length path → Stands h table ds st path (object_at ds path)
stands_at h table ds st path shows opens some =
    elim (split_end path) [
      | inl e ↦ absurd (omega (arith, ap length e))
      | inr parts ↦ subst (λ (q : Path). Stands h table ds st q (object_at ds q)) (sym parts.2) (stands_child h table ds st parts.0 parts.1 shows (subst (OpensAbove ds st) parts.2 opens))
    ]

-- ---- what is asked of an object

abbrev pub is_dir : Option Tree → Bool
is_dir None = false
is_dir (Some (val bytes)) = false
is_dir (Some (valref references)) = false
is_dir (Some (dir es)) = true
is_dir (Some (dirref reference)) = true
is_dir (Some (symlink target)) = false

abbrev pub link_of : Option Tree → Option Target
link_of None = None
link_of (Some (val bytes)) = None
link_of (Some (valref references)) = None
link_of (Some (dir es)) = None
link_of (Some (dirref reference)) = None
link_of (Some (symlink target)) = Some target

pub dir_told : (h : Hash) (table : Table) (ds : Directories) (st : Store) (q : Path) (o : Option Tree) → Stands h table ds st q o → is_dir o ≡ is_directory (node_at st q)
dir_told h table ds st q None is = ap is_directory (sym is)
dir_told h table ds st q (Some (val bytes)) is = ap is_directory (sym is)
dir_told h table ds st q (Some (valref references)) is = ap is_directory (sym is.value)
dir_told h table ds st q (Some (dir es)) is = ap is_directory (sym is.0)
dir_told h table ds st q (Some (dirref reference)) is = ap is_directory (sym is.directory)
dir_told h table ds st q (Some (symlink target)) is = ap is_directory (sym is)

pub link_told : (h : Hash) (table : Table) (ds : Directories) (st : Store) (q : Path) (o : Option Tree) → Stands h table ds st q o → link_of o ≡ link_target (node_at st q)
link_told h table ds st q None is = ap link_target (sym is)
link_told h table ds st q (Some (val bytes)) is = ap link_target (sym is)
link_told h table ds st q (Some (valref references)) is = ap link_target (sym is.value)
link_told h table ds st q (Some (dir es)) is = ap link_target (sym is.0)
link_told h table ds st q (Some (dirref reference)) is = ap link_target (sym is.directory)
link_told h table ds st q (Some (symlink target)) is = ap link_target (sym is)

pub none_told : (h : Hash) (table : Table) (ds : Directories) (st : Store) (q : Path) (o : Option Tree) → Stands h table ds st q o → is_none o ≡ is_none (node_at st q)
none_told h table ds st q None is = ap is_none (sym is)
none_told h table ds st q (Some (val bytes)) is = ap is_none (sym is)
none_told h table ds st q (Some (valref references)) is = ap is_none (sym is.value)
none_told h table ds st q (Some (dir es)) is = ap is_none (sym is.0)
none_told h table ds st q (Some (dirref reference)) is = ap is_none (sym is.directory)
none_told h table ds st q (Some (symlink target)) is = ap is_none (sym is)

-- a directory stands at the path, or none does
pub directory_told : (ds : Directories) (path : Path) (b : Bool) → b ≡ is_dir (object_at ds path) → 0 < length path
    → (h : Hash) (table : Table) (st : Store) → Shows h table ds st → OpensAbove ds st path → b ≡ is_directory (node_at st path)
directory_told ds path b is some h table st shows opens = is ∙ dir_told h table ds st path (object_at ds path) (stands_at h table ds st path shows opens some)

pub free_told : (ds : Directories) (path : Path) (b : Bool) → b ≡ is_none (object_at ds path) → 0 < length path
    → (h : Hash) (table : Table) (st : Store) → Shows h table ds st → OpensAbove ds st path → b ≡ is_none (node_at st path)
free_told ds path b is some h table st shows opens = is ∙ none_told h table ds st path (object_at ds path) (stands_at h table ds st path shows opens some)

pub target_told : (ds : Directories) (path : Path) (o : Option Target) → o ≡ link_of (object_at ds path)
    → (h : Hash) (table : Table) (st : Store) → Shows h table ds st → OpensAbove ds st path → o ≡ link_target (node_at st path)
target_told ds [] o is h table st shows opens = is ∙ ap link_target (sym shows.store.rooted)
target_told ds (x ∷ path) o is h table st shows opens = is ∙ link_told h table ds st (x ∷ path) (object_at ds (x ∷ path)) (stands_at h table ds st (x ∷ path) shows opens (omega arith))

pub none_tested : {A B : Type 0} (f : A → B) (o : Option A) (b : Bool) → is_there o ≡ not b → b ≡ is_none (option_map f o)
none_tested f (Some x) true e = absurd (true≢false e)
none_tested f (Some x) false e = refl
none_tested f None true e = refl
none_tested f None false e = absurd (true≢false (sym e))
