-- What is shown after directories are made on the way to a path, and a node is put there.
use Rattle.std.proofs.Common.{◌≡◌, ℕ, zero, suc, ◌+◌, ◌-◌, ◌<◌, ◌≤◌, true, false, cond, [], ◌∷◌, ◌++◌, length, take, get_or, Option, Some, None, refl, sym, ap, ◌∙◌, subst, inl, inr, true≢false, arith, length-take}
use Rattle.std.specs.Prelude.{IsSome}
use Rattle.fl_digest.specs.declared.Hash.{Hash}
use Rattle.kvs_model.specs.Operation.{with_places_above, placed, is_directory}
use Rattle.kvs_model.specs.Store.{Name, Path, Node, Value, Directory, Link, Store, IsStore, node_at, with_node, without}
use Rattle.kvs_model.proofs.Paths as paths
use Rattle.kvs_model.proofs.Paths.{node_at-with_node, node_at-with_places_above, path_self, is_above, above_not_within, within_self}
use Rattle.plain_store.proofs.Placing.{upto, upto_none, upto_more, upto_all, same_directory, placed_bare}
use Rattle.plain_store.proofs.Walking.{place_at}
use Rattle.tree_rules.specs.Held.{Table, IsStorableNode}
use Rattle.tree_rules.specs.Objects.{Tree, no_entries}
use Rattle.tree_store.specs.Shown.{Directories, opened_at, above, Shows, OpensAbove, IsInDirectory, IsNodeOf, with_object, without_object, closed_within, with_open}
use Rattle.tree_store.proofs.Making.{parent_open, shows_placed, shows_without, shows_directory, opens_directory}
use Rattle.tree_store.proofs.Opening.{above_child, some_same}
use Rattle.tree_store.proofs.Storable.{IsNamed}
use Rattle.tree_store.proofs.Turns.{split_end}
use Rattle.tree_store.proofs.Unchanged.{shows_uncut}
use Rattle.tree_store.proofs.Walked.{take_less}

pub directory_is : (o : Option Node) → is_directory o ≡ true → o ≡ Some Directory
directory_is None e = absurd (true≢false (sym e))
directory_is (Some (Value bytes)) e = absurd (true≢false (sym e))
directory_is (Some Directory) e = refl
directory_is (Some (Link target)) e = absurd (true≢false (sym e))

-- ---- one directory

in_directory : (st : Store) (p : Path) (n : Name) → IsInDirectory st (p ++ n ∷ []) → node_at st p ≡ Some Directory
in_directory st p n is = is (p, n) (above_child p n)

pub make_shows : (h : Hash) (table : Table) (ds : Directories) (st : Store) (at : Path) → Shows h table ds st → OpensAbove ds st at → IsInDirectory st at → IsNamed at → 0 < length at → is_directory (node_at st at) ≡ false
    → Shows h table (with_open ds at no_entries) (with_node st at Directory)
make_shows h table ds st at shows opens in_one named some none =
    elim (split_end at) [
      | inl e ↦ absurd (omega (arith, ap length e))
      | inr parts ↦ (
          let p = parts.0 in
          let n = parts.1 in
          let opens' : OpensAbove ds st (p ++ n ∷ []) = subst (OpensAbove ds st) parts.2 opens in
          let there : node_at st p ≡ Some Directory = in_directory st p n (subst (IsInDirectory st) parts.2 in_one) in
          subst (λ (q : Path). Shows h table (with_open ds q no_entries) (with_node st q Directory)) (sym parts.2)
          (shows_directory h table ds st p n shows (parent_open ds st p n opens' there) (subst IsNamed parts.2 named) (subst (λ (q : Path). is_directory (node_at st q) ≡ false) parts.2 none)))
    ]

pub make_opens : (ds : Directories) (st : Store) (at whole : Path) → OpensAbove ds st at → IsInDirectory st at → 0 < length at → OpensAbove ds st whole → OpensAbove (with_open ds at no_entries) (with_node st at Directory) whole
make_opens ds st at whole opens in_one some open_whole =
    elim (split_end at) [
      | inl e ↦ absurd (omega (arith, ap length e))
      | inr parts ↦ (
          let p = parts.0 in
          let n = parts.1 in
          let opens' : OpensAbove ds st (p ++ n ∷ []) = subst (OpensAbove ds st) parts.2 opens in
          let there : node_at st p ≡ Some Directory = in_directory st p n (subst (IsInDirectory st) parts.2 in_one) in
          subst (λ (q : Path). OpensAbove (with_open ds q no_entries) (with_node st q Directory) whole) (sym parts.2)
          (opens_directory ds st p n whole (parent_open ds st p n opens' there) open_whole))
    ]

-- ---- all on the way

pub upto_one : (st : Store) → IsStore st → (at : Path) → upto st at 1 ≡ st
upto_one st is [] = upto_all st [] 1 (omega arith)
upto_one st is (n ∷ at) =
    upto_more st (n ∷ at) 0 (omega arith)
    ∙ ap (λ (s : Store). with_node s [] Directory) (upto_none st (n ∷ at))
    ∙ same_directory st [] is.sorted (ap is_directory is.rooted)

upto_there : (st : Store) (at : Path) (i : ℕ) → i < length at → node_at (upto st at (i + 1)) (take i at) ≡ Some Directory
upto_there st at i w =
    ap (λ (s : Store). node_at s (take i at)) (upto_more st at i w)
    ∙ node_at-with_node (upto st at i) (take i at) Directory (take i at)
    ∙ ap (λ b. cond b (Some Directory) (node_at (upto st at i) (take i at))) (path_self (take i at))

in_next : (st : Store) (at : Path) (i : ℕ) → i < length at → IsInDirectory (upto st at (i + 1)) (take (i + 1) at)
in_next st at i w one e =
    let same : ◌≡◌ {A = Path × Name} (take i at, get_or at i []) one = some_same (take i at, get_or at i []) one (sym (ap above (place_at at i w) ∙ above_child (take i at) (get_or at i [])) ∙ e) in
    subst (λ (a : Path × Name). node_at (upto st at (i + 1)) a.0 ≡ Some Directory) same (upto_there st at i w)

-- the place before the next one is a directory then
pub in_upto : (st : Store) (at : Path) (count : ℕ) → 1 ≤ count → count < length at → IsInDirectory (upto st at count) (take count at)
in_upto st at count low w =
    let same : (count - 1) + 1 ≡ count = omega arith in
    subst (λ n. IsInDirectory (upto st at n) (take n at)) same (in_next st at (count - 1) (omega arith))

pub take_named : (n : ℕ) (at : Path) → IsNamed at → IsNamed (take n at)
take_named zero at named = tt
take_named (suc n) [] named = tt
take_named (suc n) (x ∷ at) named = (named.0, take_named n at named.1)

-- the directories above a place on the way are open, too
pub opens_within : (ds : Directories) (st : Store) (at : Path) (n : ℕ) → OpensAbove ds st at → OpensAbove ds st (take n at)
opens_within ds st at n opens k w is =
    let size = length-take n at in
    let same : take k (take n at) ≡ take k at = take_less k n at (omega (arith, w, size)) in
    subst (λ (q : Path). IsSome (opened_at ds q)) (sym same) (opens k (omega (arith, w, size)) (ap (node_at st) (sym same) ∙ is))

-- ---- a node is put

pub placed_shows : (h : Hash) (table : Table) (ds : Directories) (st : Store) (at : Path) (tree : Tree) (node : Node) → Shows h table ds st → (made : Directories) → Shows h table made (with_places_above st at)
    → OpensAbove made (with_places_above st at) at → IsNamed at → 0 < length at → IsStorableNode node → IsNodeOf tree node → Shows h table (with_object (closed_within made at) at tree) (placed st at node)
placed_shows h table ds st at tree node shows made shown opens named some small of =
    elim (split_end at) [
      | inl e ↦ absurd (omega (arith, ap length e))
      | inr parts ↦
          subst (λ (q : Path). Shows h table (with_object (closed_within made q) q tree) (placed st q node)) (sym parts.2)
          (shows_placed h table made st parts.0 parts.1 tree node shows.store shows.storable (subst (λ (q : Path). Shows h table made (with_places_above st q)) parts.2 shown)
          (subst (λ (q : Path). OpensAbove made (with_places_above st q) q) parts.2 opens) (subst IsNamed parts.2 named) small of)
    ]

-- ---- a directory is put where none stands

not_above : (at : Path) → is_above at at ≡ false
not_above at =
    elim (is_above at at) as (λ b. is_above at at ≡ b → b ≡ false) [
      | true ↦ λ e. absurd (true≢false (sym (within_self at) ∙ above_not_within at at e))
      | false ↦ λ e. refl
    ] refl

pub none_still : (st : Store) (at : Path) → is_directory (node_at st at) ≡ false → is_directory (node_at (with_places_above st at) at) ≡ false
none_still st at none =
    ap is_directory (node_at-with_places_above st at at ∙ ap (λ b. cond b (Some Directory) (node_at st at)) (not_above at)) ∙ none

in_made : (st : Store) (p : Path) (n : Name) → IsInDirectory (with_places_above st (p ++ n ∷ [])) (p ++ n ∷ [])
in_made st p n one e =
    let same : ◌≡◌ {A = Path × Name} (p, n) one = some_same (p, n) one (sym (above_child p n) ∙ e) in
    subst (λ (a : Path × Name). node_at (with_places_above st (p ++ n ∷ [])) a.0 ≡ Some Directory) same
    (node_at-with_places_above st (p ++ n ∷ []) p ∙ ap (λ b. cond b (Some Directory) (node_at st p)) (paths.above_child p n))

pub directory_placed : (h : Hash) (table : Table) (ds : Directories) (st : Store) (at : Path) → Shows h table ds st → (made : Directories) → Shows h table made (with_places_above st at)
    → OpensAbove made (with_places_above st at) at → IsNamed at → 0 < length at → is_directory (node_at st at) ≡ false → Shows h table (with_open made at no_entries) (placed st at Directory)
directory_placed h table ds st at shows made shown opens named some none =
    elim (split_end at) [
      | inl e ↦ absurd (omega (arith, ap length e))
      | inr parts ↦
          subst (Shows h table (with_open made at no_entries)) (placed_bare st shows.store at Directory none)
          (make_shows h table made (with_places_above st at) at shown opens (subst (λ (q : Path). IsInDirectory (with_places_above st q) q) (sym parts.2) (in_made st parts.0 parts.1)) named some (none_still st at none))
    ]

-- ---- what stands at a path is taken away

cut_child : (h : Hash) (table : Table) (ds : Directories) (st : Store) (p : Path) (n : Name) → Shows h table ds st → OpensAbove ds st (p ++ n ∷ [])
    → Shows h table (closed_within (without_object ds (p ++ n ∷ [])) (p ++ n ∷ [])) (without st (p ++ n ∷ []))
cut_child h table ds st p n shows opens =
    elim (is_directory (node_at st p)) as (λ b. is_directory (node_at st p) ≡ b → Shows h table (closed_within (without_object ds (p ++ n ∷ [])) (p ++ n ∷ [])) (without st (p ++ n ∷ []))) [
      | true ↦ λ e. shows_without h table ds st p n shows opens (directory_is (node_at st p) e)
      | false ↦ λ e. shows_uncut h table ds st p n shows (λ d. true≢false (sym (ap is_directory d) ∙ e))
    ] refl

pub cut_shows : (h : Hash) (table : Table) (ds : Directories) (st : Store) (at : Path) → Shows h table ds st → OpensAbove ds st at → 0 < length at
    → Shows h table (closed_within (without_object ds at) at) (without st at)
cut_shows h table ds st at shows opens some =
    elim (split_end at) [
      | inl e ↦ absurd (omega (arith, ap length e))
      | inr parts ↦
          subst (λ (q : Path). Shows h table (closed_within (without_object ds q) q) (without st q)) (sym parts.2)
          (cut_child h table ds st parts.0 parts.1 shows (subst (OpensAbove ds st) parts.2 opens))
    ]
