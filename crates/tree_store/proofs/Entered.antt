-- A closed directory is opened.
use Rattle.std.proofs.Common.{◌≡◌, ℕ, true, false, cond, List, [], ◌∷◌, ◌++◌, Option, Some, None, refl, sym, ap, ◌∙◌, subst, inl, inr, true≢false, arith}
use Rattle.std.specs.Prelude.{IsSome, IfSome, option_and_then, Result, Ok, Err, is_some as is_there}
use Rattle.std.specs.FinMap.Entries as finite
use Rattle.std.specs.List.{AllByRecursion}
use Rattle.std.specs.Ordering.{eq_by_cmp}
use Rattle.std.specs.Str.{IsUtf8}
use Rattle.fl_digest.specs.declared.BlobRef.{BlobRef}
use Rattle.fl_digest.specs.declared.Hash.{Hash}
use Rattle.fl_json.specs.Reading.{reading}
use Rattle.kvs_model.specs.Store.{Name, Path, Node, Store, root, node_at, path_cmp}
use Rattle.kvs_model.specs.Operation.{is_directory}
use Rattle.kvs_model.proofs.Paths.{within_self, path_from_test}
use Rattle.blob_store.specs.Blobs.{blob_at}
use Rattle.tree_rules.specs.Held.{Table, IsRootOf}
use Rattle.tree_rules.specs.Names.{name_cmp}
use Rattle.tree_rules.specs.Objects.{Tree, val, valref, dir, dirref, symlink, Entries, no_entries, listed}
use Rattle.tree_rules.specs.Texts.{directory_text}
use Rattle.tree_rules.proofs.Blobs.{text_there}
use Rattle.tree_objects.specs.Level.{tree_of}
use Rattle.tree_objects.specs.Reading.{Gives}
use Rattle.tree_objects.specs.declared.object.Object.{Object}
use Rattle.tree_objects.specs.declared.object.Object.TheVariants.{Val, Valref, Dir, Dirref, Symlink}
use Rattle.tree_objects.specs.declared.faults.ObjectFault.{ObjectFault}
use Rattle.tree_objects.specs.declared.faults.ObjectFault.TheVariants.{NoMemory, NotJson, BadVersion, BadType, BadData}
use Rattle.tree_store.specs.Fresh.{Blobs}
use Rattle.tree_store.specs.Landing.{table}
use Rattle.tree_store.specs.Shown.{Directories, opened_at, above, object_at, closed_reference, closed_at, entries_at, Stands, Shows, IsClosed, IsDirectoryOf, OpensAbove, with_open}
use Rattle.tree_store.proofs.Found.{is_dir, object_parts, stands_at, directory_told}
use Rattle.tree_store.proofs.Opening.{above_child, is_some, not_both, some_same, listed_again, path_dec, IsOpened, shows_more}
use Rattle.tree_store.proofs.Readable.{IsOnly, gives_only, directory_readable, stored_reading, last_component}
use Rattle.tree_store.proofs.Steps.{up_with, open_opened}
use Rattle.tree_store.proofs.Storable.{IsNamed, IsGood}
use Rattle.tree_store.proofs.Turns.{split_end}

-- ---- the text of a directory is read

-- of its text alone that directory is read, or memory is wanted
pub reads_only : (h : Hash) (store : Blobs) (st : Store) (path : Path) (r : BlobRef) (text : List ℕ) (result : Result Object ObjectFault) → IsDirectoryOf h (table store) st path r → Some text ≡ blob_at r store → Gives text result → IsOnly (entries_at h st path) result
reads_only h store st path r text result is found gives =
    let same : text ≡ directory_text h st path = some_same text (directory_text h st path) (found ∙ is.held) in
    gives_only text (entries_at h st path) (directory_readable h st path is.store is.storable) (ap reading same ∙ stored_reading h st path is.store is.storable) result gives

pub only_tree : (es : Entries) (o : Object) → IsOnly es (Ok o) → tree_of o ≡ dir es
only_tree es (Val bytes) only = absurd only
only_tree es (Valref references) only = absurd only
only_tree es (Dir found) only = ap dir only
only_tree es (Dirref reference) only = absurd only
only_tree es (Symlink path) only = absurd only

pub same_entries : (a b : Entries) → dir a ≡ dir b → a ≡ b
same_entries a b e = cc

pub dir_object : (o : Object) (es : Entries) → tree_of o ≡ dir es → o ≡ Dir es
dir_object (Val bytes) es e = absurd (cc)
dir_object (Valref references) es e = absurd (cc)
dir_object (Dir found) es e = ap Dir (same_entries found es e)
dir_object (Dirref reference) es e = absurd (cc)
dir_object (Symlink path) es e = absurd (cc)

pub root_directory : (h : Hash) (t : Table) (st : Store) (r : BlobRef) → IsRootOf h t r st → IsDirectoryOf h t st root r
root_directory h t st r is = record {
  store = is.store;
  storable = is.storable;
  held = ap t is.reference ∙ is.held (directory_text h st root) (text_there h st root is.store.rooted);
}

-- ---- a closed directory

-- the object of a closed directory stands under this name of an open one
pub record IsClosedAt (ds : Directories) (path : Path) (r : BlobRef) : Type 0 where
  pub front : Path
  pub name : Name
  pub es : Entries
  pub is : path ≡ front ++ name ∷ []
  pub parent : opened_at ds front ≡ Some es
  pub found : finite.find name_cmp name (listed es) ≡ Some (dirref r)

same_reference : (a b : BlobRef) → Some a ≡ Some b → a ≡ b
same_reference a b e = cc

closed_object : (o : Option Tree) (r : BlobRef) → Some r ≡ closed_reference o → o ≡ Some (dirref r)
closed_object None r e = absurd (cc)
closed_object (Some (val bytes)) r e = absurd (cc)
closed_object (Some (valref references)) r e = absurd (cc)
closed_object (Some (dir es)) r e = absurd (cc)
closed_object (Some (dirref other)) r e = ap (λ (x : BlobRef). Some (dirref x)) (sym (same_reference r other e))
closed_object (Some (symlink target)) r e = absurd (cc)

closed_child : (ds : Directories) (path front : Path) (name : Name) (r : BlobRef) → path ≡ front ++ name ∷ [] → Some r ≡ closed_at ds path → IsClosedAt ds path r
closed_child ds path front name r is closed = found (opened_at ds front) refl (closed ∙ ap closed_reference (object_parts ds path front name is))
  where
    found : (o : Option Entries) → opened_at ds front ≡ o → Some r ≡ closed_reference (option_and_then (λ (xs : Entries). finite.find name_cmp name (listed xs)) o) → IsClosedAt ds path r
    found None e c = absurd (let f : Some r ≡ None = c in cc)
    found (Some es) e c = record { front = front; name = name; es = es; is = is; parent = e; found = closed_object (finite.find name_cmp name (listed es)) r c }

pub closed_parts : (ds : Directories) (path : Path) (r : BlobRef) → Some r ≡ closed_at ds path → IsClosedAt ds path r
closed_parts ds path r closed =
    elim (split_end path) [
      | inl e ↦ absurd (let f : Some r ≡ None = closed ∙ ap (closed_at ds) e in cc)
      | inr parts ↦ closed_child ds path parts.0 parts.1 r parts.2 closed
    ]

pub closed_stands : (h : Hash) (t : Table) (ds : Directories) (st : Store) (path : Path) (r : BlobRef) → Shows h t ds st → IsClosedAt ds path r → IsClosed h t ds st path r
closed_stands h t ds st path r shows at =
    subst (λ (q : Path). IsClosed h t ds st q r) (sym at.is) (subst (Stands h t ds st (at.front ++ at.name ∷ [])) at.found (shows.told at.front at.es at.name at.parent))

pub closed_directory : (h : Hash) (t : Table) (ds : Directories) (st : Store) (path : Path) (r : BlobRef) → Shows h t ds st → IsClosedAt ds path r → IsDirectoryOf h t st path r
closed_directory h t ds st path r shows at =
    let closed = closed_stands h t ds st path r shows at in
    record { store = shows.store; storable = shows.storable; held = ap t closed.named ∙ closed.held.texts path (within_self path) closed.directory }

-- ---- it is opened

enter_child : (h : Hash) (t : Table) (ds : Directories) (st : Store) (front : Path) (name : Name) (es : Entries) (r : BlobRef) → Shows h t ds st → opened_at ds front ≡ Some es → finite.find name_cmp name (listed es) ≡ Some (dirref r)
    → Shows h t (with_open ds (front ++ name ∷ []) (entries_at h st (front ++ name ∷ []))) st
enter_child h t ds st front name es r shows parent found =
    let here : Entries = entries_at h st (front ++ name ∷ []) in
    shows_more h t ds (with_open ds (front ++ name ∷ []) here) st front name es (up_with es name (dir no_entries)) r shows parent found
    (listed_again (finite.put name_cmp name (dir no_entries) (listed es))) (open_opened ds front name here es parent)

pub enter_shows : (h : Hash) (t : Table) (ds new : Directories) (st : Store) (path : Path) (r : BlobRef) (here : Entries) → Shows h t ds st → IsClosedAt ds path r → here ≡ entries_at h st path → new ≡ with_open ds path here → Shows h t new st
enter_shows h t ds new st path r here shows at told opened =
    subst (λ (d : Directories). Shows h t d st) (sym (opened ∙ ap (with_open ds path) told))
    (subst (λ (q : Path). Shows h t (with_open ds q (entries_at h st q)) st) (sym at.is) (enter_child h t ds st at.front at.name at.es r shows at.parent at.found))

enter_opened : (ds new : Directories) (path : Path) (r : BlobRef) (here : Entries) (at : IsClosedAt ds path r) → new ≡ with_open ds path here → IsOpened ds new at.front at.name (up_with at.es at.name (dir no_entries)) here
enter_opened ds new path r here at opened =
    subst (λ (d : Directories). IsOpened ds d at.front at.name (up_with at.es at.name (dir no_entries)) here) (sym (opened ∙ ap (λ (q : Path). with_open ds q here) at.is))
    (open_opened ds at.front at.name here at.es at.parent)

pub enter_opens : (ds new : Directories) (path : Path) (r : BlobRef) (here : Entries) → IsClosedAt ds path r → new ≡ with_open ds path here → IsSome (opened_at new path)
enter_opens ds new path r here at opened =
    is_some (opened_at new path) here (ap (opened_at new) at.is ∙ (enter_opened ds new path r here at opened).there)

pub enter_keeps : (ds new : Directories) (path : Path) (r : BlobRef) (here : Entries) → IsClosedAt ds path r → new ≡ with_open ds path here → (q : Path) → IsSome (opened_at ds q) → IsSome (opened_at new q)
enter_keeps ds new path r here at opened q some =
    let is = enter_opened ds new path r here at opened in
    elim (path_dec q (at.front ++ at.name ∷ [])) [
      | inl e ↦ is_some (opened_at new q) here (ap (opened_at new) e ∙ is.there)
      | inr ne ↦ elim (path_dec q at.front) [
        | inl e ↦ is_some (opened_at new q) (up_with at.es at.name (dir no_entries)) (ap (opened_at new) e ∙ is.parent)
        | inr nf ↦ subst IsSome (sym (is.others q ne nf)) some
      ]
    ]

-- ---- the names on the way are texts

pub found_named : (st : Store) (q : Path) (node : Node) → AllByRecursion IsGood st → node_at st q ≡ Some node → IsNamed q
found_named [] q node all found = absurd (cc)
found_named (e ∷ st) q node all found =
    elim (eq_by_cmp path_cmp q e.0) as (λ b. eq_by_cmp path_cmp q e.0 ≡ b → cond b (Some e.1) (node_at st q) ≡ Some node → IsNamed q) [
      | true ↦ λ is f. subst IsNamed (sym (path_from_test q e.0 is)) all.0.0
      | false ↦ λ is f. found_named st q node all.1 f
    ] refl found

pub text_above : (path : Path) → IsNamed path → IfSome (above path) (λ at. IsUtf8 at.1)
text_above path named =
    elim (split_end path) [
      | inl e ↦ subst (λ (q : Path). IfSome (above q) (λ at. IsUtf8 at.1)) (sym e) tt
      | inr parts ↦ subst (λ (o : Option (Path × Name)). IfSome o (λ at. IsUtf8 at.1)) (sym (ap above parts.2 ∙ above_child parts.0 parts.1))
          (last_component parts.0 parts.1 (subst IsNamed parts.2 named)).text
    ]

-- ---- where none is closed, and none open, none stands

closed_dir : (h : Hash) (t : Table) (ds : Directories) (st : Store) (q : Path) (o : Option Tree) → Stands h t ds st q o → opened_at ds q ≡ None → None ≡ closed_reference o → false ≡ is_dir o
closed_dir h t ds st q None is none closed = refl
closed_dir h t ds st q (Some (val bytes)) is none closed = refl
closed_dir h t ds st q (Some (valref references)) is none closed = refl
closed_dir h t ds st q (Some (dir es)) is none closed = absurd (not_both (opened_at ds q) is.1 none)
closed_dir h t ds st q (Some (dirref reference)) is none closed = absurd (let f : None ≡ Some reference = closed in cc)
closed_dir h t ds st q (Some (symlink target)) is none closed = refl

pub not_closed : (h : Hash) (t : Table) (ds : Directories) (st : Store) (path : Path) → Shows h t ds st → OpensAbove ds st path → opened_at ds path ≡ None → None ≡ closed_at ds path → false ≡ is_directory (node_at st path)
not_closed h t ds st [] shows opens none closed = absurd (not_both (opened_at ds []) shows.rooted none)
not_closed h t ds st (x ∷ path) shows opens none closed =
    directory_told ds (x ∷ path) false (closed_dir h t ds st (x ∷ path) (object_at ds (x ∷ path)) (stands_at h t ds st (x ∷ path) shows opens (omega arith)) none closed) (omega arith) h t st shows opens

pub none_there : {A : Type 0} (o : Option A) → is_there o ≡ false → o ≡ None
none_there None e = refl
none_there (Some x) e = absurd (true≢false e)

pub only_memory : (es : Entries) (fault : ObjectFault) → IsOnly es (Err fault) → fault ≡ NoMemory
only_memory es NoMemory only = refl
only_memory es (NotJson fault) only = absurd only
only_memory es BadVersion only = absurd only
only_memory es BadType only = absurd only
only_memory es BadData only = absurd only
