-- The text of a store's directory is read again as its objects.
use Rattle.std.proofs.Common.{◌≡◌, ℕ, zero, suc, ◌<◌, ◌≤◌, lit<, lit≤, true, false, cond, List, [], ◌∷◌, ◌++◌, Some, None, option_map, refl, sym, ap, ◌∙◌, subst, arith}
use Rattle.std.specs.Prelude.{IsTrue, Ok, Err, Result, slice_index, ⊤}
use Rattle.std.specs.FinMap.Entries as finite
use Rattle.std.specs.List.{All, AllByRecursion, cons_option}
use Rattle.std.specs.Str.{IsUtf8}
use Rattle.std.proofs.lemmas.List.Elements.{All-head, All-tail}
use Rattle.fl_digest.specs.declared.BlobRef.{BlobRef}
use Rattle.fl_digest.specs.declared.Hash.{Hash}
use Rattle.fl_digest.specs.Reference.{reference_of}
use Rattle.fl_json.specs.Reading.{reading}
use Rattle.fl_json.specs.declared.faults.JsonFault.{JsonFault}
use Rattle.kvs_txn.specs.Keys.{IsComponent}
use Rattle.kvs_model.specs.Store.{Name, Path, Node, Value, Directory, Link, Store, IsStore, child_name}
use Rattle.serde_json.specs.Data.{Data, depth, members_depth}
use Rattle.tree_rules.specs.Held.{IsStorable, IsStorableNode}
use Rattle.tree_rules.specs.Names.{name_cmp}
use Rattle.tree_rules.specs.Objects.{Tree, val, valref, dir, Entries, entries_of, listed, tree_data, entries_data}
use Rattle.tree_rules.specs.Texts.{is_long, object_of, objects, objects_in, directory_text, text_of}
use Rattle.tree_rules.proofs.Below.{names_rise}
use Rattle.tree_rules.proofs.Objects.{child_is}
use Rattle.tree_objects.specs.Level.{tree_of}
use Rattle.tree_objects.specs.Reading.{Tells, Gives, IsReadable, AreReadable, HasTextNames, HaveTextNames, is_version_1, has_type}
use Rattle.tree_objects.proofs.Flat.{link_shallow}
use Rattle.tree_objects.specs.declared.object.Object.{Object}
use Rattle.tree_objects.specs.declared.object.Object.TheVariants.{Val, Valref, Dir, Dirref, Symlink}
use Rattle.tree_objects.specs.declared.faults.ObjectFault.{ObjectFault}
use Rattle.tree_objects.specs.declared.faults.ObjectFault.TheVariants.{NoMemory, NotJson, BadVersion, BadType, BadData}
use Rattle.tree_objects.proofs.Pairs.{entries_of_listed}
use Rattle.tree_objects.proofs.Again.{tells_written, told_once}
use Rattle.tree_objects.proofs.Stored.{stored_again}
use Rattle.tree_store.specs.Shown.{entries_at}
use Rattle.tree_store.proofs.Sha1.{Small}
use Rattle.tree_store.proofs.Whole.{reference_whole}

abbrev Row : Type 0
Row = Name × Tree

-- an object that is no directory, and is read again from its text
record IsFlat (t : Tree) : Type 0 where
  readable : IsReadable t
  named : HasTextNames t
  shallow : depth (tree_data t) ≤ 2

are_bytes : (bytes : List ℕ) → All Small bytes → (i : ℕ) → slice_index bytes i < 256
are_bytes [] h zero = lit< tt
are_bytes [] h (suc i) = lit< tt
are_bytes (b ∷ bytes) h zero = All-head Small b bytes h
are_bytes (b ∷ bytes) h (suc i) = are_bytes bytes (All-tail Small b bytes h) i

not_none : (r : BlobRef) → ◌≡◌ {A = List BlobRef} (r ∷ []) [] → ⊥
not_none r e = absurd (cc)

object_flat : (h : Hash) (node : Node) (es : List Row) → IsStorableNode node → IsFlat (object_of h node es)
object_flat h (Value bytes) es small =
    elim (is_long bytes) as (λ b. IsFlat (cond b (valref (reference_of h bytes ∷ [])) (val bytes))) [
      | true ↦ record { readable = ((reference_whole h bytes, tt), not_none (reference_of h bytes)); named = tt; shallow = lit≤ tt }
      | false ↦ record { readable = are_bytes bytes small; named = tt; shallow = lit≤ tt }
    ]
object_flat h Directory es small = record { readable = reference_whole h (text_of es); named = tt; shallow = lit≤ tt }
object_flat h (Link target) es key = record { readable = key; named = tt; shallow = link_shallow target.path target.namespace }

-- ---- the objects of a store

record IsKept (e : Path × Tree) : Type 0 where
  named : AllByRecursion IsComponent e.0
  flat : IsFlat e.1

objects_kept : (h : Hash) (st : Store) → IsStorable st → AllByRecursion IsKept (objects h st)
unfolding objects
objects_kept h [] all = tt
objects_kept h (e ∷ st) all = (record { named = all.0.0; flat = object_flat h e.1 (objects_in e.0 (objects h st)) all.0.1 }, objects_kept h st all.1)

pub last_component : (p : Path) (n : Name) → AllByRecursion IsComponent (p ++ n ∷ []) → IsComponent n
last_component [] n all = all.0
last_component (x ∷ p) n all = last_component p n all.1

record IsRow (row : Row) : Type 0 where
  text : IsUtf8 row.0
  flat : IsFlat row.1

rows_kept : (p : Path) (es : List (Path × Tree)) → AllByRecursion IsKept es → AllByRecursion IsRow (objects_in p es)
rows_kept p [] all = tt
rows_kept p (e ∷ es) all =
    let rest = rows_kept p es all.1 in
    elim (child_name p e.0) as (λ o. child_name p e.0 ≡ o → AllByRecursion IsRow (cons_option (option_map (λ name. (name, e.1)) o) (objects_in p es))) [
      | None ↦ λ c. rest
      | Some n ↦ λ c. (record { text = (last_component p n (subst (AllByRecursion IsComponent) (child_is p e.0 n c) all.0.named)).text; flat = all.0.flat }, rest)
    ] refl

listed_again : (rows : List Row) → listed (entries_of rows) ≡ rows
listed_again [] = refl
listed_again (row ∷ rows) = ap (λ (more : List Row). row ∷ more) (listed_again rows)

rows_readable : (rows : List Row) → AllByRecursion IsRow rows → AreReadable (entries_of rows)
rows_readable [] all = tt
rows_readable (row ∷ rows) all = (all.0.flat.readable, rows_readable rows all.1)

rows_named : (rows : List Row) → AllByRecursion IsRow rows → HaveTextNames (entries_of rows)
rows_named [] all = tt
rows_named (row ∷ rows) all = (all.0.text, all.0.flat.named, rows_named rows all.1)

rows_shallow : (rows : List Row) → AllByRecursion IsRow rows → members_depth (entries_data (entries_of rows)) ≤ 2
rows_shallow [] all = lit≤ tt
rows_shallow (row ∷ rows) all = omega (arith, all.0.flat.shallow, rows_shallow rows all.1)

pub directory_readable : (h : Hash) (st : Store) (p : Path) → IsStore st → IsStorable st → IsReadable (dir (entries_at h st p))
directory_readable h st p is all =
    let rows = objects_in p (objects h st) in
    (subst (λ (xs : List Row). IsTrue (finite.is_sorted name_cmp xs)) (sym (listed_again rows)) (names_rise h st p is.sorted), rows_readable rows (rows_kept p (objects h st) (objects_kept h st all)))

pub stored_reading : (h : Hash) (st : Store) (p : Path) → IsStore st → IsStorable st → reading (directory_text h st p) ≡ Ok (tree_data (dir (entries_at h st p)))
unfolding directory_text
stored_reading h st p is all =
    let rows = objects_in p (objects h st) in
    let kept = rows_kept p (objects h st) (objects_kept h st all) in
    let flat = rows_shallow rows kept in
    stored_again (dir (entries_at h st p)) (directory_readable h st p is all) (rows_named rows kept) (omega (arith, flat))

-- ---- what a reader gives of the text of a directory

pub stored_gives : (h : Hash) (st : Store) (p : Path) (es : Entries) (text : List ℕ) → IsStore st → IsStorable st → text ≡ directory_text h st p → listed es ≡ objects_in p (objects h st) → Gives text (Ok (Dir es))
stored_gives h st p es text is all same rows =
    let here : es ≡ entries_at h st p = sym (entries_of_listed es) ∙ ap entries_of rows in
    let told : Tells (tree_data (dir (entries_at h st p))) (dir es) =
    subst (λ (x : Entries). Tells (tree_data (dir (entries_at h st p))) (dir x)) (sym here) (tells_written (dir (entries_at h st p)) (directory_readable h st p is all)) in
    (tree_data (dir (entries_at h st p)), ap reading same ∙ stored_reading h st p is all, told)

-- this directory, or want of memory
abbrev pub IsOnly : Entries → Result Object ObjectFault → Type 0
IsOnly es (Ok (Val bytes)) = ⊥
IsOnly es (Ok (Valref references)) = ⊥
IsOnly es (Ok (Dir found)) = found ≡ es
IsOnly es (Ok (Dirref reference)) = ⊥
IsOnly es (Ok (Symlink path)) = ⊥
IsOnly es (Err NoMemory) = ⊤
IsOnly es (Err (NotJson fault)) = ⊥
IsOnly es (Err BadVersion) = ⊥
IsOnly es (Err BadType) = ⊥
IsOnly es (Err BadData) = ⊥

same_entries : (a b : Entries) → dir a ≡ dir b → a ≡ b
same_entries a b e = cc

told_only : (es : Entries) (o : Object) → tree_of o ≡ dir es → IsOnly es (Ok o)
told_only es (Val bytes) e = absurd (cc)
told_only es (Valref references) e = absurd (cc)
told_only es (Dir found) e = same_entries found es e
told_only es (Dirref reference) e = absurd (cc)
told_only es (Symlink path) e = absurd (cc)

ok_same : (a b : Data) (e : Result Data JsonFault) → e ≡ Ok a → e ≡ Ok b → a ≡ b
ok_same a b e x y = let s : ◌≡◌ {A = Result Data JsonFault} (Ok a) (Ok b) = sym x ∙ y in cc

pub gives_only : (text : List ℕ) (es : Entries) → IsReadable (dir es) → reading text ≡ Ok (tree_data (dir es)) → (r : Result Object ObjectFault) → Gives text r → IsOnly es r
gives_only text es readable is (Ok o) h =
    let same : h.0 ≡ tree_data (dir es) = ok_same h.0 (tree_data (dir es)) (reading text) h.1 is in
    told_only es o (told_once (tree_data (dir es)) (tree_of o) (dir es) (subst (λ (d : Data). Tells d (tree_of o)) same h.2) (tells_written (dir es) readable))
gives_only text es readable is (Err NoMemory) h = tt
gives_only text es readable is (Err (NotJson fault)) h = let s : ◌≡◌ {A = Result Data JsonFault} (Ok (tree_data (dir es))) (Err fault) = sym is ∙ h in absurd (cc)
gives_only text es readable is (Err BadVersion) h =
    let same : h.0 ≡ tree_data (dir es) = ok_same h.0 (tree_data (dir es)) (reading text) h.1 is in
    let told = tells_written (dir es) readable in
    let s : true ≡ false = sym told.1.version ∙ ap is_version_1 (sym same) ∙ h.2 in absurd (cc)
gives_only text es readable is (Err BadType) h =
    let same : h.0 ≡ tree_data (dir es) = ok_same h.0 (tree_data (dir es)) (reading text) h.1 is in
    let typed : has_type (tree_data (dir es)) ≡ true = refl in
    let s : true ≡ false = sym typed ∙ ap has_type (sym same) ∙ h.2.1 in absurd (cc)
gives_only text es readable is (Err BadData) h =
    let same : h.0 ≡ tree_data (dir es) = ok_same h.0 (tree_data (dir es)) (reading text) h.1 is in
    absurd (h.2.2 (dir es) (subst (λ (d : Data). Tells d (dir es)) (sym same) (tells_written (dir es) readable)))
