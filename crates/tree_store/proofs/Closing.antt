-- The text of an open directory below which none is open.
use Rattle.std.proofs.Common.{◌≡◌, ℕ, Bool, true, false, cond, T, List, [], ◌∷◌, ◌++◌, Option, Some, None, option_map, refl, sym, ap, ◌∙◌, subst, true≢false}
use Rattle.std.specs.Prelude.{IsTrue, IsSome, ◌&&◌}
use Rattle.std.specs.Ordering.{is_lt, eq_by_cmp}
use Rattle.std.specs.FinMap.{nat_cmp-IsAntisymmetric, slice_cmp-IsAntisymmetric}
use Rattle.std.specs.FinMap.Entries as finite
use Rattle.std.proofs.lemmas.Cmp.{nat_list_cmp_total}
use Rattle.fl_digest.specs.declared.Hash.{Hash}
use Rattle.fl_digest.specs.declared.BlobRef.{BlobRef}
use Rattle.fl_digest.specs.Reference.{reference_of}
use Rattle.kvs_model.specs.Store.{Name, Path, Node, Value, Store}
use Rattle.tree_rules.specs.Held.{Table}
use Rattle.tree_rules.specs.Names.{name_cmp}
use Rattle.tree_rules.specs.Objects.{Tree, val, valref, dir, dirref, symlink, Entries, no_entries, entry, listed, tree_text}
use Rattle.tree_rules.specs.Texts.{is_long, object_of, objects, objects_in, stored_at, directory_text, text_of}
use Rattle.tree_rules.proofs.Below.{names_rise}
use Rattle.tree_rules.proofs.Objects.{stored_under}
use Rattle.tree_objects.proofs.Pairs.{entries_of_listed}
use Rattle.tree_store.specs.Shown.{Directories, opened_at, Stands, Shows, shortened, all_shortened}

abbrev Row : Type 0
Row = Name × Tree

as_T : (b : Bool) → IsTrue b → T b
as_T true h = tt
as_T false h = absurd (cc)

find_shortened : (h : Hash) (n : Name) (es : Entries) → finite.find name_cmp n (listed (all_shortened h es)) ≡ option_map (shortened h) (finite.find name_cmp n (listed es))
find_shortened h n no_entries = refl
find_shortened h n (entry m t es) =
    elim (eq_by_cmp name_cmp n m) as (λ b. cond b (Some (shortened h t)) (finite.find name_cmp n (listed (all_shortened h es))) ≡ option_map (shortened h) (cond b (Some t) (finite.find name_cmp n (listed es)))) [
      | true ↦ refl
      | false ↦ find_shortened h n es
    ]

below_shortened : (h : Hash) (n : Name) (es : Entries) → finite.below_all name_cmp n (listed (all_shortened h es)) ≡ finite.below_all name_cmp n (listed es)
below_shortened h n no_entries = refl
below_shortened h n (entry m t es) = ap (λ b. is_lt (name_cmp n m) && b) (below_shortened h n es)

sorted_shortened : (h : Hash) (es : Entries) → finite.is_sorted name_cmp (listed (all_shortened h es)) ≡ finite.is_sorted name_cmp (listed es)
sorted_shortened h no_entries = refl
sorted_shortened h (entry m t es) =
    ap (λ b. b && finite.is_sorted name_cmp (listed (all_shortened h es))) (below_shortened h m es)
    ∙ ap (λ b. finite.below_all name_cmp m (listed es) && b) (sorted_shortened h es)

-- the object of a node of the store
abbrev stored : Hash → Store → Path → Node → Tree
stored h st q node = object_of h node (objects_in q (objects h st))

long_object : (h : Hash) (bytes : List ℕ) (es : List Row) → is_long bytes ≡ true → object_of h (Value bytes) es ≡ valref (reference_of h bytes ∷ [])
long_object h bytes es long = ap (λ b. cond b (valref (reference_of h bytes ∷ [])) (val bytes)) long

-- where no directory is open, the object is that of the store
stands_stored : (h : Hash) (table : Table) (ds : Directories) (st : Store) (q : Path) (o : Option Tree) → Stands h table ds st q o → opened_at ds q ≡ None → option_map (shortened h) o ≡ stored_at h st q
unfolding directory_text
stands_stored h table ds st q None is closed = sym (ap (option_map (stored h st q)) is)
stands_stored h table ds st q (Some (val bytes)) is closed = sym (ap (option_map (stored h st q)) is)
stands_stored h table ds st q (Some (valref references)) is closed =
    ap (λ (rs : List BlobRef). Some (valref rs)) is.named ∙ ap Some (sym (long_object h is.bytes (objects_in q (objects h st)) is.long)) ∙ sym (ap (option_map (stored h st q)) is.value)
stands_stored h table ds st q (Some (dir es)) is closed = absurd (true≢false (sym (subst IsSome closed is.1)))
stands_stored h table ds st q (Some (dirref reference)) is closed =
    ap (λ (r : BlobRef). Some (dirref r)) is.named ∙ sym (ap (option_map (stored h st q)) is.directory)
stands_stored h table ds st q (Some (symlink target)) is closed = sym (ap (option_map (stored h st q)) is)

pub closed_entries : (h : Hash) (table : Table) (ds : Directories) (st : Store) (p : Path) (es : Entries) → Shows h table ds st → opened_at ds p ≡ Some es → IsTrue (finite.is_sorted name_cmp (listed es))
    → ((n : Name) → opened_at ds (p ++ n ∷ []) ≡ None) → listed (all_shortened h es) ≡ objects_in p (objects h st)
closed_entries h table ds st p es shows is sorted last =
    let rows = objects_in p (objects h st) in
    finite.same_entries name_cmp nat_list_cmp_total (slice_cmp-IsAntisymmetric nat_cmp-IsAntisymmetric) (listed (all_shortened h es)) rows
    (as_T (finite.is_sorted name_cmp (listed (all_shortened h es))) (sorted_shortened h es ∙ sorted))
    (as_T (finite.is_sorted name_cmp rows) (names_rise h st p shows.store.sorted))
    (λ n. find_shortened h n es
    ∙ stands_stored h table ds st (p ++ n ∷ []) (finite.find name_cmp n (listed es)) (shows.told p es n is) (last n)
    ∙ sym (stored_under h st p n shows.store.sorted))

-- the text of its entries is that of the directory
pub closed_text : (h : Hash) (st : Store) (p : Path) (es : Entries) → listed es ≡ objects_in p (objects h st) → tree_text (dir es) ≡ directory_text h st p
unfolding directory_text
closed_text h st p es same = ap (λ (xs : Entries). tree_text (dir xs)) (sym (entries_of_listed es)) ∙ ap text_of same
