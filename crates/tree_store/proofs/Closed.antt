-- One turn of the writing: what is left, what is added, and what clashes.
use Rattle.std.proofs.Common.{◌≡◌, ℕ, zero, suc, ◌+◌, ◌<◌, true, false, cond, T, List, [], ◌∷◌, ◌++◌, length, Option, Some, None, refl, sym, ap, ◌∙◌, subst, inl, inr, true≢false, arith, length-append, Less}
use Rattle.std.specs.Prelude.{IsSome, IsTrue, Contains, Ok, is_some as is_there}
use Rattle.std.specs.FinMap.Entries as finite
use Rattle.std.specs.List.{AllByRecursion}
use Rattle.std.specs.Option.{option_map_or}
use Rattle.std.specs.Ordering.{eq_by_cmp}
use Rattle.fl_digest.specs.declared.BlobRef.{BlobRef}
use Rattle.fl_digest.specs.declared.Hash.{Hash}
use Rattle.fl_digest.specs.Reference.{reference_of}
use Rattle.blob_store.specs.Blobs.{blob_at}
use Rattle.kvs_model.specs.Store.{Name, Path, Directory, Store, root, path_cmp}
use Rattle.kvs_model.proofs.Paths.{path_self, path_total}
use Rattle.tree_rules.specs.Held.{Table, IsRootOf}
use Rattle.tree_rules.specs.Names.{name_cmp}
use Rattle.tree_rules.specs.Objects.{Tree, Entries, dirref, listed}
use Rattle.tree_rules.specs.Texts.{blobs}
use Rattle.tree_rules.proofs.Blobs.{text_there}
use Rattle.tree_rules.proofs.Objects.{less_of}
use Rattle.tree_objects.specs.Reading.{Gives}
use Rattle.tree_objects.specs.declared.object.Object.TheVariants.{Dir}
use Rattle.tree_store.specs.Fresh.{Blobs, AddsSome, HasAll, ClashesIn}
use Rattle.tree_store.specs.Landing.{table, IsClashIn}
use Rattle.tree_store.specs.Shown.{Directories, opened_at, above, put_in, with_object, Shows, IsBefore, all_shortened, long_values, entries_text, strings_of}
use Rattle.tree_store.specs.declared.faults.TreeFault.{TreeFault}
use Rattle.tree_store.specs.declared.faults.TreeFault.TheVariants.{NoMemory, Refused, Clash}
use Rattle.tree_store.proofs.Added.{adds_more, adds_of, adds_keep, held_each}
use Rattle.tree_store.proofs.Adding.{at_append}
use Rattle.tree_store.proofs.Brought.{value_brought}
use Rattle.tree_store.proofs.Entered.{found_named}
use Rattle.tree_store.proofs.Landed.{found_only}
use Rattle.tree_store.proofs.Opening.{is_some}
use Rattle.tree_store.proofs.Storable.{IsNamed}
use Rattle.tree_store.proofs.Turns.{AreLeft, closed_step}
use Rattle.tree_store.proofs.Writing.{last_text, last_decoded, at_last}

-- ---- the last of the open directories

last_some : (front : Directories) (path : Path) (es : Entries) → IsSome (opened_at (front ++ (path, es) ∷ []) path)
last_some [] path es = is_some (opened_at ((path, es) ∷ []) path) es (ap (λ b. cond b (Some es) None) (path_self path))
last_some (e ∷ front) path es =
    elim (eq_by_cmp path_cmp path e.0) as (λ b. IsSome (cond b (Some e.1) (opened_at (front ++ (path, es) ∷ []) path))) [ true ↦ refl | false ↦ last_some front path es ]

not_none : (front : Directories) (e : Path × Entries) → front ++ e ∷ [] ≡ [] → ⊥
not_none front e is = absurd (omega (arith, ap length is, length-append front (e ∷ [])))

-- a directory that is open in what is left
still_shows : (h : Hash) (t : Table) (ds front : Directories) (path : Path) (es : Entries) (found : Option BlobRef) (st : Store) → AreLeft h t ds found st → ds ≡ front ++ (path, es) ∷ [] → Shows h t (front ++ (path, es) ∷ []) st
still_shows h t ds front path es found st left is =
    elim left [
      | inl shows ↦ subst (λ (d : Directories). Shows h t d st) is shows
      | inr none ↦ absurd (not_none front (path, es) (sym is ∙ none.0))
    ]

pub last_named : (h : Hash) (t : Table) (ds front : Directories) (path : Path) (es : Entries) (found : Option BlobRef) (st : Store) → AreLeft h t ds found st → ds ≡ front ++ (path, es) ∷ [] → IsNamed path
last_named h t ds front path es found st left is =
    let shows = still_shows h t ds front path es found st left is in
    found_named st path Directory shows.storable (shows.places path (last_some front path es))

before_less : (front : Directories) (path : Path) → ((q : Path) → IsSome (opened_at front q) → IsBefore q path) → (q : Path) → IsSome (opened_at front q) → path_cmp q path ≡ Less
before_less front path before q some = less_of (path_cmp q path) (before q some)

-- ---- fewer are left

rows_kept : (ds : Directories) (at : Path × Name) (tree : Tree) (o : Option Entries) → opened_at ds at.0 ≡ o → IsTrue (finite.is_sorted path_cmp ds) → length (put_in ds at tree o) ≡ length ds
rows_kept ds at tree None is sorted = refl
rows_kept ds at tree (Some es) is sorted =
    finite.length-put path_cmp path_total at.0 _ ds (subst T (sym sorted) tt) ∙ ap (λ (o : Option Entries). cond (is_there o) (length ds) (length ds + 1)) is

above_kept : (ds : Directories) (o : Option (Path × Name)) (tree : Tree) → IsTrue (finite.is_sorted path_cmp ds) → length (option_map_or (λ at. put_in ds at tree (opened_at ds at.0)) o ds) ≡ length ds
above_kept ds None tree sorted = refl
above_kept ds (Some at) tree sorted = rows_kept ds at tree (opened_at ds at.0) refl sorted

pub fewer_left : (ds front new : Directories) (e : Path × Entries) (path : Path) (tree : Tree) → ds ≡ front ++ e ∷ [] → IsTrue (finite.is_sorted path_cmp front) → new ≡ with_object front path tree → length new < length ds
fewer_left ds front new e path tree is sorted put =
    omega (arith, ap length put, above_kept front (above path) tree sorted, ap length is, length-append front (e ∷ []))

-- ---- the turn

module _ (h : Hash) (store before after : Blobs) (ds front : Directories) (path : Path) (es : Entries) (found : Option BlobRef) (st : Store) (left : AreLeft h (table (store ++ before)) ds found st)
    (is : ds ≡ front ++ (path, es) ∷ []) (earlier : (q : Path) → IsSome (opened_at front q) → IsBefore q path) (sorted : IsTrue (finite.is_sorted name_cmp (listed es))) where
  shows : Shows h (table (store ++ before)) (front ++ (path, es) ∷ []) st
  shows = still_shows h (table (store ++ before)) ds front path es found st left is

  -- its text tells its entries
  pub turn_decoded : Gives (entries_text h es) (Ok (Dir (all_shortened h es)))
  turn_decoded = last_decoded h (table (store ++ before)) front path es st shows (before_less front path earlier) sorted

  -- all that the directory brings are blobs of the store
  pub all_within : (bytes : List ℕ) → Contains (strings_of h es) bytes → Contains (blobs h st) bytes
  all_within bytes (zero, within, same) =
      subst (λ (b : List ℕ). Contains (blobs h st) b) (sym (last_text h (table (store ++ before)) front path es st shows (before_less front path earlier) sorted) ∙ same)
      (text_there h st path (shows.places path (last_some front path es)))
  all_within bytes (suc k, within, same) =
      value_brought h (table (store ++ before)) (front ++ (path, es) ∷ []) st path es bytes shows
      (at_last h (table (store ++ before)) front path es st shows (before_less front path earlier) sorted) sorted (k, omega (arith, within), same)

  pub turn_left : AddsSome h (strings_of h es) before after → HasAll h (strings_of h es) (store ++ after)
      → AreLeft h (table (store ++ after)) (with_object front path (dirref (reference_of h (entries_text h es)))) (Some (reference_of h (entries_text h es))) st
  turn_left adds held =
      closed_step h (table (store ++ before)) (table (store ++ after)) front es st (adds_keep h (strings_of h es) store before after adds) sorted held.0
      (λ bytes c. held_each h (store ++ after) (long_values es) held.1 bytes c) path shows (before_less front path earlier)

  pub turn_adds : AddsSome h (blobs h st) [] before → AddsSome h (strings_of h es) before after → AddsSome h (blobs h st) [] after
  turn_adds old adds = adds_more h (blobs h st) [] before after old (adds_of h (strings_of h es) (blobs h st) before after all_within adds)

-- ---- a clash is one of the store

pub clash_in : (h : Hash) (st : Store) (store more : Blobs) (fault : TreeFault) → ClashesIn h (blobs h st) (store ++ more) fault → AddsSome h (blobs h st) [] more → IsClashIn h st (table store) fault
clash_in h st store more NoMemory clash adds = tt
clash_in h st store more (Refused refusal) clash adds = absurd clash.2
clash_in h st store more (Clash reference kept offered) clash adds =
    let is = clash.2 in
    let all = subst (AllByRecursion (λ (blob : BlobRef × List ℕ). Contains (blobs h st) blob.1 × (blob.0 ≡ reference_of h blob.1))) (sym adds.1) adds.2 in
    record {
      differ = λ e. is.3 (e ∙ is.1);
      blob = subst (Contains (blobs h st)) (sym is.1) clash.1;
      named = is.0 ∙ ap (reference_of h) (sym is.1);
      other = found_only h st store more reference kept (blob_at reference store) all refl (sym (at_append reference store more) ∙ is.2);
    }

-- ---- the root is found

pub last_root : (h : Hash) (t : Table) (ds : Directories) (found : Option BlobRef) (st : Store) → AreLeft h t ds found st → ds ≡ [] → (r : BlobRef) × (found ≡ Some r) × IsRootOf h t r st
last_root h t ds found st left is =
    elim left [
      | inl shows ↦ absurd (true≢false (sym (subst (λ (d : Directories). IsSome (opened_at d root)) is shows.rooted)))
      | inr none ↦ (none.1, none.2, none.3)
    ]
