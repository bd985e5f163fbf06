-- One turn of the writing: the last open directory is closed, or the root is.
use Rattle.std.proofs.Common.{◌≡◌, ℕ, cond, List, [], ◌∷◌, ◌++◌, Option, Some, refl, sym, ap, subst, inl, inr, Less, Equal, Greater}
use Rattle.std.specs.Prelude.{IsSome, IsTrue, Contains, ◌⊎◌}
use Rattle.std.specs.FinMap.Entries as finite
use Rattle.fl_digest.specs.declared.Hash.{Hash}
use Rattle.fl_digest.specs.declared.BlobRef.{BlobRef}
use Rattle.fl_digest.specs.Reference.{reference_of}
use Rattle.kvs_model.specs.Store.{Name, Path, Store, root, path_cmp}
use Rattle.kvs_model.proofs.Paths.{path_self}
use Rattle.tree_rules.specs.Held.{Table, Keeps, IsRootOf}
use Rattle.tree_rules.specs.Names.{name_cmp}
use Rattle.tree_rules.specs.Objects.{Entries, dirref, listed}
use Rattle.tree_store.specs.Shown.{Directories, opened_at, Shows, HasBlob, with_object, long_values, entries_text}
use Rattle.tree_store.proofs.Opening.{longer, is_some}
use Rattle.tree_store.proofs.Replacing.{some_of}
use Rattle.tree_store.proofs.Writing.{shows_closed, last_text, last_below, at_last, at_others}
use Rattle.tree_store.proofs.Holding.{root_there}

-- the directories that are open still show the store, or none is left and this is the root
abbrev pub AreLeft : Hash → Table → Directories → Option BlobRef → Store → Type 0
AreLeft h table ds found st = Shows h table ds st ⊎ ((ds ≡ []) × (r : BlobRef) × (found ≡ Some r) × IsRootOf h table r st)

pub split_end : (q : Path) → (q ≡ root) ⊎ ((p : Path) × (n : Name) × (q ≡ p ++ n ∷ []))
split_end [] = inl refl
split_end (x ∷ q) =
    elim (split_end q) [
      | inl e ↦ inr ([], x, ap (λ (r : Path). x ∷ r) e)
      | inr parts ↦ inr (x ∷ parts.0, parts.1, ap (λ (r : Path). x ∷ r) parts.2)
    ]

not_before_root : (q : Path) → path_cmp q root ≡ Less → ⊥
not_before_root [] e = absurd (let f : Equal ≡ Less = e in cc)
not_before_root (x ∷ q) e = absurd (let f : Greater ≡ Less = e in cc)

none_before : (front : Directories) → ((q : Path) → IsSome (opened_at front q) → path_cmp q root ≡ Less) → front ≡ []
none_before [] earlier = refl
none_before (e ∷ front) earlier = absurd (not_before_root e.0 (earlier e.0 (is_some (opened_at (e ∷ front) e.0) e.1 (ap (λ b. cond b (Some e.1) (opened_at front e.0)) (path_self e.0)))))

module _ (h : Hash) (table more : Table) (front : Directories) (es : Entries) (st : Store) (keeps : Keeps table more) (sorted : IsTrue (finite.is_sorted name_cmp (listed es))) (text : HasBlob h more (entries_text h es))
    (values : (bytes : List ℕ) → Contains (long_values es) bytes → HasBlob h more bytes) where
  root_closed : Shows h table (front ++ (root, es) ∷ []) st → ((q : Path) → IsSome (opened_at front q) → path_cmp q root ≡ Less)
      → AreLeft h more (with_object front root (dirref (reference_of h (entries_text h es)))) (Some (reference_of h (entries_text h es))) st
  root_closed shows earlier =
      inr (
        none_before front earlier,
        reference_of h (entries_text h es),
        refl,
        root_there h more st (reference_of h (entries_text h es)) shows.store shows.storable
            (ap (reference_of h) (last_text h table front root es st shows earlier sorted))
            (last_below h table front root es st shows earlier sorted more keeps text values),
      )

  child_closed : (p : Path) (n : Name) → Shows h table (front ++ (p ++ n ∷ [], es) ∷ []) st → ((q : Path) → IsSome (opened_at front q) → path_cmp q (p ++ n ∷ []) ≡ Less)
      → AreLeft h more (with_object front (p ++ n ∷ []) (dirref (reference_of h (entries_text h es)))) (Some (reference_of h (entries_text h es))) st
  child_closed p n shows earlier =
      let ds : Directories = front ++ (p ++ n ∷ [], es) ∷ [] in
      let there : IsSome (opened_at ds (p ++ n ∷ [])) = is_some (opened_at ds (p ++ n ∷ [])) es (at_last h table front (p ++ n ∷ []) es st shows earlier sorted) in
      let parent : IsSome (opened_at front p) = subst IsSome (at_others h table front (p ++ n ∷ []) es st shows earlier sorted p (λ e. longer p [] n (sym e))) (shows.above p n there) in
      let up = some_of (opened_at front p) parent in
      inl (shows_closed h table more front p n es st keeps shows earlier sorted text values up.0 up.1)

  pub closed_step : (path : Path) → Shows h table (front ++ (path, es) ∷ []) st → ((q : Path) → IsSome (opened_at front q) → path_cmp q path ≡ Less)
      → AreLeft h more (with_object front path (dirref (reference_of h (entries_text h es)))) (Some (reference_of h (entries_text h es))) st
  closed_step path shows earlier =
      elim (split_end path) [
        | inl e ↦ subst (λ (q : Path). AreLeft h more (with_object front q (dirref (reference_of h (entries_text h es)))) (Some (reference_of h (entries_text h es))) st) (sym e)
            (root_closed (subst (λ (q : Path). Shows h table (front ++ (q, es) ∷ []) st) e shows) (subst (λ (x : Path). (q : Path) → IsSome (opened_at front q) → path_cmp q x ≡ Less) e earlier))
        | inr parts ↦ subst (λ (q : Path). AreLeft h more (with_object front q (dirref (reference_of h (entries_text h es)))) (Some (reference_of h (entries_text h es))) st) (sym parts.2)
            (child_closed parts.0 parts.1 (subst (λ (q : Path). Shows h table (front ++ (q, es) ∷ []) st) parts.2 shows) (subst (λ (x : Path). (q : Path) → IsSome (opened_at front q) → path_cmp q x ≡ Less) parts.2 earlier))
      ]
