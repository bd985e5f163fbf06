-- The root alone is open: that of a store which a table holds, and that of the store without names.
use Rattle.std.proofs.Common.{◌≡◌, ◌≢◌, cond, [], ◌∷◌, ◌++◌, Some, None, refl, sym, ap, ◌∙◌, subst, inl, inr}
use Rattle.std.specs.Prelude.{IsSome}
use Rattle.std.specs.FinMap.Entries as finite
use Rattle.fl_digest.specs.declared.Hash.{Hash}
use Rattle.fl_digest.specs.declared.BlobRef.{BlobRef}
use Rattle.kvs_model.specs.Store.{Name, Path, Directory, Store, root, node_at, empty_store}
use Rattle.kvs_model.proofs.Sound.{IsStore-empty_store}
use Rattle.tree_rules.specs.Held.{Table, IsRootOf}
use Rattle.tree_rules.specs.Names.{name_cmp}
use Rattle.tree_rules.specs.Objects.{Entries, no_entries, listed}
use Rattle.tree_rules.specs.Texts.{objects, objects_in, stored_at, directory_text}
use Rattle.tree_rules.proofs.Blobs.{text_there, value_there}
use Rattle.tree_rules.proofs.Objects.{stored_under}
use Rattle.tree_store.specs.Shown.{opened_at, entries_at, Stands, Shows, HasBelow}
use Rattle.tree_store.proofs.Opening.{path_dec, longer, is_some, some_same, not_both, listed_again, has_further, stored_stands}
use Rattle.tree_store.proofs.Steps.{path_apart}

elsewhere : (es : Entries) (q : Path) → q ≢ root → opened_at ((root, es) ∷ []) q ≡ None
elsewhere es q ne = ap (λ b. cond b (Some es) None) (path_apart q root ne)

child_is_none : (es : Entries) (n : Name) → opened_at ((root, es) ∷ []) (root ++ n ∷ []) ≡ None
child_is_none es n = elsewhere es (root ++ n ∷ []) (λ e. longer root [] n e)

not_root : (q : Path) (m : Name) → q ++ m ∷ [] ≢ root
not_root [] m e = longer [] [] m e
not_root (x ∷ q) m e = longer [] (q ++ m ∷ []) x e

-- one of which the root is open alone
alone : (h : Hash) (table : Table) (st : Store) (es : Entries) → (node_at st root ≡ Some Directory) → ((n : Name) → Stands h table ((root, es) ∷ []) st (root ++ n ∷ []) (finite.find name_cmp n (listed es)))
    → (q : Path) (fs : Entries) (n : Name) → opened_at ((root, es) ∷ []) q ≡ Some fs → Stands h table ((root, es) ∷ []) st (q ++ n ∷ []) (finite.find name_cmp n (listed fs))
alone h table st es rooted told q fs n is =
    elim (path_dec q root) [
      | inl e ↦ (
          let same : es ≡ fs = some_same es fs (ap (opened_at ((root, es) ∷ [])) (sym e) ∙ is) in
          subst (λ (x : Path). Stands h table ((root, es) ∷ []) st (x ++ n ∷ []) (finite.find name_cmp n (listed fs))) (sym e)
          (subst (λ (xs : Entries). Stands h table ((root, es) ∷ []) st (root ++ n ∷ []) (finite.find name_cmp n (listed xs))) same (told n)))
      | inr ne ↦ absurd (not_both (opened_at ((root, es) ∷ []) q) (is_some (opened_at ((root, es) ∷ []) q) fs is) (elsewhere es q ne))
    ]

places_alone : (st : Store) (es : Entries) → (node_at st root ≡ Some Directory) → (q : Path) → IsSome (opened_at ((root, es) ∷ []) q) → node_at st q ≡ Some Directory
places_alone st es rooted q some =
    elim (path_dec q root) [
      | inl e ↦ ap (node_at st) e ∙ rooted
      | inr ne ↦ absurd (not_both (opened_at ((root, es) ∷ []) q) some (elsewhere es q ne))
    ]

rooted_below : (h : Hash) (table : Table) (r : BlobRef) (st : Store) → IsRootOf h table r st → HasBelow h table st root
rooted_below h table r st is = record {
  texts = λ place w d. is.held (directory_text h st place) (text_there h st place d);
  values = λ place bytes w v long. is.held bytes (value_there h st place bytes v long);
}

pub rooted_shows : (h : Hash) (table : Table) (r : BlobRef) (st : Store) → IsRootOf h table r st → Shows h table ((root, entries_at h st root) ∷ []) st
rooted_shows h table r st is =
    let es : Entries = entries_at h st root in
    let below : HasBelow h table st root = rooted_below h table r st is in
    record {
      store = is.store;
      storable = is.storable;
      rooted = refl;
      places = places_alone st es is.store.rooted;
      told = alone h table st es is.store.rooted (λ n.
          let found : finite.find name_cmp n (listed es) ≡ stored_at h st (root ++ n ∷ []) = ap (finite.find name_cmp n) (listed_again (objects_in root (objects h st))) ∙ stored_under h st root n is.store.sorted in
          subst (Stands h table ((root, es) ∷ []) st (root ++ n ∷ [])) (sym found)
          (stored_stands h table ((root, es) ∷ []) st (root ++ n ∷ []) (node_at st (root ++ n ∷ [])) refl (child_is_none es n) (has_further h table st root (n ∷ []) below)));
      above = λ q m some. absurd (not_both (opened_at ((root, es) ∷ []) (q ++ m ∷ [])) some (elsewhere es (q ++ m ∷ []) (not_root q m)));
    }

pub empty_shows : (h : Hash) (table : Table) → Shows h table ((root, no_entries) ∷ []) empty_store
empty_shows h table = record {
  store = IsStore-empty_store;
  storable = ((tt, tt), tt);
  rooted = refl;
  places = places_alone empty_store no_entries refl;
  told = alone h table empty_store no_entries refl (λ n. ap (λ b. cond b (Some Directory) None) (path_apart (root ++ n ∷ []) root (λ e. longer root [] n e)));
  above = λ q m some. absurd (not_both (opened_at ((root, no_entries) ∷ []) (q ++ m ∷ [])) some (elsewhere no_entries (q ++ m ∷ []) (not_root q m)));
}
