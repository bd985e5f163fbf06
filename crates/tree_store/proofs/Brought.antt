-- The text and the long values that the last open directory brings are blobs of the store.
use Rattle.std.proofs.Common.{◌≡◌, ℕ, zero, suc, Bool, true, false, cond, List, [], ◌∷◌, ◌++◌, Option, Some, refl, sym, ap, ◌∙◌, subst, inl, inr, arith, Less, Greater}
use Rattle.std.specs.Prelude.{IsTrue, Contains}
use Rattle.std.specs.FinMap.Entries as finite
use Rattle.std.specs.Ordering.{is_lt, is_eq, eq_by_cmp, ordering_reverse}
use Rattle.std.proofs.lemmas.Cmp.{nat_list_cmp_total}
use Rattle.std.proofs.lemmas.List.Elements.{Contains-append_cases}
use Rattle.fl_digest.specs.declared.Hash.{Hash}
use Rattle.kvs_model.specs.Store.{Name, Path, Value, Store, node_at}
use Rattle.tree_rules.specs.Held.{Table}
use Rattle.tree_rules.specs.Names.{name_cmp}
use Rattle.tree_rules.specs.Objects.{Tree, val, valref, dir, dirref, symlink, Entries, no_entries, entry, listed}
use Rattle.tree_rules.specs.Texts.{is_long, blobs}
use Rattle.tree_rules.proofs.Blobs.{value_there}
use Rattle.tree_rules.proofs.Objects.{and_parts, less_of}
use Rattle.tree_store.specs.Shown.{Directories, opened_at, Stands, Shows, long_values}
use Rattle.tree_store.proofs.Opening.{name_from_test, name_self}

-- a name at which something is found comes behind each that all come behind
below_found : (m n : Name) (t : Tree) (es : List (Name × Tree)) → IsTrue (finite.below_all name_cmp m es) → finite.find name_cmp n es ≡ Some t → name_cmp m n ≡ Less
below_found m n t [] h e = absurd (cc)
below_found m n t (row ∷ es) h e =
    let parts = and_parts (is_lt (name_cmp m row.0)) (finite.below_all name_cmp m es) h in
    elim (eq_by_cmp name_cmp n row.0) as (λ b. eq_by_cmp name_cmp n row.0 ≡ b → cond b (Some row.1) (finite.find name_cmp n es) ≡ Some t → name_cmp m n ≡ Less) [
      | true ↦ λ is f. ap (name_cmp m) (name_from_test n row.0 is) ∙ less_of (name_cmp m row.0) parts.0
      | false ↦ λ is f. below_found m n t es parts.1 f
    ] refl e

record IsLongAt (es : Entries) (bytes : List ℕ) : Type 0 where
  name : Name
  found : finite.find name_cmp name (listed es) ≡ Some (val bytes)
  long : is_long bytes ≡ true

-- it is found behind one entry more, too
behind : (m : Name) (tree : Tree) (es : Entries) (bytes : List ℕ) → IsTrue (finite.below_all name_cmp m (listed es)) → IsLongAt es bytes → IsLongAt (entry m tree es) bytes
behind m tree es bytes below at =
    let above : name_cmp at.name m ≡ Greater = nat_list_cmp_total.antisymm at.name m ∙ ap ordering_reverse (below_found m at.name (val bytes) (listed es) below at.found) in
    record {
      name = at.name;
      found = ap (λ r. cond (is_eq r) (Some tree) (finite.find name_cmp at.name (listed es))) above ∙ at.found;
      long = at.long;
    }

one_of : (x : List ℕ) (b : Bool) (bytes : List ℕ) → Contains (cond b (x ∷ []) []) bytes → (b ≡ true) × (x ≡ bytes)
one_of x true bytes (zero, within, is) = (refl, is)
one_of x true bytes (suc k, within, is) = absurd (omega (arith, within))
one_of x false bytes c = absurd (omega (arith, c.1))

long_at : (es : Entries) (bytes : List ℕ) → IsTrue (finite.is_sorted name_cmp (listed es)) → Contains (long_values es) bytes → IsLongAt es bytes
long_at no_entries bytes sorted c = absurd (omega (arith, c.1))
long_at (entry m (val other) es) bytes sorted c =
    let parts = and_parts (finite.below_all name_cmp m (listed es)) (finite.is_sorted name_cmp (listed es)) sorted in
    elim (Contains-append_cases (cond (is_long other) (other ∷ []) []) (long_values es) bytes c) [
      | inl own ↦ (
          let is = one_of other (is_long other) bytes own in
          record {
            name = m;
            found = ap (λ b. cond b (Some (val other)) (finite.find name_cmp m (listed es))) (name_self m) ∙ ap (λ (x : List ℕ). Some (val x)) is.1;
            long = ap is_long (sym is.1) ∙ is.0;
          })
      | inr more ↦ behind m (val other) es bytes parts.0 (long_at es bytes parts.1 more)
    ]
long_at (entry m (valref references) es) bytes sorted c = let parts = and_parts (finite.below_all name_cmp m (listed es)) (finite.is_sorted name_cmp (listed es)) sorted in behind m (valref references) es bytes parts.0 (long_at es bytes parts.1 c)
long_at (entry m (dir inner) es) bytes sorted c = let parts = and_parts (finite.below_all name_cmp m (listed es)) (finite.is_sorted name_cmp (listed es)) sorted in behind m (dir inner) es bytes parts.0 (long_at es bytes parts.1 c)
long_at (entry m (dirref reference) es) bytes sorted c = let parts = and_parts (finite.below_all name_cmp m (listed es)) (finite.is_sorted name_cmp (listed es)) sorted in behind m (dirref reference) es bytes parts.0 (long_at es bytes parts.1 c)
long_at (entry m (symlink target) es) bytes sorted c = let parts = and_parts (finite.below_all name_cmp m (listed es)) (finite.is_sorted name_cmp (listed es)) sorted in behind m (symlink target) es bytes parts.0 (long_at es bytes parts.1 c)

-- a long value of an open directory is a blob of the store that is shown
pub value_brought : (h : Hash) (table : Table) (ds : Directories) (st : Store) (path : Path) (es : Entries) (bytes : List ℕ) → Shows h table ds st → opened_at ds path ≡ Some es
    → IsTrue (finite.is_sorted name_cmp (listed es)) → Contains (long_values es) bytes → Contains (blobs h st) bytes
value_brought h table ds st path es bytes shows is sorted c =
    let at = long_at es bytes sorted c in
    let there : node_at st (path ++ at.name ∷ []) ≡ Some (Value bytes) = subst (λ (o : Option Tree). Stands h table ds st (path ++ at.name ∷ []) o) at.found (shows.told path es at.name is) in
    value_there h st (path ++ at.name ∷ []) bytes there at.long
