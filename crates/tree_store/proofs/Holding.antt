-- A table that has all at the root and below holds the store.
use Rattle.std.proofs.Common.{◌≡◌, ℕ, zero, suc, Bool, true, false, cond, List, [], ◌∷◌, Option, Some, None, refl, sym, ap, ◌∙◌, subst, arith, inl, inr, Less, Greater}
use Rattle.std.specs.Prelude.{IsTrue, Contains, filter, filter_map, ◌⊎◌}
use Rattle.std.specs.List.{cons_option}
use Rattle.std.specs.FinMap.Entries as finite
use Rattle.std.specs.Ordering.{is_lt, is_eq, eq_by_cmp, ordering_reverse}
use Rattle.std.proofs.lemmas.List.Elements.{Contains-append_cases}
use Rattle.fl_digest.specs.declared.BlobRef.{BlobRef}
use Rattle.fl_digest.specs.declared.Hash.{Hash}
use Rattle.fl_digest.specs.Reference.{reference_of}
use Rattle.kvs_model.specs.Store.{Path, Node, Value, Directory, Link, Store, IsStore, root, path_cmp, node_at}
use Rattle.kvs_model.proofs.Paths.{path_total, path_self}
use Rattle.tree_rules.specs.Held.{Table, Holds, IsRootOf, IsStorable}
use Rattle.tree_rules.specs.Texts.{is_long, directory_text, directory_of, bytes_of, directory_texts, values}
use Rattle.tree_rules.proofs.Blobs.{from_map}
use Rattle.tree_rules.proofs.Objects.{and_parts, less_of}
use Rattle.tree_store.specs.Shown.{HasBelow}

none : {X : Type 0} (x : X) → Contains [] x → ⊥
none x c = absurd (omega (arith, c.1))

-- a member is the first or stands behind it
split : {X : Type 0} (y : X) (xs : List X) (x : X) → Contains (y ∷ xs) x → (y ≡ x) ⊎ Contains xs x
split y xs x (zero, within, is) = inl is
split y xs x (suc k, within, is) = inr (k, omega arith, is)

there : {X : Type 0} (y : X) (xs : List X) (x : X) → Contains xs x → Contains (y ∷ xs) x
there y xs x c = (suc c.0, omega (arith, c.1), c.2)

here : {X : Type 0} (x : X) (xs : List X) → Contains (x ∷ xs) x
here x xs = (0, omega arith, refl)

-- what a list of parts has comes from one that has the part
from_parts : {Y : Type 0} (f : Path → Node → Option Y) (st : Store) (y : Y) → Contains (filter_map (λ e. f e.0 e.1) st) y → (e : Path × Node) × Contains st e × (f e.0 e.1 ≡ Some y)
from_parts f [] y c = absurd (none y c)
from_parts f (e ∷ st) y c =
    elim (f e.0 e.1) as (λ o. f e.0 e.1 ≡ o → Contains (cons_option o (filter_map (λ e. f e.0 e.1) st)) y → (d : Path × Node) × Contains (e ∷ st) d × (f d.0 d.1 ≡ Some y)) [
      | None ↦ λ is d. (let r = from_parts f st y d in (r.0, there e st r.0 r.1, r.2))
      | Some x ↦ λ is d. elim (split x (filter_map (λ e. f e.0 e.1) st) y d) [
        | inl same ↦ (e, here e st, is ∙ ap Some same)
        | inr b ↦ (let r = from_parts f st y b in (r.0, there e st r.0 r.1, r.2))
      ]
    ] refl c

from_filter : {X : Type 0} (p : X → Bool) (xs : List X) (x : X) → Contains (filter p xs) x → Contains xs x × (p x ≡ true)
from_filter p [] x c = absurd (none x c)
from_filter p (y ∷ xs) x c =
    elim (p y) as (λ b. p y ≡ b → Contains (cond b (y ∷ filter p xs) (filter p xs)) x → Contains (y ∷ xs) x × (p x ≡ true)) [
      | true ↦ λ is d. elim (split y (filter p xs) x d) [
        | inl same ↦ (subst (λ z. Contains (y ∷ xs) z) same (here y xs), ap p (sym same) ∙ is)
        | inr b ↦ (let r = from_filter p xs x b in (there y xs x r.0, r.1))
      ]
      | false ↦ λ is d. (let r = from_filter p xs x d in (there y xs x r.0, r.1))
    ] refl c

-- each entry of a store is what it has at the path
below_member : (p : Path) (st : Store) (e : Path × Node) → IsTrue (finite.below_all path_cmp p st) → Contains st e → path_cmp p e.0 ≡ Less
below_member p [] e h c = absurd (none e c)
below_member p (d ∷ st) e h c =
    let parts = and_parts (is_lt (path_cmp p d.0)) (finite.below_all path_cmp p st) h in
    elim (split d st e c) [
      | inl same ↦ subst (λ (x : Path × Node). path_cmp p x.0 ≡ Less) same (less_of (path_cmp p d.0) parts.0)
      | inr b ↦ below_member p st e parts.1 b
    ]

found_member : (st : Store) (e : Path × Node) → IsTrue (finite.is_sorted path_cmp st) → Contains st e → node_at st e.0 ≡ Some e.1
found_member [] e h c = absurd (none e c)
found_member (d ∷ st) e h c =
    let parts = and_parts (finite.below_all path_cmp d.0 st) (finite.is_sorted path_cmp st) h in
    elim (split d st e c) [
      | inl same ↦ subst (λ (x : Path × Node). cond (eq_by_cmp path_cmp x.0 d.0) (Some d.1) (node_at st x.0) ≡ Some x.1) same (ap (λ b. cond b (Some d.1) (node_at st d.0)) (path_self d.0))
      | inr b ↦ (
          let above : path_cmp e.0 d.0 ≡ Greater = path_total.antisymm e.0 d.0 ∙ ap ordering_reverse (below_member d.0 st e parts.0 b) in
          ap (λ r. cond (is_eq r) (Some d.1) (node_at st e.0)) above ∙ found_member st e parts.1 b)
    ]

directory_is : (p q : Path) (node : Node) → directory_of p node ≡ Some q → (p ≡ q) × (node ≡ Directory)
directory_is p q (Value bytes) e = absurd (cc)
directory_is p q Directory e = (let s : Some p ≡ Some q = e in (cc), refl)
directory_is p q (Link target) e = absurd (cc)

value_is : (node : Node) (bytes : List ℕ) → bytes_of node ≡ Some bytes → node ≡ Value bytes
value_is (Value other) bytes e = ap Value (let s : Some other ≡ Some bytes = e in (cc))
value_is Directory bytes e = absurd (cc)
value_is (Link target) bytes e = absurd (cc)

pub holds_below : (h : Hash) (table : Table) (st : Store) → IsStore st → HasBelow h table st root → Holds h table st
holds_below h table st is below bytes c =
    elim (Contains-append_cases (directory_texts h st) (filter is_long (values st)) bytes c) [
      | inl text ↦ (
          let place = from_map (directory_text h st) (filter_map (λ e. directory_of e.0 e.1) st) bytes text in
          let row = from_parts directory_of st place.0 place.1 in
          let parts = directory_is row.0.0 place.0 row.0.1 row.2 in
          let there : node_at st place.0 ≡ Some Directory = ap (node_at st) (sym parts.0) ∙ found_member st row.0 is.sorted row.1 ∙ ap Some parts.1 in
          subst (λ (b : List ℕ). table (reference_of h b) ≡ Some b) place.2 (below.texts place.0 refl there))
      | inr value ↦ (
          let long = from_filter is_long (values st) bytes value in
          let row = from_parts (λ p node. bytes_of node) st bytes long.0 in
          below.values row.0.0 bytes refl (found_member st row.0 is.sorted row.1 ∙ ap Some (value_is row.0.1 bytes row.2)) long.1)
    ]

-- the root of a store whose blobs the table has
pub root_there : (h : Hash) (table : Table) (st : Store) (r : BlobRef) → IsStore st → IsStorable st → r ≡ reference_of h (directory_text h st root) → HasBelow h table st root → IsRootOf h table r st
root_there h table st r is all named below = record { store = is; storable = all; reference = named; held = holds_below h table st is below }
