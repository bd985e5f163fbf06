-- What stands at a path and below is replaced.
use Rattle.std.proofs.Common.{◌≡◌, ◌≢◌, Bool, true, false, [], ◌∷◌, ◌++◌, Option, Some, None, refl, sym, ap, ap₂, ◌∙◌, subst, inl, inr, true≢false, append_assoc, append-nil}
use Rattle.std.specs.Prelude.{IsSome, ◌&&◌, ◌⊎◌}
use Rattle.std.specs.FinMap.Entries as finite
use Rattle.std.specs.Ordering.{eq_by_cmp}
use Rattle.std.specs.Str.{bytes_eq}
use Rattle.std.specs.Cmp.Lexicographic.{bytes_decides}
use Rattle.fl_digest.specs.declared.Hash.{Hash}
use Rattle.fl_digest.specs.Reference.{reference_of}
use Rattle.kvs_model.specs.Store.{Name, Path, Directory, Store, IsStore, root, node_at, is_within}
use Rattle.kvs_model.proofs.Paths.{within_self, within_longer, above_not_within}
use Rattle.kvs_model.proofs.Paths as paths
use Rattle.tree_rules.specs.Held.{Table, IsStorable}
use Rattle.tree_rules.specs.Names.{name_cmp}
use Rattle.tree_rules.specs.Objects.{Tree, val, valref, dir, dirref, symlink, Entries, listed}
use Rattle.tree_rules.specs.Texts.{directory_text}
use Rattle.tree_rules.proofs.Below.{same_text}
use Rattle.tree_store.specs.Shown.{Directories, opened_at, Stands, Shows, HasBlob}
use Rattle.tree_store.proofs.Opening.{within_further, same_parent, name_from_test, name_self, path_dec, is_some, some_same, not_both}

-- ---- paths

both_true : (a b : Bool) → (a && b) ≡ true → (a ≡ true) × (b ≡ true)
both_true true true e = (refl, refl)
both_true true false e = absurd (true≢false (sym e))
both_true false b e = absurd (true≢false (sym e))

same_bytes : (x y : Name) → bytes_eq x y ≡ true → x ≡ y
same_bytes x y e = (bytes_decides x y).0 e

-- of two paths that begin a third, one begins the other
comparable : (a b y : Path) → is_within a y ≡ true → is_within b y ≡ true → (is_within a b ≡ true) ⊎ (is_within b a ≡ true)
comparable [] b y v w = inl refl
comparable (x ∷ a) [] y v w = inr refl
comparable (x ∷ a) (z ∷ b) [] v w = absurd (true≢false (sym v))
comparable (x ∷ a) (z ∷ b) (u ∷ y) v w =
    let one = both_true (bytes_eq x u) (is_within a y) v in
    let other = both_true (bytes_eq z u) (is_within b y) w in
    let same : x ≡ z = same_bytes x u one.0 ∙ sym (same_bytes z u other.0) in
    elim (comparable a b y one.1 other.1) [
      | inl in_b ↦ inl (ap₂ (λ c d. c && d) ((bytes_decides x z).1 same) in_b)
      | inr in_a ↦ inr (ap₂ (λ c d. c && d) ((bytes_decides z x).1 (sym same)) in_a)
    ]

-- what begins a path begins the one above it, or is the path itself
begins_child : (x p : Path) (n : Name) → is_within x (p ++ n ∷ []) ≡ true → (is_within x p ≡ true) ⊎ (x ≡ p ++ n ∷ [])
begins_child [] p n w = inl refl
begins_child (a ∷ []) [] n w = inr (ap (λ (m : Name). m ∷ []) (same_bytes a n (both_true (bytes_eq a n) true w).0))
begins_child (a ∷ b ∷ x) [] n w = absurd (true≢false (sym (both_true (bytes_eq a n) false w).1))
begins_child (a ∷ x) (b ∷ p) n w =
    let parts = both_true (bytes_eq a b) (is_within x (p ++ n ∷ [])) w in
    elim (begins_child x p n parts.1) [
      | inl h ↦ inl (ap₂ (λ c d. c && d) parts.0 h)
      | inr same ↦ inr (ap₂ (λ (c : Name) (d : Path). c ∷ d) (same_bytes a b parts.0) same)
    ]

pub within_rest : (x p : Path) → is_within x p ≡ true → (r : Path) × (p ≡ x ++ r)
within_rest [] p w = (p, refl)
within_rest (a ∷ x) [] w = absurd (true≢false (sym w))
within_rest (a ∷ x) (b ∷ p) w =
    let parts = both_true (bytes_eq a b) (is_within x p) w in
    let rest = within_rest x p parts.1 in
    (rest.0, ap₂ (λ (c : Name) (d : Path). c ∷ d) (sym (same_bytes a b parts.0)) rest.1)

within_both : (x p q : Path) → is_within x p ≡ true → is_within p q ≡ true → is_within x q ≡ true
within_both x p q v w = let rest = within_rest x p v in within_further x rest.0 q (subst (λ (s : Path). is_within s q ≡ true) rest.1 w)

root_outside : (p : Path) (n : Name) → is_within (p ++ n ∷ []) root ≡ false
root_outside [] n = refl
root_outside (x ∷ p) n = refl

-- the directories above an open one are open
open_up : (ds : Directories) → ((q : Path) (m : Name) → IsSome (opened_at ds (q ++ m ∷ [])) → IsSome (opened_at ds q)) → (p r : Path) → IsSome (opened_at ds (p ++ r)) → IsSome (opened_at ds p)
open_up ds above p [] some = subst (λ (q : Path). IsSome (opened_at ds q)) (append-nil p) some
open_up ds above p (n ∷ r) some = above p n (open_up ds above (p ++ n ∷ []) r (subst (λ (q : Path). IsSome (opened_at ds q)) (sym (append_assoc p (n ∷ []) r)) some))

pub open_within : (ds : Directories) → ((q : Path) (m : Name) → IsSome (opened_at ds (q ++ m ∷ [])) → IsSome (opened_at ds q)) → (x p : Path) → is_within x p ≡ true → IsSome (opened_at ds p) → IsSome (opened_at ds x)
open_within ds above x p w some = let rest = within_rest x p w in open_up ds above x rest.0 (subst (λ (q : Path). IsSome (opened_at ds q)) rest.1 some)

pub some_of : {A : Type 0} (o : Option A) → IsSome o → (x : A) × (o ≡ Some x)
some_of (Some x) some = (x, refl)
some_of None some = absurd (true≢false (sym some))

-- ---- the object under a name is replaced, and what stands below

-- the directory above has these entries, and none is open below the path
pub record IsReplaced (ds new : Directories) (p : Path) (n : Name) (up : Entries) : Type 0 where
  pub parent : opened_at new p ≡ Some up
  pub below : (q : Path) → is_within (p ++ n ∷ []) q ≡ true → q ≢ p ++ n ∷ [] → opened_at new q ≡ None
  pub others : (q : Path) → is_within (p ++ n ∷ []) q ≡ false → q ≢ p → opened_at new q ≡ opened_at ds q

-- a store that has the same outside of a path
pub record IsOutside (st after : Store) (whole : Path) : Type 0 where
  pub store : IsStore after
  pub storable : IsStorable after
  pub others : (q : Path) → is_within whole q ≡ false → node_at after q ≡ node_at st q

-- an open directory at the path
pub record IsMade (h : Hash) (table : Table) (new : Directories) (after : Store) (whole : Path) (fs : Entries) : Type 0 where
  pub directory : node_at after whole ≡ Some Directory
  pub told : (m : Name) → Stands h table new after (whole ++ m ∷ []) (finite.find name_cmp m (listed fs))

module _ (h : Hash) (table : Table) (ds new : Directories) (st after : Store) (p : Path) (n : Name) (es up : Entries) (shows : Shows h table ds st)
    (parent : opened_at ds p ≡ Some es) (replaced : IsReplaced ds new p n up) (changed : IsOutside st after (p ++ n ∷ []))
    (here : Stands h table new after (p ++ n ∷ []) (finite.find name_cmp n (listed up)))
    (rest : (m : Name) → eq_by_cmp name_cmp m n ≡ false → finite.find name_cmp m (listed up) ≡ finite.find name_cmp m (listed es))
    (made : (fs : Entries) → opened_at new (p ++ n ∷ []) ≡ Some fs → IsMade h table new after (p ++ n ∷ []) fs) where
  wrong : (q : Path) → is_within (p ++ n ∷ []) q ≡ true → is_within (p ++ n ∷ []) q ≡ false → ⊥
  wrong q v w = true≢false (sym v ∙ w)

  outside_stays : (q : Path) → is_within (p ++ n ∷ []) q ≡ false → IsSome (opened_at ds q) → IsSome (opened_at new q)
  outside_stays q w some =
      elim (path_dec q p) [
        | inl e ↦ is_some (opened_at new q) up (ap (opened_at new) e ∙ replaced.parent)
        | inr ne ↦ subst IsSome (sym (replaced.others q w ne)) some
      ]

  outside_was : (q : Path) → is_within (p ++ n ∷ []) q ≡ false → IsSome (opened_at new q) → IsSome (opened_at ds q)
  outside_was q w some =
      elim (path_dec q p) [
        | inl e ↦ is_some (opened_at ds q) es (ap (opened_at ds) e ∙ parent)
        | inr ne ↦ subst IsSome (replaced.others q w ne) some
      ]

  outside_none : (q : Path) → is_within (p ++ n ∷ []) q ≡ false → opened_at ds q ≡ None → opened_at new q ≡ None
  outside_none q w none =
      elim (path_dec q p) [
        | inl e ↦ absurd (not_both (opened_at ds q) (is_some (opened_at ds q) es (ap (opened_at ds) e ∙ parent)) none)
        | inr ne ↦ replaced.others q w ne ∙ none
      ]

  -- nothing below a closed directory outside of the path lies at the path or below
  apart_below : (x : Path) → is_within (p ++ n ∷ []) x ≡ false → opened_at ds x ≡ None → (y : Path) → is_within x y ≡ true → is_within (p ++ n ∷ []) y ≡ false
  apart_below x w closed y v =
      elim (is_within (p ++ n ∷ []) y) as (λ b. is_within (p ++ n ∷ []) y ≡ b → b ≡ false) [
        | true ↦ λ e. elim (comparable (p ++ n ∷ []) x y e v) [
          | inl a ↦ absurd (wrong x a w)
          | inr b ↦ elim (begins_child x p n b) [
            | inl u ↦ absurd (not_both (opened_at ds x) (open_within ds shows.above x p u (is_some (opened_at ds p) es parent)) closed)
            | inr same ↦ absurd (wrong x (subst (λ (s : Path). is_within (p ++ n ∷ []) s ≡ true) (sym same) (within_self (p ++ n ∷ []))) w)
          ]
        ]
        | false ↦ λ e. refl
      ] refl

  text_stays : (x : Path) → is_within (p ++ n ∷ []) x ≡ false → opened_at ds x ≡ None → (place : Path) → is_within x place ≡ true → directory_text h after place ≡ directory_text h st place
  text_stays x w closed place v = same_text h after st place changed.store.sorted shows.store.sorted (λ y u. changed.others y (apart_below x w closed y (within_both x place y v u)))

  stands_outside : (x : Path) (o : Option Tree) → is_within (p ++ n ∷ []) x ≡ false → Stands h table ds st x o → Stands h table new after x o
  stands_outside x None w is = changed.others x w ∙ is
  stands_outside x (Some (val bytes)) w is = changed.others x w ∙ is
  stands_outside x (Some (valref references)) w is = record { bytes = is.bytes; value = changed.others x w ∙ is.value; long = is.long; named = is.named; held = is.held }
  stands_outside x (Some (dir fs)) w is = (changed.others x w ∙ is.0, outside_stays x w is.1)
  stands_outside x (Some (dirref reference)) w is = record {
    directory = changed.others x w ∙ is.directory;
    named = is.named ∙ ap (reference_of h) (sym (text_stays x w is.closed x (within_self x)));
    closed = outside_none x w is.closed;
    held = record {
      texts = λ place v d. subst (HasBlob h table) (sym (text_stays x w is.closed place v)) (is.held.texts place v (sym (changed.others place (apart_below x w is.closed place v)) ∙ d));
      values = λ place bytes v d long. is.held.values place bytes v (sym (changed.others place (apart_below x w is.closed place v)) ∙ d) long;
    };
  }
  stands_outside x (Some (symlink target)) w is = changed.others x w ∙ is

  child_outside : (q : Path) (m : Name) → is_within (p ++ n ∷ []) q ≡ false → q ++ m ∷ [] ≢ p ++ n ∷ [] → is_within (p ++ n ∷ []) (q ++ m ∷ []) ≡ false
  child_outside q m w ne =
      elim (is_within (p ++ n ∷ []) (q ++ m ∷ [])) as (λ b. is_within (p ++ n ∷ []) (q ++ m ∷ []) ≡ b → b ≡ false) [
        | true ↦ λ e. elim (begins_child (p ++ n ∷ []) q m e) [ inl v ↦ absurd (wrong q v w) | inr same ↦ absurd (ne (sym same)) ]
        | false ↦ λ e. refl
      ] refl

  parent_outside : is_within (p ++ n ∷ []) p ≡ false
  parent_outside = above_not_within p (p ++ n ∷ []) (paths.above_child p n)

  told_above : (m : Name) → Stands h table new after (p ++ m ∷ []) (finite.find name_cmp m (listed up))
  told_above m =
      elim (eq_by_cmp name_cmp m n) as (λ b. eq_by_cmp name_cmp m n ≡ b → Stands h table new after (p ++ m ∷ []) (finite.find name_cmp m (listed up))) [
        | true ↦ λ e. subst (λ (k : Name). Stands h table new after (p ++ k ∷ []) (finite.find name_cmp k (listed up))) (sym (name_from_test m n e)) here
        | false ↦ λ e. subst (Stands h table new after (p ++ m ∷ [])) (sym (rest m e)) (
            stands_outside (p ++ m ∷ []) (finite.find name_cmp m (listed es))
            (child_outside p m parent_outside (λ same. true≢false (sym (name_self m) ∙ ap (eq_by_cmp name_cmp m) (same_parent p p m n same).1 ∙ e)))
            (shows.told p es m parent))
      ] refl

  none_below : (q : Path) → q ≢ p ++ n ∷ [] → IsSome (opened_at new q) → is_within (p ++ n ∷ []) q ≡ false
  none_below q ne some =
      elim (is_within (p ++ n ∷ []) q) as (λ b. is_within (p ++ n ∷ []) q ≡ b → b ≡ false) [
        | true ↦ λ e. absurd (not_both (opened_at new q) some (replaced.below q e ne))
        | false ↦ λ e. refl
      ] refl

  told_all : (q : Path) (fs : Entries) (m : Name) → opened_at new q ≡ Some fs → Stands h table new after (q ++ m ∷ []) (finite.find name_cmp m (listed fs))
  told_all q fs m is =
      elim (path_dec q (p ++ n ∷ [])) [
        | inl e ↦ subst (λ (x : Path). Stands h table new after (x ++ m ∷ []) (finite.find name_cmp m (listed fs))) (sym e) ((made fs (ap (opened_at new) (sym e) ∙ is)).told m)
        | inr ne ↦ elim (path_dec q p) [
          | inl e ↦ (
              let same : up ≡ fs = some_same up fs (sym replaced.parent ∙ ap (opened_at new) (sym e) ∙ is) in
              subst (λ (x : Path). Stands h table new after (x ++ m ∷ []) (finite.find name_cmp m (listed fs))) (sym e)
              (subst (λ (xs : Entries). Stands h table new after (p ++ m ∷ []) (finite.find name_cmp m (listed xs))) same (told_above m)))
          | inr nf ↦ (
              let w = none_below q ne (is_some (opened_at new q) fs is) in
              stands_outside (q ++ m ∷ []) (finite.find name_cmp m (listed fs)) (child_outside q m w (λ same. nf (same_parent q p m n same).0))
              (shows.told q fs m (sym (replaced.others q w nf) ∙ is)))
        ]
      ]

  places_all : (q : Path) → IsSome (opened_at new q) → node_at after q ≡ Some Directory
  places_all q some =
      elim (path_dec q (p ++ n ∷ [])) [
        | inl e ↦ (let fs = some_of (opened_at new q) some in ap (node_at after) e ∙ (made fs.0 (ap (opened_at new) (sym e) ∙ fs.1)).directory)
        | inr ne ↦ (let w = none_below q ne some in changed.others q w ∙ shows.places q (outside_was q w some))
      ]

  above_all : (q : Path) (m : Name) → IsSome (opened_at new (q ++ m ∷ [])) → IsSome (opened_at new q)
  above_all q m some =
      elim (path_dec (q ++ m ∷ []) (p ++ n ∷ [])) [
        | inl e ↦ is_some (opened_at new q) up (ap (opened_at new) (same_parent q p m n e).0 ∙ replaced.parent)
        | inr ne ↦ (
            let w = none_below (q ++ m ∷ []) ne some in
            let v : is_within (p ++ n ∷ []) q ≡ false = elim (is_within (p ++ n ∷ []) q) as (λ b. is_within (p ++ n ∷ []) q ≡ b → b ≡ false) [
              | true ↦ λ e. absurd (wrong (q ++ m ∷ []) (within_longer (p ++ n ∷ []) q (m ∷ []) e) w)
              | false ↦ λ e. refl
            ] refl in
            outside_stays q v (shows.above q m (outside_was (q ++ m ∷ []) w some)))
      ]

  pub shows_replaced : Shows h table new after
  shows_replaced = record {
    store = changed.store;
    storable = changed.storable;
    rooted = outside_stays root (root_outside p n) shows.rooted;
    places = places_all;
    told = told_all;
    above = above_all;
  }
