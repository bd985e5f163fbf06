-- On the slots from a path on: those at and below it stand before all others.
use Rattle.std.proofs.Common.{◌≡◌, [], ◌∷◌, ◌++◌, Bool, true, false, cond, not, ◌&&◌, ◌||◌, T, Option, Some, None, IsTrue, filter, map, refl, sym, ap, ◌∙◌, subst, true≢false, bytes_eq, Ordering, Less, Equal, Greater, is_eq}
use Rattle.std.specs.Ordering.{is_lt, is_le, ordering_then, nat_cmp}
use Rattle.std.specs.Option.{option_to_list}
use Rattle.std.specs.List.Sorted.{IsStrictlySortedBy}
use Rattle.std.specs.Cmp.Lexicographic.{slice_cmp, texts_ties, nat_list_cmp_total}
use Rattle.std.specs.FinMap.{nat_cmp-IsAntisymmetric, slice_cmp-IsAntisymmetric}
use Rattle.std.specs.FinMap.Entries as entries
use Rattle.std.specs.Map.{keys_of}
use Rattle.std.specs.Global.{Vec}
use Rattle.kvs_model.specs.Store.{Name, Path, path_cmp, listed, is_within, names_in}
use Rattle.plain_store.specs.declared.slots.Item.{Item}
use Rattle.plain_store.specs.Held.{Slots, keyed, store_of, node_of, listing}
use Rattle.plain_store.specs.Counted.{from_on, are_outside, stand_together}
use Rattle.plain_store.proofs.Held.{first, second, sorted_keyed, by_path, names_more, names_none, child_none_apart}

name_tie : (x y : Name) → is_eq (slice_cmp nat_cmp x y) ≡ bytes_eq x y
name_tie x y = sym (texts_ties x y)

same_name : (x y : Name) → slice_cmp nat_cmp x y ≡ Equal → x ≡ y
same_name = slice_cmp-IsAntisymmetric nat_cmp-IsAntisymmetric

and_none : (b : Bool) → (b && false) ≡ false
and_none true = refl
and_none false = refl

apart_names : (a b : Name) (rest : Bool) → slice_cmp nat_cmp a b ≡ Less → (bytes_eq a b && rest) ≡ false
apart_names a b rest e = ap (λ t. t && rest) (sym (name_tie a b) ∙ ap is_eq e)

rest_out : (a b : Name) (rest : Bool) → slice_cmp nat_cmp a b ≡ Equal → (bytes_eq a b && rest) ≡ false → rest ≡ false
rest_out a b rest e out = sym (ap (λ t. t && rest) (sym (name_tie a b) ∙ ap is_eq e)) ∙ out

-- a path before another doesn't lie within it
before_out : (p x : Path) → is_le (path_cmp p x) ≡ false → is_within p x ≡ false
before_out [] [] e = absurd (true≢false e)
before_out [] (b ∷ x) e = absurd (true≢false e)
before_out (a ∷ p) [] e = refl
before_out (a ∷ p) (b ∷ x) e =
    elim (slice_cmp nat_cmp a b) as (λ r. slice_cmp nat_cmp a b ≡ r → is_le (ordering_then r (path_cmp p x)) ≡ false → (bytes_eq a b && is_within p x) ≡ false) [
      | Less ↦ λ r e. absurd (true≢false e)
      | Equal ↦ λ r e. ap (λ t. bytes_eq a b && t) (before_out p x e) ∙ and_none (bytes_eq a b)
      | Greater ↦ λ r e. ap (λ t. t && is_within p x) (sym (name_tie a b) ∙ ap is_eq r)
    ] refl e

-- nor does one behind a path that is behind it and not within it
behind_out : (p x y : Path) → is_le (path_cmp p x) ≡ true → is_within p x ≡ false → path_cmp x y ≡ Less → is_within p y ≡ false
behind_out [] x y from out less = absurd (true≢false out)
behind_out (a ∷ p) [] y from out less = absurd (true≢false (sym from))
behind_out (a ∷ p) (b ∷ x) [] from out less = refl
behind_out (a ∷ p) (b ∷ x) (c ∷ y) from out less =
    elim (slice_cmp nat_cmp a b) as (λ r. slice_cmp nat_cmp a b ≡ r → is_le (ordering_then r (path_cmp p x)) ≡ true → (bytes_eq a c && is_within p y) ≡ false) [
      | Less ↦ λ r from. elim (slice_cmp nat_cmp b c) as (λ s. slice_cmp nat_cmp b c ≡ s → ordering_then s (path_cmp x y) ≡ Less → (bytes_eq a c && is_within p y) ≡ false) [
        | Less ↦ λ s less. apart_names a c (is_within p y) (nat_list_cmp_total.trans a b c r s)
        | Equal ↦ λ s less. apart_names a c (is_within p y) (subst (λ n. slice_cmp nat_cmp a n ≡ Less) (same_name b c s) r)
        | Greater ↦ λ s less. absurd (true≢false (sym (ap is_lt less)))
      ] refl less
      | Equal ↦ λ r from. elim (slice_cmp nat_cmp b c) as (λ s. slice_cmp nat_cmp b c ≡ s → ordering_then s (path_cmp x y) ≡ Less → (bytes_eq a c && is_within p y) ≡ false) [
        | Less ↦ λ s less. apart_names a c (is_within p y) (subst (λ n. slice_cmp nat_cmp n c ≡ Less) (sym (same_name a b r)) s)
        | Equal ↦ λ s less. ap (λ t. bytes_eq a c && t) (behind_out p x y from (rest_out a b (is_within p x) r out) less) ∙ and_none (bytes_eq a c)
        | Greater ↦ λ s less. absurd (true≢false (sym (ap is_lt less)))
      ] refl less
      | Greater ↦ λ r from. absurd (true≢false (sym from))
    ] refl from

less_of : (r : Ordering) → T (is_lt r) → r ≡ Less
less_of Less h = refl
less_of Equal h = absurd h
less_of Greater h = absurd h

all_out : (p x : Path) (slots : Slots) → is_le (path_cmp p x) ≡ true → is_within p x ≡ false → T (entries.below_all path_cmp x (keyed slots)) → are_outside p (from_on p slots) ≡ true
all_out p x [] from out h = refl
all_out p x (e ∷ slots) from out h =
    let rest = all_out p x slots from out (second _ _ h) in
    elim (is_le (path_cmp p e.0.items)) as (λ b. are_outside p (cond b (e ∷ from_on p slots) (from_on p slots)) ≡ true) [
      | true ↦ ap (λ w. not w && are_outside p (from_on p slots)) (behind_out p x e.0.items from out (less_of _ (first _ _ h))) ∙ rest
      | false ↦ rest
    ]

together_sorted : (p : Path) (slots : Slots) → T (entries.is_sorted path_cmp (keyed slots)) → stand_together p (from_on p slots) ≡ true
together_sorted p [] h = refl
together_sorted p (e ∷ slots) h =
    let rest = together_sorted p slots (second _ _ h) in
    let others = are_outside p (from_on p slots) in
    elim (is_le (path_cmp p e.0.items)) as (λ b. is_le (path_cmp p e.0.items) ≡ b → stand_together p (cond b (e ∷ from_on p slots) (from_on p slots)) ≡ true) [
      | true ↦ λ from. elim (is_within p e.0.items) as (λ w. is_within p e.0.items ≡ w → ((w || others) && stand_together p (from_on p slots)) ≡ true) [
        | true ↦ λ w. rest
        | false ↦ λ w. ap (λ b. b && stand_together p (from_on p slots)) (all_out p e.0.items slots from w (first _ _ h)) ∙ rest
      ] refl
      | false ↦ λ from. rest
    ] refl

pub from_together : (p : Path) (slots range : Slots) → IsStrictlySortedBy by_path (keys_of slots) → range ≡ from_on p slots → IsTrue (stand_together p range)
from_together p slots range h is = ap (stand_together p) is ∙ together_sorted p slots (sorted_keyed slots h)

pub rest_together : (p : Path) (e : Vec Name × Option Item) (range next : Slots) → range ≡ e ∷ next → IsTrue (stand_together p range) → IsTrue (stand_together p next)
rest_together p e range next is h = right_true (is_within p e.0.items || are_outside p next) (stand_together p next) (sym (ap (stand_together p) is) ∙ h)
  where
    right_true : (a b : Bool) → (a && b) ≡ true → b ≡ true
    right_true true b e = e
    right_true false b e = absurd (true≢false (sym e))

rest_outside : (p : Path) (e : Vec Name × Option Item) (next : Slots) → IsTrue (stand_together p (e ∷ next)) → is_within p e.0.items ≡ false → are_outside p (e ∷ next) ≡ true
rest_outside p e next h out =
    ap (λ w. not w && are_outside p next) out
    ∙ left_true (are_outside p next) (stand_together p next) (sym (ap (λ w. (w || are_outside p next) && stand_together p next) out) ∙ h)
  where
    left_true : (a b : Bool) → (a && b) ≡ true → a ≡ true
    left_true true b e = refl
    left_true false b e = e

not_true : (a b : Bool) → (not a && b) ≡ true → (a ≡ false) × (b ≡ true)
not_true true b e = absurd (true≢false (sym e))
not_true false b e = (refl, e)

-- the keys within a path
pub keys_from : (p : Path) (slots : Slots) → filter (is_within p) (map (λ e. e.0.items) (from_on p slots)) ≡ filter (is_within p) (map (λ e. e.0.items) slots)
keys_from p [] = refl
keys_from p (e ∷ slots) =
    let kept = filter (is_within p) (map (λ e. e.0.items) slots) in
    elim (is_le (path_cmp p e.0.items)) as (λ b. is_le (path_cmp p e.0.items) ≡ b → filter (is_within p) (map (λ e. e.0.items) (cond b (e ∷ from_on p slots) (from_on p slots))) ≡ cond (is_within p e.0.items) (e.0.items ∷ kept) kept) [
      | true ↦ λ from. ap (λ l. cond (is_within p e.0.items) (e.0.items ∷ l) l) (keys_from p slots)
      | false ↦ λ before. keys_from p slots ∙ ap (λ w. cond w (e.0.items ∷ kept) kept) (sym (before_out p e.0.items before))
    ] refl

keys_outside : (p : Path) (slots : Slots) → are_outside p slots ≡ true → filter (is_within p) (map (λ e. e.0.items) slots) ≡ []
keys_outside p [] h = refl
keys_outside p (e ∷ slots) h =
    let parts = not_true (is_within p e.0.items) (are_outside p slots) h in
    let kept = filter (is_within p) (map (λ e. e.0.items) slots) in
    ap (λ w. cond w (e.0.items ∷ kept) kept) parts.0 ∙ keys_outside p slots parts.1

pub keys_end : (p : Path) (e : Vec Name × Option Item) (range next : Slots) → range ≡ e ∷ next → IsTrue (stand_together p range) → is_within p e.0.items ≡ false → filter (is_within p) (map (λ e. e.0.items) range) ≡ []
keys_end p e range next is h out = keys_outside p range (ap (are_outside p) is ∙ rest_outside p e next (sym (ap (stand_together p) is) ∙ h) out)

pub keys_step : (p : Path) (e : Vec Name × Option Item) (range next : Slots) → range ≡ e ∷ next → is_within p e.0.items ≡ true → filter (is_within p) (map (λ e. e.0.items) range) ≡ e.0.items ∷ filter (is_within p) (map (λ e. e.0.items) next)
keys_step p e range next is within =
    let kept = filter (is_within p) (map (λ e. e.0.items) next) in
    ap (λ l. filter (is_within p) (map (λ e. e.0.items) l)) is ∙ ap (λ w. cond w (e.0.items ∷ kept) kept) within

-- the names in a place
no_line : (p key : Path) (o : Option Item) → is_within p key ≡ false → listing p key o ≡ None
no_line p key None out = refl
no_line p key (Some i) out = ap (λ n. listed n (node_of i)) (child_none_apart p key out)

names_past : (p : Path) (e : Vec Name × Option Item) (slots : Slots) → is_within p e.0.items ≡ false → names_in (store_of (e ∷ slots)) p ≡ names_in (store_of slots) p
names_past p e slots out = names_more p e.0 e.1 slots ∙ ap (λ l. option_to_list l ++ names_in (store_of slots) p) (no_line p e.0.items e.1 out)

pub names_from : (p : Path) (slots : Slots) → names_in (store_of (from_on p slots)) p ≡ names_in (store_of slots) p
names_from p [] = refl
names_from p (e ∷ slots) =
    elim (is_le (path_cmp p e.0.items)) as (λ b. is_le (path_cmp p e.0.items) ≡ b → names_in (store_of (cond b (e ∷ from_on p slots) (from_on p slots))) p ≡ names_in (store_of (e ∷ slots)) p) [
      | true ↦ λ from. names_more p e.0 e.1 (from_on p slots) ∙ ap (λ l. option_to_list (listing p e.0.items e.1) ++ l) (names_from p slots) ∙ sym (names_more p e.0 e.1 slots)
      | false ↦ λ before. names_from p slots ∙ sym (names_past p e slots (before_out p e.0.items before))
    ] refl

names_outside : (p : Path) (slots : Slots) → are_outside p slots ≡ true → names_in (store_of slots) p ≡ []
names_outside p [] h = names_none p
names_outside p (e ∷ slots) h =
    let parts = not_true (is_within p e.0.items) (are_outside p slots) h in
    names_past p e slots parts.0 ∙ names_outside p slots parts.1

pub names_end : (p : Path) (e : Vec Name × Option Item) (range next : Slots) → range ≡ e ∷ next → IsTrue (stand_together p range) → is_within p e.0.items ≡ false → names_in (store_of range) p ≡ []
names_end p e range next is h out = names_outside p range (ap (are_outside p) is ∙ rest_outside p e next (sym (ap (stand_together p) is) ∙ h) out)
