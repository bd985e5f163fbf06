-- Walks over the instances and the actors of a run.
use Rattle.std.proofs.Common.{◌≡◌, ◌∙◌, inl, inr, ℕ, ◌+◌, ◌<◌, ◌≤◌, List, [], ◌∷◌, ◌++◌, Bool, true, false, ◌||◌, Option, length, get_or, take, drop, min, sym, ap, subst, arith}
use Rattle.std.specs.Prelude.{Ok, Err, Some, None, flat_map, slice_get}
use Rattle.std.specs.List.{enumerate_from, list_any}
use Rattle.std.proofs.lemmas.Bool.{cases_lt}
use Rattle.std.proofs.lemmas.List.{append-nil, drop_all, drop_more, take_all, take_more}
use Rattle.std.proofs.lemmas.List.Concat.{flat_map-append}
use Rattle.std.proofs.lemmas.List.FromFn.{get_or-enumerate_from}
use Rattle.std.proofs.lemmas.List.Folds.{list_any_at, list_any_more}
use Rattle.std.proofs.lemmas.Option.{slice_get-get_or, slice_get_within}
use Rattle.instance.specs.job_book.Seconds.{IsSoonest}
use Rattle.instance.proofs.job_rules_proofs.Among.{all_at, all_from, among_append, among_from, among_left, among_right, contains_from}
use Rattle.instance.specs.kvs_keys.Walk.{nth}
use Rattle.instance.proofs.kvs_keys_proofs.Walking.{behind, within}
use Rattle.instance.specs.manager_rules.Times.{IsLeast}
use Rattle.homes.proofs.Standing.{same_item}
use Rattle.homes.specs.Tells.{EachLiving}
use Rattle.homes.specs.declared.homes.Home.{Home}

-- ---- one item more

module _ {X : Type 0} (xs : List X) (n : ℕ) (x : X) (low : n < length xs) (is : x ≡ get_or xs n x) where
  pub item_here : slice_get xs n ≡ Some x
  item_here = slice_get-get_or xs n x low ∙ ap Some (sym is)

  pub item_is : (y : X) → slice_get xs n ≡ Some y → y ≡ x
  item_is y e = (let both : Some y ≡ Some x = sym e ∙ item_here in cc)

  more_is : take (n + 1) xs ≡ take n xs ++ x ∷ []
  more_is = take_more xs n x low ∙ ap (λ y. take n xs ++ y ∷ []) (sym is)

  pub any_more : (test : X → Bool) → list_any test (take n xs) ≡ false → test x ≡ false → list_any test (take (n + 1) xs) ≡ false
  any_more test none off = list_any_more test xs n x low ∙ ap (λ b. b || test (get_or xs n x)) none ∙ ap test (sym is) ∙ off

  pub any_here : (test : X → Bool) → test x ≡ true → list_any test xs ≡ true
  any_here test on = list_any_at test xs n x low (ap test (sym is) ∙ on)

  pub flat_more : {Y : Type 0} (f : X → List Y) → flat_map f (take (n + 1) xs) ≡ flat_map f (take n xs) ++ f x
  flat_more f = ap (flat_map f) more_is ∙ flat_map-append f (take n xs) (x ∷ []) ∙ ap (λ ys. flat_map f (take n xs) ++ ys) (append-nil (f x))

  module _ {Y : Type 0} (f : X → List Y) (number : ℕ) where
    left_is : flat_map f (drop n xs) ≡ f x ++ flat_map f (drop (n + 1) xs)
    left_is = ap (flat_map f) (drop_more xs n x low) ∙ ap (λ y. f y ++ flat_map f (drop (n + 1) xs)) (sym is)

    pub walk_more : (left : ℕ) → nth (f x) number ≡ Err left → nth (flat_map f (drop (n + 1) xs)) left ≡ nth (flat_map f (drop n xs)) number
    walk_more left e = sym (ap (λ ys. nth ys number) left_is ∙ behind (f x) (flat_map f (drop (n + 1) xs)) number left e)

    pub walk_here : (y : Y) → nth (f x) number ≡ Ok y → Ok y ≡ nth (flat_map f (drop n xs)) number
    walk_here y e = sym (ap (λ ys. nth ys number) left_is ∙ within (f x) (flat_map f (drop (n + 1) xs)) number y e)

pub walk_end : {X Y : Type 0} (xs : List X) (n : ℕ) (f : X → List Y) (number : ℕ) → length xs ≤ n → Err number ≡ nth (flat_map f (drop n xs)) number
walk_end xs n f number high = sym (ap (λ ys. nth (flat_map f ys) number) (drop_all n xs high))

-- the instances with their numbers
pub enumerated : {X : Type 0} (xs : List X) (n : ℕ) (x : X) → slice_get xs n ≡ Some x → (n, x) ≡ get_or (enumerate_from 0 xs) n (n, x)
enumerated {X} xs n x e =
    let low = slice_get_within xs n x e in
    let zeroth : 0 + n ≡ n = omega arith in
    let same : get_or xs n x ≡ x = same_item (get_or xs n x) x (sym (slice_get-get_or xs n x low) ∙ e) in
    sym (get_or-enumerate_from 0 xs n (n, x) low ∙ ap (λ k. (k, get_or xs n x)) zeroth ∙ ap (λ y. (n, y)) same)

pub any_all : {X : Type 0} (test : X → Bool) (xs : List X) (n : ℕ) → length xs ≤ n → list_any test (take n xs) ≡ false → list_any test xs ≡ false
any_all test xs n high none = sym (ap (list_any test) (take_all n xs high)) ∙ none

-- ---- those that live

-- P of each of the first ones that lives
abbrev pub LivingBelow : (Home → Type 0) → List Home → ℕ → Type 0
LivingBelow P homes n = (i : ℕ) (h : Home) → i < n → slice_get homes i ≡ Some h → h.gone ≡ false → P h

pub living_more : (P : Home → Type 0) (homes : List Home) (n : ℕ) (x : Home) → n < length homes → x ≡ get_or homes n x → LivingBelow P homes n → (x.gone ≡ false → P x) → LivingBelow P homes (n + 1)
living_more P homes n x low is below here = λ i h less e living. elim (cases_lt i n) [
  | inl before ↦ below i h before e living
  | inr high ↦
      let at : i ≡ n = omega (arith, less, high) in
      let same : h ≡ x = item_is homes n x low is h (ap (slice_get homes) (sym at) ∙ e) in
      subst P (sym same) (here (ap (λ y. y.gone) (sym same) ∙ living))
]

pub living_all : (P : Home → Type 0) (homes : List Home) (n : ℕ) → length homes ≤ n → LivingBelow P homes n → EachLiving P homes
living_all P homes n high below = λ i h e living. (let low = slice_get_within homes i h e in below i h (omega (arith, low, high)) e living)

-- ---- the least of two lists

least_left : (xs ys : List ℕ) (a : ℕ) → IsLeast xs a → ys ≡ [] → IsLeast (xs ++ ys) a
least_left xs ys a l none = subst (λ zs. IsLeast zs a) (sym (ap (λ zs. xs ++ zs) none ∙ append-nil xs)) l

least_both : (xs ys : List ℕ) (a b : ℕ) → IsLeast xs a → IsLeast ys b → IsLeast (xs ++ ys) (min a b)
least_both xs ys a b l m = elim (cases_lt a b) [
  | inl low ↦
      let is : min a b ≡ a = omega (arith, low) in
      subst (IsLeast (xs ++ ys)) (sym is) (record {
        one = contains_from (xs ++ ys) a (among_left xs ys a (among_from xs a l.one));
        least = all_from (λ o. a ≤ o) (xs ++ ys) (λ o i. elim (among_append xs ys o i) [
          | inl j ↦ all_at (λ o. a ≤ o) xs o l.least j
          | inr j ↦ let more : b ≤ o = all_at (λ o. b ≤ o) ys o m.least j in omega (arith, low, more)
        ]);
      })
  | inr high ↦
      let is : min a b ≡ b = omega (arith, high) in
      subst (IsLeast (xs ++ ys)) (sym is) (record {
        one = contains_from (xs ++ ys) b (among_right xs ys b (among_from ys b m.one));
        least = all_from (λ o. b ≤ o) (xs ++ ys) (λ o i. elim (among_append xs ys o i) [
          | inl j ↦ let more : a ≤ o = all_at (λ o. a ≤ o) xs o l.least j in omega (arith, high, more)
          | inr j ↦ all_at (λ o. b ≤ o) ys o m.least j
        ]);
      })
]

pub soonest_both : (xs ys : List ℕ) (a b : ℕ) → IsSoonest xs (Some a) → IsSoonest ys (Some b) → IsSoonest (xs ++ ys) (Some (min a b))
soonest_both xs ys a b l m = least_both xs ys a b l m

pub soonest_left : (xs ys : List ℕ) (a : ℕ) → IsSoonest xs (Some a) → IsSoonest ys None → IsSoonest (xs ++ ys) (Some a)
soonest_left xs ys a l none = least_left xs ys a l none

pub soonest_right : (xs ys : List ℕ) (o : Option ℕ) → IsSoonest xs None → IsSoonest ys o → IsSoonest (xs ++ ys) o
soonest_right xs ys o none l = subst (λ zs. IsSoonest (zs ++ ys) o) (sym none) l

-- one that has gone has no seconds
pub soonest_past : (xs ys : List ℕ) (o : Option ℕ) → ys ≡ [] → IsSoonest xs o → IsSoonest (xs ++ ys) o
soonest_past xs ys o none l = subst (λ zs. IsSoonest zs o) (sym (ap (λ zs. xs ++ zs) none ∙ append-nil xs)) l
