-- On lists made of one list for each number of a range.
use Rattle.std.proofs.Common.{◌≡◌, ◌≢◌, ◌⊎◌, inl, inr, zero, suc, ℕ, ◌+◌, ◌<◌, ◌≤◌, List, [], ◌∷◌, ◌++◌, length, map, filter, Bool, true, false, cond, refl, sym, ap, ◌∙◌, subst, arith, count_by, get_or, Contains}
use Rattle.std.specs.Prelude.{flat_map}
use Rattle.std.specs.List.{AllByRecursion as Each, range_with_len}
use Rattle.std.proofs.lemmas.Bool.{cases_eq}
use Rattle.std.proofs.lemmas.List.Concat.{flat_map-cons}
use Rattle.std.proofs.lemmas.List.{length-append}
use Rattle.std.proofs.lemmas.List.Elements.{Contains-append_cases, Contains-append_left, Contains-append_right}
use Rattle.services.proofs.kvs_rules_proofs.Asking.{contains_stands}
use Rattle.services.specs.kvs_rules.Sequence.{AreDistinct}
use Rattle.instance.proofs.Listing.{count-append, each_append}

-- where each list has one element that passes exactly if its number passes, as many elements pass as numbers do
pub counted_flat : {A : Type 0} (p : A → Bool) (q : ℕ → Bool) (f : ℕ → List A) → ((a : ℕ) → count_by p (f a) ≡ cond (q a) 1 0) → (ns : List ℕ) → count_by p (flat_map f ns) ≡ length (filter q ns)
counted_flat p q f each [] = refl
counted_flat p q f each (a ∷ ns) =
    ap (count_by p) (flat_map-cons f a ns) ∙ count-append p (f a) (flat_map f ns) ∙ ap (λ n. n + count_by p (flat_map f ns)) (each a) ∙ by (q a) (counted_flat p q f each ns)
  where
    by : (b : Bool) → count_by p (flat_map f ns) ≡ length (filter q ns) → cond b 1 0 + count_by p (flat_map f ns) ≡ length (cond b (a ∷ filter q ns) (filter q ns))
    by true e = let h : count_by p (flat_map f ns) ≡ length (filter q ns) = e in omega arith
    by false e = let h : count_by p (flat_map f ns) ≡ length (filter q ns) = e in omega arith

pub each_flat : {A : Type 0} (P : A → Type 0) (f : ℕ → List A) → ((a : ℕ) → Each P (f a)) → (ns : List ℕ) → Each P (flat_map f ns)
each_flat P f each [] = tt
each_flat P f each (a ∷ ns) = subst (Each P) (sym (flat_map-cons f a ns)) (each_append P (f a) (flat_map f ns) (each a) (each_flat P f each ns))

pub each_mapped : {A : Type 0} (P : A → Type 0) (f : ℕ → A) (from n : ℕ) → ((k : ℕ) → from ≤ k → P (f k)) → Each P (map f (range_with_len from n))
each_mapped P f from zero each = tt
each_mapped P f from (suc n) each = (each from (omega arith), each_mapped P f (from + 1) n (λ k low. each k (omega arith)))

-- only one of the lists has elements that pass
module _ {A : Type 0} (p : A → Bool) (f : ℕ → List A) (b : ℕ) (others : (a : ℕ) → a ≢ b → count_by p (f a) ≡ 0) where
  missed : (from n : ℕ) → b < from → count_by p (flat_map f (range_with_len from n)) ≡ 0
  missed from zero low = refl
  missed from (suc n) low =
      let head : count_by p (f from) ≡ 0 = others from (λ same. absurd (omega arith)) in
      let tail : count_by p (flat_map f (range_with_len (from + 1) n)) ≡ 0 = missed (from + 1) n (omega arith) in
      ap (count_by p) (flat_map-cons f from (range_with_len (from + 1) n)) ∙ count-append p (f from) (flat_map f (range_with_len (from + 1) n)) ∙ omega (arith, head, tail)

  pub counted_one : (from n : ℕ) → from ≤ b → b < from + n → count_by p (flat_map f (range_with_len from n)) ≡ count_by p (f b)
  counted_one from zero low high = absurd (omega arith)
  counted_one from (suc n) low high =
      ap (count_by p) (flat_map-cons f from (range_with_len (from + 1) n)) ∙ count-append p (f from) (flat_map f (range_with_len (from + 1) n)) ∙ elim (cases_eq from b) [
        | inl same ↦
            let tail : count_by p (flat_map f (range_with_len (from + 1) n)) ≡ 0 = missed (from + 1) n (omega arith) in
            let head : count_by p (f from) ≡ count_by p (f b) = ap (λ a. count_by p (f a)) same in
            omega (arith, head, tail)
        | inr other ↦
            let head : count_by p (f from) ≡ 0 = others from other in
            let tail : count_by p (flat_map f (range_with_len (from + 1) n)) ≡ count_by p (f b) = counted_one (from + 1) n (omega arith) (omega arith) in
            omega (arith, head, tail)
      ]

  pub counted_none : (from n : ℕ) → from + n ≤ b → count_by p (flat_map f (range_with_len from n)) ≡ 0
  counted_none from zero high = refl
  counted_none from (suc n) high =
      let head : count_by p (f from) ≡ 0 = others from (λ same. absurd (omega arith)) in
      let tail : count_by p (flat_map f (range_with_len (from + 1) n)) ≡ 0 = counted_none (from + 1) n (omega arith) in
      ap (count_by p) (flat_map-cons f from (range_with_len (from + 1) n)) ∙ count-append p (f from) (flat_map f (range_with_len (from + 1) n)) ∙ omega (arith, head, tail)

-- what one of the lists contains
pub contained_flat : {A : Type 0} (f : ℕ → List A) (x : A) (b from n : ℕ) → from ≤ b → b < from + n → Contains (f b) x → Contains (flat_map f (range_with_len from n)) x
contained_flat f x b from zero low high at = absurd (omega arith)
contained_flat f x b from (suc n) low high at =
    subst (λ l. Contains l x) (sym (flat_map-cons f from (range_with_len (from + 1) n))) (elim (cases_eq from b) [
      | inl same ↦ Contains-append_left (f from) (flat_map f (range_with_len (from + 1) n)) x (subst (λ a. Contains (f a) x) (sym same) at)
      | inr other ↦ Contains-append_right (f from) (flat_map f (range_with_len (from + 1) n)) x (contained_flat f x b (from + 1) n (omega arith) (omega arith) at)
    ])

-- what is made of the numbers that pass
pub each_passed : {A : Type 0} (P : A → Type 0) (f : ℕ → A) (q : ℕ → Bool) (ns : List ℕ) → ((a : ℕ) → q a ≡ true → P (f a)) → Each P (map f (filter q ns))
each_passed P f q [] each = tt
each_passed P f q (a ∷ ns) each = by (q a) refl (each_passed P f q ns each)
  where
    by : (b : Bool) → q a ≡ b → Each P (map f (filter q ns)) → Each P (map f (cond b (a ∷ filter q ns) (filter q ns)))
    by true t rest = (each a t, rest)
    by false t rest = rest

low_mapped : {A : Type 0} (f : ℕ → A) (q : ℕ → Bool) (x : A) (from n : ℕ) → ((k : ℕ) → from ≤ k → x ≢ f k) → Each (λ y. x ≢ y) (map f (filter q (range_with_len from n)))
low_mapped f q x from zero apart = tt
low_mapped f q x from (suc n) apart = by (q from) (low_mapped f q x (from + 1) n (λ k low. apart k (omega arith)))
  where
    by : (b : Bool) → Each (λ y. x ≢ y) (map f (filter q (range_with_len (from + 1) n))) → Each (λ y. x ≢ y) (map f (cond b (from ∷ filter q (range_with_len (from + 1) n)) (filter q (range_with_len (from + 1) n))))
    by true rest = (apart from (omega arith), rest)
    by false rest = rest

-- different numbers make different things
pub distinct_passed : {A : Type 0} (f : ℕ → A) (q : ℕ → Bool) → ((a b : ℕ) → f a ≡ f b → a ≡ b) → (from n : ℕ) → AreDistinct (map f (filter q (range_with_len from n)))
distinct_passed f q once from zero = tt
distinct_passed f q once from (suc n) = by (q from) (distinct_passed f q once (from + 1) n)
  where
    by : (b : Bool) → AreDistinct (map f (filter q (range_with_len (from + 1) n))) → AreDistinct (map f (cond b (from ∷ filter q (range_with_len (from + 1) n)) (filter q (range_with_len (from + 1) n))))
    by true rest = (low_mapped f q (f from) (from + 1) n (λ k low same. let e : from ≡ k = once from k same in absurd (omega arith)), rest)
    by false rest = rest

-- of the things that so many numbers make, as many pass as numbers do that are this one
pub counted_range : {A : Type 0} (p : A → Bool) (f : ℕ → A) (b : ℕ) → ((k : ℕ) → k ≢ b → p (f k) ≡ false) → p (f b) ≡ true → (from n : ℕ) →
    ((b < from) ⊎ (from + n ≤ b) → count_by p (map f (range_with_len from n)) ≡ 0) × (from ≤ b → b < from + n → count_by p (map f (range_with_len from n)) ≡ 1)
counted_range p f b others own from zero = (λ out. refl, λ low high. absurd (omega arith))
counted_range p f b others own from (suc n) = by (cases_eq from b) (counted_range p f b others own (from + 1) n)
  where
    split : count_by p (map f (range_with_len from (suc n))) ≡ (0 + cond (p (f from)) 1 0) + count_by p (map f (range_with_len (from + 1) n))
    split = count-append p (f from ∷ []) (map f (range_with_len (from + 1) n))

    by : (from ≡ b) ⊎ (from ≢ b) → ((b < from + 1) ⊎ ((from + 1) + n ≤ b) → count_by p (map f (range_with_len (from + 1) n)) ≡ 0) × (from + 1 ≤ b → b < (from + 1) + n → count_by p (map f (range_with_len (from + 1) n)) ≡ 1) →
        ((b < from) ⊎ (from + suc n ≤ b) → count_by p (map f (range_with_len from (suc n))) ≡ 0) × (from ≤ b → b < from + suc n → count_by p (map f (range_with_len from (suc n))) ≡ 1)
    by (inl same) again =
        let head : p (f from) ≡ true = ap (λ k. p (f k)) same ∙ own in
        let one : ◌≡◌ {A = ℕ} (cond (p (f from)) 1 0) 1 = ap (λ b. cond {A = ℕ} b 1 0) head in
        let tail : count_by p (map f (range_with_len (from + 1) n)) ≡ 0 = again.0 (inl (omega arith)) in
        (λ out. elim out [ inl low ↦ absurd (omega arith) | inr high ↦ absurd (omega arith) ], λ low high. split ∙ omega (arith, one, tail))
    by (inr other) again =
        let one : ◌≡◌ {A = ℕ} (cond (p (f from)) 1 0) 0 = ap (λ b. cond {A = ℕ} b 1 0) (others from other) in (
          λ out. let tail : count_by p (map f (range_with_len (from + 1) n)) ≡ 0 = again.0 (elim out [ inl low ↦ inl (omega arith) | inr high ↦ inr (omega arith) ]) in split ∙ omega (arith, one, tail),
          λ low high. let tail : count_by p (map f (range_with_len (from + 1) n)) ≡ 1 = again.1 (omega arith) (omega arith) in split ∙ omega (arith, one, tail),
        )

-- one number more
pub range_more : (from n : ℕ) → range_with_len from (suc n) ≡ range_with_len from n ++ (from + n) ∷ []
range_more from zero = let e : from ≡ from + 0 = omega arith in ap (λ (k : ℕ). k ∷ []) e
range_more from (suc n) =
    let e : (from + 1) + n ≡ from + suc n = omega arith in
    ap (λ (l : List ℕ). from ∷ l) (range_more (from + 1) n ∙ ap (λ (k : ℕ). range_with_len (from + 1) n ++ k ∷ []) e)

pub first_more : (n : ℕ) → range_with_len 0 (n + 1) ≡ range_with_len 0 n ++ n ∷ []
first_more n =
    let one : n + 1 ≡ suc n = omega arith in
    let e : 0 + n ≡ n = omega arith in
    ap (range_with_len 0) one ∙ range_more 0 n ∙ ap (λ (k : ℕ). range_with_len 0 n ++ k ∷ []) e

pub passed_more : (q : ℕ → Bool) (n : ℕ) → length (filter q (range_with_len 0 (n + 1))) ≡ length (filter q (range_with_len 0 n)) + cond (q n) 1 0
passed_more q n = ap (λ l. length (filter q l)) (first_more n) ∙ on (range_with_len 0 n) n
  where
    on : (ns : List ℕ) (a : ℕ) → length (filter q (ns ++ a ∷ [])) ≡ length (filter q ns) + cond (q a) 1 0
    on [] a = by (q a)
      where
        by : (b : Bool) → length (cond b (a ∷ []) []) ≡ 0 + cond b 1 0
        by true = refl
        by false = refl
    on (x ∷ ns) a = by (q x) (on ns a)
      where
        by : (b : Bool) → length (filter q (ns ++ a ∷ [])) ≡ length (filter q ns) + cond (q a) 1 0 →
            length (cond b (x ∷ filter q (ns ++ a ∷ [])) (filter q (ns ++ a ∷ []))) ≡ length (cond b (x ∷ filter q ns) (filter q ns)) + cond (q a) 1 0
        by true e = let h : length (filter q (ns ++ a ∷ [])) ≡ length (filter q ns) + cond (q a) 1 0 = e in omega arith
        by false e = e

pub passed_low : (q : ℕ → Bool) (n : ℕ) → length (filter q (range_with_len 0 n)) ≤ n
passed_low q zero = omega arith
passed_low q (suc n) =
    let more : length (filter q (range_with_len 0 (n + 1))) ≡ length (filter q (range_with_len 0 n)) + cond (q n) 1 0 = passed_more q n in
    let same : length (filter q (range_with_len 0 (suc n))) ≡ length (filter q (range_with_len 0 (n + 1))) = ap (λ k. length (filter q (range_with_len 0 k))) (one_more n) in
    let low : length (filter q (range_with_len 0 n)) ≤ n = passed_low q n in
    let one : cond (q n) 1 0 ≤ 1 = by (q n) in
    omega arith
  where
    one_more : (n : ℕ) → suc n ≡ n + 1
    one_more n = omega arith

    by : (b : Bool) → cond b 1 0 ≤ 1
    by true = omega arith
    by false = omega arith

-- a list without repetition whose elements stand in another is not longer:

-- it stands in the list without an element that it is not
left_in : {A : Type 0} (before after : List A) (x y : A) → x ≢ y → Contains (before ++ x ∷ after) y → Contains (before ++ after) y
left_in before after x y apart h = elim (Contains-append_cases before (x ∷ after) y h) [
  | inl l ↦ Contains-append_left before after y l
  | inr r ↦ elim (Contains-append_cases (x ∷ []) after y r) [
    | inl own ↦ absurd (apart (sym (only x y own)))
    | inr rest ↦ Contains-append_right before after y rest
  ]
]
  where
    only : {A : Type 0} (x y : A) → Contains (x ∷ []) y → y ≡ x
    only x y h = at h.0 h.1 h.2
      where
        at : (k : ℕ) → k < 1 → get_or (x ∷ []) k y ≡ y → y ≡ x
        at zero low e = sym e
        at (suc k) low e = absurd (omega arith)

each_left : {A : Type 0} (ys before behind : List A) (x : A) → ys ≡ before ++ x ∷ behind → (zs : List A) → Each (λ y. x ≢ y) zs → Each (Contains ys) zs → Each (Contains (before ++ behind)) zs
each_left ys before behind x split [] d h = tt
each_left ys before behind x split (z ∷ zs) d h = (left_in before behind x z d.0 (subst (λ l. Contains l z) split h.0), each_left ys before behind x split zs d.1 h.1)

pub no_more_than : {A : Type 0} (xs ys : List A) → AreDistinct xs → Each (Contains ys) xs → length xs ≤ length ys
no_more_than [] ys d h = omega arith
no_more_than (x ∷ xs) ys d h =
    let cut = contains_stands ys x h.0 in
    let rest : length xs ≤ length (cut.before ++ cut.behind) = no_more_than xs (cut.before ++ cut.behind) d.1 (each_left ys cut.before cut.behind x cut.split xs d.0 h.1) in
    let long : length ys ≡ length (cut.before ++ x ∷ cut.behind) = ap length cut.split in
    omega (arith, rest, long, length-append cut.before (x ∷ cut.behind), length-append cut.before cut.behind)
