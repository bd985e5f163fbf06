-- On the order of steps: the first of a list that passes a test, and the link that comes first.
use Rattle.std.proofs.Common.{◌≡◌, ℕ, suc, zero, ◌+◌, ◌<◌, ◌≤◌, ◌⊎◌, inl, inr, List, [], ◌∷◌, ◌++◌, length, map, Bool, true, false, Option, Some, None, IfSome, refl, sym, ap, ◌∙◌, subst, arith, true≢false, get_or}
use Rattle.std.specs.Prelude.{slice_get, flat_map}
use Rattle.std.specs.List.{filter, list_any, position, range_with_len}
use Rattle.std.proofs.lemmas.Bool.{cases_eq}
use Rattle.std.proofs.lemmas.List.Elements.{filter-append}
use Rattle.kvs_rules.specs.declared.events.KvsStep.{KvsStep}
use Rattle.kvs_rules.specs.declared.events.KvsStep.TheVariants as kvs
use Rattle.kvs_keys.specs.declared.order.Hop.{Hop}
use Rattle.kvs_keys.specs.Order.{Leads}
use Rattle.kvs_space.proofs.Finding.{none-passes, found-within, found-passes}

-- what led a link still leads what that led
pub leads-past : (new old : Option Hop) (from to : ℕ) → IfSome old (λ hop. Leads new hop.from hop.to) → Leads old from to → Leads new from to
leads-past new None from to h led = absurd led
leads-past None (Some hop) from to h led = absurd h
leads-past (Some first) (Some hop) from to h led = grind arith

-- what passes somewhere passes at a place
pub any-at : {X : Type 0} (p : X → Bool) (xs : List X) → list_any p xs ≡ true → (k : ℕ) × (k < length xs) × ((d : X) → p (get_or xs k d) ≡ true)
any-at {X = X} p xs h = by (position p xs) refl
  where
    by : (o : Option ℕ) → position p xs ≡ o → (k : ℕ) × (k < length xs) × ((d : X) → p (get_or xs k d) ≡ true)
    by None e = absurd (true≢false (sym h ∙ none-passes p xs e))
    by (Some i) e = (i, found-within p xs i (sym e), λ d. found-passes p xs i d (sym e))

-- the first of two lists is that of the first, where something passes there
pub first-front : {X : Type 0} (p : X → Bool) (xs ys : List X) (x : X) → slice_get (filter p xs) 0 ≡ Some x → slice_get (filter p (xs ++ ys)) 0 ≡ Some x
first-front p xs ys x e = rw filter-append (by (filter p xs) (filter p ys) e)
  where
    by : (as₀ bs : List _) → slice_get as₀ 0 ≡ Some x → slice_get (as₀ ++ bs) 0 ≡ Some x
    by [] bs e = cc
    by (a ∷ as₀) bs e = e

-- and otherwise that of the second
pub first-behind : {X : Type 0} (p : X → Bool) (xs ys : List X) → filter p xs ≡ [] → slice_get (filter p (xs ++ ys)) 0 ≡ slice_get (filter p ys) 0
first-behind p xs ys e = rw (filter-append, e) refl

pub none-of : {X : Type 0} (p : X → Bool) (f : ℕ → X) → ((n : ℕ) → p (f n) ≡ false) → (ns : List ℕ) → filter p (map f ns) ≡ []
none-of p f fails [] = refl
none-of p f fails (n ∷ ns) = rw (fails n) (none-of p f fails ns)

-- of the numbers from a on, the first that passes
pub first-range : {X : Type 0} (p : X → Bool) (f : ℕ → X) (k a n : ℕ) → a ≤ k → k < a + n → p (f k) ≡ true → ((j : ℕ) → j < k → p (f j) ≡ false) → slice_get (filter p (map f (range_with_len a n))) 0 ≡ Some (f k)
first-range p f k a zero low high passes fails = absurd (omega arith)
first-range p f k a (suc n) low high passes fails =
    elim (cases_eq a k) [
      | inl e ↦ rw (ap (λ j. p (f j)) e ∙ passes) (ap (λ j. Some (f j)) e)
      | inr ne ↦ rw (fails a (omega arith)) (first-range p f k (a + 1) n (omega arith) (omega arith) passes fails)
    ]

-- no delivery passes
pub no-link : (p : KvsStep → Bool) → ((from to : ℕ) → p (kvs.Deliver from to) ≡ false) → (tos froms : List ℕ) → filter p (flat_map (λ from. map (kvs.Deliver from) tos) froms) ≡ []
no-link p fails tos [] = refl
no-link p fails tos (from ∷ froms) = rw (filter-append, none-of p (kvs.Deliver from) (fails from) tos) (no-link p fails tos froms)

-- of the deliveries, the first that passes
pub first-link : (p : KvsStep → Bool) (size from to a n : ℕ) → a ≤ from → from < a + n → to < size → p (kvs.Deliver from to) ≡ true → ((x y : ℕ) → p (kvs.Deliver x y) ≡ true → (from < x) ⊎ ((from ≡ x) × (to ≤ y))) → slice_get (filter p (flat_map (λ x. map (kvs.Deliver x) (range_with_len 0 size)) (range_with_len a n))) 0 ≡ Some (kvs.Deliver from to)
first-link p size from to a zero low high within passes led = absurd (omega arith)
first-link p size from to a (suc n) low high within passes led =
    elim (cases_eq a from) [
      | inl e ↦ first-front p _ _ _ (subst (λ x. slice_get (filter p (map (kvs.Deliver x) (range_with_len 0 size))) 0 ≡ Some (kvs.Deliver from to)) (sym e) (first-range p (kvs.Deliver from) to 0 size (omega arith) (omega arith) passes (λ y l. fails y l)))
      | inr ne ↦ first-behind p _ _ (none-of p (kvs.Deliver a) (λ y. before a y (omega arith)) _) ∙ first-link p size from to (a + 1) n (omega arith) (omega arith) within passes led
    ]
  where
    fails : (y : ℕ) → y < to → p (kvs.Deliver from y) ≡ false
    fails y l = by (p (kvs.Deliver from y)) refl
      where
        by : (b : Bool) → p (kvs.Deliver from y) ≡ b → p (kvs.Deliver from y) ≡ false
        by false e = e
        by true e = absurd (let h = led from y e in grind arith)

    before : (x y : ℕ) → x < from → p (kvs.Deliver x y) ≡ false
    before x y l = by (p (kvs.Deliver x y)) refl
      where
        by : (b : Bool) → p (kvs.Deliver x y) ≡ b → p (kvs.Deliver x y) ≡ false
        by false e = e
        by true e = absurd (let h = led x y e in grind arith)
