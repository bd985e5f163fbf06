-- The issues that can be made, by number.
use Rattle.std.proofs.Common.{◌≡◌, ◌∙◌, ℕ, zero, suc, ◌+◌, ◌-◌, ◌<◌, ◌≤◌, inl, inr, List, [], ◌∷◌, true, refl, ap, ap₂, sym, subst, arith, get_or, length}
use Rattle.std.specs.Prelude.{Option, Some, None, Ok, Err, filter_map}
use Rattle.std.specs.Option.{option_map_or}
use Rattle.std.proofs.lemmas.Option.{slice_get-get_or}
use Rattle.std.specs.List.{range_with_len}
use Rattle.std.proofs.lemmas.Bool.{cases_eq}
use Rattle.services.specs.kvs_keys.Walk.{nth}
use Rattle.services.specs.workload.declared.work.Line.{Line}
use Rattle.instance.specs.Order.{issue_of, issues}
use Rattle.instance.specs.declared.seats.Seat.{Seat}
use Rattle.instance.specs.Steps.{can_issue, has_issue, next_of}
use Rattle.instance.specs.Value.{InstanceValue}
use Rattle.instance.proofs.Ordering.{HaveNext, line-gives, no-issue}

-- the numbers from one on: what the first that gives something gives, and then what those behind it give
jumped_over : {X : Type 0} (f : ℕ → Option X) (x : X) (k a n : ℕ) → a ≤ k → k < a + n → f k ≡ Some x → ((j : ℕ) → a ≤ j → j < k → f j ≡ None) →
    filter_map f (range_with_len a n) ≡ x ∷ filter_map f (range_with_len (k + 1) ((a + n) - (k + 1)))
jumped_over f x k a zero low high gives none = absurd (omega arith)
jumped_over f x k a (suc n) low high gives none =
    elim (cases_eq a k) [
      | inl e ↦
          let first : a + 1 ≡ k + 1 = omega (arith, e) in
          let rest : n ≡ (a + suc n) - (k + 1) = omega (arith, e) in
          rw (ap f e ∙ gives) (ap₂ (λ p q. x ∷ filter_map f (range_with_len p q)) first rest)
      | inr ne ↦
          let rest : ((a + 1) + n) - (k + 1) ≡ (a + suc n) - (k + 1) = omega arith in
          rw (none a (omega arith) (omega arith)) (jumped_over f x k (a + 1) n (omega arith) (omega arith) gives (λ j l h. none j (omega arith) h)
          ∙ ap (λ q. x ∷ filter_map f (range_with_len (k + 1) q)) rest)
    ]

pub jumped : {X : Type 0} (f : ℕ → Option X) (x : X) (k from size : ℕ) → from ≤ k → k < size → f k ≡ Some x → ((j : ℕ) → from ≤ j → j < k → f j ≡ None) →
    filter_map f (range_with_len from (size - from)) ≡ x ∷ filter_map f (range_with_len (k + 1) (size - (k + 1)))
jumped f x k from size low high gives none =
    let all : from + (size - from) ≡ size = omega arith in
    jumped_over f x k from (size - from) low (omega arith) gives none ∙ ap (λ q. x ∷ filter_map f (range_with_len (k + 1) (q - (k + 1)))) all

none_from : {X : Type 0} (f : ℕ → Option X) (a n : ℕ) → ((j : ℕ) → a ≤ j → f j ≡ None) → filter_map f (range_with_len a n) ≡ []
none_from f a zero none = refl
none_from f a (suc n) none = rw (none a (omega arith)) (none_from f (a + 1) n (λ j l. none j (omega arith)))

module _ (lines : List Line) (v : InstanceValue) where
  -- the issues of the lines from one on
  abbrev pub issues_from : ℕ → List ℕ
  issues_from from = filter_map (issue_of lines v.seats) (range_with_len from (length lines - from))

  -- the issue that comes first from a line on
  pub record IsNext (from actor : ℕ) : Type 0 where
    pub can : can_issue lines v actor ≡ true
    pub low : from ≤ next_of v.seats actor
    pub first : (other : ℕ) → can_issue lines v other ≡ true → from ≤ next_of v.seats other → next_of v.seats actor ≤ next_of v.seats other

  module _ (placed : HaveNext lines v.seats) (from actor left number : ℕ) (is : IsNext from actor)
      (so-far : nth (issues_from from) left ≡ nth (issues lines v) number) where
    next-issue : issues_from from ≡ actor ∷ issues_from (next_of v.seats actor + 1)
    next-issue =
        let there = line-gives lines v placed actor is.can in
        jumped (issue_of lines v.seats) actor (next_of v.seats actor) from (length lines) is.low there.0 there.1
        (λ j l h. no-issue lines v j (λ other inside issued next. let le = is.first other issued (omega (arith, next, l)) in omega (arith, le, next, h)))

    pub issue-here : left ≡ 0 → Ok actor ≡ nth (issues lines v) number
    issue-here none =
        ap (λ n. nth (actor ∷ issues_from (next_of v.seats actor + 1)) n) (sym none) ∙ ap (λ xs. nth xs left) (sym next-issue) ∙ so-far

    pub issue-behind : (more next : ℕ) → suc more ≡ left → next ≡ next_of v.seats actor → nth (issues_from (next + 1)) more ≡ nth (issues lines v) number
    issue-behind more next one same =
        ap (λ n. nth (issues_from (n + 1)) more) same ∙ ap (λ n. nth (actor ∷ issues_from (next_of v.seats actor + 1)) n) one ∙ ap (λ xs. nth xs left) (sym next-issue) ∙ so-far

  pub no-issue-left : (from left number : ℕ) → ((other : ℕ) → can_issue lines v other ≡ true → next_of v.seats other < from) → nth (issues_from from) left ≡ nth (issues lines v) number → Err left ≡ nth (issues lines v) number
  no-issue-left from left number none so-far =
      let all : issues_from from ≡ [] = none_from (issue_of lines v.seats) from (length lines - from)
      (λ j l. no-issue lines v j (λ other inside issued is. let low = none other issued in absurd (omega (arith, is, l, low)))) in
      ap (λ xs. nth xs left) (sym all) ∙ so-far

  pub line-within : HaveNext lines v.seats → (actor : ℕ) → can_issue lines v actor ≡ true → next_of v.seats actor < length lines
  line-within placed actor can = (line-gives lines v placed actor can).0

-- what the code knows of the issue that comes first
pub next-at : (lines : List Line) (v : InstanceValue) {w : InstanceValue} (count : ℕ) (seats : List Seat) (from actor : ℕ) → v ≡ w → count ≡ length lines → seats ≡ v.seats →
    (has_issue count seats actor ≡ true) × (from ≤ next_of seats actor) →
    ((other : ℕ) → has_issue count seats other ≡ true → from ≤ next_of seats other → next_of seats actor ≤ next_of seats other) → IsNext lines w from actor
next-at lines v count seats from actor same el es some first = subst (λ x. IsNext lines x from actor) same (record {
  can = subst (λ n. has_issue n v.seats actor ≡ true) el (subst (λ ss. has_issue count ss actor ≡ true) es some.0);
  low = subst (λ ss. from ≤ next_of ss actor) es some.1;
  first = subst (λ n. (other : ℕ) → has_issue n v.seats other ≡ true → from ≤ next_of v.seats other → next_of v.seats actor ≤ next_of v.seats other) el
      (subst (λ ss. (other : ℕ) → has_issue count ss other ≡ true → from ≤ next_of ss other → next_of ss actor ≤ next_of ss other) es first);
})

pub none-at : (lines : List Line) (v : InstanceValue) {w : InstanceValue} (count : ℕ) (seats : List Seat) (from : ℕ) → v ≡ w → count ≡ length lines → seats ≡ v.seats →
    ((other : ℕ) → has_issue count seats other ≡ true → next_of seats other < from) → (other : ℕ) → can_issue lines w other ≡ true → next_of w.seats other < from
none-at lines v count seats from same el es none = subst (λ x. (other : ℕ) → can_issue lines x other ≡ true → next_of x.seats other < from) same
    (subst (λ n. (other : ℕ) → has_issue n v.seats other ≡ true → next_of v.seats other < from) el
    (subst (λ ss. (other : ℕ) → has_issue count ss other ≡ true → next_of ss other < from) es none))

-- the line of a seat's next command
pub next-here : (seats : List Seat) (actor : ℕ) (seat : Seat) → actor < length seats → seat ≡ get_or seats actor seat → seat.next ≡ next_of seats actor
next-here seats actor seat within same =
    ap (λ x. x.next) same ∙ sym (ap (λ o. option_map_or (λ x. x.next) o 0) (slice_get-get_or seats actor seat within))
