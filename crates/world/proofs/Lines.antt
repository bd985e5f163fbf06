-- The issues that can be made, by line and by number.
use Rattle.std.proofs.Common.{◌≡◌, ◌∙◌, ℕ, zero, suc, ◌+◌, ◌-◌, ◌<◌, ◌≤◌, ◌==◌, ◌&&◌, inl, inr, List, [], ◌∷◌, Bool, true, false, refl, ap, ap₂, sym, subst, arith, get_or, length, map, true≢false}
use Rattle.std.specs.Prelude.{Option, Some, None, Ok, Err, filter_map, is_some, nat_lt, not, option_and_then, slice_get, IfSome, if◌then◌else◌}
use Rattle.std.specs.List.{range_with_len}
use Rattle.std.specs.Option.{option_map_or}
use Rattle.std.proofs.lemmas.Bool.{and_parts, cases_eq, cases_lt}
use Rattle.std.proofs.lemmas.Bool.Decides.{nat_tests}
use Rattle.std.proofs.lemmas.Option.{slice_get-get_or, slice_get_within}
use Rattle.instance.specs.kvs_keys.Walk.{nth}
use Rattle.instance.specs.workload.declared.work.Command.TheVariants as command
use Rattle.instance.specs.workload.declared.work.Line.{Line}
use Rattle.instance.specs.answers.declared.steps.Step.TheVariants as step
use Rattle.world.specs.Order.{is_next, issue_at, issues}
use Rattle.world.specs.Steps.{can_issue}
use Rattle.world.specs.Value.{WorldValue}
use Rattle.world.specs.Walks.{next_at}
use Rattle.homes.specs.declared.homes.Place.{Place}
use Rattle.world.proofs.Numbering.{mapped, unmapped}
use Rattle.world.proofs.Ordering.{AreOwnLines}

-- the numbers from one on: what the first that gives something gives, and then what those behind it give
jumped_over : {X : Type 0} (f : ℕ → Option X) (x : X) (k a n : ℕ) → a ≤ k → k < a + n → f k ≡ Some x → ((j : ℕ) → a ≤ j → j < k → f j ≡ None) →
    filter_map f (range_with_len a n) ≡ x ∷ filter_map f (range_with_len (k + 1) ((a + n) - (k + 1)))
jumped_over f x k a zero low high gives none = absurd (omega arith)
jumped_over f x k a (suc n) low high gives none =
    elim (cases_eq a k) [
      | inl e ↦
          let first : a + 1 ≡ k + 1 = omega (arith, e) in
          let rest : n ≡ (a + suc n) - (k + 1) = omega (arith, e) in
          rw (ap f e ∙ gives) (ap₂ (λ p q. x ∷ filter_map f (range_with_len p q)) first rest)
      | inr ne ↦
          let rest : ((a + 1) + n) - (k + 1) ≡ (a + suc n) - (k + 1) = omega arith in
          rw (none a (omega arith) (omega arith)) (jumped_over f x k (a + 1) n (omega arith) (omega arith) gives (λ j l h. none j (omega arith) h)
          ∙ ap (λ q. x ∷ filter_map f (range_with_len (k + 1) q)) rest)
    ]

jumped : {X : Type 0} (f : ℕ → Option X) (x : X) (k from size : ℕ) → from ≤ k → k < size → f k ≡ Some x → ((j : ℕ) → from ≤ j → j < k → f j ≡ None) →
    filter_map f (range_with_len from (size - from)) ≡ x ∷ filter_map f (range_with_len (k + 1) (size - (k + 1)))
jumped f x k from size low high gives none =
    let all : from + (size - from) ≡ size = omega arith in
    jumped_over f x k from (size - from) low (omega arith) gives none ∙ ap (λ q. x ∷ filter_map f (range_with_len (k + 1) (q - (k + 1)))) all

none_from : {X : Type 0} (f : ℕ → Option X) (a n : ℕ) → ((j : ℕ) → a ≤ j → f j ≡ None) → filter_map f (range_with_len a n) ≡ []
none_from f a zero none = refl
none_from f a (suc n) none = rw (none a (omega arith)) (none_from f (a + 1) n (λ j l. none j (omega arith)))

and_true : (a b : Bool) → a ≡ true → b ≡ true → (a && b) ≡ true
and_true a b h g = rw (h, g) refl

same_number : (a b : ℕ) → (a == b) ≡ true → a ≡ b
same_number a b h = grind (arith, nat_tests)

equal : (a : ℕ) → (a == a) ≡ true
equal a = grind (arith, nat_tests)

is_less : (a b : ℕ) → nat_lt a b ≡ true → a < b
is_less a b h = grind (arith, nat_tests)

-- the next line of an actor at this place
pub next_here : (places : List Place) (actor : ℕ) (p : Place) → actor < length places → p ≡ get_or places actor p → p.next ≡ next_at places actor
next_here places actor p within same =
    ap (λ x. x.next) same ∙ sym (ap (λ o. option_map_or (λ x. x.next) o 0) (slice_get-get_or places actor p within))

module _ (v : WorldValue) where
  -- an actor that can be issued a command has a place, and a line
  pub record IsIssuer (actor : ℕ) : Type 0 where
    pub place : Place
    pub here : slice_get v.places actor ≡ Some place
    pub next : next_at v.places actor ≡ place.next
    pub within : place.next < length v.set.work.lines

  pub issuer : (actor : ℕ) → can_issue v actor ≡ true → IsIssuer actor
  issuer actor can = by (slice_get v.places actor) refl can
    where
      by : (o : Option Place) → slice_get v.places actor ≡ o → option_map_or (λ p. is_some p.home && (not p.waits && nat_lt p.next (length v.set.work.lines))) o false ≡ true → IsIssuer actor
      by None e h = absurd (true≢false (sym h))
      by (Some p) e h =
          let parts = and_parts (is_some p.home) (not p.waits && nat_lt p.next (length v.set.work.lines)) h in
          let more = and_parts (not p.waits) (nat_lt p.next (length v.set.work.lines)) parts.1 in
          record { place = p; here = e; next = ap (λ o. option_map_or (λ x. x.next) o 0) e; within = is_less p.next (length v.set.work.lines) more.1 }

  -- a line that is next is one that can be issued
  line-issued : (actor at : ℕ) → is_next v at actor ≡ true → (can_issue v actor ≡ true) × (next_at v.places actor ≡ at)
  line-issued actor at next =
      let parts = and_parts (can_issue v actor) (option_map_or (λ p. p.next == at) (slice_get v.places actor) false) next in
      (parts.0, by (slice_get v.places actor) parts.1)
    where
      by : (o : Option Place) → option_map_or (λ p. p.next == at) o false ≡ true → option_map_or (λ p. p.next) o 0 ≡ at
      by None h = absurd (true≢false (sym h))
      by (Some p) h = same_number p.next at h

  no-issue : (at : ℕ) → ((actor : ℕ) → can_issue v actor ≡ true → next_at v.places actor ≡ at → ⊥) → issue_at v at ≡ None
  no-issue at unissued = by (slice_get v.set.work.lines at) refl
    where
      off : (line : Line) (b : Bool) → is_next v at line.actor ≡ b → (if is_next v at line.actor then Some line.actor else None) ≡ None
      off line true e = (let there = line-issued line.actor at e in absurd (unissued line.actor there.0 there.1))
      off line false e = ap (λ b. if b then Some line.actor else None) e

      by : (o : Option Line) → slice_get v.set.work.lines at ≡ o → issue_at v at ≡ None
      by None e = ap (λ o. option_and_then (λ line. if is_next v at line.actor then Some line.actor else None) o) e
      by (Some line) e = ap (λ o. option_and_then (λ l. if is_next v at l.actor then Some l.actor else None) o) e ∙ off line (is_next v at line.actor) refl

  -- the line of an actor that can be issued gives its issue
  line-gives : AreOwnLines v → (actor : ℕ) → can_issue v actor ≡ true → (next_at v.places actor < length v.set.work.lines) × (issue_at v (next_at v.places actor) ≡ Some actor)
  line-gives placed actor can =
      let i = issuer actor can in
      let p = i.place in
      let any : Line = record { actor = 0; command = command.Commit } in
      let is-next : is_next v p.next actor ≡ true =
      and_true (can_issue v actor) (option_map_or (λ x. x.next == p.next) (slice_get v.places actor) false) can (ap (λ o. option_map_or (λ x. x.next == p.next) o false) i.here ∙ equal p.next) in
      let gives : issue_at v p.next ≡ Some actor =
      ap (λ o. option_and_then (λ l. if is_next v p.next l.actor then Some l.actor else None) o) (slice_get-get_or v.set.work.lines p.next any i.within)
      ∙ ap (λ a. if is_next v p.next a then Some a else None) (placed actor p i.here i.within any)
      ∙ ap (λ b. if b then Some actor else None) is-next in
      (subst (λ at. at < length v.set.work.lines) (sym i.next) i.within, ap (issue_at v) i.next ∙ gives)

  -- the issues of the lines from one on
  abbrev pub issues_from : ℕ → List ℕ
  issues_from from = filter_map (issue_at v) (range_with_len from (length v.set.work.lines - from))

  -- the issue that comes first from a line on
  pub record IsNext (from actor : ℕ) : Type 0 where
    pub can : can_issue v actor ≡ true
    pub low : from ≤ next_at v.places actor
    pub first : (other : ℕ) → can_issue v other ≡ true → from ≤ next_at v.places other → next_at v.places actor ≤ next_at v.places other

  module _ (placed : AreOwnLines v) (from actor left number : ℕ) (is : IsNext from actor)
      (so-far : nth (issues_from from) left ≡ nth (issues v) number) where
    next-issue : issues_from from ≡ actor ∷ issues_from (next_at v.places actor + 1)
    next-issue =
        let there = line-gives placed actor is.can in
        jumped (issue_at v) actor (next_at v.places actor) from (length v.set.work.lines) is.low there.0 there.1
        (λ j l h. no-issue j (λ other issued next. let le = is.first other issued (omega (arith, next, l)) in omega (arith, le, next, h)))

    pub issue-here : left ≡ 0 → Ok (step.Issue actor) ≡ nth (map step.Issue (issues v)) number
    issue-here none =
        sym (mapped step.Issue (issues v) number actor
        (sym (ap (λ n. nth (actor ∷ issues_from (next_at v.places actor + 1)) n) (sym none) ∙ ap (λ xs. nth xs left) (sym next-issue) ∙ so-far)))

    pub issue-behind : (more next : ℕ) → suc more ≡ left → next ≡ next_at v.places actor → nth (issues_from (next + 1)) more ≡ nth (issues v) number
    issue-behind more next one same =
        ap (λ n. nth (issues_from (n + 1)) more) same ∙ ap (λ n. nth (actor ∷ issues_from (next_at v.places actor + 1)) n) one ∙ ap (λ xs. nth xs left) (sym next-issue) ∙ so-far

  pub no-issue-left : (from left number : ℕ) → ((other : ℕ) → can_issue v other ≡ true → next_at v.places other < from) → nth (issues_from from) left ≡ nth (issues v) number → Err left ≡ nth (map step.Issue (issues v)) number
  no-issue-left from left number none so-far =
      let all : issues_from from ≡ [] = none_from (issue_at v) from (length v.set.work.lines - from)
      (λ j l. no-issue j (λ other issued is. let low = none other issued in absurd (omega (arith, is, l, low)))) in
      sym (unmapped step.Issue (issues v) number left (sym (ap (λ xs. nth xs left) (sym all) ∙ so-far)))

-- ---- the issue that comes first, as a walk over the first actors finds it

-- of these first actors the one whose next line comes first, and that line, or that behind the last
pub record IsFirst (v : WorldValue) (from : ℕ) (first : Option ℕ) (line actors : ℕ) : Type 0 where
  pub within : line ≤ length v.set.work.lines
  pub found : IfSome first (λ a. can_issue v a ≡ true)
  pub behind : IfSome first (λ a. from ≤ next_at v.places a)
  pub here : IfSome first (λ a. next_at v.places a ≡ line)
  pub least : (other : ℕ) → other < actors → can_issue v other ≡ true → from ≤ next_at v.places other → line ≤ next_at v.places other
  pub none : first ≡ None → line ≡ length v.set.work.lines

module _ (v : WorldValue) (from : ℕ) where
  issuer_line : (actor : ℕ) → can_issue v actor ≡ true → (next_at v.places actor < length v.set.work.lines) × (actor < length v.places)
  issuer_line actor can =
      let i = issuer v actor can in
      (subst (λ n. n < length v.set.work.lines) (sym i.next) i.within, slice_get_within v.places actor i.place i.here)

  pub first_start : (line : ℕ) → line ≡ length v.set.work.lines → IsFirst v from None line 0
  first_start line e = record { within = omega (arith, e); found = tt; behind = tt; here = tt; least = λ other low can ahead. absurd (omega arith); none = λ _. e }

  module _ (first : Option ℕ) (line actor : ℕ) (is : IsFirst v from first line actor) where
    -- one that doesn't come before it
    pub first_later : (can_issue v actor ≡ true → from ≤ next_at v.places actor → line ≤ next_at v.places actor) → IsFirst v from first line (actor + 1)
    first_later late = record {
      within = is.within;
      found = is.found;
      behind = is.behind;
      here = is.here;
      least = λ other low can ahead. elim (cases_lt other actor) [
        | inl before ↦ is.least other before can ahead
        | inr high ↦
            let at : actor ≡ other = omega (arith, low, high) in
            subst (λ a. line ≤ next_at v.places a) at (late (subst (λ a. can_issue v a ≡ true) (sym at) can) (subst (λ a. from ≤ next_at v.places a) (sym at) ahead))
      ];
      none = is.none;
    }

    -- one that does
    pub first_here : (next : ℕ) → next ≡ next_at v.places actor → can_issue v actor ≡ true → from ≤ next → next < line → IsFirst v from (Some actor) next (actor + 1)
    first_here next e can ahead sooner = record {
      within = omega (arith, sooner, is.within);
      found = can;
      behind = omega (arith, e, ahead);
      here = sym e;
      least = λ other low can ahead. elim (cases_lt other actor) [
        | inl before ↦ (let more = is.least other before can ahead in omega (arith, more, sooner))
        | inr high ↦
            let at : actor ≡ other = omega (arith, low, high) in
            let same = ap (next_at v.places) at in
            omega (arith, e, same)
      ];
      none = λ bad. cc;
    }

    -- behind all actors
    module _ (all : length v.places ≤ actor) where
      least_all : (other : ℕ) → can_issue v other ≡ true → from ≤ next_at v.places other → line ≤ next_at v.places other
      least_all other can ahead = (let there = issuer_line other can in let low = there.1 in is.least other (omega (arith, low, all)) can ahead)

      pub first_of_all : IfSome first (λ a. (other : ℕ) → can_issue v other ≡ true → from ≤ next_at v.places other → next_at v.places a ≤ next_at v.places other)
      first_of_all = by first is.here
        where
          by : (o : Option ℕ) → IfSome o (λ a. next_at v.places a ≡ line) → IfSome o (λ a. (other : ℕ) → can_issue v other ≡ true → from ≤ next_at v.places other → next_at v.places a ≤ next_at v.places other)
          by None e = tt
          by (Some a) e = λ other can ahead. (let least = least_all other can ahead in omega (arith, e, least))

      pub none_of_all : first ≡ None → (other : ℕ) → can_issue v other ≡ true → next_at v.places other < from
      none_of_all e other can = elim (cases_lt (next_at v.places other) from) [
        | inl before ↦ before
        | inr ahead ↦
            let least = least_all other can ahead in
            let end = is.none e in
            let there = issuer_line other can in
            let low = there.0 in
            absurd (omega (arith, least, end, low))
      ]

-- the place and the line of an actor that can be issued a command
pub line-within : (v : WorldValue) → AreOwnLines v → (actor : ℕ) → can_issue v actor ≡ true → (next_at v.places actor < length v.set.work.lines) × (actor < length v.places)
line-within v own actor can = issuer_line v 0 actor can
