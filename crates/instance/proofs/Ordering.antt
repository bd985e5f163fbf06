-- The actors that can be replied to or issued a command, the first one and by number.
use Rattle.std.proofs.Common.{◌≡◌, ℕ, suc, zero, ◌+◌, ◌<◌, ◌≤◌, inl, inr, ◌==◌, ◌&&◌, List, [], ◌∷◌, length, Bool, true, false, cond, Option, Some, None, refl, sym, ap, ◌∙◌, subst, arith, true≢false, get_or}
use Rattle.std.specs.Prelude.{IfSome, slice_get, filter_map, option_and_then, nat_lt, if◌then◌else◌}
use Rattle.std.specs.List.{filter, range_with_len}
use Rattle.std.specs.Option.{option_map_or}
use Rattle.std.proofs.lemmas.Bool.{cases_eq}
use Rattle.std.proofs.lemmas.Bool.Decides.{nat_tests}
use Rattle.std.proofs.lemmas.Option.{slice_get-get_or, slice_get_within}
use Rattle.services.specs.workload.declared.work.Command.TheVariants as command
use Rattle.services.specs.workload.declared.work.Line.{Line}
use Rattle.services.specs.answers.Chronicle.{top}
use Rattle.services.specs.answers.Services.{log_of}
use Rattle.instance.specs.declared.seats.Seat.{Seat}
use Rattle.instance.specs.Agrees.{ActorStands, AreLinesOf}
use Rattle.instance.specs.Order.{answers, is_next_line, issue_of, issues}
use Rattle.instance.specs.Seats.{has_come, is_free, last_command}
use Rattle.instance.specs.Steps.{can_answer, can_issue, has_answer, has_issue, next_of}
use Rattle.instance.specs.Value.{InstanceValue}

-- of the numbers from a on, the first that gives something
first_given : {X : Type 0} (f : ℕ → Option X) (x : X) (k a n : ℕ) → a ≤ k → k < a + n → f k ≡ Some x → ((j : ℕ) → j < k → f j ≡ None) → slice_get (filter_map f (range_with_len a n)) 0 ≡ Some x
first_given f x k a zero low high gives none = absurd (omega arith)
first_given f x k a (suc n) low high gives none =
    elim (cases_eq a k) [
      | inl e ↦ rw (ap f e ∙ gives) refl
      | inr ne ↦ rw (none a (omega arith)) (first_given f x k (a + 1) n (omega arith) (omega arith) gives none)
    ]

none_given : {X : Type 0} (f : ℕ → Option X) → ((j : ℕ) → f j ≡ None) → (ns : List ℕ) → filter_map f ns ≡ []
none_given f none [] = refl
none_given f none (n ∷ ns) = rw (none n) (none_given f none ns)

-- of the numbers from a on, the first that passes
first_passed : (q : ℕ → Bool) (k a n : ℕ) → a ≤ k → k < a + n → q k ≡ true → ((j : ℕ) → j < k → q j ≡ false) → slice_get (filter q (range_with_len a n)) 0 ≡ Some k
first_passed q k a zero low high on off = absurd (omega arith)
first_passed q k a (suc n) low high on off =
    elim (cases_eq a k) [
      | inl e ↦ ap (λ b. slice_get (cond b (a ∷ filter q (range_with_len (a + 1) n)) (filter q (range_with_len (a + 1) n))) 0) (ap q e ∙ on) ∙ ap Some e
      | inr ne ↦
          ap (λ b. slice_get (cond b (a ∷ filter q (range_with_len (a + 1) n)) (filter q (range_with_len (a + 1) n))) 0) (off a (omega arith))
          ∙ first_passed q k (a + 1) n (omega arith) (omega arith) on off
    ]

none_passed : (q : ℕ → Bool) → ((j : ℕ) → q j ≡ false) → (ns : List ℕ) → filter q ns ≡ []
none_passed q off [] = refl
none_passed q off (n ∷ ns) = ap (λ b. cond b (n ∷ filter q ns) (filter q ns)) (off n) ∙ none_passed q off ns

both : (a b : Bool) → (a && b) ≡ true → (a ≡ true) × (b ≡ true)
both true b h = (refl, h)
both false b h = absurd (true≢false (sym h))

and_true : (a b : Bool) → a ≡ true → b ≡ true → (a && b) ≡ true
and_true a b h g = rw (h, g) refl

same_number : (a b : ℕ) → (a == b) ≡ true → a ≡ b
same_number a b h = grind (arith, nat_tests)

equal : (a : ℕ) → (a == a) ≡ true
equal a = grind (arith, nat_tests)

less : (a b : ℕ) → a < b → nat_lt a b ≡ true
less a b h = grind (arith, nat_tests)

is_less : (a b : ℕ) → nat_lt a b ≡ true → a < b
is_less a b h = grind (arith, nat_tests)

-- each actor's next line is its own
abbrev pub HaveNext : List Line → List Seat → Type 0
HaveNext lines seats = (actor : ℕ) (seat : Seat) → slice_get seats actor ≡ Some seat → (d : Line) → seat.next < length lines → (get_or lines seat.next d).actor ≡ actor

pub next_lines : (v : InstanceValue) (lines : List Line) → AreLinesOf v lines → HaveNext lines v.seats
next_lines v lines (set, own, agrees, same) = subst (λ ls. HaveNext ls v.seats) same
    (λ actor seat at d low. (subst (ActorStands set (log_of set.work top own) own actor) at (agrees.actors actor)).1.placed.here d low)

module _ (v : InstanceValue) where
  -- the lowest actor that can be replied to
  pub answer-first : (actor : ℕ) → can_answer v actor ≡ true → ((lower : ℕ) → lower < actor → can_answer v lower ≡ false) → Some actor ≡ slice_get (answers v) 0
  answer-first actor can first =
      let within = seated (slice_get v.seats actor) refl in
      sym (first_passed (can_answer v) actor 0 (length v.seats) (omega arith) (omega arith) can first)
    where
      seated : (o : Option Seat) → slice_get v.seats actor ≡ o → actor < length v.seats
      seated None e = absurd (true≢false (sym can ∙ ap (λ o. option_map_or (λ seat. has_come v.services (last_command actor seat) seat.waiting) o false) e))
      seated (Some seat) e = slice_get_within v.seats actor seat e

  pub answer-none : ((actor : ℕ) → can_answer v actor ≡ false) → None ≡ slice_get (answers v) 0
  answer-none none = sym (ap (λ xs. slice_get xs 0) (none_passed (can_answer v) none (range_with_len 0 (length v.seats))))

module _ (lines : List Line) (v : InstanceValue) where
  -- a line that is next is one that can be issued
  line-issued : (actor at : ℕ) → at < length lines → is_next_line v.seats actor at ≡ true → (can_issue lines v actor ≡ true) × (next_of v.seats actor ≡ at)
  line-issued actor at within next = by (slice_get v.seats actor) refl next
    where
      by : (o : Option Seat) → slice_get v.seats actor ≡ o → option_map_or (λ seat. is_free seat.waiting && (seat.next == at)) o false ≡ true → (can_issue lines v actor ≡ true) × (next_of v.seats actor ≡ at)
      by None e h = absurd (true≢false (sym h))
      by (Some seat) e h =
          let parts = both (is_free seat.waiting) (seat.next == at) h in
          let same = same_number seat.next at parts.1 in (
            ap (λ o. option_map_or (λ x. is_free x.waiting && nat_lt x.next (length lines)) o false) e ∙ and_true (is_free seat.waiting) _ parts.0 (less seat.next (length lines) (omega arith)),
            ap (λ o. option_map_or (λ x. x.next) o 0) e ∙ same,
          )

  module _ (at : ℕ) (unissued : (actor : ℕ) → at < length lines → can_issue lines v actor ≡ true → next_of v.seats actor ≡ at → ⊥) where
    pub no-issue : issue_of lines v.seats at ≡ None
    no-issue = by (slice_get lines at) refl
      where
        off : (line : Line) → at < length lines → (b : Bool) → is_next_line v.seats line.actor at ≡ b → (if is_next_line v.seats line.actor at then Some line.actor else None) ≡ None
        off line within true e = (let there = line-issued line.actor at within e in absurd (unissued line.actor within there.0 there.1))
        off line within false e = ap (λ b. if b then Some line.actor else None) e

        by : (o : Option Line) → slice_get lines at ≡ o → issue_of lines v.seats at ≡ None
        by None e = ap (λ o. option_and_then (λ line. if is_next_line v.seats line.actor at then Some line.actor else None) o) e
        by (Some line) e =
            ap (λ o. option_and_then (λ l. if is_next_line v.seats l.actor at then Some l.actor else None) o) e
            ∙ off line (slice_get_within lines at line e) (is_next_line v.seats line.actor at) refl

  -- the line of an actor that can be issued gives its issue
  pub line-gives : HaveNext lines v.seats → (actor : ℕ) → can_issue lines v actor ≡ true → (next_of v.seats actor < length lines) × (issue_of lines v.seats (next_of v.seats actor) ≡ Some actor)
  line-gives placed actor can = by (slice_get v.seats actor) refl can
    where
      by : (o : Option Seat) → slice_get v.seats actor ≡ o → option_map_or (λ seat. is_free seat.waiting && nat_lt seat.next (length lines)) o false ≡ true →
          (next_of v.seats actor < length lines) × (issue_of lines v.seats (next_of v.seats actor) ≡ Some actor)
      by None e h = absurd (true≢false (sym h))
      by (Some seat) e h =
          let any : Line = record { actor = 0; command = command.Commit } in
          let parts = both (is_free seat.waiting) (nat_lt seat.next (length lines)) h in
          let within = is_less seat.next (length lines) parts.1 in
          let next-is : next_of v.seats actor ≡ seat.next = ap (λ o. option_map_or (λ x. x.next) o 0) e in
          let is-next : is_next_line v.seats actor seat.next ≡ true =
          ap (λ o. option_map_or (λ x. is_free x.waiting && (x.next == seat.next)) o false) e ∙ and_true (is_free seat.waiting) _ parts.0 (equal seat.next) in
          let gives : issue_of lines v.seats seat.next ≡ Some actor =
          ap (λ o. option_and_then (λ l. if is_next_line v.seats l.actor seat.next then Some l.actor else None) o) (slice_get-get_or lines seat.next any within)
          ∙ ap (λ a. if is_next_line v.seats a seat.next then Some a else None) (placed actor seat e any within)
          ∙ ap (λ b. if b then Some actor else None) is-next in
          (subst (λ at. at < length lines) (sym next-is) within, ap (issue_of lines v.seats) next-is ∙ gives)

  -- the actor whose line comes first
  pub issue-first : HaveNext lines v.seats → (actor : ℕ) → can_issue lines v actor ≡ true → ((other : ℕ) → can_issue lines v other ≡ true → next_of v.seats actor ≤ next_of v.seats other) → Some actor ≡ slice_get (issues lines v) 0
  issue-first placed actor can first =
      let there = line-gives placed actor can in
      let below = there.0 in
      sym (first_given (issue_of lines v.seats) actor (next_of v.seats actor) 0 (length lines) (omega arith) (omega (arith, below)) there.1
      (λ j l. no-issue j (λ other within issued is. let le = first other issued in omega (arith, le, is, l))))

  pub issue-none : ((actor : ℕ) → can_issue lines v actor ≡ false) → None ≡ slice_get (issues lines v) 0
  issue-none unissued = sym (ap (λ xs. slice_get xs 0) (none_given (issue_of lines v.seats) (λ j. no-issue j (λ other there issued is. true≢false (sym issued ∙ unissued other))) (range_with_len 0 (length lines))))

-- what the code knows of the actor that comes first
pub answer-chosen : (v : InstanceValue) (seats : List Seat) → seats ≡ v.seats → (r : Option ℕ) → IfSome r (λ a. has_answer v.services seats a ≡ true) → IfSome r (λ a. (lower : ℕ) → lower < a → has_answer v.services seats lower ≡ false) →
    (r ≡ None → (a : ℕ) → has_answer v.services seats a ≡ false) → r ≡ slice_get (answers v) 0
answer-chosen v seats same None some first none = answer-none v (subst (λ xs. (a : ℕ) → has_answer v.services xs a ≡ false) same (none refl))
answer-chosen v seats same (Some actor) some first none =
    answer-first v actor (subst (λ xs. has_answer v.services xs actor ≡ true) same some) (subst (λ xs. (lower : ℕ) → lower < actor → has_answer v.services xs lower ≡ false) same first)

pub issue-chosen : (lines : List Line) (v : InstanceValue) (count : ℕ) (seats : List Seat) → count ≡ length lines → seats ≡ v.seats → HaveNext lines v.seats → (r : Option ℕ) →
    IfSome r (λ a. (has_issue count seats a ≡ true) × (0 ≤ next_of seats a)) → IfSome r (λ a. (other : ℕ) → has_issue count seats other ≡ true → 0 ≤ next_of seats other → next_of seats a ≤ next_of seats other) →
    (r ≡ None → (a : ℕ) → has_issue count seats a ≡ true → next_of seats a < 0) → r ≡ slice_get (issues lines v) 0
issue-chosen lines v count seats len same placed None some first none = issue-none lines v (λ a. off a (can_issue lines v a) refl)
  where
    off : (a : ℕ) (b : Bool) → can_issue lines v a ≡ b → b ≡ false
    off a false e = refl
    off a true e =
        let below : next_of seats a < 0 = none refl a (ap (λ n. has_issue n seats a) len ∙ ap (λ xs. has_issue (length lines) xs a) same ∙ e) in
        absurd (omega (arith, below))
issue-chosen lines v count seats len same placed (Some actor) some first none =
    issue-first lines v placed actor
    (subst (λ xs. has_issue (length lines) xs actor ≡ true) same (subst (λ n. has_issue n seats actor ≡ true) len some.0))
    (λ other can. subst (λ xs. next_of xs actor ≤ next_of xs other) same
    (first other (ap (λ n. has_issue n seats other) len ∙ ap (λ xs. has_issue (length lines) xs other) same ∙ can) (omega arith)))
