-- Before anything has happened.
use Rattle.std.proofs.Common.{◌≡◌, ◌≢◌, ℕ, zero, suc, inl, inr, ap₂, ◌-◌, ◌+◌, ◌==◌, ◌<◌, ◌≤◌, List, [], ◌∷◌, ◌++◌, length, refl, sym, ap, ◌∙◌, subst, arith, get_or, count_by, take, Option, Some, None, false, cond}
use Rattle.std.specs.Prelude.{slice_get}
use Rattle.std.specs.Option.{option_map_or}
use Rattle.std.proofs.lemmas.Bool.{le-ltb, cases_lt}
use Rattle.std.proofs.lemmas.List.{length-append}
use Rattle.std.proofs.Math.ListN.{get_or-append}
use Rattle.std.proofs.lemmas.Option.{slice_get_within, get_or_from_slice_get, slice_get-get_or}
use Rattle.services.specs.Agrees.{AgreesServices}
use Rattle.services.specs.Value.{ServicesValue}
use Rattle.services.specs.workload.declared.work.Actor.{Actor}
use Rattle.services.specs.workload.declared.work.Line.{Line}
use Rattle.services.specs.workload.declared.work.Workload.{Workload}
use Rattle.services.specs.workload.Laws.{IsBuilt, IsWithin, KeepsTallies}
use Rattle.services.specs.run_limits.Limits.{most_seconds}
use Rattle.services.specs.workload.Tallies.{seconds_in, submits_in}
use Rattle.services.specs.answers.Chronicle.{Setup}
use Rattle.services.specs.answers.Commands.{broker_of, namespace_at, staged_at}
use Rattle.services.specs.answers.Jobs.{instance_of}
use Rattle.instance.specs.declared.seats.Seat.{Seat}
use Rattle.instance.specs.First.{IsFirstSeat, AreFirstSeats}
use Rattle.instance.specs.Seats.{is_free, replied_of}
use Rattle.instance.specs.Agrees.{ActorStands, AgreesOwn, IsTallied, Stands, Waits, command_of}
use Rattle.instance.specs.Value.{InstanceValue}
use Rattle.std.proofs.Common.{All}
use Rattle.instance.proofs.Ahead.{first_ahead}
use Rattle.instance.proofs.Commanding.{passed_on}

-- the first seat of an actor
pub first_placed : (lines : List Line) (a next : ℕ) → next ≤ length lines → ((k : ℕ) (d : Line) → 0 ≤ k → k < next → (get_or lines k d).actor ≢ a) → count_by (λ l. l.actor == a) (take next lines) ≡ 0
first_placed lines a next high none = passed_on a lines 0 next (omega arith) high none

-- with nothing that has happened, nobody has a command issued
stands_first : (a : ℕ) → Stands [] [] a 0 0
stands_first a = record {
  counted = refl;
  begun = λ k low. absurd (omega arith);
  ended = λ k. sym (ap (λ b. cond b 1 0) (le-ltb k 0 (omega arith)));
  answered = λ k asked low. absurd (omega arith);
}

actor_first : (set : Setup) (a : ℕ) (o : Option Seat) → ((seat : Seat) → o ≡ Some seat → ActorStands set [] [] a (Some seat)) → ActorStands set [] [] a o
actor_first set a None h = stands_first a
actor_first set a (Some seat) h = h seat refl

-- one seat more
pub seats_push : (work : Workload) (seats : List Seat) (actors : List Actor) (n : ℕ) → length seats ≡ n →
    ((a : ℕ) (d : Seat) (e : Actor) → a < length seats → IsFirstSeat work a (get_or actors a e).rank (get_or seats a d)) →
    (seat : Seat) → ((e : Actor) → IsFirstSeat work n (get_or actors n e).rank seat) → (new : List Seat) → new ≡ seats ++ seat ∷ [] →
    (a : ℕ) (d : Seat) (e : Actor) → a < length new → IsFirstSeat work a (get_or actors a e).rank (get_or new a d)
seats_push work seats actors n len old seat first new is a d e low =
    let long : length new ≡ n + 1 = ap length is ∙ length-append seats (seat ∷ []) ∙ ap (λ m. m + 1) len in
    subst (λ xs. IsFirstSeat work a (get_or actors a e).rank (get_or xs a d)) (sym is)
    (elim (cases_lt a (length seats)) [
      | inl below ↦ subst (IsFirstSeat work a (get_or actors a e).rank) (sym (get_or-append seats (seat ∷ []) d a below)) (old a d e below)
      | inr above ↦
          let same : a ≡ length seats = omega arith in
          subst (λ m. IsFirstSeat work m (get_or actors m e).rank (get_or (seats ++ seat ∷ []) m d)) (sym same)
          (subst (IsFirstSeat work (length seats) (get_or actors (length seats) e).rank) (sym (last_of seats seat d))
          (subst (λ m. IsFirstSeat work m (get_or actors m e).rank seat) (sym len) (first e)))
    ])
  where
    last_of : {A : Type 0} (xs : List A) (x d : A) → get_or (xs ++ x ∷ []) (length xs) d ≡ x
    last_of [] x d = refl
    last_of (y ∷ xs) x d = last_of xs x d

-- the instance before anything has happened
abbrev pub begun : List Seat → ServicesValue → InstanceValue
begun seats services = record { spent = false; seats = seats; services = services }

-- nothing is issued, and all lines are ahead
first_tallied : (size : ℕ) (work : Workload) (seats : List Seat) (services : ServicesValue) → IsWithin size work → KeepsTallies work.lines → AreFirstSeats work seats → (services.jobs.submitted ≡ 0) × (services.jobs.span ≡ 0) → IsTallied (begun seats services) work.lines
first_tallied size work seats services within few first start =
    let ahead = first_ahead size work seats within first in
    record {
      submits = ap₂ (λ n ls. n + submits_in ls) start.0 ahead ∙ plain (submits_in work.lines);
      seconds = subst (λ n. n ≤ most_seconds) (sym (ap₂ (λ n ls. n + seconds_in ls) start.1 ahead ∙ plain (seconds_in work.lines))) few.seconds;
    }
  where
    plain : (n : ℕ) → 0 + n ≡ n
    plain n = omega arith

pub begin_agrees : (set : Setup) (services : ServicesValue) (seats : List Seat) → IsWithin set.size set.work → All (λ a. a.rank < set.size) set.work.actors → All (λ l. IsBuilt l.command) set.work.lines → KeepsTallies set.work.lines →
    (services.jobs.submitted ≡ 0) × (services.jobs.span ≡ 0) → AgreesServices services (instance_of set) [] → AreFirstSeats set.work seats → AgreesOwn (begun seats services) set []
begin_agrees set services seats within ranks known few start agrees first = record {
  within = within;
  known = known;
  few = few;
  tallied = first_tallied set.size set.work seats services within few first start;
  legal = tt;
  early = tt;
  seated = first.seated;
  agrees = agrees;
  actors = λ a. actor_first set a (slice_get seats a) (λ seat at. sits a seat at);
}
  where
    sits : (a : ℕ) (seat : Seat) → slice_get seats a ≡ Some seat → ActorStands set [] [] a (Some seat)
    sits a seat at =
        let low = slice_get_within seats a seat at in
        let is = get_or_from_slice_get seats a seat seat at in
        let low_actor : a < length set.work.actors = subst (λ n. a < n) first.seated low in
        let actor = some_actor set.work.actors a low_actor in
        let one = subst (λ s. IsFirstSeat set.work a actor.0.rank s) is (subst (λ x. IsFirstSeat set.work a x.rank (get_or seats a seat)) (actor.1 actor.0) (first.each a seat actor.0 low)) in
        let replied : replied_of seat ≡ 0 = ap₂ (λ w n. cond (is_free w) n (n - 1)) one.free one.fresh in
        let home : broker_of set.work a ≡ actor.0.rank = ap (λ o. option_map_or (λ x. x.rank) o 0) (slice_get-get_or set.work.actors a actor.0 low_actor ∙ ap Some (actor.1 actor.0)) in (
          subst (λ n. Stands [] [] a n (replied_of seat)) (sym one.fresh) (subst (λ n. Stands [] [] a 0 n) (sym replied) (stands_first a)),
          record {
            home = one.home ∙ sym home;
            inside = subst (λ n. n < set.size) (sym one.home) (subst (λ x. x.rank < set.size) (actor.1 actor.0) (ranks a actor.0 low_actor));
            author = one.author;
            opened = λ some. absurd (omega (arith, some, one.fresh));
            placed = one.placed;
            staged = one.unstaged ∙ ap (λ n. staged_at set.work (command_of a n)) (sym one.fresh);
            works = ap (λ n. namespace_at set.work (command_of a n)) one.fresh ∙ sym one.works;
            about = λ some. absurd (omega (arith, some, one.fresh));
            floored = λ space. sym (one.unseen space);
            waits = subst (λ w. Waits set [] a seat.issued w) (sym one.free) tt;
          },
        )
      where
        some_actor : {A : Type 0} (xs : List A) (k : ℕ) → k < length xs → (x : A) × ((d : A) → get_or xs k d ≡ x)
        some_actor [] k low = absurd (omega arith)
        some_actor (x ∷ xs) zero low = (x, λ d. refl)
        some_actor (x ∷ xs) (suc k) low = some_actor xs k (omega arith)

-- the default does not matter within the list
pub actor_got : {A : Type 0} (xs : List A) (k : ℕ) (d e : A) → k < length xs → get_or xs k d ≡ get_or xs k e
actor_got [] k d e low = absurd (omega arith)
actor_got (x ∷ xs) zero d e low = refl
actor_got (x ∷ xs) (suc k) d e low = actor_got xs k d e (omega arith)
