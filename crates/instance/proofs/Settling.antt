-- Where an instance rests, each open command has to wait.
use Rattle.std.proofs.Common.{◌≡◌, ◌≢◌, ◌-◌, ◌<◌, ◌≤◌, ◌⊎◌, inl, inr, [], Bool, true, false, cond, refl, sym, ap, ◌∙◌, subst, arith, count_by, Option, Some, None, true≢false}
use Rattle.std.specs.Prelude.{IsSome, slice_get}
use Rattle.std.specs.Option.{option_map_or}
use Rattle.std.proofs.lemmas.Bool.{cases_lt, lt-ltb}
use Rattle.services.specs.kvs_txn.declared.txn.By.{By}
use Rattle.services.specs.kvs_rules.Log.{IsOpen, IsPending, is_answered, is_asked}
use Rattle.services.specs.kvs_rules.Quiet.{IsLeft}
use Rattle.services.specs.instance_rules.Family.{HasToWait, IsLeftAdvance}
use Rattle.services.specs.instance_rules.Log.{Log as InstanceLog, Shutdown}
use Rattle.services.specs.job_service.Still.{awaited}
use Rattle.services.specs.job_states.declared.job.State.{State}
use Rattle.services.proofs.Waiting.{open_asks}
use Rattle.services.specs.answers.Chronicle.{IsOpenCommand, top, issues_of, replies_to}
use Rattle.services.specs.answers.Jobs.{instance_of, job_ask_at, living_of, log_in}
use Rattle.services.specs.answers.Legal.{HasSettled}
use Rattle.services.specs.answers.Services.{log_of, setting_of}
use Rattle.services.proofs.answers_proofs.Reaching.{asked_within}
use Rattle.services.proofs.answers_proofs.Services.{issued_below}
use Rattle.instance.specs.declared.seats.Seat.{Seat}
use Rattle.instance.specs.declared.seats.Waiting.{Waiting}
use Rattle.instance.specs.declared.seats.Waiting.TheVariants as waiting
use Rattle.instance.specs.Agrees.{ActorStands, Waits, command_of}
use Rattle.instance.specs.Seats.{has_come, is_free, last_command, replied_of}
use Rattle.instance.proofs.Closing.{answered_replied}
use Rattle.instance.proofs.Stilling.{CanDoNothing, IsStillSo, quiet_so, rest_so, still_here}
use Rattle.instance.proofs.Families.{is_living}
use Rattle.instance.proofs.Looking.{looks_on}
use Rattle.instance.proofs.Listing.{any_counted, none_counted}
use Rattle.instance.proofs.Logs.{log_open, served_log}
use Rattle.instance.proofs.Owning.{DoesAgree, Own}

module _ (v : Own) (h : DoesAgree v) (rest : CanDoNothing v.instance) (promise : IsStillSo v) where
  abbrev now : InstanceLog
  now = log_in v.set.work v.chronicle

  module _ (by : By) (waiting_now : IsOpenCommand by v.chronicle) where
    unreplied : count_by (replies_to by) v.chronicle ≡ 0
    unreplied = elim (cases_lt 0 (count_by (replies_to by) v.chronicle)) [
      | inl some ↦ absurd (true≢false (sym (any_counted (replies_to by) v.chronicle some) ∙ waiting_now.1))
      | inr none ↦ omega (arith, none)
    ]

    issued_low : by.command < count_by (issues_of by.actor) v.chronicle
    issued_low = issued_below v.set v.chronicle h.legal by waiting_now.0

    -- it has asked the service something
    by_service : is_asked by (log_of v.set.work top v.chronicle) ≡ true → HasToWait (living_of v.set v.chronicle) by
    by_service asked =
        let served = served_log v.set.work v.chronicle in
        let waits : IsOpen by (log_of v.set.work top v.chronicle) = record { asked = asked; unanswered = unanswered } in
        let (request, made) = open_asks v.instance.services (instance_of v.set) now h.agrees by (subst (IsOpen by) (sym served) waits) in
        elim ((quiet_so v h rest promise).answered by request waits made) [
          | inl above ↦ let within = asked_within v.set v.chronicle h.legal by above.0 asked in absurd (omega (arith, above.1, within))
          | inr left ↦ inl (record {
            request = request;
            asks = made;
            waits = subst (IsPending by) (sym served) left.0;
            left = subst (λ log. IsLeft (setting_of v.set) log request.namespace request.ask) (sym served) left.1;
          })
        ]
      where
        unanswered : is_answered by (log_of v.set.work top v.chronicle) ≡ false
        unanswered = on (is_answered by (log_of v.set.work top v.chronicle)) refl
          where
            on : (b : Bool) → is_answered by (log_of v.set.work top v.chronicle) ≡ b → b ≡ false
            on false is = refl
            on true is = absurd (true≢false (sym (answered_replied v.set.work by [] v.chronicle is) ∙ none_counted (replies_to by) v.chronicle unreplied))

    -- it asks something of jobs or of time
    by_jobs : IsSome (job_ask_at v.set.work by) → job_ask_at v.set.work by ≢ Some Shutdown → HasToWait (living_of v.set v.chronicle) by
    by_jobs asks other =
        of (promise.left (instance_of v.set) now (living_of v.set v.chronicle) h.agrees (still_here v h rest promise) (is_living v.set v.chronicle) by asks other (log_open v.set.work by v.chronicle asks waiting_now.0 unreplied))
      where
        result : (o : Option State) → awaited v.instance.services.jobs by ≡ o → IsSome o → HasToWait (living_of v.set v.chronicle) by
        result None is some = absurd (true≢false (sym some))
        result (Some where_) is some = inr (inr (where_, promise.results (instance_of v.set) now (living_of v.set v.chronicle) h.agrees (still_here v h rest promise) (is_living v.set v.chronicle) by where_ is))

        of : IsSome (awaited v.instance.services.jobs by) ⊎ IsLeftAdvance (living_of v.set v.chronicle) by → HasToWait (living_of v.set v.chronicle) by
        of (inl some) = result (awaited v.instance.services.jobs by) refl some
        of (inr advance) = inr (inl advance)

    -- at its actor's seat it is the last one, which can't be replied to
    at_seat : (seat : Seat) → slice_get v.instance.seats by.actor ≡ Some seat → HasToWait (living_of v.set v.chronicle) by
    at_seat seat at = on seat.waiting refl
      where
        mine : ActorStands v.set (log_of v.set.work top v.chronicle) v.chronicle by.actor (Some seat)
        mine = subst (ActorStands v.set (log_of v.set.work top v.chronicle) v.chronicle by.actor) at (h.actors by.actor)

        past : replied_of seat ≤ by.command
        past = elim (cases_lt by.command (replied_of seat)) [
          | inl below ↦
              let one : count_by (replies_to by) v.chronicle ≡ 1 = mine.0.ended by.command ∙ ap (λ b. cond b 1 0) (lt-ltb by.command (replied_of seat) below) in
              let none = unreplied in
              absurd (omega (arith, one, none))
          | inr above ↦ above
        ]

        last : (w : Waiting) → seat.waiting ≡ w → is_free w ≡ false → seat.issued - 1 ≡ by.command
        last w is busy =
            let replied : replied_of seat ≡ seat.issued - 1 = ap (λ x. cond (is_free x) seat.issued (seat.issued - 1)) is ∙ ap (λ b. cond b seat.issued (seat.issued - 1)) busy in
            let counted = mine.0.counted in
            let low = issued_low in
            let high = past in
            omega (arith, replied, counted, low, high)

        come : (w : Waiting) → seat.waiting ≡ w → has_come v.instance.services (last_command by.actor seat) w ≡ false
        come w is =
            ap (has_come v.instance.services (last_command by.actor seat)) (sym is)
            ∙ ap (λ o. option_map_or (λ s. has_come v.instance.services (last_command by.actor s) s.waiting) o false) (sym at) ∙ rest.answers by.actor

        on : (w : Waiting) → seat.waiting ≡ w → HasToWait (living_of v.set v.chronicle) by
        on waiting.Nothing is =
            let replied : replied_of seat ≡ seat.issued = ap (λ x. cond (is_free x) seat.issued (seat.issued - 1)) is in
            let counted = mine.0.counted in
            let low = issued_low in
            let high = past in
            absurd (omega (arith, replied, counted, low, high))
        on waiting.Staged is = absurd (true≢false (come waiting.Staged is))
        on waiting.TxnFull is = absurd (true≢false (come waiting.TxnFull is))
        on (waiting.Tell to) is = absurd (true≢false (come (waiting.Tell to) is))
        on waiting.Using is = absurd (true≢false (come waiting.Using is))
        on waiting.Look is = absurd (looks_on v.instance by.actor seat at is (rest.looks by.actor))
        on waiting.Service is =
            let w = subst (Waits v.set (log_of v.set.work top v.chronicle) by.actor seat.issued) is mine.1.waits in
            by_service (subst (λ k. is_asked (command_of by.actor k) (log_of v.set.work top v.chronicle) ≡ true) (last waiting.Service is refl) w.1)
        on waiting.Jobs is =
            let w = subst (Waits v.set (log_of v.set.work top v.chronicle) by.actor seat.issued) is mine.1.waits in
            let this : seat.issued - 1 ≡ by.command = last waiting.Jobs is refl in
            by_jobs (subst (λ k. IsSome (job_ask_at v.set.work (command_of by.actor k))) this w.2) (subst (λ k. job_ask_at v.set.work (command_of by.actor k) ≢ Some Shutdown) this w.3)
        on waiting.Shutdown is = absurd (true≢false (come waiting.Shutdown is))

    waits_so : HasToWait (living_of v.set v.chronicle) by
    waits_so = sit (slice_get v.instance.seats by.actor) refl
      where
        sit : (o : Option Seat) → slice_get v.instance.seats by.actor ≡ o → HasToWait (living_of v.set v.chronicle) by
        sit None at =
            let nobody = subst (ActorStands v.set (log_of v.set.work top v.chronicle) v.chronicle by.actor) at (h.actors by.actor) in
            let counted : count_by (issues_of by.actor) v.chronicle ≡ 0 = nobody.counted in
            let low = issued_low in
            absurd (omega (arith, counted, low))
        sit (Some seat) at = at_seat seat at

  pub settled_so : HasSettled v.set v.chronicle
  settled_so = record { rests = rest_so v h rest promise; waits = waits_so }
