-- Where an instance can make no step, its services are still, and what is left of its commands.
use Rattle.std.proofs.Common.{◌≡◌, ◌≢◌, ℕ, ◌+◌, ◌-◌, ◌<◌, ◌≤◌, ◌⊎◌, inl, inr, [], Bool, true, false, ◌&&◌, refl, sym, ap, ap₂, ◌∙◌, subst, arith, Option, Some, None, true≢false}
use Rattle.std.specs.Prelude.{slice_get, nat_le, IsSome}
use Rattle.std.specs.Option.{option_map_or, is_some}
use Rattle.std.proofs.lemmas.Bool.{le-leb}
use Rattle.services.specs.kvs_txn.declared.txn.By.{By}
use Rattle.services.specs.kvs_rules.Namespaces.{is_live, landed, primary}
use Rattle.services.specs.kvs_rules.Brokers.{heard}
use Rattle.services.specs.kvs_model.Store.{Name}
use Rattle.services.specs.kvs_rules.declared.events.KvsStep.{KvsStep}
use Rattle.services.specs.kvs_rules.Quiet.{IsQuiet}
use Rattle.services.specs.manager_rules.Times.{IsIdle}
use Rattle.services.specs.instance_rules.Family.{HasTarget, IsLeftAdvance, IsLeftResult, Living}
use Rattle.services.specs.instance_rules.Legal.{OfDesk}
use Rattle.services.specs.instance_rules.Log as rules
use Rattle.services.specs.instance_rules.Log.{Instance, Log as InstanceLog, service_of}
use Rattle.services.specs.job_clock.Standing.{IsLiving}
use Rattle.services.specs.job_service.Children.{is_due as jobs_due}
use Rattle.services.specs.job_service.Feeds.{can_feed}
use Rattle.services.specs.job_service.Still.{awaited}
use Rattle.services.specs.job_states.declared.job.State.{State}
use Rattle.services.specs.kvs_core.Agrees.{Agrees}
use Rattle.services.specs.kvs_core.Seen.{primary_heard}
use Rattle.services.specs.Agrees.{AgreesServices}
use Rattle.services.specs.Steps.{HaveRested, IsStill, can_step, can_take}
use Rattle.services.specs.Value.{ServicesValue}
use Rattle.services.specs.answers.Chronicle.{top}
use Rattle.services.specs.answers.Commands.{subject_at}
use Rattle.services.specs.answers.Floors.{floor}
use Rattle.services.specs.answers.Jobs.{HasNoAdvance, instance_of, job_ask_at, living_of, log_in}
use Rattle.services.specs.answers.Services.{setting_of, log_of}
use Rattle.services.specs.answers.Whole.{HasComeToRest}
use Rattle.services.proofs.answers_proofs.Floors.{floors_within}
use Rattle.services.proofs.answers_proofs.JobLogs.{about_primary}
use Rattle.instance.specs.declared.seats.Seat.{Seat}
use Rattle.instance.specs.declared.seats.Waiting.TheVariants as waiting
use Rattle.instance.specs.Seats.{is_at_jobs, is_fed_next, last_command}
use Rattle.instance.specs.Agrees.{ActorStands, Waits, command_of}
use Rattle.instance.specs.Family.{bearing, is_due, targets_left}
use Rattle.instance.specs.Floors.{floor_in}
use Rattle.instance.specs.Steps.{can_post, has_answer, has_feed, look_of}
use Rattle.instance.specs.Value.{InstanceValue}
use Rattle.instance.proofs.Owning.{Own, DoesAgree}
use Rattle.instance.proofs.Closing.{AreResults, left_open, none_taken, none_told}
use Rattle.instance.proofs.Families.{has_rest, is_living, no_advance_left}
use Rattle.instance.proofs.Leaving.{IsStuckResult}
use Rattle.instance.proofs.Logs.{served_log}
use Rattle.instance.proofs.Waiting.{feed_waits}

nothing_found : {A : Type 0} (o : Option A) → is_some o ≡ false → o ≡ None
nothing_found None e = refl
nothing_found (Some x) e = absurd (true≢false e)

-- nothing can be made but an issue or the end
pub record CanDoNothing (v : InstanceValue) : Type 0 where
  pub steps : (s : KvsStep) → can_step v.services s ≡ false
  pub feeds : (a : ℕ) → has_feed v.services v.seats a ≡ false
  pub answers : (a : ℕ) → has_answer v.services v.seats a ≡ false
  pub looks : (a : ℕ) → look_of v a ≡ None
  pub due : is_due v ≡ false

-- there the services have come to rest
pub rested_so : (v : Own) → DoesAgree v → ((s : KvsStep) → can_step v.instance.services s ≡ false) → ((a : ℕ) → has_answer v.instance.services v.instance.seats a ≡ false) → HaveRested v.instance.services
rested_so v h steps answers = record { steps = steps; answers = none_taken v h answers }

-- nothing is due where nothing is found and no child is to be born
abbrev pub IsFreeSo : ServicesValue → Type 0
IsFreeSo services = ((s : KvsStep) → can_step services s ≡ false) → ((by : By) → can_take services by ≡ false)
    → services.jobs.found ≡ None → services.jobs.bearing ≡ None → jobs_due services.jobs ≡ false

-- so for the instance, by what it has to post
pub free_so : (v : Own) → DoesAgree v → IsFreeSo v.instance.services → ((s : KvsStep) → can_step v.instance.services s ≡ false)
    → ((a : ℕ) → has_answer v.instance.services v.instance.seats a ≡ false) → can_post v.instance ≡ false → bearing v.instance ≡ None → is_due v.instance ≡ false
free_so v h free steps answers posts unborn = free steps (none_taken v h answers) (nothing_found v.instance.services.jobs.found posts) unborn

-- the core stands where the log of the service leaves it
pub core_agrees : (v : Own) → DoesAgree v → Agrees v.instance.services.jobs.manager.core (setting_of v.set) (log_of v.set.work top v.chronicle)
core_agrees v h = subst (Agrees v.instance.services.jobs.manager.core (setting_of v.set)) (served_log v.set.work v.chronicle) h.agrees.jobs.core

-- what the services promise where they are still
pub record IsStillSo (v : Own) : Type 0 where
  pub quiet : (i : Instance) (l : InstanceLog) → AgreesServices v.instance.services i l → HaveRested v.instance.services → IsQuiet i.service (service_of l)
  pub heard : (i : Instance) (l : InstanceLog) → AgreesServices v.instance.services i l → HaveRested v.instance.services → (broker : ℕ) (space : Name) → broker < i.service.size → is_live (service_of l) space ≡ true → IsSome (heard (service_of l) broker space)
  pub last : (i : Instance) (l : InstanceLog) → AgreesServices v.instance.services i l → HaveRested v.instance.services → (broker : ℕ) → broker < i.service.size → primary_heard v.instance.services.jobs.manager.core broker ≡ landed (service_of l) primary
  pub idle : (i : Instance) (l : InstanceLog) → AgreesServices v.instance.services i l → IsStill v.instance.services → OfDesk i l IsIdle
  pub advanced : (i : Instance) (l : InstanceLog) (living : Living) → AgreesServices v.instance.services i l → IsStill v.instance.services → targets_left v.instance ≡ [] → IsLiving i l living → (target : ℕ) → HasTarget living target → ⊥
  pub left : (i : Instance) (l : InstanceLog) (living : Living) → AgreesServices v.instance.services i l → IsStill v.instance.services → IsLiving i l living → (by : By) → IsSome (i.asks by) → i.asks by ≢ Some rules.Shutdown → rules.IsOpen by l → IsSome (awaited v.instance.services.jobs by) ⊎ IsLeftAdvance living by
  pub results : (i : Instance) (l : InstanceLog) (living : Living) → AgreesServices v.instance.services i l → IsStill v.instance.services → IsLiving i l living → (by : By) (where_ : State) → awaited v.instance.services.jobs by ≡ Some where_ → IsLeftResult living by where_

module _ (v : Own) (h : DoesAgree v) (rest : CanDoNothing v.instance) (promise : IsStillSo v) where
  rested_here : HaveRested v.instance.services
  rested_here = rested_so v h rest.steps rest.answers

  -- each broker has heard all that has landed
  pub told_so : (broker : ℕ) → broker < v.set.size → primary_heard v.instance.services.jobs.manager.core broker ≡ landed (log_of v.set.work top v.chronicle) primary
  told_so broker inside =
      promise.last (instance_of v.set) (log_in v.set.work v.chronicle) h.agrees rested_here broker inside
      ∙ ap (λ l. landed l primary) (served_log v.set.work v.chronicle)

  -- at the seat of an actor that waits for a job, no floor holds a feed back: the actor's broker has
  -- heard all that has landed
  module _ (by : By) (asks : IsSome (job_ask_at v.set.work by)) (seat : Seat) (sits : slice_get v.instance.seats by.actor ≡ Some seat) (busy : seat.waiting ≡ waiting.Jobs) (last : by.command ≡ seat.issued - 1) where
    mine : ActorStands v.set (log_of v.set.work top v.chronicle) v.chronicle by.actor (Some seat)
    mine = subst (ActorStands v.set (log_of v.set.work top v.chronicle) v.chronicle by.actor) sits (h.actors by.actor)

    about : seat.subject ≡ primary
    about =
        let some = (subst (Waits v.set (log_of v.set.work top v.chronicle) by.actor seat.issued) busy mine.1.waits).0 in
        sym (mine.1.about some) ∙ ap (λ n. subject_at v.set.work (command_of by.actor n)) (sym last) ∙ about_primary v.set.work by asks

    seen : floor_in seat.floors seat.subject ≤ primary_heard v.instance.services.jobs.manager.core seat.broker
    seen =
        let within = floors_within v.set primary v.chronicle h.legal by.actor in
        let is : floor v.set.work v.chronicle by.actor primary ≡ floor_in seat.floors seat.subject = mine.1.floored primary ∙ ap (floor_in seat.floors) (sym about) in
        let told = told_so seat.broker mine.1.inside in
        omega (arith, within, is, told)

    fed_here : can_feed v.instance.services.jobs by ≡ true → has_feed v.instance.services v.instance.seats by.actor ≡ true
    fed_here can =
        ap (λ o. option_map_or (λ s. is_fed_next v.instance.services (last_command by.actor s) s) o false) sits
        ∙ ap (λ w. is_at_jobs w && (nat_le (floor_in seat.floors seat.subject) (primary_heard v.instance.services.jobs.manager.core seat.broker) && can_feed v.instance.services.jobs (last_command by.actor seat))) busy
        ∙ ap₂ (λ a b. a && b) (le-leb (floor_in seat.floors seat.subject) (primary_heard v.instance.services.jobs.manager.core seat.broker) seen)
        (ap (λ n. can_feed v.instance.services.jobs (command_of by.actor n)) (sym last) ∙ can)

  -- where no actor can be fed, no watch can
  none_fed : (by : By) → can_feed v.instance.services.jobs by ≡ false
  none_fed by = on (can_feed v.instance.services.jobs by) refl
    where
      on : (b : Bool) → can_feed v.instance.services.jobs by ≡ b → b ≡ false
      on false t = refl
      on true t =
          let w = feed_waits v.instance.services.jobs (instance_of v.set) (log_in v.set.work v.chronicle) h.agrees.jobs by t in
          let l = left_open v h by w.asks w.waits (rest.answers by.actor) in
          absurd (true≢false (sym (fed_here by w.asks l.seat l.sits l.busy l.last t) ∙ rest.feeds by.actor))

  pub still_here : IsStill v.instance.services
  still_here = record { rested = rested_here; due = rest.due; untold = none_told v h rest.answers; unfed = none_fed }

  pub quiet_so : IsQuiet (setting_of v.set) (log_of v.set.work top v.chronicle)
  quiet_so = subst (IsQuiet (setting_of v.set)) (served_log v.set.work v.chronicle) (promise.quiet (instance_of v.set) (log_in v.set.work v.chronicle) h.agrees rested_here)

  pub heard_so : (broker : ℕ) (space : Name) → broker < v.set.size → is_live (log_of v.set.work top v.chronicle) space ≡ true → IsSome (heard (log_of v.set.work top v.chronicle) broker space)
  heard_so =
      subst (λ l. (broker : ℕ) (space : Name) → broker < v.set.size → is_live l space ≡ true → IsSome (heard l broker space)) (served_log v.set.work v.chronicle)
      (promise.heard (instance_of v.set) (log_in v.set.work v.chronicle) h.agrees rested_here)

  -- the instance has come to rest
  pub rest_so : HasComeToRest v.set v.chronicle
  rest_so = has_rest v.set v.chronicle (promise.quiet (instance_of v.set) (log_in v.set.work v.chronicle) h.agrees rested_here).told
      (promise.idle (instance_of v.set) (log_in v.set.work v.chronicle) h.agrees still_here)

  -- and no advance waits
  pub advanced_so : targets_left v.instance ≡ [] → HasNoAdvance v.set v.chronicle
  advanced_so late = no_advance_left v.set v.chronicle (λ living is. promise.advanced (instance_of v.set) (log_in v.set.work v.chronicle) living h.agrees still_here late is)

  -- the job commands that are open wait for results
  pub results_so : targets_left v.instance ≡ [] → AreResults v h
  results_so late by asks waits = of (promise.left (instance_of v.set) (log_in v.set.work v.chronicle) (living_of v.set v.chronicle) h.agrees still_here (is_living v.set v.chronicle) by asks (left_open v h by asks waits (rest.answers by.actor)).other waits)
    where
      on : (o : Option State) → awaited v.instance.services.jobs by ≡ o → IsSome o → IsStuckResult v by
      on None e some = absurd (true≢false (sym some))
      on (Some where_) e some = record {
        where_ = where_;
        awaits = e;
        left = promise.results (instance_of v.set) (log_in v.set.work v.chronicle) (living_of v.set v.chronicle) h.agrees still_here (is_living v.set v.chronicle) by where_ e;
      }

      of : IsSome (awaited v.instance.services.jobs by) ⊎ IsLeftAdvance (living_of v.set v.chronicle) by → IsStuckResult v by
      of (inl some) = on (awaited v.instance.services.jobs by) refl some
      of (inr a) = absurd (advanced_so late (rules.now_of (instance_of v.set) (rules.before_issue by (log_in v.set.work v.chronicle)) + a.seconds) (record { by = by; seconds = a.seconds; asks = a.asks; waits = a.waits; is = refl }))
