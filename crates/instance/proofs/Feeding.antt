-- What a feed of a watch leaves of an instance.
use Rattle.std.proofs.Common.{◌≡◌, ℕ, ◌-◌, ◌<◌, ◌≤◌, ◌&&◌, List, [], ◌∷◌, Bool, true, false, is_some, Option, Some, None, refl, sym, ap, ◌∙◌, subst, arith, true≢false}
use Rattle.std.specs.Prelude.{slice_get}
use Rattle.std.specs.Option.{option_map_or}
use Rattle.std.proofs.lemmas.Bool.{leb-true}
use Rattle.services.specs.kvs_rules.Brokers.{heard}
use Rattle.services.specs.kvs_rules.Log.{Log}
use Rattle.services.specs.kvs_rules.Namespaces.{primary}
use Rattle.services.specs.kvs_txn.declared.txn.By.{By}
use Rattle.services.specs.instance_rules.Log as rules
use Rattle.services.specs.job_service.Feeds.{can_feed}
use Rattle.services.specs.job_service.declared.feeds.Fed.{Fed}
use Rattle.services.specs.kvs_core.Seen.{primary_heard}
use Rattle.services.specs.Asks.{Feeds, Keeps}
use Rattle.services.specs.Value.{ServicesValue}
use Rattle.services.specs.answers.declared.chronicle.Entry.{Entry}
use Rattle.services.specs.answers.declared.chronicle.Entry.TheVariants as entry
use Rattle.services.specs.answers.declared.steps.Step.TheVariants as step
use Rattle.services.specs.answers.Chronicle.{Setup, before_issue, issues, top}
use Rattle.services.specs.answers.Commands.{broker_of}
use Rattle.services.specs.answers.Floors.{floor}
use Rattle.services.specs.answers.Jobs.{instance_of, log_in}
use Rattle.services.specs.answers.Legal.{IsLegalEntry, IsSeenFeed}
use Rattle.services.specs.answers.Services.{log_of}
use Rattle.services.proofs.answers_proofs.Carried.{until_begins}
use Rattle.services.proofs.answers_proofs.Floors.{floor_push, floor_rises}
use Rattle.services.proofs.answers_proofs.JobLogs.{about_primary}
use Rattle.instance.specs.declared.seats.Seat.{Seat}
use Rattle.instance.specs.declared.seats.Waiting.{Waiting}
use Rattle.instance.specs.declared.seats.Waiting.TheVariants as waiting
use Rattle.instance.specs.Agrees.{ActorStands, Waits, command_of}
use Rattle.instance.specs.Floors.{floor_in}
use Rattle.instance.specs.Makes.{Follows}
use Rattle.instance.specs.Seats.{is_at_jobs, is_fed_next, last_command}
use Rattle.instance.specs.Steps.{has_feed}
use Rattle.instance.specs.Value.{InstanceValue}
use Rattle.instance.proofs.Bearing.{IsApart, apart_agrees}
use Rattle.instance.proofs.Going.{unended}
use Rattle.instance.proofs.Lining.{same_lines, tallied_on}
use Rattle.instance.proofs.Logs.{served_log}
use Rattle.instance.proofs.Owning.{Own, DoesAgree}
use Rattle.instance.proofs.Serving.{stepped}

both : (a b : Bool) → (a && b) ≡ true → (a ≡ true) × (b ≡ true)
both true b h = (refl, h)
both false b h = absurd (true≢false (sym h))

at_jobs : (w : Waiting) → is_at_jobs w ≡ true → w ≡ waiting.Jobs
at_jobs waiting.Jobs h = refl
at_jobs _ h = absurd (true≢false (sym h))

-- an actor that can be fed has a seat
pub feed_within : (v : InstanceValue) (a : ℕ) → has_feed v.services v.seats a ≡ true → (seat : Seat) × (slice_get v.seats a ≡ Some seat)
feed_within v a can = on (slice_get v.seats a) refl can
  where
    on : (o : Option Seat) → slice_get v.seats a ≡ o → option_map_or (λ seat. is_fed_next v.services (last_command a seat) seat) o false ≡ true → (seat : Seat) × (slice_get v.seats a ≡ Some seat)
    on None e t = absurd (true≢false (sym t))
    on (Some seat) e t = (seat, e)

fed_apart : (set : Setup) (c : List Entry) (a k number first count : ℕ) → IsApart set c (entry.Watched a k number first count) (rules.Fed (command_of a k) number first count)
fed_apart set c a k number first count = record {
  happens = refl;
  unserved = refl;
  unissued = λ b. refl;
  unreplied = λ by. refl;
  unseen = λ b space. floor_push set.work c (entry.Watched a k number first count) b space;
  early = tt;
}

module _ (v : Own) (h : DoesAgree v) (a : ℕ) (seat : Seat) (sits : slice_get v.instance.seats a ≡ Some seat) (can : has_feed v.instance.services v.instance.seats a ≡ true)
    (hears : (broker : ℕ) → broker < v.instance.services.jobs.manager.core.size → heard (log_of v.set.work top v.chronicle) broker primary ≡ Some (primary_heard v.instance.services.jobs.manager.core broker))
    (services : ServicesValue) (fed : Fed) (keeps : Keeps v.instance.services services)
    (feeds : Feeds services (instance_of v.set) (log_in v.set.work v.chronicle) (command_of a (seat.issued - 1)) fed) where
  abbrev by : By
  by = command_of a (seat.issued - 1)

  abbrev log : Log
  log = log_of v.set.work top v.chronicle

  mine : ActorStands v.set log v.chronicle a (Some seat)
  mine = subst (ActorStands v.set log v.chronicle a) sits (h.actors a)

  fits : is_fed_next v.instance.services by seat ≡ true
  fits = ap (λ o. option_map_or (λ s. is_fed_next v.instance.services (last_command a s) s) o false) (sym sits) ∙ can

  busy : seat.waiting ≡ waiting.Jobs
  busy = at_jobs seat.waiting (both (is_at_jobs seat.waiting) _ fits).0

  known : floor_in seat.floors seat.subject ≤ primary_heard v.instance.services.jobs.manager.core seat.broker
  known = leb-true (floor_in seat.floors seat.subject) (primary_heard v.instance.services.jobs.manager.core seat.broker) (both _ (can_feed v.instance.services.jobs by) (both (is_at_jobs seat.waiting) _ fits).1).0

  about : seat.subject ≡ primary
  about =
      let some = (subst (Waits v.set log a seat.issued) busy mine.1.waits).0 in
      sym (mine.1.about some) ∙ about_primary v.set.work by (ap is_some feeds.legal.asks)

  told : primary_heard v.instance.services.jobs.manager.core seat.broker ≡ fed.number
  told =
      let here = hears seat.broker (subst (λ n. seat.broker < n) h.agrees.jobs.core.size mine.1.inside) in
      let there = ap (λ l. heard l (broker_of v.set.work a) primary) (sym (served_log v.set.work v.chronicle)) ∙ feeds.number in
      same (sym here ∙ ap (λ b. heard log b primary) mine.1.home ∙ there)
    where
      same : {x y : ℕ} → Some x ≡ Some y → x ≡ y
      same e = cc

  seen : IsSeenFeed v.set v.chronicle by fed.number
  seen =
      let begins = until_begins (issues by) v.chronicle in
      let rises : floor v.set.work (before_issue by v.chronicle) a primary ≤ floor v.set.work v.chronicle a primary =
      subst (λ d. floor v.set.work (before_issue by v.chronicle) a primary ≤ floor v.set.work d a primary) (sym begins.split) (floor_rises v.set.work (before_issue by v.chronicle) begins.rest primary a) in
      let now : floor v.set.work v.chronicle a primary ≡ floor_in seat.floors seat.subject = mine.1.floored primary ∙ ap (floor_in seat.floors) (sym about) in
      let most = known in
      let is = told in
      omega (arith, rises, now, most, is)

  abbrev watched : Entry
  watched = entry.Watched a (seat.issued - 1) fed.number fed.first fed.count

  legal : IsLegalEntry v.set v.chronicle watched
  legal = record { goes_on = unended v.chronicle h.early; grounds = (seen, feeds.legal) }

  pub feed_follows : (es : List Entry) → es ≡ watched ∷ [] → Follows v.set v.chronicle (step.Feed a) (stepped v.instance.seats services) es
  feed_follows es is = subst (Follows v.set v.chronicle (step.Feed a) (stepped v.instance.seats services)) (sym is) (record {
    made = record { command = seat.issued - 1; number = fed.number; first = fed.first; count = fed.count; split = refl };
    legal = (legal, tt);
    settled = λ start. (tt, tt);
    agrees = apart_agrees v h watched (rules.Fed by fed.number fed.first fed.count) (fed_apart v.set v.chronicle a (seat.issued - 1) fed.number fed.first fed.count) services
        (tallied_on v.instance (stepped v.instance.seats services) v.set.work.lines keeps.counts (same_lines v.instance.seats) h.tallied)
        legal feeds.agrees;
  })
