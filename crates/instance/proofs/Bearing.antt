-- What a birth, an end and a tick of all instances leave of one of them.
use Rattle.std.proofs.Common.{◌≡◌, ℕ, ◌+◌, ◌≤◌, ◌<◌, ◌||◌, All, List, [], ◌∷◌, ◌++◌, Bool, true, false, is_some, Option, Some, None, refl, sym, ap, ◌∙◌, subst, true≢false}
use Rattle.std.specs.Prelude.{IfNone, slice_get}
use Rattle.services.specs.kvs_model.Store.{Name}
use Rattle.services.specs.kvs_rules.Log.{Log}
use Rattle.services.proofs.kvs_rules_proofs.Sequences.{each_push}
use Rattle.services.specs.kvs_txn.declared.txn.By.{By}
use Rattle.services.specs.instance_rules.Legal.{IsLegalMoment}
use Rattle.services.specs.instance_rules.Log as rules
use Rattle.services.specs.instance_rules.Log.{Instance, Log as InstanceLog, Moment}
use Rattle.services.specs.job_service.Agrees.{AgreesJobs}
use Rattle.services.specs.job_service.Times.{MayPassTo}
use Rattle.services.specs.job_service.Value.{JobServiceValue}
use Rattle.services.specs.resource_set.declared.node.Resources.{Resources}
use Rattle.services.specs.Agrees.{AgreesServices}
use Rattle.services.specs.Asks.{Keeps}
use Rattle.services.specs.Value.{ServicesValue}
use Rattle.services.specs.run_limits.Limits.{most_seconds}
use Rattle.services.specs.answers.declared.chronicle.Entry.{Entry}
use Rattle.services.specs.answers.declared.chronicle.Entry.TheVariants as entry
use Rattle.services.specs.answers.declared.steps.Step.TheVariants as step
use Rattle.services.specs.answers.Chronicle.{Setup, issues_of, replies_to, top}
use Rattle.services.specs.answers.Floors.{floor}
use Rattle.services.specs.answers.Jobs.{happening_of, instance_of, log_in}
use Rattle.services.specs.answers.Legal.{IsLegalEntry}
use Rattle.services.specs.answers.Services.{log_of, moment_of}
use Rattle.services.specs.answers.Whole.{IsEarlierEntry}
use Rattle.services.proofs.answers_proofs.Floors.{floor_push}
use Rattle.services.proofs.answers_proofs.Services.{asks_of, log_push}
use Rattle.instance.specs.Agrees.{ActorStands, AgreesOwn, IsTallied, command_of}
use Rattle.instance.specs.Family.{birth_of, ends_left, is_due, present}
use Rattle.instance.specs.Makes.{Follows}
use Rattle.instance.specs.Value.{InstanceValue}
use Rattle.instance.proofs.Families.{legal_tick, made_tick, settled_tick}
use Rattle.instance.proofs.Going.{unended}
use Rattle.instance.proofs.Lining.{same_lines, tallied_on}
use Rattle.instance.proofs.Listing.{each_append}
use Rattle.instance.proofs.Logs.{log_with}
use Rattle.instance.proofs.Owning.{Own, DoesAgree}
use Rattle.instance.proofs.Pushing.{actor_other}
use Rattle.instance.proofs.Serving.{stepped}

-- what agrees with an instance agrees with the jobs that it hands out
pub jobs_agree : (v w : InstanceValue) (jobs : JobServiceValue) (set : Setup) (own : List Entry) → v ≡ w → jobs ≡ v.services.jobs → AgreesOwn w set own → AgreesJobs jobs (instance_of set) (log_in set.work own)
jobs_agree v w jobs set own same is agrees =
    subst (λ j. AgreesJobs j (instance_of set) (log_in set.work own)) (sym is)
    (subst (λ x. AgreesOwn x set own) (sym same) agrees).agrees.jobs

-- they are those of the instance as its callers see it
pub jobs_value : (v w : InstanceValue) (jobs : JobServiceValue) → v ≡ w → jobs ≡ v.services.jobs → jobs ≡ w.services.jobs
jobs_value v w jobs same is = is ∙ ap (λ (x : InstanceValue). x.services.jobs) same

-- what follows where there is no value
pub none_then : {A : Type 0} {P Q : Type 0} (o : Option A) → IfNone o P → (P → Q) → IfNone o Q
none_then None h f = f h
none_then (Some x) h f = tt

-- an entry that is a moment of the instance, and is neither about a command nor about the service
pub record IsApart (set : Setup) (c : List Entry) (e : Entry) (m : Moment) : Type 0 where
  pub happens : happening_of set.work c e ≡ Some m
  pub unserved : moment_of set.work top c e ≡ None
  pub unissued : (a : ℕ) → issues_of a e ≡ false
  pub unreplied : (by : By) → replies_to by e ≡ false
  pub unseen : (a : ℕ) (space : Name) → floor set.work (c ++ e ∷ []) a space ≡ floor set.work c a space
  pub early : IsEarlierEntry e

pub apart_agrees : (v : Own) → DoesAgree v → (e : Entry) (m : Moment) → IsApart v.set v.chronicle e m → (services : ServicesValue) → IsTallied (stepped v.instance.seats services) v.set.work.lines →
    IsLegalEntry v.set v.chronicle e → AgreesServices services (instance_of v.set) (log_in v.set.work v.chronicle ++ m ∷ []) → AgreesOwn (stepped v.instance.seats services) v.set (v.chronicle ++ e ∷ [])
apart_agrees v h e m apart services tallied legal agrees =
    let log : Log = log_of v.set.work top v.chronicle in
    let c : List Entry = v.chronicle ++ e ∷ [] in
    record {
      within = h.within;
      known = h.known;
      few = h.few;
      tallied = tallied;
      legal = each_push (IsLegalEntry v.set) v.chronicle e h.legal legal;
      early = each_append IsEarlierEntry v.chronicle (e ∷ []) h.early (apart.early, tt);
      seated = h.seated;
      agrees = subst (AgreesServices services (instance_of v.set)) (sym (log_with v.set.work v.chronicle e m apart.happens)) agrees;
      actors = λ a. subst (λ l. ActorStands v.set l c a (slice_get v.instance.seats a)) (sym (log_push v.set.work top v.chronicle e))
          (actor_other v.set log v.chronicle e (moment_of v.set.work top v.chronicle e) a (slice_get v.instance.seats a)
          (record { unissued = apart.unissued a; unreplied = λ k. apart.unreplied (command_of a k); unasked = λ k. ap (asks_of (command_of a k)) apart.unserved })
          (λ space. apart.unseen a space)
          (h.actors a));
    }

-- ---- births and ends

born_apart : (set : Setup) (c : List Entry) (child job : ℕ) (label : List ℕ) (second : ℕ) (grant : Resources) → IsApart set c (entry.Born child top job label second grant) (rules.Born job)
born_apart set c child job label second grant = record {
  happens = refl;
  unserved = refl;
  unissued = λ a. refl;
  unreplied = λ by. refl;
  unseen = λ a space. floor_push set.work c (entry.Born child top job label second grant) a space;
  early = tt;
}

gone_apart : (set : Setup) (c : List Entry) (child job : ℕ) (shut : Bool) → IsApart set c (entry.Gone child top job shut) (rules.Gone job shut)
gone_apart set c child job shut = record {
  happens = refl;
  unserved = refl;
  unissued = λ a. refl;
  unreplied = λ by. refl;
  unseen = λ a space. floor_push set.work c (entry.Gone child top job shut) a space;
  early = tt;
}

-- what the services say of a moment
pub record IsHappened (old new : ServicesValue) (m : Moment) : Type 0 where
  pub keeps : Keeps old new
  pub legal : (i : Instance) (l : InstanceLog) → AgreesServices old i l → IsLegalMoment i l m
  pub agrees : (i : Instance) (l : InstanceLog) → AgreesServices old i l → AgreesServices new i (l ++ m ∷ [])

pub born_follows : (v : Own) → DoesAgree v → (job : ℕ) (services : ServicesValue) → IsHappened v.instance.services services (rules.Born job) →
    (child : ℕ) (label : List ℕ) (second : ℕ) (grant : Resources) → Follows v.set v.chronicle (step.Birth top job) (stepped v.instance.seats services) (entry.Born child top job label second grant ∷ [])
born_follows v h job services b child label second grant =
    let e : Entry = entry.Born child top job label second grant in
    let legal : IsLegalEntry v.set v.chronicle e = record { goes_on = unended v.chronicle h.early; grounds = (refl, b.legal (instance_of v.set) (log_in v.set.work v.chronicle) h.agrees) } in
    record {
      made = record { child = child; label = label; second = second; grant = grant; behind = []; split = refl; others = tt };
      legal = (legal, tt);
      settled = λ told. (tt, tt);
      agrees = apart_agrees v h e (rules.Born job) (born_apart v.set v.chronicle child job label second grant) services
          (tallied_on v.instance (stepped v.instance.seats services) v.set.work.lines b.keeps.counts (same_lines v.instance.seats) h.tallied)
          legal (b.agrees (instance_of v.set) (log_in v.set.work v.chronicle) h.agrees);
    }

pub gone_follows : (v : Own) → DoesAgree v → (job : ℕ) (shut : Bool) (services : ServicesValue) → IsHappened v.instance.services services (rules.Gone job shut) →
    (child : ℕ) → Follows v.set v.chronicle (step.End child) (stepped v.instance.seats services) (entry.Gone child top job shut ∷ [])
gone_follows v h job shut services b child =
    let e : Entry = entry.Gone child top job shut in
    let legal : IsLegalEntry v.set v.chronicle e = record { goes_on = unended v.chronicle h.early; grounds = (refl, b.legal (instance_of v.set) (log_in v.set.work v.chronicle) h.agrees) } in
    record {
      made = refl;
      legal = (legal, tt);
      settled = λ told. (tt, tt);
      agrees = apart_agrees v h e (rules.Gone job shut) (gone_apart v.set v.chronicle child job shut) services
          (tallied_on v.instance (stepped v.instance.seats services) v.set.work.lines b.keeps.counts (same_lines v.instance.seats) h.tallied)
          legal (b.agrees (instance_of v.set) (log_in v.set.work v.chronicle) h.agrees);
    }

-- ---- time

ticked_apart : (set : Setup) (c : List Entry) (second : ℕ) → IsApart set c (entry.Ticked second) (rules.Ticked second)
ticked_apart set c second = record {
  happens = refl;
  unserved = refl;
  unissued = λ a. refl;
  unreplied = λ by. refl;
  unseen = λ a space. floor_push set.work c (entry.Ticked second) a space;
  early = tt;
}

-- where nothing is posted or due, time may go on
pub may_pass : (v : InstanceValue) (second : ℕ) → is_due v ≡ false → present v < second → All (λ other. second ≤ other) (ends_left v) → second ≤ birth_of v + most_seconds → MayPassTo v.services.jobs second
may_pass v second free above before near =
    let first = or_none (is_some v.services.jobs.manager.posted || is_some v.services.jobs.found) (is_some v.services.jobs.bearing) free in
    let before_it = or_none (is_some v.services.jobs.manager.posted) (is_some v.services.jobs.found) first.0 in
    record {
      unposted = empty v.services.jobs.manager.posted before_it.0;
      unfound = empty v.services.jobs.found before_it.1;
      unborn = empty v.services.jobs.bearing first.1;
      passes = record { above = above; before = before };
      near = near;
    }
  where
    or_none : (a b : Bool) → (a || b) ≡ false → (a ≡ false) × (b ≡ false)
    or_none true b e = absurd (true≢false e)
    or_none false b e = (refl, e)

    empty : {A : Type 0} (o : Option A) → is_some o ≡ false → o ≡ None
    empty None e = refl
    empty (Some x) e = absurd (true≢false e)

-- what the services say of a tick that an advance of any instance asked for
pub record IsPassed (old new : ServicesValue) (second : ℕ) : Type 0 where
  pub keeps : Keeps old new
  pub legal : (i : Instance) (l : InstanceLog) → AgreesServices old i l → IsLegalMoment i l (rules.Ticked second)
  pub agrees : (i : Instance) (l : InstanceLog) → AgreesServices old i l → AgreesServices new i (l ++ rules.Ticked second ∷ [])

pub passes_follow : (v : Own) → DoesAgree v → (second : ℕ) (services : ServicesValue) → IsPassed v.instance.services services second →
    Follows v.set v.chronicle step.Tick (stepped v.instance.seats services) (entry.Ticked second ∷ [])
passes_follow v h second services p =
    let legal : IsLegalEntry v.set v.chronicle (entry.Ticked second) = legal_tick v.set v.chronicle second (unended v.chronicle h.early) (p.legal (instance_of v.set) (log_in v.set.work v.chronicle) h.agrees) in
    record {
      made = made_tick v.set.work v.chronicle second;
      legal = (legal, tt);
      settled = λ told. settled_tick v.set v.chronicle second (told tt);
      agrees = apart_agrees v h (entry.Ticked second) (rules.Ticked second) (ticked_apart v.set v.chronicle second) services
          (tallied_on v.instance (stepped v.instance.seats services) v.set.work.lines p.keeps.counts (same_lines v.instance.seats) h.tallied)
          legal (p.agrees (instance_of v.set) (log_in v.set.work v.chronicle) h.agrees);
    }
