-- When an instance rests and may close, and how time goes on in it.
use Rattle.std.proofs.Common.{◌≡◌, ℕ, List, [], ◌∷◌, ◌++◌, false, None, refl, sym, ap, ◌∙◌, subst}
use Rattle.std.specs.List.{AllByRecursion as Each}
use Rattle.services.specs.kvs_rules.Quiet.{AreAllTold}
use Rattle.services.specs.kvs_rules.Sequence.{EachAfter}
use Rattle.services.specs.manager_rules.Times.{IsIdle}
use Rattle.services.specs.instance_rules.Family.{HasTarget, Living}
use Rattle.services.specs.instance_rules.Legal.{IsLegalMoment, OfDesk}
use Rattle.services.specs.instance_rules.Log.{Log, Ticked, service_of}
use Rattle.services.specs.job_clock.Standing.{IsLiving, IsTop}
use Rattle.services.specs.answers.declared.chronicle.Entry.{Entry}
use Rattle.services.specs.answers.declared.chronicle.Entry.TheVariants as entry
use Rattle.services.specs.answers.declared.steps.Step.TheVariants as step
use Rattle.services.specs.answers.Chronicle.{Setup, top}
use Rattle.services.specs.answers.Jobs.{HasNoAdvance, instance_of, living_of, log_in}
use Rattle.services.specs.answers.Legal.{HasSettled, IsLegalEntry, SettlesFirst}
use Rattle.services.specs.answers.Services.{log_of, setting_of}
use Rattle.services.specs.answers.Stretches.{IsStretch}
use Rattle.services.specs.answers.Whole.{HasComeToRest, IsClosingEntry, has_ended}
use Rattle.services.specs.workload.declared.work.Workload.{Workload}
use Rattle.instance.proofs.Logs.{log_closed, served_log}

pub is_top : (set : Setup) (c : List Entry) → IsTop (instance_of set) (log_in set.work c) (living_of set c)
is_top set c = record { is = refl; logged = refl; from = refl }

pub is_living : (set : Setup) (c : List Entry) → IsLiving (instance_of set) (log_in set.work c) (living_of set c)
is_living set c = record { is = refl; logged = refl }

-- ---- at rest

pub has_rest : (set : Setup) (c : List Entry) → AreAllTold (setting_of set) (service_of (log_in set.work c)) → OfDesk (instance_of set) (log_in set.work c) IsIdle → HasComeToRest set c
has_rest set c told idle = record { told = subst (AreAllTold (setting_of set)) (served_log set.work c) told; idle = idle }

-- ---- the end

-- where no advance waits in any living instance of the log, none waits
pub no_advance_left : (set : Setup) (c : List Entry) → ((l : Living) → IsLiving (instance_of set) (log_in set.work c) l → (target : ℕ) → HasTarget l target → ⊥) → HasNoAdvance set c
no_advance_left set c none target waits = none (living_of set c) (is_living set c) target waits

-- a chronicle with the same log stands as far
module _ (set : Setup) (c own : List Entry) (same : log_in set.work c ≡ log_in set.work own) where
  pub same_service : log_of set.work top c ≡ log_of set.work top own
  same_service = sym (served_log set.work c) ∙ ap service_of same ∙ served_log set.work own

  pub same_living : living_of set c ≡ living_of set own
  same_living = ap (λ (log : Log). record { number = top; inst = instance_of set; log = log; from = None; shuts = false }) same

  pub rests_alike : HasComeToRest set own → HasComeToRest set c
  rests_alike rest = record {
    told = subst (AreAllTold (setting_of set)) (sym same_service) rest.told;
    idle = subst (λ log. OfDesk (instance_of set) log IsIdle) (sym same) rest.idle;
  }

  pub advanced_alike : HasNoAdvance set own → HasNoAdvance set c
  advanced_alike none target waits = none target (subst (λ l. HasTarget l target) same_living waits)

-- so it does with closing replies and the end
pub rests_at_end : (set : Setup) (own left : List Entry) → Each IsClosingEntry left → HasComeToRest set own → HasComeToRest set (own ++ left ++ entry.Closed ∷ [])
rests_at_end set own left closing rest = rests_alike set (own ++ left ++ entry.Closed ∷ []) own (log_closed set.work own left closing) rest

pub advanced_at_end : (set : Setup) (own left : List Entry) → Each IsClosingEntry left → HasNoAdvance set own → HasNoAdvance set (own ++ left ++ entry.Closed ∷ [])
advanced_at_end set own left closing none = advanced_alike set (own ++ left ++ entry.Closed ∷ []) own (log_closed set.work own left closing) none

-- ---- time

pub legal_tick : (set : Setup) (c : List Entry) (second : ℕ) → has_ended c ≡ false → IsLegalMoment (instance_of set) (log_in set.work c) (Ticked second)
    → IsLegalEntry set c (entry.Ticked second)
legal_tick set c second goes_on legal = record { goes_on = goes_on; grounds = legal }

-- it comes in time where it may be made in each top instance of the log
pub made_tick : (work : Workload) (c : List Entry) (second : ℕ) → IsStretch work c step.Tick (entry.Ticked second ∷ [])
made_tick work c second = record { second = second; split = refl }

pub settled_tick : (set : Setup) (c : List Entry) (second : ℕ) → HasSettled set c → EachAfter (SettlesFirst set) c (entry.Ticked second ∷ [])
settled_tick set c second settled = (settled, tt)
