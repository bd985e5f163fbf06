-- A refused submission is told one thing.
use Rattle.std.proofs.Common.{◌≡◌, ◌≢◌, ℕ, List, Option, sym, ap, ◌∙◌, Result, Ok, Err}
use Rattle.kvs_txn.specs.declared.txn.By.{By}
use Rattle.job_spec.specs.declared.faults.SpecFault.{SpecFault}
use Rattle.job_spec.specs.declared.spec.JobSpec.{JobSpec}
use Rattle.job_spec.specs.Specs.{spec_reading}
use Rattle.manager_rules.specs.Limits.{verdict_of}
use Rattle.instance_rules.specs.Log.{Instance, JobAsk, Log, Advance, Cancel, Info, Jobs, Raise, ResultOf, Shutdown, StateOf, Submit, Urge, Watch, Why}
use Rattle.instance_rules.specs.Replies.{FindsNoJob, IsRefused, IsTurnedAway}

-- a text isn't both a jobspec and none
unread : (f : SpecFault) (spec : JobSpec) → ◌≡◌ {A = Result JobSpec SpecFault} (Err f) (Ok spec) → ⊥
unread f spec e = cc

-- it is one jobspec
one_read : (a b : JobSpec) → ◌≡◌ {A = Result JobSpec SpecFault} (Ok a) (Ok b) → a ≡ b
one_read a b e = cc

pub fault_or_limit : (inst : Instance) (ask : JobAsk) (fault reason : ℕ) → IsRefused ask fault → IsTurnedAway inst ask reason → ⊥
fault_or_limit inst (Submit label urgency named text) fault reason refused away = unread refused.0 away.0 (sym refused.1 ∙ away.1)
fault_or_limit inst (Cancel label) fault reason refused away = away
fault_or_limit inst (Raise label kind severity note) fault reason refused away = away
fault_or_limit inst (Urge label urgency) fault reason refused away = away
fault_or_limit inst (StateOf label) fault reason refused away = away
fault_or_limit inst (Info label key) fault reason refused away = away
fault_or_limit inst Jobs fault reason refused away = away
fault_or_limit inst (Why label) fault reason refused away = away
fault_or_limit inst (ResultOf label) fault reason refused away = away
fault_or_limit inst (Watch label) fault reason refused away = away
fault_or_limit inst (Advance seconds) fault reason refused away = away
fault_or_limit inst Shutdown fault reason refused away = away

pub limit_or_job : (inst : Instance) (log : Log) (by : By) (ask : JobAsk) (reason : ℕ) (number : Option ℕ) → IsTurnedAway inst ask reason → FindsNoJob inst log by ask number → ⊥
limit_or_job inst log by (Submit label urgency named text) reason number away none =
    away.3 (sym away.2 ∙ ap (verdict_of inst.limits) (one_read away.0 none.1.0 (sym away.1 ∙ none.1.1)) ∙ none.1.2)
limit_or_job inst log by (Cancel label) reason number away none = away
limit_or_job inst log by (Raise label kind severity note) reason number away none = away
limit_or_job inst log by (Urge label urgency) reason number away none = away
limit_or_job inst log by (StateOf label) reason number away none = away
limit_or_job inst log by (Info label key) reason number away none = away
limit_or_job inst log by Jobs reason number away none = away
limit_or_job inst log by (Why label) reason number away none = away
limit_or_job inst log by (ResultOf label) reason number away none = away
limit_or_job inst log by (Watch label) reason number away none = away
limit_or_job inst log by (Advance seconds) reason number away none = away
limit_or_job inst log by Shutdown reason number away none = away

pub fault_or_job : (inst : Instance) (log : Log) (by : By) (ask : JobAsk) (fault : ℕ) (number : Option ℕ) → IsRefused ask fault → FindsNoJob inst log by ask number → ⊥
fault_or_job inst log by (Submit label urgency named text) fault number refused none = unread refused.0 none.1.0 (sym refused.1 ∙ none.1.1)
fault_or_job inst log by (Cancel label) fault number refused none = refused
fault_or_job inst log by (Raise label kind severity note) fault number refused none = refused
fault_or_job inst log by (Urge label urgency) fault number refused none = refused
fault_or_job inst log by (StateOf label) fault number refused none = refused
fault_or_job inst log by (Info label key) fault number refused none = refused
fault_or_job inst log by Jobs fault number refused none = refused
fault_or_job inst log by (Why label) fault number refused none = refused
fault_or_job inst log by (ResultOf label) fault number refused none = refused
fault_or_job inst log by (Watch label) fault number refused none = refused
fault_or_job inst log by (Advance seconds) fault number refused none = refused
fault_or_job inst log by Shutdown fault number refused none = refused
