-- What is asked of the services, and what is told.
use Rattle.std.specs.Prelude.{◌≡◌, ℕ, [], ◌∷◌, ◌++◌, Option, Some}
use Rattle.job_service.specs.kvs_model.Store.{Name}
use Rattle.job_service.specs.kvs_core.Requests as core
use Rattle.job_service.specs.kvs_rules.declared.events.KvsAsk.{KvsAsk}
use Rattle.job_service.specs.kvs_rules.declared.events.KvsAnswer.{KvsAnswer}
use Rattle.job_service.specs.kvs_rules.declared.events.KvsEvent.TheVariants as event
use Rattle.job_service.specs.kvs_rules.Brokers.{heard}
use Rattle.job_service.specs.kvs_rules.Log.{Asked, Happened}
use Rattle.job_service.specs.kvs_rules.Namespaces.{primary}
use Rattle.job_service.specs.kvs_txn.declared.txn.By.{By}
use Rattle.job_service.specs.answers.Jobs.{job_reply_of}
use Rattle.job_service.specs.answers.declared.chronicle.Reply.{Reply}
use Rattle.job_service.specs.instance_rules.Legal.{IsLegalMoment}
use Rattle.job_service.specs.instance_rules.Log as moment
use Rattle.job_service.specs.instance_rules.Log.{Instance, JobReply, Log, Replied, Served, service_of}
use Rattle.job_service.specs.instance_rules.Replies.{IsLegalReply}
use Rattle.job_service.specs.instance_rules.Watches.{IsLegalFeed}
use Rattle.job_service.specs.declared.feeds.Fed.{Fed}
use Rattle.job_service.specs.Agrees.{IsNewAsk}
use Rattle.job_service.specs.Times.{KeepsCounts}
use Rattle.services.specs.Agrees.{AgreesServices}
use Rattle.services.specs.Value.{ServicesValue}

-- what the services carry out: what the core does
abbrev pub IsServedAsk : KvsAsk → Type 0
IsServedAsk asked = core.IsServedAsk asked

-- as many brokers, submissions and seconds of advances as before
pub record Keeps (old new : ServicesValue) : Type 0 where
  pub size : new.size ≡ old.size
  pub counts : KeepsCounts old.jobs new.jobs

-- after some log that agrees the command, which has asked nothing, asks this
pub record MayAsk (v : ServicesValue) (by : By) (broker : ℕ)
    (space : Name) (asked : KvsAsk) : Type 0 where
  pub inst : Instance
  pub log : Log
  pub agrees : AgreesServices v inst log
  pub new : IsNewAsk v.jobs inst log by broker space asked

-- after whatever log agrees the services agree with what the command asks there, which has asked
-- nothing before and whose actor has seen this number of the namespace
abbrev pub AgreesOnce : ServicesValue → ServicesValue → By → ℕ → ℕ → Name → KvsAsk → Type 0
AgreesOnce old new by floor broker space asked = (inst : Instance) (log : Log)
    → AgreesServices old inst log
    → IsNewAsk old.jobs inst log by broker space asked
    → (floors : Name → ℕ) → floors space ≡ floor
    → AgreesServices new inst (log ++ Served (Asked by floors) ∷ [])

-- after whatever log agrees the command may be told so, and the services agree with that
pub record Tells (old new : ServicesValue) (by : By)
    (number : Option ℕ) (given : KvsAnswer) : Type 0 where
  pub legal : (inst : Instance) (log : Log) → AgreesServices old inst log
      → IsLegalMoment inst log (Served (Happened (event.Answered by number given)))
  pub agrees : (inst : Instance) (log : Log) → AgreesServices old inst log
      → AgreesServices new inst (log ++ Served (Happened (event.Answered by number given)) ∷ [])

-- after whatever log agrees the job command is told so, which its rules allow, and the services
-- agree with that
pub record Answers (new : ServicesValue) (inst : Instance)
    (log : Log) (by : By) (given : Reply) (number : Option ℕ) : Type 0 where
  pub reply : JobReply
  pub hands : job_reply_of given ≡ Some reply
  pub legal : IsLegalReply inst log by reply number
  pub agrees : AgreesServices new inst (log ++ Replied by reply number ∷ [])

-- the watch is fed so many events behind so many, at the number that its broker has heard of
-- `primary`; its rules allow that, and the services agree with it
pub record Feeds (new : ServicesValue) (inst : Instance)
    (log : Log) (by : By) (fed : Fed) : Type 0 where
  pub number : heard (service_of log) (inst.rank by) primary ≡ Some fed.number
  pub legal : IsLegalFeed inst log by fed.number fed.first fed.count
  pub agrees : AgreesServices new inst (log ++ moment.Fed by fed.number fed.first fed.count ∷ [])
