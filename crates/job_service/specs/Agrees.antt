-- When a job service stands where the log of an instance leaves it.
use Rattle.std.specs.Prelude.{◌≡◌, ℕ, ◌<◌, false, IsSome, Some, None, Contains}
use Rattle.kvs_core.specs.Agrees.{Agrees}
use Rattle.kvs_core.specs.Requests.{AsksAtRest}
use Rattle.kvs_rules.specs.Answers.{IsLegalLog}
use Rattle.kvs_rules.specs.Log.{is_asked}
use Rattle.kvs_rules.specs.OneStore.{AsksOwn}
use Rattle.kvs_rules.specs.declared.events.KvsAsk.{KvsAsk}
use Rattle.job_deeds.specs.kvs_model.Store.{Name}
use Rattle.job_deeds.specs.kvs_txn.declared.txn.By.{By}
use Rattle.instance_rules.specs.Log.{Instance, IsBuilt, IsInstance, Log, Shutdown, is_decided, is_issued, is_replied, now_of, service_of}
use Rattle.instance_rules.specs.Replies.{IsLegalReply}
use Rattle.job_book.specs.Value.{BookValue}
use Rattle.job_commands.specs.Agrees.{AgreesCommands, HasUniqueLabels}
use Rattle.job_commands.specs.Asks.{told}
use Rattle.job_commands.specs.Desks.{desk_of}
use Rattle.job_commands.specs.declared.ask.JobAsk.{JobAsk}
use Rattle.job_submissions.specs.Made.{AreLabelled}
use Rattle.job_deeds.specs.resource_set.declared.node.Resources.{Resources}
use Rattle.job_deeds.specs.tap.Factors.{priority_by}
use Rattle.job_deeds.specs.manager_rules.declared.terms.Terms.{Terms}
use Rattle.run_limits.specs.Limits.{most_submits}
use Rattle.job_service.specs.declared.refusals.Refused.{Refused}
use Rattle.job_service.specs.Due.{Owes}
use Rattle.job_service.specs.Watching.{AreFed}
use Rattle.job_service.specs.Refusals.{reply_to}
use Rattle.job_service.specs.Value.{JobServiceValue}

-- an instance serves its jobs on these terms, and its log begins with its birth
pub record IsOnTerms (inst : Instance) (terms : Terms) : Type 0 where
  pub built : IsBuilt inst
  pub answer : inst.answer ≡ priority_by terms.weights
  pub policy : inst.policy ≡ terms.policy
  pub limits : inst.limits ≡ terms.limits
  pub shown : inst.shown ≡ terms.shown

-- the book has the grant and the policy of the instance
pub record IsBookOf (inst : Instance) (book : BookValue) : Type 0 where
  pub grant : book.grant ≡ inst.grant
  pub policy : book.policy ≡ inst.policy

-- the service is one of this instance: no two of its submissions have one label, each of its job
-- commands is of one of its brokers, and jobs are served on the service's terms
pub record IsOf (inst : Instance) (v : JobServiceValue) : Type 0 where
  pub valid : IsInstance inst
  pub unique : HasUniqueLabels inst
  pub ranks : (by : By) → IsSome (inst.asks by) → inst.rank by < inst.service.size
  pub terms : IsOnTerms inst v.terms
  pub birth : inst.birth ≡ v.birth
  pub book : IsBookOf inst v.manager.book

-- an instance with so many brokers in such a tree, with this grant, that is born at this second and
-- serves its jobs on these terms; none of its commands asks for a link into another namespace
pub record IsServedBy (inst : Instance) (brokers children : ℕ)
    (resources : Resources) (now : ℕ) (terms : Terms) : Type 0 where
  pub valid : IsInstance inst
  pub unique : HasUniqueLabels inst
  pub ranks : (by : By) → IsSome (inst.asks by) → inst.rank by < inst.service.size
  pub served : IsOnTerms inst terms
  pub birth : inst.birth ≡ now
  pub grant : inst.grant ≡ resources
  pub size : inst.service.size ≡ brokers
  pub fanout : inst.service.fanout ≡ children
  pub links : AsksOwn inst.service

-- no moment answers the command, and no landing and no denial names it
pub record IsUntold (by : By) (log : Log) : Type 0 where
  pub unanswered : is_replied by log ≡ false
  pub undecided : is_decided by log ≡ false

-- the service stands where the log leaves it
pub record AgreesJobs (v : JobServiceValue) (inst : Instance) (log : Log) : Type 0 where
  pub kind : IsOf inst v
  pub core : Agrees v.manager.core inst.service (service_of log)
  pub legal : IsLegalLog inst.service (service_of log)
  pub commands : AgreesCommands v.commands inst log
  pub second : now_of inst log ≡ v.second
  pub owes : Owes v.manager.posted v.found (desk_of v.commands inst log v.manager.book.jobs)
  pub labelled : AreLabelled v.commands.labels v.manager.book.jobs
  pub refused : (r : Refused) → Contains v.refused r
      → IsLegalReply inst log r.by (reply_to r.fault) None
  pub fed : AreFed v.feeds inst log
  pub untold : (by : By) → IsSome (inst.asks by) → is_issued by log ≡ false → IsUntold by log
  pub shutdowns : (by : By) → inst.asks by ≡ Some Shutdown → is_decided by log ≡ false

-- another submission can be issued
abbrev pub HasRoom : JobServiceValue → Type 0
HasRoom v = v.submitted < most_submits

-- it stands where the log of some instance leaves it
pub record IsAgreed (v : JobServiceValue) : Type 0 where
  pub inst : Instance
  pub log : Log
  pub agrees : AgreesJobs v inst log

-- the job command asks this at the broker, and isn't issued yet
pub record IsNewCommand (inst : Instance) (log : Log)
    (by : By) (rank : ℕ) (asked : JobAsk) : Type 0 where
  pub asks : inst.asks by ≡ Some (told asked)
  pub home : inst.rank by ≡ rank
  pub new : is_issued by log ≡ false

-- so in the log of some instance
pub record MayIssue (v : JobServiceValue) (by : By) (rank : ℕ) (asked : JobAsk) : Type 0 where
  pub inst : Instance
  pub log : Log
  pub agrees : AgreesJobs v inst log
  pub new : IsNewCommand inst log by rank asked

-- the command asks this of the service, and hasn't done so yet
pub record IsNewAsk (v : JobServiceValue) (inst : Instance) (log : Log) (by : By)
    (broker : ℕ) (space : Name) (asked : KvsAsk) : Type 0 where
  pub asks : inst.service.asks by ≡ Some (record {
    broker = broker;
    namespace = space;
    ask = asked;
  })
  pub new : is_asked by (service_of log) ≡ false
  pub rested : AsksAtRest inst.service v.manager.core

-- so in the log of some instance
pub record MayAsk (v : JobServiceValue) (by : By) (broker : ℕ)
    (space : Name) (asked : KvsAsk) : Type 0 where
  pub inst : Instance
  pub log : Log
  pub agrees : AgreesJobs v inst log
  pub new : IsNewAsk v inst log by broker space asked
