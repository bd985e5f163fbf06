-- What an issue leaves of the services, by what the command orders.
use Rattle.std.specs.Prelude.{◌≡◌, [], ◌∷◌, false, ℕ, Option, Some, None}
use Rattle.services.specs.instance_rules.Log as rules
use Rattle.services.specs.instance_rules.Log.{Instance, Issued, Log, is_issued}
use Rattle.services.specs.job_commands.Asks.{told}
use Rattle.services.specs.job_commands.declared.ask.JobAsk.{JobAsk}
use Rattle.services.specs.job_service.Agrees.{IsNewCommand}
use Rattle.services.specs.job_service.Times.{Counts}
use Rattle.services.specs.kvs_txn.declared.txn.By.{By}
use Rattle.services.specs.Value.{ServicesValue}
use Rattle.instance.specs.declared.jobs.Ordered.{Ordered}
use Rattle.instance.specs.declared.jobs.Ordered.TheVariants as ordered

-- what is ordered, as the rules of an instance have it
abbrev pub asked_in : Ordered → Option rules.JobAsk
asked_in ordered.Nothing = None
asked_in (ordered.Job asked) = Some (told asked)
asked_in ordered.Shutdown = Some rules.Shutdown

-- P of what is asked of the job manager or of time, if anything is
abbrev pub IfAsked : Ordered → (JobAsk → Type 0) → Type 0
IfAsked ordered.Nothing P = Unit {0}
IfAsked (ordered.Job asked) P = P asked
IfAsked ordered.Shutdown P = Unit {0}

-- the moment at which a command is issued that orders this, if it is one
abbrev pub issues_of : By → Ordered → Log
issues_of by ordered.Nothing = []
issues_of by (ordered.Job asked) = Issued by ∷ []
issues_of by ordered.Shutdown = Issued by ∷ []

-- the command shuts its instance down, and isn't issued yet
pub record IsNewShutdown (inst : Instance) (log : Log) (by : By) : Type 0 where
  pub asks : inst.asks by ≡ Some rules.Shutdown
  pub new : is_issued by log ≡ false

-- the command orders this at the broker, and isn't issued yet, if it orders anything
abbrev pub IsNewOrder : Instance → Log → By → ℕ → Ordered → Type 0
IsNewOrder inst log by broker ordered.Nothing = Unit {0}
IsNewOrder inst log by broker (ordered.Job asked) = IsNewCommand inst log by broker asked
IsNewOrder inst log by broker ordered.Shutdown = IsNewShutdown inst log by

-- what was asked is counted, and there are as many brokers as before
pub record HasCounted (asked : JobAsk) (old new : ServicesValue) : Type 0 where
  pub size : new.size ≡ old.size
  pub counts : Counts asked old.jobs new.jobs

-- if anything was
abbrev pub CountsIn : Ordered → ServicesValue → ServicesValue → Type 0
CountsIn ordered.Nothing old new = new ≡ old
CountsIn (ordered.Job asked) old new = HasCounted asked old new
CountsIn ordered.Shutdown old new = new ≡ old
