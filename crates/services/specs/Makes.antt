-- What a step does of the services.
use Rattle.std.specs.Prelude.{◌≡◌, ◌++◌, List, false, map}
use Rattle.job_service.specs.kvs_rules.declared.events.KvsEvent.{KvsEvent}
use Rattle.job_service.specs.kvs_rules.declared.events.KvsStep.{KvsStep}
use Rattle.job_service.specs.kvs_rules.Sequence.{EachAfter}
use Rattle.job_service.specs.kvs_rules.Steps.{AreMadeBy}
use Rattle.job_service.specs.instance_rules.Legal.{IsLegalMoment}
use Rattle.job_service.specs.instance_rules.Log.{Instance, Log, service_of}
use Rattle.job_service.specs.job_landings.Landings.{happening}
use Rattle.services.specs.Agrees.{AgreesServices}
use Rattle.services.specs.Asks.{Keeps}
use Rattle.services.specs.Value.{ServicesValue}

-- the events of a step: after whatever log agrees with the services they are those that the step
-- may make, each may follow those before it, what the job manager lands being due there, and the
-- services agree with both
pub record Makes (s : KvsStep) (old new : ServicesValue) (events : List KvsEvent) : Type 0 where
  pub ready : new.spent ≡ false
  pub keeps : Keeps old new
  pub made : (inst : Instance) (log : Log) → AgreesServices old inst log
      → AreMadeBy (service_of log) s events
  pub legal : (inst : Instance) (log : Log) → AgreesServices old inst log
      → EachAfter (IsLegalMoment inst) log (map happening events)
  pub agrees : (inst : Instance) (log : Log) → AgreesServices old inst log
      → AgreesServices new inst (log ++ map happening events)
