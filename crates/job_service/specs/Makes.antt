-- What a step of the service makes.
use Rattle.std.specs.Prelude.{◌++◌, List, map}
use Rattle.std.specs.List.{AllByRecursion as Each}
use Rattle.kvs_core.specs.Makes.{IsOfStep}
use Rattle.kvs_rules.specs.Sequence.{EachAfter}
use Rattle.kvs_rules.specs.Steps.{AreMadeBy}
use Rattle.kvs_rules.specs.declared.events.KvsEvent.{KvsEvent}
use Rattle.kvs_rules.specs.declared.events.KvsStep.{KvsStep}
use Rattle.instance_rules.specs.Legal.{IsLegalMoment}
use Rattle.instance_rules.specs.Log.{Instance, Log, service_of}
use Rattle.job_landings.specs.Landings.{happening}
use Rattle.job_service.specs.Agrees.{AgreesJobs}
use Rattle.job_service.specs.Value.{JobServiceValue}

-- the events are about keys, those that the step may make, each may follow those before it in the
-- log of the instance, what the job manager lands being due there, and the service stands behind
-- them
pub record Makes (step : KvsStep) (old new : JobServiceValue)
    (events : List KvsEvent) : Type 0 where
  pub own : Each IsOfStep events
  pub made : (inst : Instance) (log : Log) → AgreesJobs old inst log
      → AreMadeBy (service_of log) step events
  pub legal : (inst : Instance) (log : Log) → AgreesJobs old inst log
      → EachAfter (IsLegalMoment inst) log (map happening events)
  pub agrees : (inst : Instance) (log : Log) → AgreesJobs old inst log
      → AgreesJobs new inst (log ++ map happening events)
