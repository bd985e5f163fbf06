-- What a step does of a content service.
use Rattle.std.specs.Prelude.{◌≡◌, ◌++◌, List, false, map}
use Rattle.std.specs.List.{AllByRecursion as Each}
use Rattle.kvs_rules.specs.declared.events.KvsEvent.{KvsEvent}
use Rattle.kvs_rules.specs.declared.events.KvsEvent.TheVariants as event
use Rattle.kvs_rules.specs.declared.events.KvsStep.{KvsStep}
use Rattle.kvs_rules.specs.Answers.{IsLegalAfter}
use Rattle.kvs_rules.specs.Log.{Log, Happened}
use Rattle.kvs_rules.specs.Namespaces.{Setting}
use Rattle.kvs_rules.specs.Steps.{AreMadeBy}
use Rattle.content_service.specs.Agrees.{AgreesService}
use Rattle.content_service.specs.Steps.{DoesStep}
use Rattle.content_service.specs.Value.{ContentServiceValue}

-- a broker gets or drops a content
abbrev pub IsOfContents : KvsEvent → Type 0
IsOfContents (event.Got broker reference) = Unit {0}
IsOfContents (event.Dropped broker reference) = Unit {0}
IsOfContents _ = ⊥

-- the events of a step: after whatever log agrees with the service they are those that the step may
-- make, of contents alone, they are legal, and the service agrees with both
pub record Makes (step : KvsStep) (old new : ContentServiceValue)
    (events : List KvsEvent) : Type 0 where
  pub ready : new.spent ≡ false
  pub size : new.size ≡ old.size
  pub fanout : new.content.fanout ≡ old.content.fanout
  pub does : DoesStep step old new
  pub own : Each IsOfContents events
  pub made : (log : Log) → AreMadeBy log step events
  pub legal : (set : Setting) (log : Log) → AgreesService old set log
      → IsLegalAfter set log (map Happened events)
  pub agrees : (set : Setting) (log : Log) → AgreesService old set log
      → AgreesService new set (log ++ map Happened events)
