-- What a step does of a core.
use Rattle.std.specs.Prelude.{◌≡◌, ◌++◌, List, false, map}
use Rattle.std.specs.List.{AllByRecursion as Each}
use Rattle.kvs_rules.specs.declared.events.KvsEvent.{KvsEvent}
use Rattle.kvs_rules.specs.declared.events.KvsEvent.TheVariants as event
use Rattle.kvs_rules.specs.declared.events.KvsStep.{KvsStep}
use Rattle.kvs_rules.specs.Answers.{IsLegalAfter}
use Rattle.kvs_rules.specs.Log.{Log, Happened}
use Rattle.kvs_rules.specs.Namespaces.{Setting}
use Rattle.kvs_rules.specs.Steps.{AreMadeBy}
use Rattle.kvs_keys.specs.Posted.{posts_landed}
use Rattle.kvs_core.specs.Agrees.{Agrees}
use Rattle.kvs_core.specs.Histories.{Extends}
use Rattle.kvs_core.specs.Posted.{posted}
use Rattle.kvs_core.specs.Value.{CoreValue}

-- anything but an answer, which is told where it is taken
abbrev pub IsOfStep : KvsEvent → Type 0
IsOfStep (event.Answered by number given) = ⊥
IsOfStep _ = Unit {0}

-- the events of a step: none is an answer, the job manager's transactions land in the order in which
-- they were taken, and after whatever log agrees with the core the events are those that the step
-- may make, they are legal, and the core agrees with both
pub record Makes (s : KvsStep) (old new : CoreValue) (events : List KvsEvent) : Type 0 where
  pub ready : new.spent ≡ false
  pub size : new.size ≡ old.size
  pub order : posts_landed events ++ posted new ≡ posted old
  pub extends : Extends old new events
  pub own : Each IsOfStep events
  pub made : (set : Setting) (log : Log) → Agrees old set log → AreMadeBy log s events
  pub legal : (set : Setting) (log : Log) → Agrees old set log
      → IsLegalAfter set log (map Happened events)
  pub agrees : (set : Setting) (log : Log) → Agrees old set log
      → Agrees new set (log ++ map Happened events)
