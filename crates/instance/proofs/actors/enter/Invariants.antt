use Rattle.std.proofs.Common.{◌≡◌, ◌++◌, map}
use Rattle.services.specs.answers.Entering.{entered}
use Rattle.instance.proofs.actors.enter.Given as goal

abbrev pub invariant-loop-event : goal.invariant-loop-event
invariant-loop-event l = l.made ++ map (entered 0) l.event-iterator.rest.items ≡ map (entered 0) l.fn.events
