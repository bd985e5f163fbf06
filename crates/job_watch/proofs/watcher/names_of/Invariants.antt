use Rattle.std.proofs.Common.{take}
use Rattle.std.specs.Fn.{FnReturnsAt}
use Rattle.job_watch.specs.Watched.{AreShown}
use Rattle.job_watch.proofs.watcher.names_of.Given as goal

abbrev pub invariant-loop-event : goal.invariant-loop-event
invariant-loop-event g l = AreShown (λ event n. FnReturnsAt g.W.Fn l.show event n) (take l.event-index l.events) l.names.items
