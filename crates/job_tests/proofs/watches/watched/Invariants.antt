use Rattle.std.proofs.Common.{◌≡◌, List, length}
use Rattle.std.specs.Prelude.{All}
use Rattle.event_log.specs.declared.event.Event.{Event}
use Rattle.event_log.specs.Events.{IsEvent}
use Rattle.event_log.specs.Logs.{log_text}
use Rattle.job_tests.proofs.watches.watched.Given as goal

abbrev pub invariant-loop-name : goal.invariant-loop-name
invariant-loop-name g l = (events : List Event) × All IsEvent events × (l.log.items ≡ log_text events) × (l.watcher.fed ≡ length (log_text events))
