use Rattle.std.proofs.Common.{◌≡◌, ◌+◌, ◌≤◌, length}
use Rattle.std.specs.List.{All}
use Rattle.event_log.specs.Events.{IsEvent}
use Rattle.event_log.specs.Logs.{events_from, log_reading}
use Rattle.event_log.proofs.Lines.{parts, with_front}
use Rattle.event_log.proofs.reading.read.Given as goal

abbrev pub invariant-lines : goal.invariant-lines
invariant-lines l = record {
  within : l.line + length l.rest ≤ length l.text;
  told : with_front l.events.items (events_from (l.line + 1) (parts l.rest)) ≡ log_reading l.text;
  valid : All IsEvent l.events.items;
}

abbrev pub decreases-lines : goal.decreases-lines
decreases-lines l = length l.rest
