use Rattle.std.proofs.Common.{◌≡◌, take}
use Rattle.job_deeds.specs.manager_rules.Limits.{names_shown}
use Rattle.job_service.proofs.feeds.names_shown.Given as goal

abbrev pub invariant-loop-event : goal.invariant-loop-event
invariant-loop-event l = l.names ≡ names_shown l.shown (take l.event-index l.events)
