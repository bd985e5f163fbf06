use Rattle.std.proofs.Common.{◌≡◌, [], take}
use Rattle.kvs_keys.specs.Posted.{posts_landed}
use Rattle.job_service.proofs.landing.command_posted.Given as goal

abbrev pub invariant-loop-event : goal.invariant-loop-event
invariant-loop-event l = (l.event-items ≡ l.events) × (posts_landed (take l.event-index l.events) ≡ [])
