use Rattle.backfill.specs.Held.{AreHeld}
use Rattle.backfill.proofs.reserving.tests.live_jobs.Given as goal

abbrev pub invariant-loop-job : goal.invariant-loop-job
invariant-loop-job l = AreHeld l.grant.nodes l.live.items
