use Rattle.world.proofs.Lines.{IsFirst}
use Rattle.world.proofs.run.World.issue_from.Given as goal

abbrev pub invariant-loop-actor : goal.invariant-loop-actor
invariant-loop-actor l = IsFirst l.self l.from l.first l.line l.actor
