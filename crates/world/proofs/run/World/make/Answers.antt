use Rattle.std.proofs.Common.{subst}
use Rattle.world.specs.Steps.{MayStart}
use Rattle.world.proofs.run.World.make.Goals as goal

pub issue-requires-clause-rests : goal.issue-requires-clause-rests
issue-requires-clause-rests c = subst (λ step. MayStart c.args.self.now step) c.in-Issue.is c.requires.rests
