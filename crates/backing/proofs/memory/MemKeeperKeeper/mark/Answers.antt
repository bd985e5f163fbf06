use Rattle.std.proofs.Common.{ap, subst}
use Rattle.backing.specs.Calls.{RefusesWith}
use Rattle.backing.proofs.Refusals.{cause_of}
use Rattle.backing.proofs.memory.MemKeeperKeeper.mark.Goals as goal

pub returns-then-count-clause-cause : goal.returns-then-count-clause-cause
returns-then-count-clause-cause c = cause_of _ _ c.failed.result
    (subst (λ n. RefusesWith n c.failed.new.self.faults c.failed.result) (ap (λ k. k.faults) c.count.ensures.after) c.failed.ensures.counted)
