use Rattle.std.proofs.Common.{ap, arith}
use Rattle.backing.proofs.sql.SqlKeeperKeeper.put.Goals as goal
use Rattle.backing.proofs.sql.SqlKeeperKeeper.put.Goals.{in-Some, in-None}

pub returns-in-Ok-Some-clause-cause : goal.returns-in-Ok-Some-clause-cause
returns-in-Ok-Some-clause-cause c = record {
  later = elim c.match-self.branch [
    | in-Some w ↦ omega (arith, c.count_fault.ensures.counted.0, ap (λ k. k.faults) c.self.view_is, ap (λ k. k.faults) w.self-inside-is)
    | in-None w ↦ omega (arith, c.count_fault.ensures.counted.0, ap (λ k. k.faults) c.self.view_is, ap (λ k. k.faults) w.self-inside-is)
  ];
  failed = λ same. cc same;
}
