use Rattle.lanes.specs.Runs.{GoesOn}
use Rattle.lanes.proofs.running.make_all.Given as goal

abbrev pub invariant-loop : goal.invariant-loop
invariant-loop g l = record {
  goes : GoesOn l.initial.running.named.world l.running.named.world;
}
