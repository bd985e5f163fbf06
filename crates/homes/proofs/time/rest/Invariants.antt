use Rattle.homes.specs.Tells.{TellsEndIn, TellsRest}
use Rattle.homes.proofs.Walking.{LivingBelow}
use Rattle.homes.proofs.time.rest.Given as goal

abbrev pub invariant-loop-home : goal.invariant-loop-home
invariant-loop-home l = record {
  rest : LivingBelow TellsRest l.homes l.home-index;
  goes : LivingBelow (TellsEndIn l.homes) l.homes l.home-index;
}
