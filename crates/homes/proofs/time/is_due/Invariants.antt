use Rattle.std.proofs.Common.{◌≡◌, false, take}
use Rattle.std.specs.List.{list_any}
use Rattle.homes.specs.Times.{has_due}
use Rattle.homes.specs.Tells.{TellsIdle}
use Rattle.homes.proofs.Walking.{LivingBelow}
use Rattle.homes.proofs.time.is_due.Given as goal

abbrev pub invariant-loop-home : goal.invariant-loop-home
invariant-loop-home l = record {
  none : list_any has_due (take l.home-index l.homes) ≡ false;
  told : LivingBelow TellsIdle l.homes l.home-index;
}
