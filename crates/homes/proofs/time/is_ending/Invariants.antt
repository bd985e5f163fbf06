use Rattle.std.proofs.Common.{◌≡◌, false, take}
use Rattle.std.specs.List.{list_any}
use Rattle.homes.specs.Times.{may_go}
use Rattle.homes.specs.Tells.{TellsEndIn}
use Rattle.homes.proofs.Walking.{LivingBelow}
use Rattle.homes.proofs.time.is_ending.Given as goal

abbrev pub invariant-loop-home : goal.invariant-loop-home
invariant-loop-home l = record {
  none : list_any (may_go l.homes) (take l.home-index l.homes) ≡ false;
  told : LivingBelow (TellsEndIn l.homes) l.homes l.home-index;
}
