use Rattle.std.proofs.Common.{take}
use Rattle.instance.specs.job_book.Seconds.{IsSoonest}
use Rattle.homes.specs.Times.{all_ends}
use Rattle.homes.specs.Tells.{TellsEnds}
use Rattle.homes.proofs.Walking.{LivingBelow}
use Rattle.homes.proofs.time.least_end.Given as goal

abbrev pub invariant-loop-home : goal.invariant-loop-home
invariant-loop-home l = record {
  soonest : IsSoonest (all_ends (take l.home-index l.homes)) l.least;
  told : LivingBelow TellsEnds l.homes l.home-index;
}
