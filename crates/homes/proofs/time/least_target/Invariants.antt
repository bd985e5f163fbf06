use Rattle.std.proofs.Common.{take}
use Rattle.instance.specs.job_book.Seconds.{IsSoonest}
use Rattle.homes.specs.Times.{all_targets}
use Rattle.homes.specs.Tells.{TellsTargets}
use Rattle.homes.proofs.Walking.{LivingBelow}
use Rattle.homes.proofs.time.least_target.Given as goal

abbrev pub invariant-loop-home : goal.invariant-loop-home
invariant-loop-home l = record {
  soonest : IsSoonest (all_targets (take l.home-index l.homes)) l.least;
  told : LivingBelow TellsTargets l.homes l.home-index;
}
