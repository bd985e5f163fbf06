use Rattle.std.proofs.Common.{◌≡◌, ◌-◌, ◌≤◌, length}
use Rattle.instance.specs.kvs_keys.Walk.{nth}
use Rattle.world.specs.Order.{issues}
use Rattle.world.proofs.Lines.{issues_from}
use Rattle.world.proofs.run.World.nth_issue.Given as goal

abbrev pub invariant-loop-actor : goal.invariant-loop-actor
invariant-loop-actor l = record {
  within : l.from ≤ length l.self.set.work.lines;
  counted : nth (issues_from l.self l.from) l.left ≡ nth (issues l.self) l.number;
}

abbrev pub decreases-loop-actor : goal.decreases-loop-actor
decreases-loop-actor l = length l.self.set.work.lines - l.from
