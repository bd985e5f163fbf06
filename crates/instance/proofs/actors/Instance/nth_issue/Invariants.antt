use Rattle.std.proofs.Common.{◌≡◌, ◌-◌, ◌≤◌, length}
use Rattle.services.specs.kvs_keys.Walk.{nth}
use Rattle.instance.specs.Order.{issues}
use Rattle.instance.proofs.Numbering.{issues_from}
use Rattle.instance.proofs.actors.Instance.nth_issue.Given as goal

abbrev pub invariant-loop-actor : goal.invariant-loop-actor
invariant-loop-actor l = record {
  within : l.from ≤ length l.lines;
  counted : nth (issues_from l.lines l.self l.from) l.left ≡ nth (issues l.lines l.self) l.number;
}

abbrev pub decreases-loop-actor : goal.decreases-loop-actor
decreases-loop-actor l = length l.lines - l.from
