use Rattle.std.proofs.Common.{◌<◌}
use Rattle.kvs_content.specs.Messages.{IsAbove}
use Rattle.kvs_content.proofs.wants.toward.Given as goal

abbrev pub invariant-loop-next : goal.invariant-loop-next
invariant-loop-next l = record {
  way : IsAbove l.fanout l.next l.home;
  above : l.at < l.next;
  below : IsAbove l.fanout l.at l.next;
}

abbrev pub decreases-loop-next : goal.decreases-loop-next
decreases-loop-next l = l.next
