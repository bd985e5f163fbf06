use Rattle.std.proofs.Common.{◌<◌, ◌≤◌}
use Rattle.kvs_requests.specs.Refused.{IsAbove}
use Rattle.kvs_requests.proofs.rows.toward.Given as goal

abbrev pub invariant-loop-next : goal.invariant-loop-next
invariant-loop-next l = record {
  top : l.next ≤ l.home;
  way : IsAbove l.fanout l.next l.home;
  below : l.at < l.home → IsAbove l.fanout l.at l.home → (l.at < l.next) × IsAbove l.fanout l.at l.next;
}

abbrev pub decreases-loop-next : goal.decreases-loop-next
decreases-loop-next l = l.next
