use Rattle.std.proofs.Common.{◌≡◌, ◌≤◌, ◌-◌}
use Rattle.plain_store.specs.Held.{store_of}
use Rattle.plain_store.specs.Next.{resolved_within}
use Rattle.plain_store.proofs.walks.resolve.Given as goal

abbrev pub invariant-loop-count : goal.invariant-loop-count
invariant-loop-count l = record {
  bound : l.count ≤ 10;
  same : resolved_within (store_of l.table.slots.entries) 10 l.path ≡ resolved_within (store_of l.table.slots.entries) (10 - l.count) l.here.items;
}

abbrev pub decreases-loop-count : goal.decreases-loop-count
decreases-loop-count l = 10 - l.count
