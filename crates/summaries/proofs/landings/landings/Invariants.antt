use Rattle.std.proofs.Common.{◌≡◌, filter_map, map, take}
use Rattle.summaries.specs.Landings.{groups_landed_by}
use Rattle.summaries.proofs.landings.landings.Given as goal

abbrev pub invariant-loop-entry : goal.invariant-loop-entry
invariant-loop-entry l = record {
  items : l.entry-items ≡ l.chronicle;
  found : map (λ groups. groups.now) l.found.items ≡ filter_map groups_landed_by (take l.entry-index l.entry-items);
}
