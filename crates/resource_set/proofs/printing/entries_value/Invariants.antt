use Rattle.std.proofs.Common.{◌≡◌, map, take}
use Rattle.std.specs.List.{AllByRecursion}
use Rattle.serde_json.specs.View.{view}
use Rattle.resource_set.specs.Writing.{entries_of, entry_data, IsSpelled}
use Rattle.resource_set.proofs.printing.entries_value.Given as goal

abbrev pub invariant-loop-group : goal.invariant-loop-group
invariant-loop-group l = record {
  values : map view l.values.items ≡ map entry_data (take l.group-index (entries_of l.nodes));
  spelled : AllByRecursion (λ entry. IsSpelled entry.ranks) (take l.group-index (entries_of l.nodes));
}
