use Rattle.std.proofs.Common.{◌≡◌, ◌<◌, take}
use Rattle.std.specs.Prelude.{flat_map}
use Rattle.std.specs.List.{All}
use Rattle.resource_set.proofs.placing.all_ranks.Given as goal

abbrev pub invariant-loop-entry : goal.invariant-loop-entry
invariant-loop-entry l = record {
  joined : l.ranks.items ≡ flat_map (λ entry. entry.ranks) (take l.entry-index l.entries);
  small : All (λ id. id < 65536) l.ranks.items;
}
