use Rattle.std.proofs.Common.{◌≡◌, flat_map, take}
use Rattle.summaries.specs.Roots.{ops_of}
use Rattle.summaries.proofs.roots.joined.Given as goal

abbrev pub invariant-loop-groups : goal.invariant-loop-groups
invariant-loop-groups l = l.ops ≡ flat_map (λ groups. ops_of groups.now) (take l.groups-index l.landings)
