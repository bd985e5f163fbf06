use Rattle.std.proofs.Common.{◌≡◌, true, take}
use Rattle.std.specs.List.{list_all}
use Rattle.idset.specs.Ids.{has, ids_from}
use Rattle.resource_set.proofs.units.are_among.Given as goal

abbrev pub invariant-loop-range : goal.invariant-loop-range
invariant-loop-range l = list_all (λ r. list_all (has l.others) (ids_from r.first r.last)) (take l.range-index l.range-items) ≡ true
