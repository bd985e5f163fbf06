use Rattle.std.proofs.Common.{◌≡◌, ◌-◌, true}
use Rattle.std.specs.List.{list_all, range_with_len}
use Rattle.idset.specs.Ids.{has}
use Rattle.resource_set.proofs.units.is_range_among.Given as goal

abbrev pub invariant-loop-id : goal.invariant-loop-id
invariant-loop-id l = list_all (has l.others) (range_with_len l.fn.range.first (l.id - l.fn.range.first)) ≡ true
