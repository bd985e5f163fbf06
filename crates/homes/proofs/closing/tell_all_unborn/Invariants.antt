use Rattle.std.proofs.Common.{◌≡◌, ◌++◌, filter, flat_map}
use Rattle.std.specs.List.{range_with_len}
use Rattle.hierarchy.specs.Closing.{told_unborn}
use Rattle.homes.specs.Closing.{is_unborn}
use Rattle.homes.proofs.closing.tell_all_unborn.Given as goal

abbrev pub invariant-loop-actor : goal.invariant-loop-actor
invariant-loop-actor l = l.chronicle ≡ l.initial.chronicle ++ flat_map (told_unborn l.work) (filter (is_unborn l.places) (range_with_len 0 l.actor))
