use Rattle.std.proofs.Common.{◌≡◌, ◌++◌, length, map, reverse, slice_index}
use Rattle.std.specs.Int.Digits.{digits_of}
use Rattle.fluid_ids.proofs.printer.low_digits.Given as goal

abbrev pub invariant-loop-left : goal.invariant-loop-left
invariant-loop-left l = map (slice_index l.base) (digits_of (length l.base) l.left) ++ reverse l.text.items ≡ map (slice_index l.base) (digits_of (length l.base) l.number)

abbrev pub decreases-loop-left : goal.decreases-loop-left
decreases-loop-left l = l.left
