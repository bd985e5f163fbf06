use Rattle.std.proofs.Common.{◌≡◌, true, take}
use Rattle.std.specs.List.{list_all}
use Rattle.fluid_ids.specs.Texts.{is_digit_in}
use Rattle.fluid_ids.proofs.reader.are_digits.Given as goal

abbrev pub invariant-loop-byte : goal.invariant-loop-byte
invariant-loop-byte l = list_all (is_digit_in l.base) (take l.byte-index l.text) ≡ true
