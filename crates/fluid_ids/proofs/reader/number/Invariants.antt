use Rattle.std.proofs.Common.{◌≡◌, ◌<◌, ◌^◌, take}
use Rattle.fluid_ids.specs.Texts.{number_in}
use Rattle.fluid_ids.proofs.reader.number.Given as goal

abbrev pub invariant-loop-byte : goal.invariant-loop-byte
invariant-loop-byte l = record { read : l.number ≡ number_in l.base (take l.byte-index l.text); small : l.number < 2 ^ 64 }
