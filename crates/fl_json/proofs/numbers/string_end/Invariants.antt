use Rattle.std.proofs.Common.{◌≡◌, ◌+◌, false, drop}
use Rattle.fl_json.specs.Numbers.{string_len}
use Rattle.fl_json.proofs.numbers.string_end.Given as goal

abbrev pub invariant-loop-i : goal.invariant-loop-i
invariant-loop-i l = string_len false l.text ≡ l.i + string_len l.escaped (drop l.i l.text)
