use Rattle.std.proofs.Common.{◌≡◌, ◌+◌, drop}
use Rattle.std.specs.List.{prefix_len}
use Rattle.fl_json.specs.Numbers.{continues_number}
use Rattle.fl_json.proofs.numbers.number_end.Given as goal

abbrev pub invariant-loop-i : goal.invariant-loop-i
invariant-loop-i l = prefix_len continues_number l.text ≡ l.i + prefix_len continues_number (drop l.i l.text)
