use Rattle.std.proofs.Common.{◌≡◌, ◌+◌, ◌==◌, drop}
use Rattle.std.specs.Prelude.{not}
use Rattle.std.specs.List.{prefix_len}
use Rattle.json.specs.Ascii.{dot}
use Rattle.fl_json.proofs.numbers.point_of.Given as goal

abbrev pub invariant-loop-i : goal.invariant-loop-i
invariant-loop-i l = prefix_len (λ b. not (b == dot)) l.token ≡ l.i + prefix_len (λ b. not (b == dot)) (drop l.i l.token)
