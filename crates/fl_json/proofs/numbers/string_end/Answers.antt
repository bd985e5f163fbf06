use Rattle.std.proofs.Common.{◌<◌, length, arith}
use Rattle.std.proofs.lemmas.Bool.Decides.{nat_tests}
use Rattle.fl_json.proofs.Cuts.{string_len-drop}
use Rattle.fl_json.proofs.numbers.string_end.Goals as goal
use Rattle.fl_json.proofs.numbers.string_end.Goals.{then-escaped, else-escaped+else-byte-eq34}

pub loop-i-preserved : goal.loop-i-preserved
loop-i-preserved c =
    let h : c.loop-i.i < length c.args.text.now = omega arith in
    let e = string_len-drop c.loop-i.escaped c.args.text.now c.loop-i.i h in
    elim c.if-escaped.branch [ then-escaped w ↦ grind (arith, nat_tests) | else-escaped+else-byte-eq34 w ↦ grind (arith, nat_tests) ]
