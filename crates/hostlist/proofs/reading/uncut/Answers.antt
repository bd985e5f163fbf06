use Rattle.std.proofs.Common.{arith, sym}
use Rattle.std.proofs.lemmas.Bool.Decides.{nat_tests}
use Rattle.hostlist.proofs.PieceLemmas.{none_left, pieces_is}
use Rattle.hostlist.proofs.reading.uncut.Goals as goal

pub returns-then-is_empty-clause-left : goal.returns-then-is_empty-clause-left
returns-then-is_empty-clause-left c = none_left c.args.text.now (grind (arith, nat_tests))

pub returns-else-is_empty-clause-left : goal.returns-else-is_empty-clause-left
returns-else-is_empty-clause-left c = sym (pieces_is c.args.text.now (grind (arith, nat_tests)))
