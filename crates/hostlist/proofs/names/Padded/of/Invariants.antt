use Rattle.hostlist.proofs.Numbers.{Digits}
use Rattle.hostlist.proofs.names.Padded.of.Given as goal

abbrev pub invariant-loop-rest : goal.invariant-loop-rest
invariant-loop-rest l = Digits l.bytes l.at l.rest l.fn.number

abbrev pub decreases-loop-rest : goal.decreases-loop-rest
decreases-loop-rest l = l.rest
