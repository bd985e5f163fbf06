use Rattle.std.proofs.Common.{◌≡◌, ◌≤◌, ◌+◌, ◌-◌, ◌^◌, min, length}
use Rattle.std.specs.Prelude.{option_copied, IfSome}
use Rattle.hostlist.specs.Parts.{left}
use Rattle.hostlist.specs.Reading.{hosts_in, text_fault, spelled}
use Rattle.hostlist.proofs.PieceLemmas.{left_fault, left_len}
use Rattle.hostlist.proofs.reading.count_hosts.Given as goal

abbrev pub invariant-loop-rest : goal.invariant-loop-rest
invariant-loop-rest l = record {
  within : IfSome (option_copied l.rest) (λ tail. length tail ≤ length l.text);
  fault : left_fault (length l.text) (option_copied l.bracket) (option_copied l.rest) ≡ text_fault l.text;
  count : min (l.count + length (hosts_in (option_copied l.bracket) (left (option_copied l.rest)))) (2 ^ 64 - 1) ≡ min (length (spelled l.text)) (2 ^ 64 - 1);
  small : l.count ≤ 2 ^ 64 - 1;
}

abbrev pub decreases-loop-rest : goal.decreases-loop-rest
decreases-loop-rest l = left_len (option_copied l.rest)
