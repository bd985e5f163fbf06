use Rattle.std.proofs.Common.{◌≡◌, ◌≤◌, ◌++◌, length}
use Rattle.std.specs.Prelude.{option_copied, IfSome}
use Rattle.hostlist.specs.Names.{IsHostName, AreHostNames}
use Rattle.hostlist.specs.Parts.{left}
use Rattle.hostlist.specs.Reading.{hosts_in, text_fault, spelled}
use Rattle.hostlist.proofs.PieceLemmas.{left_fault, left_len}
use Rattle.hostlist.proofs.reading.read_hosts.Given as goal

abbrev pub invariant-loop-rest : goal.invariant-loop-rest
invariant-loop-rest l = record {
  within : IfSome (option_copied l.rest) (λ tail. length tail ≤ length l.text);
  fault : left_fault (length l.text) (option_copied l.bracket) (option_copied l.rest) ≡ text_fault l.text;
  hosts : l.names.items ++ hosts_in (option_copied l.bracket) (left (option_copied l.rest)) ≡ spelled l.text;
  named : AreHostNames l.names.items;
  inside : IfSome (option_copied l.bracket) IsHostName;
}

abbrev pub decreases-loop-rest : goal.decreases-loop-rest
decreases-loop-rest l = left_len (option_copied l.rest)
