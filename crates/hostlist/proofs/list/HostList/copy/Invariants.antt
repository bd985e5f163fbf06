use Rattle.std.proofs.Common.{◌≡◌, take}
use Rattle.hostlist.proofs.list.HostList.copy.Given as goal

abbrev pub invariant-loop-name : goal.invariant-loop-name
invariant-loop-name l = (l.name-items ≡ l.fn.self) × (l.names.items ≡ take l.name-index l.name-items)
