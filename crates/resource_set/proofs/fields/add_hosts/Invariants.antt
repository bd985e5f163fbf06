use Rattle.std.proofs.Common.{◌≡◌, ◌++◌, take}
use Rattle.resource_set.proofs.fields.add_hosts.Given as goal

abbrev pub invariant-loop-name : goal.invariant-loop-name
invariant-loop-name l = l.hosts.items ≡ l.fn.hosts.items ++ take l.name-index l.name-items
