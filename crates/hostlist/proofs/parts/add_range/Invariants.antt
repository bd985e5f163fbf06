use Rattle.std.proofs.Common.{◌≡◌, ◌-◌, ◌++◌, map}
use Rattle.std.specs.List.{range_with_len}
use Rattle.hostlist.specs.Names.{padded}
use Rattle.hostlist.proofs.parts.add_range.Given as goal

abbrev pub invariant-loop-number : goal.invariant-loop-number
invariant-loop-number l = l.names.items ≡ l.fn.names.items ++ map (λ number. l.prefix ++ padded l.fn.range.width number) (range_with_len l.fn.range.first (l.number - l.fn.range.first))
