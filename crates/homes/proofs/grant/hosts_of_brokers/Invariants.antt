use Rattle.std.proofs.Common.{◌≡◌, map}
use Rattle.std.specs.List.{range_with_len}
use Rattle.homes.specs.Grant.{host_at}
use Rattle.homes.proofs.grant.hosts_of_brokers.Given as goal

abbrev pub invariant-loop-rank : goal.invariant-loop-rank
invariant-loop-rank l = l.nodes ≡ map host_at (range_with_len 0 l.rank)
