use Rattle.std.proofs.Common.{◌≡◌, ◌∙◌, ap, arith, map}
use Rattle.std.specs.List.{range_with_len}
use Rattle.instance.specs.resource_set.declared.node.Resources.{Resources}
use Rattle.homes.specs.Grant.{host_at}
use Rattle.homes.proofs.Hosts.{hosts_valid, one_more}
use Rattle.homes.proofs.grant.hosts_of_brokers.Goals as goal

pub loop-rank-preserved : goal.loop-rank-preserved
loop-rank-preserved c = c.in_ok-push.ensures.added ∙ one_more c.loop-rank.rank c.loop-rank.nodes c.in_ok-host_at.field-0 c.loop-rank.invariant c.in_ok-host_at.ensures

pub returns-clause-valid : goal.returns-clause-valid
returns-clause-valid c =
    let all : c.loop-rank.rank ≡ c.args.size = omega (arith, c.loop-rank-test.false, c.loop-rank.auto.rank-end) in
    let is : Resources = record { nodes = c.loop-rank.nodes; starttime = 0; expiration = 0 } in
    hosts_valid c.args.size is c.requires (ap (λ nodes. record { nodes = nodes; starttime = 0; expiration = 0 }) (c.loop-rank.invariant ∙ ap (λ n. map host_at (range_with_len 0 n)) all))
