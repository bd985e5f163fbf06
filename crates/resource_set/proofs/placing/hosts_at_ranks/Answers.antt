use Rattle.std.proofs.Common.{◌≡◌, map, length, sym, ap, ◌∙◌, arith}
use Rattle.std.proofs.lemmas.Bool.Decides.{nat_tests}
use Rattle.resource_set.specs.declared.node.Node.{Node}
use Rattle.resource_set.proofs.Placed.{hosts-nodes_with, nodes_are_hosts}
use Rattle.resource_set.proofs.placing.hosts_at_ranks.Goals as goal

pub returns-clause-names : goal.returns-clause-names
returns-clause-names c =
    let ranks = c.deref.result.now in
    let same : length ranks ≡ length c.args.hosts.now = grind (arith, nat_tests) in
    ap (map (λ (node : Node). node.host)) c.in_ok-joined.ensures ∙ hosts-nodes_with c.args.entries.now ranks c.args.hosts.now same

pub returns-clause-valid : goal.returns-clause-valid
returns-clause-valid c =
    let ranks = c.deref.result.now in
    let same : length ranks ≡ length c.args.hosts.now = grind (arith, nat_tests) in
    nodes_are_hosts c.args.entries.now ranks c.args.hosts.now c.in_ok-joined.field-0.items c.in_ok-joined.ensures same
    (c.deref.ensures.value ∙ c.in_ok-ranks.ensures.ranks) c.in_ok-ranks.ensures.set (sym c.in_ok-are_different.ensures ∙ c.if-not-branch.false)
