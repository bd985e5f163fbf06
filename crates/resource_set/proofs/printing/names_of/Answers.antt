use Rattle.std.proofs.Common.{◌<◌, length, subst, sym, ap, ◌∙◌, arith}
use Rattle.hostlist.specs.Names.{IsHostName}
use Rattle.resource_set.specs.declared.node.Node.{Node}
use Rattle.resource_set.proofs.Names.{named_at}
use Rattle.resource_set.proofs.printing.names_of.Goals as goal

pub push-requires : goal.push-requires
push-requires c =
    let nodes = c.args.nodes.now in
    let i = c.loop-node.node-index in
    let inside : i < length nodes = omega arith in
    subst IsHostName (ap (λ (n : Node). n.host) (sym c.node-item.is) ∙ sym c.as_slice.ensures) (named_at nodes i c.node-item.result c.requires inside)
