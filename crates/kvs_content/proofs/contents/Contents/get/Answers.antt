use Rattle.std.proofs.Common.{◌<◌, get_or, set as put, subst, sym}
use Rattle.kvs_content.specs.Node.{IsGetting, empty_node}
use Rattle.kvs_content.specs.Value.{node_at, size_of}
use Rattle.kvs_content.proofs.Keeping.{node-read, node-written, one-and-offers}
use Rattle.kvs_content.proofs.contents.Contents.get.Goals as goal

pub returns-clause-rest : goal.returns-clause-rest
returns-clause-rest c =
    let within = subst (λ v. c.args.broker < size_of v) (sym c.self.view_is) c.requires.within in
    one-and-offers _ _ c.args.broker c.get.new.self c.settle.new.offers.items c.self.view_is within

pub returns-clause-got : goal.returns-clause-got
returns-clause-got c =
    let within = subst (λ v. c.args.broker < size_of v) (sym c.self.view_is) c.requires.within in
    let node = node-read c.self.inside.nodes.items c.args.broker c.index_mut-node.result.now within c.index_mut-node.ensures.value in
    let now = node-written c.self.inside.nodes.items c.args.broker c.get.new.self within in
    subst (λ v. IsGetting c.args.broker c.args.reference c.args.bytes (node_at v c.args.broker) (get_or (put c.self.inside.nodes.items c.args.broker c.get.new.self) c.args.broker empty_node) c.in_ok-events.events) c.self.view_is
    (subst (λ n. IsGetting c.args.broker c.args.reference c.args.bytes (get_or c.self.inside.nodes.items c.args.broker empty_node) n c.in_ok-events.events) (sym now)
    (subst (λ n. IsGetting c.args.broker c.args.reference c.args.bytes n c.get.new.self c.in_ok-events.events) node c.in_ok-events.ensures))
