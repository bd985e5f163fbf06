use Rattle.std.proofs.Common.{◌<◌, get_or, set as put, ap, subst, sym}
use Rattle.kvs_content.specs.Node.{GetsOrDrops, IsDropping, empty_node}
use Rattle.std.specs.List.{AllByRecursion as Each}
use Rattle.kvs_content.proofs.Events.{drops-come}
use Rattle.kvs_content.specs.Sound.{IsSoundContent}
use Rattle.kvs_content.specs.Value.{node_at, size_of}
use Rattle.kvs_content.specs.Agrees.{AgreesContent, Follows}
use Rattle.kvs_content.proofs.Following.{dropped-all, dropped-clean, dropped-follows}
use Rattle.kvs_content.proofs.Keeping.{kept-sound, node-read, node-written, one-changed}
use Rattle.kvs_content.proofs.contents.Contents.drop_clean.Goals as goal

pub returns-clause-sound : goal.returns-clause-sound
returns-clause-sound c =
    let sound = subst IsSoundContent (sym c.self.view_is) c.requires.sound in
    let within = subst (λ v. c.args.broker < size_of v) (sym c.self.view_is) c.requires.within in
    let node = node-read c.self.inside.nodes.items c.args.broker c.index_mut-node.result.now within c.index_mut-node.ensures.value in
    let drops = subst (λ n. IsDropping c.args.broker n c.drop_clean.new.self c.in_ok-events.events) node c.in_ok-events.ensures in
    kept-sound _ c.args.broker within c.drop_clean.new.self (ap (λ k. k.dirty) drops.pinned) (dropped-clean c.args.broker _ _ c.in_ok-events.events drops) sound

pub returns-clause-dropped : goal.returns-clause-dropped
returns-clause-dropped c =
    let within = subst (λ v. c.args.broker < size_of v) (sym c.self.view_is) c.requires.within in
    let node = node-read c.self.inside.nodes.items c.args.broker c.index_mut-node.result.now within c.index_mut-node.ensures.value in
    let drops = subst (λ n. IsDropping c.args.broker n c.drop_clean.new.self c.in_ok-events.events) node c.in_ok-events.ensures in
    let now = node-written c.self.inside.nodes.items c.args.broker c.drop_clean.new.self within in
    subst (λ v. IsDropping c.args.broker (node_at v c.args.broker) (get_or (put c.self.inside.nodes.items c.args.broker c.drop_clean.new.self) c.args.broker empty_node) c.in_ok-events.events) c.self.view_is
    (subst (λ n. IsDropping c.args.broker (get_or c.self.inside.nodes.items c.args.broker empty_node) n c.in_ok-events.events) (sym now) drops)

pub returns-clause-follows : goal.returns-clause-follows
returns-clause-follows c = λ set log h.
    let a = subst (λ v. AgreesContent v set log) (sym c.self.view_is) h in
    let within = subst (λ v. c.args.broker < size_of v) (sym c.self.view_is) c.requires.within in
    let node = node-read c.self.inside.nodes.items c.args.broker c.index_mut-node.result.now within c.index_mut-node.ensures.value in
    let drops = subst (λ n. IsDropping c.args.broker n c.drop_clean.new.self c.in_ok-events.events) node c.in_ok-events.ensures in
    subst (λ v. Follows v (record { fanout = c.self.inside.fanout; hash = c.self.inside.hash; store = c.self.inside.store; nodes = put c.self.inside.nodes.items c.args.broker c.drop_clean.new.self; offers = c.self.inside.offers.items; wants = c.self.inside.wants.items }) c.in_ok-events.events set log)
    c.self.view_is (dropped-follows _ set log a c.args.broker within c.drop_clean.new.self c.in_ok-events.events drops)

pub returns-clause-rest : goal.returns-clause-rest
returns-clause-rest c =
    let within = subst (λ v. c.args.broker < size_of v) (sym c.self.view_is) c.requires.within in
    one-changed _ _ c.args.broker c.drop_clean.new.self c.self.view_is within

pub returns-clause-all : goal.returns-clause-all
returns-clause-all c = λ set log h.
    let a = subst (λ v. AgreesContent v set log) (sym c.self.view_is) h in
    let within = subst (λ v. c.args.broker < size_of v) (sym c.self.view_is) c.requires.within in
    let node = node-read c.self.inside.nodes.items c.args.broker c.index_mut-node.result.now within c.index_mut-node.ensures.value in
    let drops = subst (λ n. IsDropping c.args.broker n c.drop_clean.new.self c.in_ok-events.events) node c.in_ok-events.ensures in
    dropped-all _ set log a c.args.broker within c.drop_clean.new.self c.in_ok-events.events drops

pub returns-clause-made : goal.returns-clause-made
returns-clause-made c = subst (Each (GetsOrDrops c.args.broker)) (sym c.in_ok-events.ensures.told) (drops-come c.args.broker c.in_ok-events.ensures.gone)
