use Rattle.std.proofs.Common.{◌<◌, ◌∙◌, get_or, set as put, ap, subst, sym}
use Rattle.cache_node.specs.Cache.{clean_at}
use Rattle.kvs_content.specs.Node.{IsFlush, empty_node}
use Rattle.kvs_content.specs.Sound.{IsSoundContent}
use Rattle.kvs_content.specs.Value.{node_at, size_of}
use Rattle.kvs_content.specs.Agrees.{AgreesContent}
use Rattle.kvs_content.proofs.Keeping.{flush-agrees, flush-keeps, kept-sound, node-read, node-written, one-changed}
use Rattle.kvs_content.proofs.contents.Contents.flush.Goals as goal

pub returns-clause-sound : goal.returns-clause-sound
returns-clause-sound c =
    let sound = subst IsSoundContent (sym c.self.view_is) c.requires.sound in
    let within = subst (λ v. c.args.broker < size_of v) (sym c.self.view_is) c.requires.within in
    let node = node-read c.self.inside.nodes.items c.args.broker c.index_mut-node.result.now within c.index_mut-node.ensures.value in
    let told = subst (λ n. IsFlush n c.flush.new.self c.flush.result) node c.flush.ensures in
    kept-sound _ c.args.broker within c.flush.new.self (ap (λ k. k.dirty) (flush-keeps _ _ _ told)) (λ x found e. ap (clean_at x) (sym (flush-keeps _ _ _ told)) ∙ e) sound

pub returns-clause-told : goal.returns-clause-told
returns-clause-told c =
    let within = subst (λ v. c.args.broker < size_of v) (sym c.self.view_is) c.requires.within in
    let node = node-read c.self.inside.nodes.items c.args.broker c.index_mut-node.result.now within c.index_mut-node.ensures.value in
    let told = subst (λ n. IsFlush n c.flush.new.self c.flush.result) node c.flush.ensures in
    let now = node-written c.self.inside.nodes.items c.args.broker c.flush.new.self within in
    subst (λ v. IsFlush (node_at v c.args.broker) (get_or (put c.self.inside.nodes.items c.args.broker c.flush.new.self) c.args.broker empty_node) c.flush.result) c.self.view_is
    (subst (λ n. IsFlush (get_or c.self.inside.nodes.items c.args.broker empty_node) n c.flush.result) (sym now) told)

pub returns-clause-agrees : goal.returns-clause-agrees
returns-clause-agrees c = λ set log h.
    let a = subst (λ v. AgreesContent v set log) (sym c.self.view_is) h in
    let within = subst (λ v. c.args.broker < size_of v) (sym c.self.view_is) c.requires.within in
    let node = node-read c.self.inside.nodes.items c.args.broker c.index_mut-node.result.now within c.index_mut-node.ensures.value in
    let told = subst (λ n. IsFlush n c.flush.new.self c.flush.result) node c.flush.ensures in
    flush-agrees _ set log a c.args.broker within c.flush.new.self c.flush.result told

pub returns-clause-rest : goal.returns-clause-rest
returns-clause-rest c =
    let within = subst (λ v. c.args.broker < size_of v) (sym c.self.view_is) c.requires.within in
    one-changed _ _ c.args.broker c.flush.new.self c.self.view_is within
