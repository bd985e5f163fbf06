use Rattle.std.proofs.Common.{◌≡◌, ◌<◌, ◌∙◌, Some, ap, refl, subst, sym, set as put}
use Rattle.blob_store.specs.Blobs.{blob_at}
use Rattle.cache_node.specs.Cache.{acknowledged, dirty_at}
use Rattle.std.specs.Prelude.{IsTrue, is_some}
use Rattle.kvs_rules.specs.Brokers.{has_got, parent}
use Rattle.kvs_content.specs.Node.{NodeValue, getting, with_cache}
use Rattle.kvs_content.specs.Sound.{IsSoundBut}
use Rattle.kvs_content.specs.Value.{ContentValue, node_at, size_of}
use Rattle.kvs_content.specs.Messages.{offers_left}
use Rattle.std.specs.List.{sum_by}
use Rattle.kvs_content.specs.Agrees.{AgreesContent, Follows}
use Rattle.kvs_content.proofs.Counting.{settled-left}
use Rattle.kvs_content.proofs.Hearing.{accepted-follows, accepted-sound}
use Rattle.kvs_content.proofs.Keeping.{node-read}
use Rattle.kvs_content.proofs.contents.Contents.accept.Goals as goal

pub returns-clause-sound : goal.returns-clause-sound
returns-clause-sound c =
    let within = subst (λ v. c.args.at < size_of v) (sym c.self.view_is) c.requires.within in
    let but = subst (IsSoundBut c.args.at c.args.reference c.args.bytes) (sym c.self.view_is) c.requires.but in
    let node = node-read c.self.inside.nodes.items c.args.at c.index_mut-node.result.now within c.index_mut-node.ensures.value in
    let there = subst (λ (v : ContentValue). blob_at c.args.reference v.store ≡ Some c.args.bytes) (sym c.self.view_is) c.requires.same in
    let dirty = subst (λ (v : ContentValue). dirty_at c.args.reference (node_at v c.args.at).cache ≡ Some c.args.bytes) (sym c.self.view_is) (c.is_dirty.ensures.0 c.if-not-is_dirty.false) in
    let is = c.in_ok-events.ensures.node ∙ ap (λ n. with_cache (acknowledged c.args.reference n.cache) n) node in
    accepted-sound _ _ c.args.at within c.args.reference c.accept.new.self c.in_ok-events.ensures.out refl refl refl refl refl c.args.bytes but is c.settle.ensures there dirty

pub returns-clause-left : goal.returns-clause-left
returns-clause-left c =
    settled-left _ _ _ _ _ _ c.settle.ensures ∙ ap (λ (v : ContentValue). sum_by offers_left v.offers) c.self.view_is

pub returns-clause-follows : goal.returns-clause-follows
returns-clause-follows c = λ set log h told.
    let within = subst (λ v. c.args.at < size_of v) (sym c.self.view_is) c.requires.within in
    let but = subst (IsSoundBut c.args.at c.args.reference c.args.bytes) (sym c.self.view_is) c.requires.but in
    let node = node-read c.self.inside.nodes.items c.args.at c.index_mut-node.result.now within c.index_mut-node.ensures.value in
    let there = subst (λ (v : ContentValue). blob_at c.args.reference v.store ≡ Some c.args.bytes) (sym c.self.view_is) c.requires.same in
    let dirty = subst (λ (v : ContentValue). dirty_at c.args.reference (node_at v c.args.at).cache ≡ Some c.args.bytes) (sym c.self.view_is) (c.is_dirty.ensures.0 c.if-not-is_dirty.false) in
    let is = c.in_ok-events.ensures.node ∙ ap (λ n. with_cache (acknowledged c.args.reference n.cache) n) node in
    let source = subst (λ (v : ContentValue). IsTrue (has_got log (parent v.fanout c.args.at) c.args.reference)) (sym c.self.view_is) told.1 in
    let a = subst (λ v. AgreesContent v set log) (sym c.self.view_is) h in
    let events = c.in_ok-events.ensures.told ∙ ap (λ (n : NodeValue). getting c.args.at c.args.reference (is_some (dirty_at c.args.reference n.cache))) node in
    let done = accepted-follows (record { fanout = c.self.inside.fanout; hash = c.self.inside.hash; store = c.self.inside.store; nodes = c.self.inside.nodes.items; offers = c.self.inside.offers.items; wants = c.self.inside.wants.items }) (record { fanout = c.self.inside.fanout; hash = c.self.inside.hash; store = c.self.inside.store; nodes = put c.self.inside.nodes.items c.args.at c.accept.new.self; offers = c.settle.new.offers.items; wants = c.self.inside.wants.items }) c.args.at within c.args.reference c.accept.new.self c.in_ok-events.ensures.out refl refl refl refl refl c.args.bytes but is c.settle.ensures there dirty set log a told.0 source in
    subst (λ (v : ContentValue). Follows v (record { fanout = c.self.inside.fanout; hash = c.self.inside.hash; store = c.self.inside.store; nodes = put c.self.inside.nodes.items c.args.at c.accept.new.self; offers = c.settle.new.offers.items; wants = c.self.inside.wants.items }) c.in_ok-events.events set log) c.self.view_is
    (subst (λ es. Follows (record { fanout = c.self.inside.fanout; hash = c.self.inside.hash; store = c.self.inside.store; nodes = c.self.inside.nodes.items; offers = c.self.inside.offers.items; wants = c.self.inside.wants.items }) (record { fanout = c.self.inside.fanout; hash = c.self.inside.hash; store = c.self.inside.store; nodes = put c.self.inside.nodes.items c.args.at c.accept.new.self; offers = c.settle.new.offers.items; wants = c.self.inside.wants.items }) es set log) (sym events) done)
