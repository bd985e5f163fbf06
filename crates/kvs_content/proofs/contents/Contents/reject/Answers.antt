use Rattle.std.proofs.Common.{◌<◌, ◌∙◌, ap, refl, subst, sym, set as put}
use Rattle.kvs_content.specs.Node.{rejected}
use Rattle.kvs_content.specs.Sound.{IsSoundBut}
use Rattle.kvs_content.specs.Value.{ContentValue, size_of}
use Rattle.kvs_content.specs.Messages.{offers_left}
use Rattle.std.specs.List.{sum_by}
use Rattle.kvs_content.specs.Agrees.{AgreesContent, Follows}
use Rattle.kvs_content.proofs.Counting.{settled-left}
use Rattle.kvs_content.proofs.Hearing.{refused-follows, refused-sound}
use Rattle.kvs_content.proofs.Keeping.{node-read}
use Rattle.kvs_content.proofs.contents.Contents.reject.Goals as goal

pub returns-clause-sound : goal.returns-clause-sound
returns-clause-sound c =
    let within = subst (λ v. c.args.at < size_of v) (sym c.self.view_is) c.requires.within in
    let but = subst (IsSoundBut c.args.at c.args.reference c.args.bytes) (sym c.self.view_is) c.requires.but in
    let node = node-read c.self.inside.nodes.items c.args.at c.index_mut-node.result.now within c.index_mut-node.ensures.value in
    let is = c.in_ok-reject.ensures.node ∙ ap (λ n. rejected c.args.reference n) node in
    refused-sound _ _ c.args.at within c.args.reference c.reject.new.self c.in_ok-reject.ensures.out refl refl refl refl refl c.args.bytes but is c.settle.ensures

pub returns-clause-left : goal.returns-clause-left
returns-clause-left c =
    settled-left _ _ _ _ _ _ c.settle.ensures ∙ ap (λ (v : ContentValue). sum_by offers_left v.offers) c.self.view_is

pub returns-clause-follows : goal.returns-clause-follows
returns-clause-follows c = λ set log h clash.
    let within = subst (λ v. c.args.at < size_of v) (sym c.self.view_is) c.requires.within in
    let but = subst (IsSoundBut c.args.at c.args.reference c.args.bytes) (sym c.self.view_is) c.requires.but in
    let node = node-read c.self.inside.nodes.items c.args.at c.index_mut-node.result.now within c.index_mut-node.ensures.value in
    let is = c.in_ok-reject.ensures.node ∙ ap (λ n. rejected c.args.reference n) node in
    let a = subst (λ v. AgreesContent v set log) (sym c.self.view_is) h in
    let done = refused-follows (record { fanout = c.self.inside.fanout; hash = c.self.inside.hash; store = c.self.inside.store; nodes = c.self.inside.nodes.items; offers = c.self.inside.offers.items; wants = c.self.inside.wants.items }) (record { fanout = c.self.inside.fanout; hash = c.self.inside.hash; store = c.self.inside.store; nodes = put c.self.inside.nodes.items c.args.at c.reject.new.self; offers = c.settle.new.offers.items; wants = c.self.inside.wants.items }) c.args.at within c.args.reference c.reject.new.self c.in_ok-reject.ensures.out refl refl refl refl refl c.args.bytes but is c.settle.ensures set log a clash in
    subst (λ (v : ContentValue). Follows v (record { fanout = c.self.inside.fanout; hash = c.self.inside.hash; store = c.self.inside.store; nodes = put c.self.inside.nodes.items c.args.at c.reject.new.self; offers = c.settle.new.offers.items; wants = c.self.inside.wants.items }) c.new-2.result set log) c.self.view_is
    (subst (λ es. Follows (record { fanout = c.self.inside.fanout; hash = c.self.inside.hash; store = c.self.inside.store; nodes = c.self.inside.nodes.items; offers = c.self.inside.offers.items; wants = c.self.inside.wants.items }) (record { fanout = c.self.inside.fanout; hash = c.self.inside.hash; store = c.self.inside.store; nodes = put c.self.inside.nodes.items c.args.at c.reject.new.self; offers = c.settle.new.offers.items; wants = c.self.inside.wants.items }) es set log) (sym c.new-2.ensures) done)
