use Rattle.std.proofs.Common.{◌∙◌, ◌<◌, [], ap, inr, subst, sym}
use Rattle.std.specs.Prelude.{is_some}
use Rattle.cache_node.specs.Cache.{any_at}
use Rattle.cache_node.specs.Order.{Names}
use Rattle.kvs_content.specs.Agrees.{Follows, IsBlob}
use Rattle.kvs_content.specs.Sound.{ArePlaced, IsCarried, IsDirty}
use Rattle.kvs_content.specs.Value.{ContentValue, size_of}
use Rattle.kvs_content.proofs.Keeping.{node-read}
use Rattle.kvs_content.proofs.Lists.{none-of-some, some-copied}
use Rattle.kvs_content.proofs.Offering.{offered-then, offering-carried, offering-dirty, offering-follows, offering-placed}
use Rattle.kvs_content.proofs.contents.Contents.offer.Goals as goal

pub returns-clause-placed : goal.returns-clause-placed
returns-clause-placed c =
    let within = subst (λ v. c.args.broker < size_of v) (sym c.self.view_is) c.requires.within in
    let read = node-read c.self.inside.nodes.items c.args.broker c.index_mut-node.result.now within c.index_mut-node.ensures.value in
    let none = none-of-some (any_at c.args.reference c.index_mut-node.result.now.cache) (sym (sym (some-copied c.any.result) ∙ ap is_some c.any.ensures.found) ∙ sym c.is_some.ensures ∙ c.if-is_some.false) in
    let is = offered-then c.self.view_is c.args.broker c.args.reference c.args.bytes c.in_ok-offered.offered c.index_mut-node.result.now c.put_dirty.new.self read none c.in_ok-put_dirty.ensures c.push.new.self.items c.in_ok-push.ensures.items in
    subst ArePlaced (sym is) (offering-placed c.args.self.now c.args.broker c.requires.within c.args.reference c.args.bytes c.in_ok-offered.offered c.requires.below c.requires.placed
    (subst (Names c.args.reference) (sym c.in_ok-offered.ensures) c.requires.named))

pub returns-clause-follows : goal.returns-clause-follows
returns-clause-follows c = λ set log a blob.
    let within = subst (λ v. c.args.broker < size_of v) (sym c.self.view_is) c.requires.within in
    let read = node-read c.self.inside.nodes.items c.args.broker c.index_mut-node.result.now within c.index_mut-node.ensures.value in
    let none = none-of-some (any_at c.args.reference c.index_mut-node.result.now.cache) (sym (sym (some-copied c.any.result) ∙ ap is_some c.any.ensures.found) ∙ sym c.is_some.ensures ∙ c.if-is_some.false) in
    let is = offered-then c.self.view_is c.args.broker c.args.reference c.args.bytes c.in_ok-offered.offered c.index_mut-node.result.now c.put_dirty.new.self read none c.in_ok-put_dirty.ensures c.push.new.self.items c.in_ok-push.ensures.items in
    subst (λ (w : ContentValue). Follows c.args.self.now w [] set log) (sym is) (offering-follows c.args.self.now c.args.broker c.requires.within c.args.reference c.args.bytes c.in_ok-offered.offered set log a blob
    (subst (IsBlob set log c.args.reference) (sym c.in_ok-offered.ensures) blob))

pub returns-clause-carried : goal.returns-clause-carried
returns-clause-carried c = λ b name kept in_size carried.
    let within = subst (λ v. c.args.broker < size_of v) (sym c.self.view_is) c.requires.within in
    let read = node-read c.self.inside.nodes.items c.args.broker c.index_mut-node.result.now within c.index_mut-node.ensures.value in
    let none = none-of-some (any_at c.args.reference c.index_mut-node.result.now.cache) (sym (sym (some-copied c.any.result) ∙ ap is_some c.any.ensures.found) ∙ sym c.is_some.ensures ∙ c.if-is_some.false) in
    let is = offered-then c.self.view_is c.args.broker c.args.reference c.args.bytes c.in_ok-offered.offered c.index_mut-node.result.now c.put_dirty.new.self read none c.in_ok-put_dirty.ensures c.push.new.self.items c.in_ok-push.ensures.items in
    subst (λ (w : ContentValue). IsCarried w b name kept) (sym is) (offering-carried c.args.self.now c.args.broker c.requires.within c.args.reference c.args.bytes c.in_ok-offered.offered c.in_ok-offered.ensures b name kept carried)

pub returns-clause-has : goal.returns-clause-has
returns-clause-has c =
    let within = subst (λ v. c.args.broker < size_of v) (sym c.self.view_is) c.requires.within in
    let read = node-read c.self.inside.nodes.items c.args.broker c.index_mut-node.result.now within c.index_mut-node.ensures.value in
    let none = none-of-some (any_at c.args.reference c.index_mut-node.result.now.cache) (sym (sym (some-copied c.any.result) ∙ ap is_some c.any.ensures.found) ∙ sym c.is_some.ensures ∙ c.if-is_some.false) in
    let is = offered-then c.self.view_is c.args.broker c.args.reference c.args.bytes c.in_ok-offered.offered c.index_mut-node.result.now c.put_dirty.new.self read none c.in_ok-put_dirty.ensures c.push.new.self.items c.in_ok-push.ensures.items in
    inr (subst (λ (w : ContentValue). IsDirty w c.args.broker c.args.reference) (sym is) (offering-dirty c.args.self.now c.args.broker c.requires.within c.args.reference c.args.bytes c.in_ok-offered.offered))
