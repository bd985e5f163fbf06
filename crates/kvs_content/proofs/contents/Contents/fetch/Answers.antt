use Rattle.std.proofs.Common.{◌≡◌, ◌∙◌, true, Some, ap, subst, sym}
use Rattle.blob_store.specs.Blobs.{blob_at}
use Rattle.cache_node.specs.Order.{Names}
use Rattle.kvs_content.specs.Sound.{IsSoundContent}
use Rattle.kvs_content.specs.Value.{ContentValue}
use Rattle.kvs_content.proofs.Finding.{fetched}
use Rattle.kvs_content.proofs.Gaining.{Gains, fetch-follows, gained-come, gained-left, gained-sound, store-gained, store-named}
use Rattle.kvs_content.proofs.contents.Contents.fetch.Goals as goal

pub get-requires-2-clause-named : goal.get-requires-2-clause-named
get-requires-2-clause-named c =
    let sound = subst IsSoundContent (sym c.self.view_is) c.requires.sound in
    subst (Names c.args.reference.now) (sym c.in_ok-twin.ensures) (store-named c.args.reference.now c.in-Some.kept.now c.self.inside.store sound.placed.store (sym c.in-Some.ensures))

pub returns-clause-named : goal.returns-clause-named
returns-clause-named c =
    let sound = subst IsSoundContent (sym c.self.view_is) c.requires.sound in
    subst (Names c.args.reference.now) (sym c.in_ok-bytes.ensures) (store-named c.args.reference.now c.in-Some.kept.now c.self.inside.store sound.placed.store (sym c.in-Some.ensures))

pub returns-clause-sound : goal.returns-clause-sound
returns-clause-sound c =
    let g : Gains c.args.self.now c.get-2.new.self 0 c.args.reference.now c.in_ok-twin.twin c.in_ok-events.events =
    record { rest = c.in_ok-events.ensures.rest; got = c.in_ok-events.ensures.got; settled = c.in_ok-events.ensures.settled } in
    let there = subst (λ (v : ContentValue). blob_at c.args.reference.now v.store ≡ Some c.in_ok-twin.twin) c.self.view_is (sym c.in-Some.ensures ∙ ap (λ bytes. Some bytes) (sym c.in_ok-twin.ensures)) in
    gained-sound _ _ 0 _ _ _ g c.requires.sound.placed.some there c.requires.sound

pub returns-clause-same : goal.returns-clause-same
returns-clause-same c = λ clean.
    let g : Gains c.args.self.now c.get-2.new.self 0 c.args.reference.now c.in_ok-twin.twin c.in_ok-events.events =
    record { rest = c.in_ok-events.ensures.rest; got = c.in_ok-events.ensures.got; settled = c.in_ok-events.ensures.settled } in
    let there = subst (λ (v : ContentValue). blob_at c.args.reference.now v.store ≡ Some c.in_ok-bytes.bytes) c.self.view_is (sym c.in-Some.ensures ∙ ap (λ bytes. Some bytes) (sym c.in_ok-bytes.ensures)) in
    ap (blob_at c.args.reference.now) (store-gained _ _ 0 _ _ _ g) ∙ there

pub returns-clause-left : goal.returns-clause-left
returns-clause-left c =
    let g : Gains c.args.self.now c.get-2.new.self 0 c.args.reference.now c.in_ok-twin.twin c.in_ok-events.events =
    record { rest = c.in_ok-events.ensures.rest; got = c.in_ok-events.ensures.got; settled = c.in_ok-events.ensures.settled } in
    gained-left _ _ 0 _ _ _ g

pub returns-clause-made : goal.returns-clause-made
returns-clause-made c =
    let g : Gains c.args.self.now c.get-2.new.self 0 c.args.reference.now c.in_ok-twin.twin c.in_ok-events.events =
    record { rest = c.in_ok-events.ensures.rest; got = c.in_ok-events.ensures.got; settled = c.in_ok-events.ensures.settled } in
    gained-come _ _ 0 _ _ _ g

pub returns-clause-follows : goal.returns-clause-follows
returns-clause-follows c = λ set log a.
    let g : Gains c.args.self.now c.get-2.new.self 0 c.args.reference.now c.in_ok-twin.twin c.in_ok-events.events =
    record { rest = c.in_ok-events.ensures.rest; got = c.in_ok-events.ensures.got; settled = c.in_ok-events.ensures.settled } in
    let there = subst (λ (v : ContentValue). blob_at c.args.reference.now v.store ≡ Some c.in_ok-twin.twin) c.self.view_is (sym c.in-Some.ensures ∙ ap (λ bytes. Some bytes) (sym c.in_ok-twin.ensures)) in
    fetch-follows _ _ _ _ _ there g set log c.requires.sound.placed.some a

pub returns-clause-told : goal.returns-clause-told
returns-clause-told c = λ set log a.
    let there = subst (λ (v : ContentValue). blob_at c.args.reference.now v.store ≡ Some c.in_ok-bytes.bytes) c.self.view_is (sym c.in-Some.ensures ∙ ap (λ bytes. Some bytes) (sym c.in_ok-bytes.ensures)) in
    fetched c.args.self.now set log a c.args.reference.now (record { bytes = c.in_ok-bytes.bytes; clean = true }) c.in_ok-events.events there
