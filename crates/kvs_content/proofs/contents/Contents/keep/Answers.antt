use Rattle.std.proofs.Common.{◌++◌, ◌∙◌, ℕ, List, Some, ap, map, subst, sym, Option}
use Rattle.std.specs.Prelude.{IfSome}
use Rattle.kvs_rules.specs.Log.{Happened}
use Rattle.kvs_content.specs.declared.wants.Gift.{Gift}
use Rattle.kvs_content.specs.Agrees.{GiftAgrees, IsBlob, IsFrom}
use Rattle.kvs_content.specs.Sound.{IsGiftSame}
use Rattle.kvs_content.proofs.Gaining.{Gains, gained-come, gained-follows, gained-got, gained-left, gained-sound, store-gained}
use Rattle.kvs_content.proofs.contents.Contents.keep.Goals as goal

pub returns-clause-sound : goal.returns-clause-sound
returns-clause-sound c =
    let g : Gains c.args.self.now c.get.new.self c.args.at c.args.reference c.in_ok-twin.twin c.in_ok-events.events =
    record { rest = c.in_ok-events.ensures.rest; got = c.in_ok-events.ensures.got; settled = c.in_ok-events.ensures.settled } in
    let there = subst (IsGiftSame c.args.self.now.store c.args.reference) c.in-Some.is c.requires.same c.if-not-gift.false ∙ ap (λ (bytes : List ℕ). Some bytes) (sym c.in_ok-twin.ensures) in
    gained-sound _ _ c.args.at _ _ _ g c.requires.within.1 there c.requires.sound

pub returns-clause-store : goal.returns-clause-store
returns-clause-store c =
    let g : Gains c.args.self.now c.get.new.self c.args.at c.args.reference c.in_ok-twin.twin c.in_ok-events.events =
    record { rest = c.in_ok-events.ensures.rest; got = c.in_ok-events.ensures.got; settled = c.in_ok-events.ensures.settled } in
    store-gained _ _ c.args.at _ _ _ g

pub returns-clause-left : goal.returns-clause-left
returns-clause-left c =
    let g : Gains c.args.self.now c.get.new.self c.args.at c.args.reference c.in_ok-twin.twin c.in_ok-events.events =
    record { rest = c.in_ok-events.ensures.rest; got = c.in_ok-events.ensures.got; settled = c.in_ok-events.ensures.settled } in
    gained-left _ _ c.args.at _ _ _ g

pub returns-clause-made : goal.returns-clause-made
returns-clause-made c =
    let g : Gains c.args.self.now c.get.new.self c.args.at c.args.reference c.in_ok-twin.twin c.in_ok-events.events =
    record { rest = c.in_ok-events.ensures.rest; got = c.in_ok-events.ensures.got; settled = c.in_ok-events.ensures.settled } in
    gained-come _ _ c.args.at _ _ _ g

pub returns-clause-follows : goal.returns-clause-follows
returns-clause-follows c = λ set log by request a h.
    let g : Gains c.args.self.now c.get.new.self c.args.at c.args.reference c.in_ok-twin.twin c.in_ok-events.events =
    record { rest = c.in_ok-events.ensures.rest; got = c.in_ok-events.ensures.got; settled = c.in_ok-events.ensures.settled } in
    let there = subst (IsGiftSame c.args.self.now.store c.args.reference) c.in-Some.is c.requires.same c.if-not-gift.false ∙ ap (λ (bytes : List ℕ). Some bytes) (sym c.in_ok-twin.ensures) in
    let gift = subst (λ (o : Option Gift). GiftAgrees set log c.args.self.now.fanout c.args.at by request c.args.reference o) c.in-Some.is h in
    gained-follows c.args.self.now c.get.new.self c.args.at c.args.reference c.in_ok-twin.twin c.in_ok-events.events g set log a c.requires.within.0 c.requires.within.1
    (subst (IsBlob set log c.args.reference) (sym c.in_ok-twin.ensures) gift.0) (gift.1 c.if-not-gift.false) there

pub returns-clause-told : goal.returns-clause-told
returns-clause-told c = λ set log by request a h.
    let g : Gains c.args.self.now c.get.new.self c.args.at c.args.reference c.in_ok-twin.twin c.in_ok-events.events =
    record { rest = c.in_ok-events.ensures.rest; got = c.in_ok-events.ensures.got; settled = c.in_ok-events.ensures.settled } in
    let gift = subst (λ (o : Option Gift). GiftAgrees set log c.args.self.now.fanout c.args.at by request c.args.reference o) c.in-Some.is h in
    let got = gained-got c.args.self.now c.get.new.self c.args.at c.args.reference c.in_ok-twin.twin c.in_ok-events.events g set log a c.requires.within.0 c.requires.within.1
    (subst (IsBlob set log c.args.reference) (sym c.in_ok-twin.ensures) gift.0) (gift.1 c.if-not-gift.false) in
    subst (λ (o : Option Gift). IfSome o (IsFrom (log ++ map Happened c.in_ok-events.events) c.args.at c.args.reference)) (sym c.in-Some.is) (λ clean. got)
