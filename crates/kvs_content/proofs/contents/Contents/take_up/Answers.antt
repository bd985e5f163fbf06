use Rattle.std.proofs.Common.{◌∙◌, ap, subst, sym}
use Rattle.blob_store.specs.Blobs.{HasOther, blob_at}
use Rattle.kvs_content.specs.Agrees.{IsRefused}
use Rattle.kvs_content.specs.Sound.{ArePlaced}
use Rattle.kvs_content.specs.Value.{ContentValue}
use Rattle.kvs_content.proofs.Gaining.{Gains, gained-come, gained-left, gained-placed, store-gained, stored-placed, stored-then, take-follows, take-got, taken-lighter}
use Rattle.kvs_content.proofs.Nothing.{with-nothing}
use Rattle.kvs_content.proofs.Taking.{clash-refused, stored-there}
use Rattle.kvs_content.proofs.contents.Contents.take_up.Goals as goal

pub get-requires-clause-placed : goal.get-requires-clause-placed
get-requires-clause-placed c =
    let is = stored-then c.self.view_is c.args.reference c.args.bytes c.in_ok-kept.kept c.in_ok-kept.ensures c.put.new.self c.in-Ok.ensures.stored in
    subst ArePlaced (sym is) (stored-placed c.args.self.now c.args.reference c.args.bytes c.requires.placed c.requires.named)

pub returns-in-Ok-clause-placed : goal.returns-in-Ok-clause-placed
returns-in-Ok-clause-placed c =
    let is = stored-then c.self.view_is c.args.reference c.args.bytes c.in_ok-kept.kept c.in_ok-kept.ensures c.put.new.self c.in-Ok.ensures.stored in
    let g = subst (λ (u : ContentValue). Gains u c.get.new.self 0 c.args.reference c.args.bytes c.in_ok-events-in-Ok.events) is
    (record { rest = c.in_ok-events-in-Ok.ensures.rest; got = c.in_ok-events-in-Ok.ensures.got; settled = c.in_ok-events-in-Ok.ensures.settled }) in
    let none : (HasOther c.args.self.now.store c.args.reference c.args.bytes → ⊥) =
    λ o. c.in-Ok.ensures.clash.1 (subst (HasOther c.self.inside.store c.args.reference) (sym c.in_ok-kept.ensures) (subst (λ (v : ContentValue). HasOther v.store c.args.reference c.args.bytes) (sym c.self.view_is) o)) in
    gained-placed _ _ 0 _ _ _ g c.requires.placed.some (stored-placed c.args.self.now c.args.reference c.args.bytes c.requires.placed c.requires.named) (stored-there c.args.self.now.store c.args.reference c.args.bytes none)

pub returns-in-Ok-clause-lighter : goal.returns-in-Ok-clause-lighter
returns-in-Ok-clause-lighter c =
    let is = stored-then c.self.view_is c.args.reference c.args.bytes c.in_ok-kept.kept c.in_ok-kept.ensures c.put.new.self c.in-Ok.ensures.stored in
    let g = subst (λ (u : ContentValue). Gains u c.get.new.self 0 c.args.reference c.args.bytes c.in_ok-events-in-Ok.events) is
    (record { rest = c.in_ok-events-in-Ok.ensures.rest; got = c.in_ok-events-in-Ok.ensures.got; settled = c.in_ok-events-in-Ok.ensures.settled }) in
    let none : (HasOther c.args.self.now.store c.args.reference c.args.bytes → ⊥) =
    λ o. c.in-Ok.ensures.clash.1 (subst (HasOther c.self.inside.store c.args.reference) (sym c.in_ok-kept.ensures) (subst (λ (v : ContentValue). HasOther v.store c.args.reference c.args.bytes) (sym c.self.view_is) o)) in
    taken-lighter c.args.self.now c.args.reference c.args.bytes _ _ g c.requires.placed c.requires.named none

pub returns-in-Ok-clause-left : goal.returns-in-Ok-clause-left
returns-in-Ok-clause-left c =
    let is = stored-then c.self.view_is c.args.reference c.args.bytes c.in_ok-kept.kept c.in_ok-kept.ensures c.put.new.self c.in-Ok.ensures.stored in
    let g = subst (λ (u : ContentValue). Gains u c.get.new.self 0 c.args.reference c.args.bytes c.in_ok-events-in-Ok.events) is
    (record { rest = c.in_ok-events-in-Ok.ensures.rest; got = c.in_ok-events-in-Ok.ensures.got; settled = c.in_ok-events-in-Ok.ensures.settled }) in
    gained-left _ _ 0 _ _ _ g

pub returns-in-Ok-clause-made : goal.returns-in-Ok-clause-made
returns-in-Ok-clause-made c =
    let is = stored-then c.self.view_is c.args.reference c.args.bytes c.in_ok-kept.kept c.in_ok-kept.ensures c.put.new.self c.in-Ok.ensures.stored in
    let g = subst (λ (u : ContentValue). Gains u c.get.new.self 0 c.args.reference c.args.bytes c.in_ok-events-in-Ok.events) is
    (record { rest = c.in_ok-events-in-Ok.ensures.rest; got = c.in_ok-events-in-Ok.ensures.got; settled = c.in_ok-events-in-Ok.ensures.settled }) in
    gained-come _ _ 0 _ _ _ g

pub returns-in-Ok-clause-follows : goal.returns-in-Ok-clause-follows
returns-in-Ok-clause-follows c = λ set log a blob.
    let is = stored-then c.self.view_is c.args.reference c.args.bytes c.in_ok-kept.kept c.in_ok-kept.ensures c.put.new.self c.in-Ok.ensures.stored in
    let g = subst (λ (u : ContentValue). Gains u c.get.new.self 0 c.args.reference c.args.bytes c.in_ok-events-in-Ok.events) is
    (record { rest = c.in_ok-events-in-Ok.ensures.rest; got = c.in_ok-events-in-Ok.ensures.got; settled = c.in_ok-events-in-Ok.ensures.settled }) in
    let none : (HasOther c.args.self.now.store c.args.reference c.args.bytes → ⊥) =
    λ o. c.in-Ok.ensures.clash.1 (subst (HasOther c.self.inside.store c.args.reference) (sym c.in_ok-kept.ensures) (subst (λ (v : ContentValue). HasOther v.store c.args.reference c.args.bytes) (sym c.self.view_is) o)) in
    take-follows c.args.self.now c.args.reference c.args.bytes _ _ g set log c.requires.placed.some a blob none

pub returns-in-Ok-clause-same : goal.returns-in-Ok-clause-same
returns-in-Ok-clause-same c = λ accepted.
    let is = stored-then c.self.view_is c.args.reference c.args.bytes c.in_ok-kept.kept c.in_ok-kept.ensures c.put.new.self c.in-Ok.ensures.stored in
    let g = subst (λ (u : ContentValue). Gains u c.get.new.self 0 c.args.reference c.args.bytes c.in_ok-events-in-Ok.events) is
    (record { rest = c.in_ok-events-in-Ok.ensures.rest; got = c.in_ok-events-in-Ok.ensures.got; settled = c.in_ok-events-in-Ok.ensures.settled }) in
    let none : (HasOther c.args.self.now.store c.args.reference c.args.bytes → ⊥) =
    λ o. c.in-Ok.ensures.clash.1 (subst (HasOther c.self.inside.store c.args.reference) (sym c.in_ok-kept.ensures) (subst (λ (v : ContentValue). HasOther v.store c.args.reference c.args.bytes) (sym c.self.view_is) o)) in
    ap (blob_at c.args.reference) (store-gained _ _ 0 _ _ _ g) ∙ stored-there c.args.self.now.store c.args.reference c.args.bytes none

pub returns-in-Ok-clause-told : goal.returns-in-Ok-clause-told
returns-in-Ok-clause-told c = λ set log a blob.
    let is = stored-then c.self.view_is c.args.reference c.args.bytes c.in_ok-kept.kept c.in_ok-kept.ensures c.put.new.self c.in-Ok.ensures.stored in
    let g = subst (λ (u : ContentValue). Gains u c.get.new.self 0 c.args.reference c.args.bytes c.in_ok-events-in-Ok.events) is
    (record { rest = c.in_ok-events-in-Ok.ensures.rest; got = c.in_ok-events-in-Ok.ensures.got; settled = c.in_ok-events-in-Ok.ensures.settled }) in
    take-got c.args.self.now c.args.reference c.args.bytes _ _ g set log c.requires.placed.some a blob

pub returns-in-Err-Clash-clause-told : goal.returns-in-Err-Clash-clause-told
returns-in-Err-Clash-clause-told c = λ set log a blob.
    let clash = rw c.in-Err-Clash.field-0-is at c.in-Err-Clash.ensures.clash in
    let other = subst (λ (v : ContentValue). HasOther v.store c.args.reference c.args.bytes) c.self.view_is (subst (HasOther c.self.inside.store c.args.reference) c.in_ok-kept.ensures (clash.0 tt)) in
    with-nothing (λ ms. IsRefused set ms c.args.reference) log c.new.result c.new.ensures (clash-refused c.args.self.now set log a c.args.reference c.args.bytes blob other)
