use Rattle.std.proofs.Common.{◌≡◌, ◌∙◌, ◌<◌, ℕ, inl, inr, List, [], ◌∷◌, Some, ◌++◌, ap, refl, subst, sym, arith, true≢false}
use Rattle.std.specs.List.{AllByRecursion as Each, sum_by}
use Rattle.cache_node.specs.Cache.{clean_at}
use Rattle.cache_node.specs.Order.{Names}
use Rattle.kvs_rules.specs.Brokers.{parent}
use Rattle.kvs_content.specs.Node.{GetsOrDrops}
use Rattle.kvs_rules.specs.declared.events.KvsEvent.{KvsEvent}
use Rattle.kvs_content.specs.Agrees.{Follows, IsBlob}
use Rattle.kvs_content.specs.Messages.{offers_left}
use Rattle.kvs_content.specs.Sound.{IsDirty, IsSoundContent}
use Rattle.kvs_content.specs.Value.{ContentValue, node_at, size_of}
use Rattle.kvs_content.proofs.Lists.{bytes-same}
use Rattle.kvs_content.proofs.Passing.{above-within}
use Rattle.kvs_content.proofs.Receiving.{clean-follows, none-clean, offer-pushed, ruled-follows, told-clean, told-left, told-offer, waiting-follows, waiting-left, waiting-offer, waiting-sound}
use Rattle.kvs_content.proofs.Resting.{parent-below}
use Rattle.kvs_content.proofs.Sending.{with-offers}
use Rattle.kvs_content.proofs.Sounding.{carried-but, lighter-but}
use Rattle.kvs_content.proofs.contents.Contents.receive.Goals as goal

pub take_up-requires-clause-named : goal.take_up-requires-clause-named
take_up-requires-clause-named c = subst (Names c.args.reference) (sym c.in_ok-kept.ensures) c.requires.named

pub answer_offer-requires-clause-but : goal.answer_offer-requires-clause-but
answer_offer-requires-clause-but c =
    let done = c.in_ok-accepted.ensures in
    lighter-but c.args.child c.args.reference c.args.bytes c.args.self.now c.take_up.new.self done.alike.size c.requires.but done.placed done.lighter

pub answer_offer-requires-clause-same : goal.answer_offer-requires-clause-same
answer_offer-requires-clause-same c = λ accepted. c.in_ok-accepted.ensures.same accepted ∙ ap (λ (bytes : List ℕ). Some bytes) c.in_ok-kept.ensures

pub returns-then-at-eq0-clause-left : goal.returns-then-at-eq0-clause-left
returns-then-at-eq0-clause-left c =
    let more = ap (λ (v : ContentValue). sum_by offers_left v.offers) c.in_ok-answer_offer.ensures.sent ∙ told-left c.take_up.new.self.offers c.args.child c.args.reference c.args.bytes c.in_ok-accepted.field-0.accepted in
    omega (arith, more, c.in_ok-accepted.ensures.left, c.requires.child.0)

pub returns-then-at-eq0-clause-made : goal.returns-then-at-eq0-clause-made
returns-then-at-eq0-clause-made c = subst (λ b. Each (GetsOrDrops b) c.in_ok-accepted.field-0.events) (sym c.if-at-eq0.true) c.in_ok-accepted.ensures.made

pub returns-then-at-eq0-clause-follows : goal.returns-then-at-eq0-clause-follows
returns-then-at-eq0-clause-follows c = λ set log a blob.
    let done = c.in_ok-accepted.ensures in
    let kept = subst (IsBlob set log c.args.reference) (sym c.in_ok-kept.ensures) blob in
    let up = ap (λ f. parent f c.args.child) done.alike.fanout ∙ sym c.requires.child.2 ∙ c.if-at-eq0.true in
    subst (λ (w : ContentValue). Follows c.args.self.now w c.in_ok-accepted.field-0.events set log) (sym c.in_ok-answer_offer.ensures.sent)
    (ruled-follows c.args.self.now c.take_up.new.self c.args.child c.args.reference c.args.bytes c.in_ok-accepted.field-0.accepted c.in_ok-accepted.field-0.events set log up blob (done.follows set log a kept) (done.told set log a kept))

pub has_clean-requires : goal.has_clean-requires
has_clean-requires c = above-within c.args.self.now c.args.at c.args.child c.requires.child.0 c.requires.child.2 c.requires.child.1

pub answer_offer-requires-in-Some-clause-same : goal.answer_offer-requires-in-Some-clause-same
answer_offer-requires-in-Some-clause-same c = λ accepted.
    let within = above-within c.args.self.now c.args.at c.args.child c.requires.child.0 c.requires.child.2 c.requires.child.1 in
    let clean = told-clean (clean_at c.args.reference (node_at c.args.self.now c.args.at).cache) c.args.bytes c.in-Some.accepted c.in-Some.ensures in
    c.requires.but.placed.same c.args.at c.args.reference clean.0 within clean.1 ∙ ap (λ (bytes : List ℕ). Some bytes) (bytes-same clean.0 c.args.bytes (sym clean.2 ∙ accepted))

pub returns-in-Some-clause-left : goal.returns-in-Some-clause-left
returns-in-Some-clause-left c =
    let more = ap (λ (v : ContentValue). sum_by offers_left v.offers) c.in_ok-answer_offer-2.ensures.sent ∙ told-left c.args.self.now.offers c.args.child c.args.reference c.args.bytes c.in-Some.accepted in
    omega (arith, more, c.requires.child.0)

pub returns-in-Some-clause-follows : goal.returns-in-Some-clause-follows
returns-in-Some-clause-follows c = λ set log a blob.
    let within = above-within c.args.self.now c.args.at c.args.child c.requires.child.0 c.requires.child.2 c.requires.child.1 in
    let clean = told-clean (clean_at c.args.reference (node_at c.args.self.now c.args.at).cache) c.args.bytes c.in-Some.accepted c.in-Some.ensures in
    let told = clean-follows c.args.self.now c.args.child c.args.reference clean.0 c.args.bytes set log a c.requires.but.placed (subst (λ b. b < size_of c.args.self.now) c.requires.child.2 within)
    (subst (λ b. clean_at c.args.reference (node_at c.args.self.now b).cache ≡ Some clean.0) c.requires.child.2 clean.1) blob in
    subst (λ (es : List KvsEvent). Follows c.args.self.now c.answer_offer-in-Some.new.self es set log) (sym c.new.ensures)
    (subst (λ (w : ContentValue). Follows c.args.self.now w [] set log) (sym c.in_ok-answer_offer-2.ensures.sent)
    (subst (λ b. Follows c.args.self.now (with-offers c.args.self.now (c.args.self.now.offers ++ told-offer c.args.child c.args.reference c.args.bytes b ∷ [])) [] set log) (sym clean.2) told))

pub offer-requires-clause-below : goal.offer-requires-clause-below
offer-requires-clause-below c = omega arith

pub offer-requires-clause-within : goal.offer-requires-clause-within
offer-requires-clause-within c = above-within c.args.self.now c.args.at c.args.child c.requires.child.0 c.requires.child.2 c.requires.child.1

pub offer-requires-clause-named : goal.offer-requires-clause-named
offer-requires-clause-named c = subst (Names c.args.reference) (sym c.in_ok-twin.ensures) c.requires.named

pub returns-clause-sound : goal.returns-clause-sound
returns-clause-sound c =
    let done = c.in_ok-offer.ensures in
    let clean = none-clean (clean_at c.args.reference (node_at c.args.self.now c.args.at).cache) c.args.bytes c.in_default.ensures in
    let dirty : IsDirty c.offer.new.self c.args.at c.args.reference = elim done.has [
      | inl there ↦ absurd (true≢false (sym there ∙ clean))
      | inr here ↦ here
    ] in
    let is = offer-pushed c.self-2.view_is _ (waiting-offer c.args.child c.args.reference c.args.bytes) refl _ c.in_ok-push.ensures.items in
    subst IsSoundContent (sym is) (waiting-sound c.offer.new.self c.args.child c.args.reference c.args.bytes
    (carried-but c.args.child c.args.reference c.args.bytes c.args.self.now c.offer.new.self done.alike.size c.requires.but done.placed done.carried)
    c.requires.child.0 (subst (λ n. c.args.child < n) (sym done.alike.size) c.requires.child.1) c.requires.named
    (subst (λ b. IsDirty c.offer.new.self b c.args.reference) (c.requires.child.2 ∙ ap (λ f. parent f c.args.child) (sym done.alike.fanout)) dirty))

pub returns-clause-left : goal.returns-clause-left
returns-clause-left c =
    let more = ap (sum_by offers_left) c.in_ok-push.ensures.items ∙ waiting-left c.self-2.inside.offers.items c.args.child c.args.reference c.args.bytes in
    let same = ap (λ (v : ContentValue). sum_by offers_left v.offers) c.self-2.view_is in
    let less = parent-below c.args.self.now.fanout c.args.child c.requires.child.0 in
    omega (arith, more, same, less, c.in_ok-offer.ensures.left, c.requires.child.2)

pub returns-clause-follows : goal.returns-clause-follows
returns-clause-follows c = λ set log a blob.
    let is = offer-pushed c.self-2.view_is _ (waiting-offer c.args.child c.args.reference c.args.bytes) refl _ c.in_ok-push.ensures.items in
    let waits = c.offer.new.self.offers ++ waiting-offer c.args.child c.args.reference c.args.bytes ∷ [] in
    let twin = subst (IsBlob set log c.args.reference) (sym c.in_ok-twin.ensures) blob in
    subst (λ (w : ContentValue). Follows c.args.self.now w c.new-2.result set log) (sym is)
    (subst (λ (es : List KvsEvent). Follows c.args.self.now (with-offers c.offer.new.self waits) es set log) (sym c.new-2.ensures)
    (waiting-follows c.args.self.now c.offer.new.self c.args.child c.args.reference c.args.bytes set log blob (c.in_ok-offer.ensures.follows set log a twin)))
