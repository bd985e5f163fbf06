use Rattle.std.proofs.Common.{◌≡◌, ◌∙◌, ◌<◌, ◌+◌, ◌*◌, true, false, Some, ap, subst, sym, arith, true≢false, get_or}
use Rattle.std.specs.List.{remove, sum_by}
use Rattle.blob_store.specs.Blobs.{blob_at}
use Rattle.kvs_rules.specs.Brokers.{has_got, parent}
use Rattle.kvs_content.specs.declared.offers.Offer.{Offer}
use Rattle.kvs_content.specs.Agrees.{AgreesContent, Follows, OfferStageAgrees}
use Rattle.kvs_content.specs.Messages.{is_offered_so, is_offer_on, offer_left, offers_left}
use Rattle.kvs_content.specs.Sound.{IsOfferSame, IsSoundBut}
use Rattle.kvs_content.specs.Value.{ContentValue, size_of}
use Rattle.kvs_content.proofs.Delivering.{offer-agrees, offer-but, offer-left-out, offer-there, offers-removed, ok-then, on-then}
use Rattle.kvs_content.proofs.Passing.{falls-to, rises-to}
use Rattle.kvs_content.proofs.Nothing.{none-come}
use Rattle.kvs_content.proofs.Sending.{taken-agrees, taken-follows, with-offers}
use Rattle.kvs_content.proofs.contents.Contents.deliver_offer.Goals as goal

pub receive-requires-clause-but : goal.receive-requires-clause-but
receive-requires-clause-but c =
    let read = subst (λ (v : ContentValue). c.remove-child.result ≡ get_or v.offers c.args.i c.remove-child.result) c.self.view_is c.remove-child.ensures.value in
    let is = offers-removed c.self.view_is c.args.i c.remove-child.new.self.items c.remove-child.ensures.items in
    subst (IsSoundBut c.remove-child.result.child c.remove-child.result.reference c.remove-child.result.bytes) (sym is) (offer-but c.args.self.now c.requires.sound c.args.i c.requires.within c.remove-child.result read)

pub receive-requires-clause-child : goal.receive-requires-clause-child
receive-requires-clause-child c =
    let read = subst (λ (v : ContentValue). c.remove-child.result ≡ get_or v.offers c.args.i c.remove-child.result) c.self.view_is c.remove-child.ensures.value in
    let there = offer-there c.args.self.now c.requires.sound c.args.i c.requires.within c.remove-child.result read in
    let on = c.requires.on c.remove-child.result in
    let rises = subst (λ s. is_offered_so c.args.self.now.fanout on.0 c.args.to c.remove-child.result.child s ≡ true) c.in-Rising.is (subst (λ (o : Offer). is_offer_on c.args.self.now.fanout on.0 c.args.to o ≡ true) (sym read) on.1) in
    let up = rises-to c.args.self.now.fanout on.0 c.args.to c.remove-child.result.child rises in
    (there.below, subst (λ v. c.remove-child.result.child < size_of v) (sym c.self.view_is) there.within, subst (λ (v : ContentValue). c.args.to ≡ parent v.fanout c.remove-child.result.child) (sym c.self.view_is) up)

pub receive-requires-clause-named : goal.receive-requires-clause-named
receive-requires-clause-named c =
    let read = subst (λ (v : ContentValue). c.remove-child.result ≡ get_or v.offers c.args.i c.remove-child.result) c.self.view_is c.remove-child.ensures.value in
    let there = offer-there c.args.self.now c.requires.sound c.args.i c.requires.within c.remove-child.result read in
    there.named

pub unreachable-requires : goal.unreachable-requires
unreachable-requires c =
    let read = subst (λ (v : ContentValue). c.remove-child.result ≡ get_or v.offers c.args.i c.remove-child.result) c.self.view_is c.remove-child.ensures.value in
    let on = c.requires.on c.remove-child.result in
    let waits : false ≡ true = subst (λ s. is_offered_so c.args.self.now.fanout on.0 c.args.to c.remove-child.result.child s ≡ true) c.in-Waiting.is (subst (λ (o : Offer). is_offer_on c.args.self.now.fanout on.0 c.args.to o ≡ true) (sym read) on.1) in
    true≢false (sym waits)

pub accept-requires-clause-but : goal.accept-requires-clause-but
accept-requires-clause-but c =
    let read = subst (λ (v : ContentValue). c.remove-child.result ≡ get_or v.offers c.args.i c.remove-child.result) c.self.view_is c.remove-child.ensures.value in
    let is = offers-removed c.self.view_is c.args.i c.remove-child.new.self.items c.remove-child.ensures.items in
    let on = c.requires.on c.remove-child.result in
    let falls = subst (λ s. is_offered_so c.args.self.now.fanout on.0 c.args.to c.remove-child.result.child s ≡ true) c.in-Accepted.is (subst (λ (o : Offer). is_offer_on c.args.self.now.fanout on.0 c.args.to o ≡ true) (sym read) on.1) in
    let to = falls-to c.args.self.now.fanout on.0 c.args.to c.remove-child.result.child falls in
    subst (IsSoundBut c.args.to c.remove-child.result.reference c.remove-child.result.bytes) (sym is)
    (subst (λ b. IsSoundBut b c.remove-child.result.reference c.remove-child.result.bytes (with-offers c.args.self.now (remove c.args.self.now.offers c.args.i))) (sym to)
    (offer-but c.args.self.now c.requires.sound c.args.i c.requires.within c.remove-child.result read))

pub accept-requires-clause-within : goal.accept-requires-clause-within
accept-requires-clause-within c =
    let read = subst (λ (v : ContentValue). c.remove-child.result ≡ get_or v.offers c.args.i c.remove-child.result) c.self.view_is c.remove-child.ensures.value in
    let there = offer-there c.args.self.now c.requires.sound c.args.i c.requires.within c.remove-child.result read in
    let on = c.requires.on c.remove-child.result in
    let falls = subst (λ s. is_offered_so c.args.self.now.fanout on.0 c.args.to c.remove-child.result.child s ≡ true) c.in-Accepted.is (subst (λ (o : Offer). is_offer_on c.args.self.now.fanout on.0 c.args.to o ≡ true) (sym read) on.1) in
    let to = falls-to c.args.self.now.fanout on.0 c.args.to c.remove-child.result.child falls in
    subst (λ v. c.args.to < size_of v) (sym c.self.view_is) (subst (λ b. b < size_of c.args.self.now) (sym to) there.within)

pub accept-requires-clause-same : goal.accept-requires-clause-same
accept-requires-clause-same c =
    let read = subst (λ (v : ContentValue). c.remove-child.result ≡ get_or v.offers c.args.i c.remove-child.result) c.self.view_is c.remove-child.ensures.value in
    let there = offer-there c.args.self.now c.requires.sound c.args.i c.requires.within c.remove-child.result read in
    subst (λ (v : ContentValue). blob_at c.remove-child.result.reference v.store ≡ Some c.remove-child.result.bytes) (sym c.self.view_is)
    (subst (IsOfferSame c.args.self.now.store c.remove-child.result.reference c.remove-child.result.bytes) c.in-Accepted.is there.same)

pub reject-requires-clause-but : goal.reject-requires-clause-but
reject-requires-clause-but c =
    let read = subst (λ (v : ContentValue). c.remove-child.result ≡ get_or v.offers c.args.i c.remove-child.result) c.self.view_is c.remove-child.ensures.value in
    let is = offers-removed c.self.view_is c.args.i c.remove-child.new.self.items c.remove-child.ensures.items in
    let on = c.requires.on c.remove-child.result in
    let falls = subst (λ s. is_offered_so c.args.self.now.fanout on.0 c.args.to c.remove-child.result.child s ≡ true) c.in-Refused.is (subst (λ (o : Offer). is_offer_on c.args.self.now.fanout on.0 c.args.to o ≡ true) (sym read) on.1) in
    let to = falls-to c.args.self.now.fanout on.0 c.args.to c.remove-child.result.child falls in
    subst (IsSoundBut c.args.to c.remove-child.result.reference c.remove-child.result.bytes) (sym is)
    (subst (λ b. IsSoundBut b c.remove-child.result.reference c.remove-child.result.bytes (with-offers c.args.self.now (remove c.args.self.now.offers c.args.i))) (sym to)
    (offer-but c.args.self.now c.requires.sound c.args.i c.requires.within c.remove-child.result read))

pub reject-requires-clause-within : goal.reject-requires-clause-within
reject-requires-clause-within c =
    let read = subst (λ (v : ContentValue). c.remove-child.result ≡ get_or v.offers c.args.i c.remove-child.result) c.self.view_is c.remove-child.ensures.value in
    let there = offer-there c.args.self.now c.requires.sound c.args.i c.requires.within c.remove-child.result read in
    let on = c.requires.on c.remove-child.result in
    let falls = subst (λ s. is_offered_so c.args.self.now.fanout on.0 c.args.to c.remove-child.result.child s ≡ true) c.in-Refused.is (subst (λ (o : Offer). is_offer_on c.args.self.now.fanout on.0 c.args.to o ≡ true) (sym read) on.1) in
    let to = falls-to c.args.self.now.fanout on.0 c.args.to c.remove-child.result.child falls in
    subst (λ v. c.args.to < size_of v) (sym c.self.view_is) (subst (λ b. b < size_of c.args.self.now) (sym to) there.within)

pub returns-in-Rising-clause-left : goal.returns-in-Rising-clause-left
returns-in-Rising-clause-left c =
    let read = subst (λ (v : ContentValue). c.remove-child.result ≡ get_or v.offers c.args.i c.remove-child.result) c.self.view_is c.remove-child.ensures.value in
    let is = offers-removed c.self.view_is c.args.i c.remove-child.new.self.items c.remove-child.ensures.items in
    let out = ap (λ (v : ContentValue). sum_by offers_left v.offers + offers_left c.remove-child.result) is ∙ offer-left-out c.args.self.now c.requires.sound c.args.i c.requires.within c.remove-child.result read in
    let own : offers_left c.remove-child.result ≡ 2 * c.remove-child.result.child = ap (offer_left c.remove-child.result.child) c.in-Rising.is in
    on-then c.receive.result _ _ c.receive.ensures.left (λ left. omega (arith, left, out, own))

pub returns-in-Rising-clause-follows : goal.returns-in-Rising-clause-follows
returns-in-Rising-clause-follows c =
    let read = subst (λ (v : ContentValue). c.remove-child.result ≡ get_or v.offers c.args.i c.remove-child.result) c.self.view_is c.remove-child.ensures.value in
    let is = offers-removed c.self.view_is c.args.i c.remove-child.new.self.items c.remove-child.ensures.items in
    ok-then c.receive.result _ _ c.receive.ensures.follows (λ events f. λ set log a.
    let blob = (offer-agrees c.args.self.now c.requires.sound c.args.i c.requires.within c.remove-child.result read set log a).0 in
    taken-follows c.args.self.now c.receive.new.self c.args.i events set log
    (subst (λ (u : ContentValue). Follows u c.receive.new.self events set log) is (f set log (subst (λ u. AgreesContent u set log) (sym is) (taken-agrees c.args.self.now set log a c.args.i)) blob)))

pub returns-in-Accepted-clause-left : goal.returns-in-Accepted-clause-left
returns-in-Accepted-clause-left c =
    let read = subst (λ (v : ContentValue). c.remove-child.result ≡ get_or v.offers c.args.i c.remove-child.result) c.self.view_is c.remove-child.ensures.value in
    let is = offers-removed c.self.view_is c.args.i c.remove-child.new.self.items c.remove-child.ensures.items in
    let out = ap (λ (v : ContentValue). sum_by offers_left v.offers + offers_left c.remove-child.result) is ∙ offer-left-out c.args.self.now c.requires.sound c.args.i c.requires.within c.remove-child.result read in
    let own : offers_left c.remove-child.result ≡ 1 = ap (offer_left c.remove-child.result.child) c.in-Accepted.is in
    on-then c.accept.result _ _ c.accept.ensures.left (λ left. omega (arith, left, out, own))

pub returns-in-Accepted-clause-follows : goal.returns-in-Accepted-clause-follows
returns-in-Accepted-clause-follows c =
    let read = subst (λ (v : ContentValue). c.remove-child.result ≡ get_or v.offers c.args.i c.remove-child.result) c.self.view_is c.remove-child.ensures.value in
    let is = offers-removed c.self.view_is c.args.i c.remove-child.new.self.items c.remove-child.ensures.items in
    let there = offer-there c.args.self.now c.requires.sound c.args.i c.requires.within c.remove-child.result read in
    let on = c.requires.on c.remove-child.result in
    let falls = subst (λ s. is_offered_so c.args.self.now.fanout on.0 c.args.to c.remove-child.result.child s ≡ true) c.in-Accepted.is (subst (λ (o : Offer). is_offer_on c.args.self.now.fanout on.0 c.args.to o ≡ true) (sym read) on.1) in
    let to = falls-to c.args.self.now.fanout on.0 c.args.to c.remove-child.result.child falls in
    ok-then c.accept.result _ _ c.accept.ensures.follows (λ events f. λ set log a.
    let got = subst (OfferStageAgrees set log c.args.self.now.fanout c.remove-child.result.child c.remove-child.result.reference) c.in-Accepted.is (offer-agrees c.args.self.now c.requires.sound c.args.i c.requires.within c.remove-child.result read set log a).1 in
    let source = subst (λ (v : ContentValue). has_got log (parent v.fanout c.args.to) c.remove-child.result.reference ≡ true) (sym c.self.view_is)
    (subst (λ b. has_got log (parent c.args.self.now.fanout b) c.remove-child.result.reference ≡ true) (sym to) got) in
    taken-follows c.args.self.now c.accept.new.self c.args.i events set log
    (subst (λ (u : ContentValue). Follows u c.accept.new.self events set log) is
    (f set log (subst (λ u. AgreesContent u set log) (sym is) (taken-agrees c.args.self.now set log a c.args.i)) (subst (λ b. 0 < b) (sym to) there.below, source))))

pub returns-in-Refused-clause-left : goal.returns-in-Refused-clause-left
returns-in-Refused-clause-left c =
    let read = subst (λ (v : ContentValue). c.remove-child.result ≡ get_or v.offers c.args.i c.remove-child.result) c.self.view_is c.remove-child.ensures.value in
    let is = offers-removed c.self.view_is c.args.i c.remove-child.new.self.items c.remove-child.ensures.items in
    let out = ap (λ (v : ContentValue). sum_by offers_left v.offers + offers_left c.remove-child.result) is ∙ offer-left-out c.args.self.now c.requires.sound c.args.i c.requires.within c.remove-child.result read in
    let own : offers_left c.remove-child.result ≡ 1 = ap (offer_left c.remove-child.result.child) c.in-Refused.is in
    on-then c.reject.result _ _ c.reject.ensures.left (λ left. omega (arith, left, out, own))

pub returns-in-Refused-clause-made : goal.returns-in-Refused-clause-made
returns-in-Refused-clause-made c = ok-then c.reject.result _ _ c.reject.ensures.made (λ events none. none-come c.args.to events none)

pub returns-in-Refused-clause-follows : goal.returns-in-Refused-clause-follows
returns-in-Refused-clause-follows c =
    let read = subst (λ (v : ContentValue). c.remove-child.result ≡ get_or v.offers c.args.i c.remove-child.result) c.self.view_is c.remove-child.ensures.value in
    let is = offers-removed c.self.view_is c.args.i c.remove-child.new.self.items c.remove-child.ensures.items in
    ok-then c.reject.result _ _ c.reject.ensures.follows (λ events f. λ set log a.
    let clash = subst (OfferStageAgrees set log c.args.self.now.fanout c.remove-child.result.child c.remove-child.result.reference) c.in-Refused.is (offer-agrees c.args.self.now c.requires.sound c.args.i c.requires.within c.remove-child.result read set log a).1 in
    taken-follows c.args.self.now c.reject.new.self c.args.i events set log
    (subst (λ (u : ContentValue). Follows u c.reject.new.self events set log) is (f set log (subst (λ u. AgreesContent u set log) (sym is) (taken-agrees c.args.self.now set log a c.args.i)) clash)))
