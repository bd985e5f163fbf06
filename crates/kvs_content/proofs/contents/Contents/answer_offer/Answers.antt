use Rattle.std.proofs.Common.{true, ap, subst, sym}
use Rattle.kvs_content.specs.declared.offers.OfferStage.{OfferStage}
use Rattle.kvs_content.specs.Sound.{IsSoundContent}
use Rattle.kvs_content.proofs.Receiving.{offer-pushed, told-offer, told-sound}
use Rattle.kvs_content.proofs.contents.Contents.answer_offer.Goals as goal

pub returns-clause-sound : goal.returns-clause-sound
returns-clause-sound c =
    let stage = ap (λ (s : OfferStage). record (told-offer c.args.child c.args.reference c.args.bytes true) { stage = s }) c.outcome.ensures in
    let sent = offer-pushed c.self.view_is _ (told-offer c.args.child c.args.reference c.args.bytes c.args.accepted) stage _ c.in_ok-push.ensures.items in
    subst IsSoundContent (sym sent) (told-sound c.args.self.now c.args.child c.args.reference c.args.bytes c.requires.but c.requires.child.0 c.requires.child.1 c.requires.named c.args.accepted c.requires.same)
