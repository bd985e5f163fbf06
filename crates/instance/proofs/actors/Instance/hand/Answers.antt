use Rattle.std.proofs.Common.{◌≡◌, ◌∙◌, ap, sym, subst, true, [], ◌∷◌}
use Rattle.std.specs.Prelude.{Some}
use Rattle.std.proofs.lemmas.Option.{slice_get-get_or}
use Rattle.services.specs.answers.declared.chronicle.Entry.TheVariants as entry
use Rattle.instance.specs.Agrees.{AgreesOwn}
use Rattle.instance.specs.Replies.{IsGiven}
use Rattle.instance.specs.Steps.{can_answer}
use Rattle.instance.specs.View.{value_of}
use Rattle.instance.proofs.Owning.{own_of}
use Rattle.instance.proofs.Replying.{answer_follows, actor_within}
use Rattle.instance.proofs.actors.Instance.hand.Goals as goal

pub returns-clause-makes : goal.returns-clause-makes
returns-clause-makes c = λ set own agrees.
    let w = value_of c.self.inside in
    let v = own_of w set own in
    let a = c.args.actor in
    let h = subst (λ x. AgreesOwn x set own) (sym c.self.view_is) agrees in
    let can = subst (λ x. can_answer x a ≡ true) (sym c.self.view_is) c.requires.can in
    let seat = c.index_mut-seat.result.now in
    let sits = slice_get-get_or w.seats a seat (actor_within v a can) ∙ ap Some (sym c.index_mut-seat.ensures.value) in
    let reply = c.in_ok-given.given.reply in
    let number = c.in_ok-given.given.number in
    answer_follows v h a seat c.reply_to.new.services reply number
    (record {
      sits = sits;
      kept = c.in_ok-given.ensures.keeps.counts;
      said = subst (λ n. IsGiven w.services c.reply_to.new.services (record { actor = a; command = n }) seat.waiting reply number) c.saturating_sub-command.ensures c.in_ok-given.ensures.given;
    })
    c.see.new.floors c.in_ok-see.ensures c.in_ok-made.made
    (c.in_ok-made.ensures ∙ ap (λ n. entry.Replied a n reply number ∷ []) c.saturating_sub-command.ensures)
