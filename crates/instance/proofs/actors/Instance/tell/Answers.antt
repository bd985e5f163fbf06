use Rattle.std.proofs.Common.{◌≡◌, ◌∙◌, ◌<◌, ap, ap₂, sym, subst, true, [], ◌∷◌, ◌++◌, length}
use Rattle.std.specs.Prelude.{Some, None, slice_get, slice_index_or}
use Rattle.std.proofs.lemmas.Option.{slice_get-get_or}
use Rattle.services.specs.answers.declared.chronicle.Entry.TheVariants as entry
use Rattle.services.specs.answers.declared.chronicle.Reply.TheVariants as reply
use Rattle.services.specs.answers.declared.steps.Step.TheVariants as step
use Rattle.instance.specs.declared.seats.Waiting.TheVariants as waiting
use Rattle.instance.specs.Agrees.{AgreesOwn}
use Rattle.instance.specs.Makes.{Follows}
use Rattle.instance.specs.Seats.{raised}
use Rattle.instance.specs.Steps.{can_answer}
use Rattle.instance.specs.View.{value_of}
use Rattle.instance.proofs.Owning.{own_of}
use Rattle.instance.proofs.Replying.{tell_follows, actor_within, raised_length, replied}
use Rattle.instance.proofs.Telling.{seat_there}
use Rattle.instance.proofs.actors.Instance.tell.Goals as goal

pub returns-clause-makes : goal.returns-clause-makes
returns-clause-makes c = λ set own agrees.
    let w = value_of c.self.inside in
    let v = own_of w set own in
    let a = c.args.actor in
    let to = c.args.to in
    let can = subst (λ x. can_answer x a ≡ true) (sym c.self.view_is) c.requires.can in
    let within = actor_within v a can in
    let at = seat_there w.seats a within in
    let seat = at.0 in
    let later = c.index_mut-seat.result.now in
    let raises = c.in_ok-raise.ensures in
    let tells : seat.waiting ≡ waiting.Tell to = ap (λ s. s.waiting) (sym (at.1 seat)) ∙ subst (λ x. (slice_index_or x.seats a seat).waiting ≡ waiting.Tell to) (sym c.self.view_is) (c.requires.tells seat) in
    let within_on : a < length c.raise.new.seats.items = subst (λ n. a < n) (sym (ap length raises.seats ∙ raised_length w.seats to raises.floors)) within in
    let sits_on : slice_get (raised w.seats to raises.floors) a ≡ Some later =
    ap (λ xs. slice_get xs a) (sym raises.seats) ∙ slice_get-get_or c.raise.new.seats.items a later within_on ∙ ap Some (sym c.index_mut-seat.ensures.value) in
    let made = c.in_ok-push.ensures.added
    ∙ ap₂ (λ es n. es ++ entry.Replied a n reply.Told None ∷ []) c.in_ok-made.ensures c.saturating_sub.ensures in
    subst (λ xs. Follows set own (step.Answer a) (replied a xs later w.services later.floors) c.push.new.self) (sym raises.seats)
    (tell_follows v (subst (λ x. AgreesOwn x set own) (sym c.self.view_is) agrees) a seat to
    (slice_get-get_or w.seats a seat within ∙ ap Some (at.1 seat)) tells raises.floors raises.joined later sits_on c.push.new.self made)
