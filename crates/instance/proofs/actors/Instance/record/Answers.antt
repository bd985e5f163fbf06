use Rattle.std.proofs.Common.{◌≡◌, ◌∙◌, ◌≤◌, ap, sym, subst, [], ◌∷◌}
use Rattle.std.specs.Prelude.{IsSomeAnd, Some}
use Rattle.std.proofs.lemmas.Option.{slice_get-get_or, slice_get_within}
use Rattle.services.specs.answers.declared.chronicle.Entry.TheVariants as entry
use Rattle.services.specs.answers.declared.chronicle.Reply.TheVariants as reply
use Rattle.instance.specs.declared.seats.OpenLook.{OpenLook}
use Rattle.instance.specs.Agrees.{AgreesOwn}
use Rattle.instance.specs.Floors.{floor_in}
use Rattle.instance.specs.Steps.{look_of}
use Rattle.instance.specs.View.{value_of}
use Rattle.instance.proofs.Looking.{look_within}
use Rattle.instance.proofs.Owning.{own_of}
use Rattle.instance.proofs.Replying.{look_follows}
use Rattle.instance.proofs.Seeing.{seen_alone}
use Rattle.instance.proofs.actors.Instance.record.Goals as goal

same : {A : Type 0} {x y : A} → Some x ≡ Some y → x ≡ y
same e = cc

pub returns-clause-makes : goal.returns-clause-makes
returns-clause-makes c = λ set own agrees known.
    let w = value_of c.self.inside in
    let v = own_of w set own in
    let a = c.args.actor in
    let number = c.args.number in
    let h = subst (λ x. AgreesOwn x set own) (sym c.self.view_is) agrees in
    let there = look_within w a (λ (look : OpenLook). look.need ≤ number) (subst (λ x. IsSomeAnd (look_of x a) (λ look. look.need ≤ number)) (sym c.self.view_is) c.requires.open) in
    let seat = c.index_mut-seat.result.now in
    let is : seat ≡ there.0 = same (sym (slice_get-get_or w.seats a seat (slice_get_within w.seats a there.0 there.1) ∙ ap Some (sym c.index_mut-seat.ensures.value)) ∙ there.1) in
    let least = subst (λ s. floor_in s.floors s.subject ≤ number) (sym is) there.3 in
    look_follows v h a seat (there.1 ∙ ap Some (sym is)) (ap (λ s. s.waiting) is ∙ there.2) number least known
    c.see_number.new.floors (λ space. c.in_ok-see_number.ensures space ∙ seen_alone seat.floors seat.subject (Some number) space) c.in_ok-made.made
    (c.in_ok-made.ensures ∙ ap (λ n. entry.Replied a n reply.Seen (Some number) ∷ []) c.saturating_sub-command.ensures)
