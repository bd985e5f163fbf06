use Rattle.std.proofs.Common.{◌∙◌, Some, length, sym, ap, subst}
use Rattle.world.specs.answers.Chronicle.{Setup}
use Rattle.world.specs.Choice.{MayLose}
use Rattle.world.specs.Steps.{MayStart}
use Rattle.named_world.specs.Value.{NamedValue}
use Rattle.named_world.specs.Words.{AreWords}
use Rattle.named_world.proofs.Losing.{losses_kept}
use Rattle.named_world.proofs.Words.{hears_so, told_before, went_on}
use Rattle.named_world.proofs.named.NamedWorld.make.Goals as goal

pub turn-requires-clause-rests : goal.turn-requires-clause-rests
turn-requires-clause-rests g c = subst (λ (v : NamedValue). MayStart v.world c.args.step) (sym c.self.view_is) c.requires.rests

pub raise_heard-requires-clause-words : goal.raise_heard-requires-clause-words
raise_heard-requires-clause-words g c =
    let w = c.self.inside.world in
    let was = c.self.invariant (ap (λ (v : NamedValue). v.world.spent) c.self.view_is ∙ c.requires.live) in
    let advances = went_on c.turn.result _ (sym c.is_err.ensures.value ∙ c.if-is_err.false) c.turn.ensures.advances in
    let same = told_before c.as_slice-before.result.now c.as_slice-told.result.now w.chronicle advances.made (c.as_slice-before.ensures ∙ c.chronicle.ensures.value)
    (c.as_slice-told.ensures ∙ c.chronicle-2.ensures.value ∙ advances.told) in
    subst (λ xs. AreWords xs c.self.inside.heralds.items) (sym same) was.1.1

pub raise_heard-requires-clause-hears : goal.raise_heard-requires-clause-hears
raise_heard-requires-clause-hears g c =
    let was = c.self.invariant (ap (λ (v : NamedValue). v.world.spent) c.self.view_is ∙ c.requires.live) in
    let advances = went_on c.turn.result _ (sym c.is_err.ensures.value ∙ c.if-is_err.false) c.turn.ensures.advances in
    hears_so _ _ c.as_slice-told.result.now (length c.self.inside.heralds.items) (c.as_slice-told.ensures ∙ c.chronicle-2.ensures.value)
    (ap (λ (s : Setup). s.size) advances.set ∙ sym was.1.0) c.chronicle-2.ensures.hears

pub invariant_of-self-2 : goal.invariant_of-self-2
invariant_of-self-2 g c = λ _.
    let w = c.self.inside.world in
    let was = c.self.invariant (ap (λ (v : NamedValue). v.world.spent) c.self.view_is ∙ c.requires.live) in
    let well = sym c.is_err.ensures.value ∙ c.if-is_err.false in
    let advances = went_on c.turn.result _ well c.turn.ensures.advances in
    let ordered = went_on c.turn.result _ well c.turn.ensures.order in
    let may = subst (λ (v : NamedValue). MayLose v.world.order c.args.step) (sym c.self.view_is) c.requires.may in (
      was.0 ∙ ap Some (sym advances.set),
      (
        c.raise_heard.ensures.all ∙ was.1.0 ∙ ap (λ (s : Setup). s.size) (sym advances.set),
        subst (λ xs. AreWords xs c.raise_heard.new.heralds.items) (c.as_slice-told.ensures ∙ c.chronicle-2.ensures.value) c.raise_heard.ensures.words,
      ),
      losses_kept w c.args.step _ advances ordered may ∙ was.2,
    )
