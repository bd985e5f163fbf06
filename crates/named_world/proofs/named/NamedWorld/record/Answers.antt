use Rattle.std.proofs.Common.{◌≡◌, ◌∙◌, ◌<◌, length, IfSome, Some, not, true, sym, subst, ap, rules}
use Rattle.world.specs.answers.Chronicle.{Setup}
use Rattle.world.specs.Looks.{look_at}
use Rattle.world.specs.declared.run.looking.Looker.{Looker}
use Rattle.named_world.specs.Value.{NamedValue, is_open}
use Rattle.named_world.specs.Words.{AreWords}
use Rattle.named_world.proofs.Losing.{losses_recorded}
use Rattle.named_world.proofs.Words.{asked_so, hears_so, open_lives, told_before, words_same}
use Rattle.named_world.proofs.named.NamedWorld.record.Goals as goal

pub record-requires-clause-open : goal.record-requires-clause-open
record-requires-clause-open g c =
    let w = c.self.inside.world in
    let heralds = c.self.inside.heralds.items in
    let opened : is_open (record { world = w; heralds = heralds }) c.args.look.actor c.args.look.seen ≡ true = search rules in
    let long : length heralds ≡ w.set.size = search rules in
    let words : AreWords w.chronicle heralds = search rules in
    let low : IfSome (look_at w c.args.look.actor) (λ (looker : Looker). looker.broker < w.set.size) =
    subst (λ r. IfSome r (λ (looker : Looker). looker.broker < w.set.size)) c.look_at.ensures.value c.look_at.ensures.inside in
    asked_so w.chronicle heralds w.set.size (look_at w c.args.look.actor) c.args.look.seen c.number.result (not w.spent) opened low long words c.meet.ensures.reached c.number.ensures

pub raise_heard-requires-clause-words : goal.raise_heard-requires-clause-words
raise_heard-requires-clause-words g c =
    let w = c.self.inside.world in
    let was = c.self.invariant (ap (λ (v : NamedValue). v.world.spent) c.self.view_is ∙ open_lives c.args.self.now c.args.look.actor c.args.look.seen c.requires) in
    let same = told_before c.as_slice-before.result.now c.as_slice-told.result.now w.chronicle c.in_ok-record.ensures.advances.made (c.as_slice-before.ensures ∙ c.chronicle.ensures.value)
    (c.as_slice-told.ensures ∙ c.chronicle-2.ensures.value ∙ c.in_ok-record.ensures.advances.told) in
    subst (λ xs. AreWords xs c.meet.new.heralds.items) (sym same) (words_same w.chronicle c.self.inside.heralds.items c.meet.new.heralds.items was.1.1 c.meet.ensures.same)

pub raise_heard-requires-clause-hears : goal.raise_heard-requires-clause-hears
raise_heard-requires-clause-hears g c =
    let was = c.self.invariant (ap (λ (v : NamedValue). v.world.spent) c.self.view_is ∙ open_lives c.args.self.now c.args.look.actor c.args.look.seen c.requires) in
    hears_so _ _ c.as_slice-told.result.now (length c.meet.new.heralds.items) (c.as_slice-told.ensures ∙ c.chronicle-2.ensures.value)
    (ap (λ (s : Setup). s.size) c.in_ok-record.ensures.advances.set ∙ sym was.1.0 ∙ sym c.meet.ensures.same.all) c.chronicle-2.ensures.hears

pub invariant_of-self-2 : goal.invariant_of-self-2
invariant_of-self-2 g c = λ _.
    let w = c.self.inside.world in
    let was = c.self.invariant (ap (λ (v : NamedValue). v.world.spent) c.self.view_is ∙ open_lives c.args.self.now c.args.look.actor c.args.look.seen c.requires) in
    let advances = c.in_ok-record.ensures.advances in (
      was.0 ∙ ap Some (sym advances.set),
      (
        c.raise_heard.ensures.all ∙ c.meet.ensures.same.all ∙ was.1.0 ∙ ap (λ (s : Setup). s.size) (sym advances.set),
        subst (λ xs. AreWords xs c.raise_heard.new.heralds.items) (c.as_slice-told.ensures ∙ c.chronicle-2.ensures.value) c.raise_heard.ensures.words,
      ),
      losses_recorded w c.args.look.actor _ advances c.in_ok-record.ensures.order ∙ was.2,
    )
