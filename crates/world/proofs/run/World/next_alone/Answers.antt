use Rattle.std.proofs.Common.{◌≡◌, ◌∙◌, ap, rules, sym}
use Rattle.world.specs.Choice.{chosen}
use Rattle.world.specs.Order.{free_steps}
use Rattle.world.specs.declared.order.Order.TheVariants as order
use Rattle.world.proofs.Workers.{free_next, looking_next, plain_may, plain_some}
use Rattle.world.proofs.run.World.next_alone.Goals as goal

pub returns-then-has_look-clause-chosen : goal.returns-then-has_look-clause-chosen
returns-then-has_look-clause-chosen c = c.first_of_all.ensures.first ∙ sym (looking_next c.args.self.now (sym c.has_look.ensures ∙ c.if-has_look.true))

pub returns-then-has_look-clause-rests : goal.returns-then-has_look-clause-rests
returns-then-has_look-clause-rests c = plain_may c.args.self.now c.first_of_all.result c.first_of_all.ensures.goes_on

pub returns-then-has_look-clause-told : goal.returns-then-has_look-clause-told
returns-then-has_look-clause-told c = λ settled. plain_some _ c.first_of_all.result c.first_of_all.ensures.goes_on

pub returns-in-Settled-clause-chosen : goal.returns-in-Settled-clause-chosen
returns-in-Settled-clause-chosen c =
    let v = c.args.self.now in
    let is : v.order ≡ order.Settled = search rules in
    c.first.ensures.first ∙ sym (free_next v (sym c.has_look.ensures ∙ c.if-has_look.false) ∙ ap (λ o. chosen o (free_steps v)) is)

pub returns-in-Shuffled-clause-chosen : goal.returns-in-Shuffled-clause-chosen
returns-in-Shuffled-clause-chosen c =
    let v = c.args.self.now in
    let is : v.order ≡ order.Shuffled c.in-Shuffled.draws c.in-Shuffled.word c.in-Shuffled.losses = search rules in
    c.drawn.ensures.value ∙ sym (free_next v (sym c.has_look.ensures ∙ c.if-has_look.false) ∙ ap (λ o. chosen o (free_steps v)) is)
