use Rattle.std.proofs.Common.{◌∙◌, subst, sym}
use Rattle.world.specs.View.{value_of}
use Rattle.world.proofs.Housing.{runs_at, seated}
use Rattle.world.proofs.Ordering.{AreSeated, emptied}
use Rattle.world.proofs.Workers.{end_last, looks_last, none_last, tick_last}
use Rattle.world.proofs.run.World.last_of_all.Goals as goal

pub returns-then-has_look-clause-first : goal.returns-then-has_look-clause-first
returns-then-has_look-clause-first c = looks_last c.args.self.now (sym c.has_look.ensures ∙ c.if-has_look.true)

pub returns-then-is_some-clause-first : goal.returns-then-is_some-clause-first
returns-then-is_some-clause-first c = tick_last c.args.self.now (sym c.has_look.ensures ∙ c.if-has_look.false) (sym c.next_second.ensures.can ∙ sym c.is_some.ensures ∙ c.if-is_some.true)

pub returns-then-is_over-clause-first : goal.returns-then-is_over-clause-first
returns-then-is_over-clause-first c =
    let v = value_of c.self.inside in
    let runs = runs_at c.self.inside c.args.self.now c.self.view_is c.self.invariant c.requires.ready c.requires.runs in
    let sits : AreSeated c.args.self.now = subst AreSeated c.self.view_is (seated v runs) in
    end_last c.args.self.now (sym c.has_look.ensures ∙ c.if-has_look.false) (sym c.next_second.ensures.can ∙ sym c.is_some.ensures ∙ c.if-is_some.false)
    (emptied c.args.self.now sits (c.is_over.ensures.exact.0 c.if-is_over.true))

pub returns-else-is_over-clause-first : goal.returns-else-is_over-clause-first
returns-else-is_over-clause-first c =
    let free = sym c.has_look.ensures ∙ c.if-has_look.false in
    none_last c.args.self.now free (sym c.next_second.ensures.can ∙ sym c.is_some.ensures ∙ c.if-is_some.false)
    (λ none. c.is_over.ensures.left c.if-is_over.false free none)
