use Rattle.std.proofs.Common.{◌≡◌, ◌∙◌, ◌%◌, ◌<◌, ap, sym, subst, arith, false, length, rules}
use Rattle.std.specs.Prelude.{min}
use Rattle.std.proofs.lemmas.List.{nil_from_length}
use Rattle.instance.specs.answers.declared.steps.Step.TheVariants as step
use Rattle.homes.specs.Homes.{AreReady, ListTurns}
use Rattle.world.specs.Looks.{has_look}
use Rattle.world.specs.Order.{all_before_end}
use Rattle.world.specs.Steps.{CanMake}
use Rattle.world.specs.View.{value_of}
use Rattle.world.proofs.Choosing.{closes}
use Rattle.world.proofs.Losing.{none_before}
use Rattle.world.proofs.Numbering.{chosen-by, never-behind}
use Rattle.world.proofs.Housing.{all_ready}
use Rattle.world.proofs.run.World.drawn.Goals as goal

pub turns_are_listed-requires : goal.turns_are_listed-requires
turns_are_listed-requires c =
    let h = c.self.invariant (ap (λ v. v.spent) c.self.view_is ∙ c.requires.ready) in
    subst AreReady (sym c.deref.ensures.value) (all_ready (value_of c.self.inside) (h.runs c.if-self.false))

pub returns-then-count-eq0-clause-some : goal.returns-then-count-eq0-clause-some
returns-then-count-eq0-clause-some c =
    let v = value_of c.self.inside in
    let h = c.self.invariant (ap (λ v. v.spent) c.self.view_is ∙ c.requires.ready) in
    let same = ap (λ v. length (all_before_end v)) c.self.view_is in
    let none = none_before v (nil_from_length (all_before_end v) (omega (arith, same, c.count-count.ensures, c.if-count-eq0.true))) in
    subst (λ w. CanMake w step.Close) c.self.view_is (closes v c.if-self.false (h.runs c.if-self.false) (subst ListTurns c.deref.ensures.value c.turns_are_listed.ensures) none (ap has_look c.self.view_is ∙ c.requires.free))

pub returns-in-Ok-clause-value : goal.returns-in-Ok-clause-value
returns-in-Ok-clause-value c =
    let v = c.args.self.now in
    let runs : v.closed ≡ false = search rules in
    let count : c.count-count.result ≡ min (length (all_before_end v)) 18446744073709551615 = c.count-count.ensures in
    let some : 0 < length (all_before_end v) = omega (arith, count, c.if-count-eq0.false) in
    let same : c.from.result % c.count-count.result ≡ c.args.word % min (length (all_before_end v)) 18446744073709551615 = search rules in
    chosen-by v c.args.word (c.from.result % c.count-count.result) c.in-Ok.step runs (omega arith) some same (sym c.in-Ok.ensures.value)

pub returns-in-Err-clause-value : goal.returns-in-Err-clause-value
returns-in-Err-clause-value c =
    let v = c.args.self.now in
    let count : c.count-count.result ≡ min (length (all_before_end v)) 18446744073709551615 = c.count-count.ensures in
    let some : 0 < length (all_before_end v) = omega (arith, count, c.if-count-eq0.false) in
    let same : c.from.result % c.count-count.result ≡ c.args.word % min (length (all_before_end v)) 18446744073709551615 = search rules in
    absurd (never-behind v c.args.word (c.from.result % c.count-count.result) c.in-Err.field-0 some same (sym c.in-Err.ensures.value))

pub returns-in-Err-clause-none : goal.returns-in-Err-clause-none
returns-in-Err-clause-none c =
    let v = c.args.self.now in
    let count : c.count-count.result ≡ min (length (all_before_end v)) 18446744073709551615 = c.count-count.ensures in
    let some : 0 < length (all_before_end v) = omega (arith, count, c.if-count-eq0.false) in
    let same : c.from.result % c.count-count.result ≡ c.args.word % min (length (all_before_end v)) 18446744073709551615 = search rules in
    absurd (never-behind v c.args.word (c.from.result % c.count-count.result) c.in-Err.field-0 some same (sym c.in-Err.ensures.value))
