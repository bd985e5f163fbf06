use Rattle.std.proofs.Common.{◌≡◌, ◌∙◌, suc, ◌-◌, ◌<◌, ◌≤◌, ap, sym, arith, length, refl, subst}
use Rattle.instance.specs.Agrees.{AreLinesOf}
use Rattle.instance.specs.Steps.{next_of}
use Rattle.instance.specs.View.{value_of}
use Rattle.instance.proofs.Issuing.{issuer_within}
use Rattle.instance.proofs.Numbering.{issue-behind, issue-here, line-within, next-at, next-here, no-issue-left, none-at}
use Rattle.instance.proofs.Ordering.{next_lines}
use Rattle.instance.proofs.actors.Instance.nth_issue.Goals as goal

pub returns-then-left-eq0-clause-value : goal.returns-then-left-eq0-clause-value
returns-then-left-eq0-clause-value c =
    let v = c.args.self.now in
    let lines = c.args.lines.now in
    let is = next-at lines (value_of c.self.inside) (length lines) c.deref.result.now c.loop-actor.from c.in-Some.actor c.self.view_is refl c.deref.ensures.value c.in-Some.ensures.some c.in-Some.ensures.first in
    let none : c.loop-actor.left ≡ 0 = omega arith in
    issue-here lines v (next_lines v lines c.requires.lines) c.loop-actor.from c.in-Some.actor c.loop-actor.left c.args.number is c.loop-actor.invariant.counted none

pub index-requires : goal.index-requires
index-requires c =
    let w = value_of c.self.inside in
    let lines = c.args.lines.now in
    let is = next-at lines w (length lines) c.deref.result.now c.loop-actor.from c.in-Some.actor (c.self.view_is ∙ sym c.self.view_is) refl c.deref.ensures.value c.in-Some.ensures.some c.in-Some.ensures.first in
    let low : c.in-Some.actor < length w.seats = issuer_within lines w c.in-Some.actor is.can in
    let same : length c.deref.result.now ≡ length w.seats = ap length c.deref.ensures.value in
    omega (arith, low, same, c.deref.ensures.len)

pub loop-actor-smaller : goal.loop-actor-smaller
loop-actor-smaller c =
    let w = value_of c.self.inside in
    let lines = c.args.lines.now in
    let is = next-at lines w (length lines) c.deref.result.now c.loop-actor.from c.in-Some.actor (c.self.view_is ∙ sym c.self.view_is) refl c.deref.ensures.value c.in-Some.ensures.some c.in-Some.ensures.first in
    let here : c.index.result.now.next ≡ next_of w.seats c.in-Some.actor = next-here w.seats c.in-Some.actor c.index.result.now (issuer_within lines w c.in-Some.actor is.can) c.index.ensures in
    let low : next_of w.seats c.in-Some.actor < length lines = line-within lines w (next_lines w lines (subst (λ x. AreLinesOf x lines) (sym c.self.view_is) c.requires.lines)) c.in-Some.actor is.can in
    let behind : c.loop-actor.from ≤ next_of w.seats c.in-Some.actor = is.low in
    omega (arith, here, low, behind)

pub loop-actor-preserved : goal.loop-actor-preserved
loop-actor-preserved c =
    let v = c.args.self.now in
    let w = value_of c.self.inside in
    let lines = c.args.lines.now in
    let placed = next_lines v lines c.requires.lines in
    let is = next-at lines w (length lines) c.deref.result.now c.loop-actor.from c.in-Some.actor c.self.view_is refl c.deref.ensures.value c.in-Some.ensures.some c.in-Some.ensures.first in
    let inside = next-at lines w (length lines) c.deref.result.now c.loop-actor.from c.in-Some.actor (c.self.view_is ∙ sym c.self.view_is) refl c.deref.ensures.value c.in-Some.ensures.some c.in-Some.ensures.first in
    let here : c.index.result.now.next ≡ next_of v.seats c.in-Some.actor =
    next-here w.seats c.in-Some.actor c.index.result.now (issuer_within lines w c.in-Some.actor inside.can) c.index.ensures ∙ ap (λ x. next_of x.seats c.in-Some.actor) c.self.view_is in
    let low : next_of v.seats c.in-Some.actor < length lines = line-within lines v placed c.in-Some.actor is.can in
    let one : suc (c.loop-actor.left - 1) ≡ c.loop-actor.left = omega (arith, c.if-left-eq0.false) in
    record {
      within = omega (arith, here, low);
      counted = issue-behind lines v placed c.loop-actor.from c.in-Some.actor c.loop-actor.left c.args.number is c.loop-actor.invariant.counted (c.loop-actor.left - 1) c.index.result.now.next one here;
    }

pub returns-clause-value : goal.returns-clause-value
returns-clause-value c =
    no-issue-left c.args.lines.now c.args.self.now c.loop-actor.from c.loop-actor.left c.args.number
    (none-at c.args.lines.now (value_of c.self.inside) (length c.args.lines.now) c.deref.result.now c.loop-actor.from c.self.view_is refl c.deref.ensures.value (c.issue_from.ensures.none c.in_default.is))
    c.loop-actor.invariant.counted
