use Rattle.std.proofs.Common.{◌≡◌, ◌∙◌, suc, ◌-◌, ◌<◌, ap, arith, length, subst}
use Rattle.world.specs.Walks.{next_at}
use Rattle.world.specs.View.{value_of}
use Rattle.world.proofs.Housing.{own_lines}
use Rattle.world.proofs.Ordering.{AreOwnLines}
use Rattle.world.proofs.Lines.{IsNext, issue-behind, issue-here, line-within, next_here, no-issue-left}
use Rattle.world.proofs.run.World.nth_issue.Goals.{After-issue_from, After-index, In-Some}
use Rattle.world.proofs.run.World.nth_issue.Goals as goal

own : (c : After-issue_from) → AreOwnLines c.args.self.now
own c =
    let v = value_of c.self.inside in
    let h = c.self.invariant (ap (λ v. v.spent) c.self.view_is ∙ c.requires.ready) in
    subst AreOwnLines c.self.view_is (own_lines v (h.runs (ap (λ v. v.closed) c.self.view_is ∙ c.requires.runs)))

next : (c : In-Some) → IsNext c.args.self.now c.loop-actor.from c.in-Some.actor
next c = record { can = c.in-Some.ensures.some.0; low = c.in-Some.ensures.some.1; first = c.in-Some.ensures.first }

pub returns-then-left-eq0 : goal.returns-then-left-eq0
returns-then-left-eq0 c =
    let at = (goal.at.returns-then-left-eq0 c).In-Some in
    issue-here c.args.self.now (own (goal.at.returns-then-left-eq0 c).After-issue_from) c.loop-actor.from c.in-Some.actor c.loop-actor.left c.args.number (next at) c.loop-actor.invariant.counted c.if-left-eq0.true

pub index-requires : goal.index-requires
index-requires c =
    let same = ap (λ v. length v.places) c.self.view_is in
    let line = line-within c.args.self.now (own (goal.at.index-requires c).After-issue_from) c.in-Some.actor c.in-Some.ensures.some.0 in
    let low = line.1 in
    omega (arith, same, low)

-- the line of the actor that is issued a command
at_line : (c : After-index) → (c.index.result.now.next ≡ next_at c.args.self.now.places c.in-Some.actor) × (next_at c.args.self.now.places c.in-Some.actor < length c.args.self.now.set.work.lines)
at_line c =
    let v = c.args.self.now in
    let same = ap (λ v. length v.places) c.self.view_is in
    let at = (goal.at.overflow_add-from c).After-issue_from in
    let line = line-within v (own at) c.in-Some.actor c.in-Some.ensures.some.0 in
    let low = line.1 in
    (next_here (value_of c.self.inside).places c.in-Some.actor c.index.result.now (omega (arith, same, low)) c.index.ensures ∙ ap (λ v. next_at v.places c.in-Some.actor) c.self.view_is, line.0)

pub overflow_add-from : goal.overflow_add-from
overflow_add-from c =
    let line = at_line c in
    let h = c.self.invariant (ap (λ v. v.spent) c.self.view_is ∙ c.requires.ready) in
    let few = h.run.within.lines in
    let same = ap (λ v. length v.set.work.lines) c.self.view_is in
    omega (arith, line.0, line.1, same, few)

pub loop-actor-smaller : goal.loop-actor-smaller
loop-actor-smaller c =
    let line = at_line c in
    let ahead = c.in-Some.ensures.some.1 in
    omega (arith, line.0, line.1, ahead)

pub loop-actor-preserved : goal.loop-actor-preserved
loop-actor-preserved c =
    let line = at_line c in
    let one : suc (c.loop-actor.left - 1) ≡ c.loop-actor.left = omega (arith, c.if-left-eq0.false) in
    record {
      within = omega (arith, line.0, line.1);
      counted = issue-behind c.args.self.now (own (goal.at.overflow_add-from c).After-issue_from) c.loop-actor.from c.in-Some.actor c.loop-actor.left c.args.number (next (goal.at.overflow_add-from c).In-Some) c.loop-actor.invariant.counted (c.loop-actor.left - 1) c.index.result.now.next one line.0;
    }

pub returns : goal.returns
returns c = no-issue-left c.args.self.now c.loop-actor.from c.loop-actor.left c.args.number (c.issue_from.ensures.none c.in_default.is) c.loop-actor.invariant.counted
