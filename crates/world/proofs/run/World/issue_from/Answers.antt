use Rattle.std.proofs.Common.{◌≡◌, ◌∙◌, ◌+◌, ◌<◌, true≢false, ap, arith, length, sym, subst}
use Rattle.std.specs.Prelude.{Some}
use Rattle.world.specs.Walks.{next_at}
use Rattle.world.specs.View.{value_of}
use Rattle.world.proofs.Lines.{IsFirst, first_here, first_later, first_of_all, next_here, none_of_all}
use Rattle.world.proofs.run.World.issue_from.Goals as goal
use Rattle.world.proofs.run.World.issue_from.Goals.{then-can_issue+then-from-next+then-next-line, else-can_issue, else-can_issue-via-then-can_issue+then-from-next+else-next-line, else-can_issue-via-then-can_issue+else-from-next, else-can_issue-via-else-can_issue}

pub loop-actor-preserved : goal.loop-actor-preserved
loop-actor-preserved c =
    let v = c.args.self.now in
    let from = c.args.from in
    let actor = c.loop-actor.actor in
    let first = c.loop-actor.first in
    let line = c.loop-actor.line in
    let low : actor < length (value_of c.self.inside).places = omega (arith, c.loop-actor-test.true, c.len-actor-end.ensures) in
    let next : c.index.result.now.next ≡ next_at v.places actor = next_here (value_of c.self.inside).places actor c.index.result.now low c.index.ensures ∙ ap (λ v. next_at v.places actor) c.self.view_is in
    elim c.if-can_issue.branch [
      | then-can_issue+then-from-next+then-next-line w ↦
          subst (λ o. IsFirst v from o c.if-can_issue.line (actor + 1)) (sym w.first-is) (subst (λ n. IsFirst v from (Some actor) n (actor + 1)) (sym w.line-is)
          (first_here v from first line actor c.loop-actor.invariant c.index.result.now.next next (sym c.can_issue.ensures ∙ w.if-can_issue.true) w.if-from-next.true w.if-next-line.true))
      | else-can_issue w ↦
          subst (λ o. IsFirst v from o c.if-can_issue.line (actor + 1)) (sym w.first-is) (subst (λ n. IsFirst v from first n (actor + 1)) (sym w.line-is)
          (first_later v from first line actor c.loop-actor.invariant (λ can ahead. elim w.else-can_issue.branch [
            | else-can_issue-via-then-can_issue+then-from-next+else-next-line x ↦ omega (arith, next, x.if-next-line.false)
            | else-can_issue-via-then-can_issue+else-from-next x ↦ absurd (omega (arith, next, ahead, x.if-from-next.false))
            | else-can_issue-via-else-can_issue x ↦ absurd (true≢false (sym can ∙ sym c.can_issue.ensures ∙ x.if-can_issue.false))
          ])))
    ]

pub returns-clause-first : goal.returns-clause-first
returns-clause-first c =
    let same = ap (λ v. length v.places) c.self.view_is in
    first_of_all c.args.self.now c.args.from c.loop-actor.first c.loop-actor.line c.loop-actor.actor c.loop-actor.invariant (omega (arith, same, c.loop-actor-test.false, c.len-actor-end.ensures))

pub returns-clause-none : goal.returns-clause-none
returns-clause-none c =
    let same = ap (λ v. length v.places) c.self.view_is in
    none_of_all c.args.self.now c.args.from c.loop-actor.first c.loop-actor.line c.loop-actor.actor c.loop-actor.invariant (omega (arith, same, c.loop-actor-test.false, c.len-actor-end.ensures))
