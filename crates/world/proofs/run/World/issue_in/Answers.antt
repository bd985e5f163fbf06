use Rattle.std.proofs.Common.{◌≡◌, ◌∙◌, ◌+◌, ◌<◌, is_some, length, true, ap, arith, subst, sym}
use Rattle.std.specs.Prelude.{IsTrue, option_and_then, slice_get, slice_index_or}
use Rattle.instance.specs.workload.declared.work.Line.{Line}
use Rattle.instance.specs.answers.declared.steps.Step.TheVariants as step
use Rattle.instance.specs.Makes.{MakesOf, MayIssueOf}
use Rattle.instance.specs.Steps.{IsAtRest, can_issue as instance_can_issue}
use Rattle.homes.specs.Homes.{IsNextLine, living_at}
use Rattle.world.specs.Steps.{MayStart, can_issue}
use Rattle.world.specs.View.{value_of}
use Rattle.homes.specs.declared.homes.Home.{Home}
use Rattle.world.proofs.Advancing.{advances_at}
use Rattle.homes.proofs.Finding.{same_at, some_says}
use Rattle.world.proofs.Finding.{free_there, more_there, placed_at, placed_within}
use Rattle.world.proofs.Issuing.{can_issue_it, issue_advances, issue_sound, lines_of_it}
use Rattle.world.proofs.Running.{home_is}
use Rattle.world.proofs.Serving.{living_found}
use Rattle.world.proofs.run.World.issue_in.Goals as goal

pub issue-requires-clause-ready : goal.issue-requires-clause-ready
issue-requires-clause-ready c =
    let v = value_of c.self.inside in
    let sound = c.self.invariant (ap (λ v. v.spent) c.self.view_is ∙ c.requires.ready) in
    let runs = ap (λ v. v.closed) c.self.view_is ∙ c.requires.runs in
    let p = c.index-place.result.now in
    let h = c.index_mut-home.result.now in
    let at = placed_at v.places c.args.actor c.args.number (ap (λ w. option_and_then (λ p. p.home) (slice_get w.places c.args.actor)) c.self.view_is ∙ c.requires.home) p c.index-place.ensures in
    let there = living_found v.homes c.args.number (λ (h : Home). true) (some_says (living_at v.homes c.args.number) (ap (λ w. is_some (living_at w.homes c.args.number)) c.self.view_is ∙ c.requires.lives)) h c.index_mut-home.ensures.value in
    (home_is v sound runs c.args.number h there.here).ready

pub issue-requires-clause-lines : goal.issue-requires-clause-lines
issue-requires-clause-lines c =
    let v = value_of c.self.inside in
    let sound = c.self.invariant (ap (λ v. v.spent) c.self.view_is ∙ c.requires.ready) in
    let runs = ap (λ v. v.closed) c.self.view_is ∙ c.requires.runs in
    let p = c.index-place.result.now in
    let h = c.index_mut-home.result.now in
    let at = placed_at v.places c.args.actor c.args.number (ap (λ w. option_and_then (λ p. p.home) (slice_get w.places c.args.actor)) c.self.view_is ∙ c.requires.home) p c.index-place.ensures in
    let there = living_found v.homes c.args.number (λ (h : Home). true) (some_says (living_at v.homes c.args.number) (ap (λ w. is_some (living_at w.homes c.args.number)) c.self.view_is ∙ c.requires.lives)) h c.index_mut-home.ensures.value in
    let can = ap (λ w. can_issue w c.args.actor) c.self.view_is ∙ c.requires.can in
    let more = more_there v c.args.actor c.args.number p h at.here at.home there.here can in
    let free = free_there v c.args.actor c.args.number p h at.here at.home there.here can in
    let rest : IsTrue v.set.settled → IsAtRest h.instance = λ settled. subst (λ w. MayStart w (step.Issue c.args.actor)) (sym c.self.view_is) c.requires.rests settled tt c.args.number h there.here there.living in
    subst (MayIssueOf h.instance) (sym c.as_slice.ensures) (lines_of_it v sound runs c.args.actor c.args.number p h at.here at.home there.here there.living free more rest)

pub issue-requires-clause-can : goal.issue-requires-clause-can
issue-requires-clause-can c =
    let v = value_of c.self.inside in
    let sound = c.self.invariant (ap (λ v. v.spent) c.self.view_is ∙ c.requires.ready) in
    let runs = ap (λ v. v.closed) c.self.view_is ∙ c.requires.runs in
    let p = c.index-place.result.now in
    let h = c.index_mut-home.result.now in
    let at = placed_at v.places c.args.actor c.args.number (ap (λ w. option_and_then (λ p. p.home) (slice_get w.places c.args.actor)) c.self.view_is ∙ c.requires.home) p c.index-place.ensures in
    let there = living_found v.homes c.args.number (λ (h : Home). true) (some_says (living_at v.homes c.args.number) (ap (λ w. is_some (living_at w.homes c.args.number)) c.self.view_is ∙ c.requires.lives)) h c.index_mut-home.ensures.value in
    let can = ap (λ w. can_issue w c.args.actor) c.self.view_is ∙ c.requires.can in
    let more = more_there v c.args.actor c.args.number p h at.here at.home there.here can in
    let free = free_there v c.args.actor c.args.number p h at.here at.home there.here can in
    let rest : IsTrue v.set.settled → IsAtRest h.instance = λ settled. subst (λ w. MayStart w (step.Issue c.args.actor)) (sym c.self.view_is) c.requires.rests settled tt c.args.number h there.here there.living in
    subst (λ ls. instance_can_issue ls h.instance c.args.actor ≡ true) (sym c.as_slice.ensures) (can_issue_it v sound runs c.args.actor c.args.number p h at.here at.home there.here there.living free more rest)

pub offset_bounds-lines-place : goal.offset_bounds-lines-place
offset_bounds-lines-place c =
    let v = value_of c.self.inside in
    let sound = c.self.invariant (ap (λ v. v.spent) c.self.view_is ∙ c.requires.ready) in
    let runs = ap (λ v. v.closed) c.self.view_is ∙ c.requires.runs in
    let p = c.index-place.result.now in
    let h = c.index_mut-home.result.now in
    let at = placed_at v.places c.args.actor c.args.number (ap (λ w. option_and_then (λ p. p.home) (slice_get w.places c.args.actor)) c.self.view_is ∙ c.requires.home) p c.index-place.ensures in
    let there = living_found v.homes c.args.number (λ (h : Home). true) (some_says (living_at v.homes c.args.number) (ap (λ w. is_some (living_at w.homes c.args.number)) c.self.view_is ∙ c.requires.lives)) h c.index_mut-home.ensures.value in
    let can = ap (λ w. can_issue w c.args.actor) c.self.view_is ∙ c.requires.can in
    let more = more_there v c.args.actor c.args.number p h at.here at.home there.here can in
    let free = free_there v c.args.actor c.args.number p h at.here at.home there.here can in
    let few = sound.run.within.lines in
    omega (arith, more, few)

pub bounds-lines-place : goal.bounds-lines-place
bounds-lines-place c =
    let v = value_of c.self.inside in
    let sound = c.self.invariant (ap (λ v. v.spent) c.self.view_is ∙ c.requires.ready) in
    let runs = ap (λ v. v.closed) c.self.view_is ∙ c.requires.runs in
    let p = c.index-place.result.now in
    let h = c.index_mut-home.result.now in
    let at = placed_at v.places c.args.actor c.args.number (ap (λ w. option_and_then (λ p. p.home) (slice_get w.places c.args.actor)) c.self.view_is ∙ c.requires.home) p c.index-place.ensures in
    let there = living_found v.homes c.args.number (λ (h : Home). true) (some_says (living_at v.homes c.args.number) (ap (λ w. is_some (living_at w.homes c.args.number)) c.self.view_is ∙ c.requires.lives)) h c.index_mut-home.ensures.value in
    let can = ap (λ w. can_issue w c.args.actor) c.self.view_is ∙ c.requires.can in
    let more = more_there v c.args.actor c.args.number p h at.here at.home there.here can in
    let free = free_there v c.args.actor c.args.number p h at.here at.home there.here can in
    subst (λ ls. p.next < length ls) (sym c.as_slice-lines.ensures) more

pub issued_from-requires-clause-next : goal.issued_from-requires-clause-next
issued_from-requires-clause-next c =
    let v = value_of c.self.inside in
    let sound = c.self.invariant (ap (λ v. v.spent) c.self.view_is ∙ c.requires.ready) in
    let runs = ap (λ v. v.closed) c.self.view_is ∙ c.requires.runs in
    let p = c.index-place.result.now in
    let h = c.index_mut-home.result.now in
    let at = placed_at v.places c.args.actor c.args.number (ap (λ w. option_and_then (λ p. p.home) (slice_get w.places c.args.actor)) c.self.view_is ∙ c.requires.home) p c.index-place.ensures in
    let there = living_found v.homes c.args.number (λ (h : Home). true) (some_says (living_at v.homes c.args.number) (ap (λ w. is_some (living_at w.homes c.args.number)) c.self.view_is ∙ c.requires.lives)) h c.index_mut-home.ensures.value in
    subst (λ ls. IsNextLine ls c.args.actor p.issued p.next) (sym c.as_slice-lines.ensures) ((sound.runs runs).places.each c.args.actor p at.here).next

pub issued_from-requires-clause-more : goal.issued_from-requires-clause-more
issued_from-requires-clause-more c =
    let v = value_of c.self.inside in
    let sound = c.self.invariant (ap (λ v. v.spent) c.self.view_is ∙ c.requires.ready) in
    let runs = ap (λ v. v.closed) c.self.view_is ∙ c.requires.runs in
    let p = c.index-place.result.now in
    let h = c.index_mut-home.result.now in
    let at = placed_at v.places c.args.actor c.args.number (ap (λ w. option_and_then (λ p. p.home) (slice_get w.places c.args.actor)) c.self.view_is ∙ c.requires.home) p c.index-place.ensures in
    let there = living_found v.homes c.args.number (λ (h : Home). true) (some_says (living_at v.homes c.args.number) (ap (λ w. is_some (living_at w.homes c.args.number)) c.self.view_is ∙ c.requires.lives)) h c.index_mut-home.ensures.value in
    let can = ap (λ w. can_issue w c.args.actor) c.self.view_is ∙ c.requires.can in
    let more = more_there v c.args.actor c.args.number p h at.here at.home there.here can in
    let free = free_there v c.args.actor c.args.number p h at.here at.home there.here can in
    subst (λ ls. p.next < length ls) (sym c.as_slice-lines.ensures) more

pub index_mut-requires : goal.index_mut-requires
index_mut-requires c =
    let within = placed_within (value_of c.self.inside).places c.args.actor c.args.number (ap (λ w. option_and_then (λ p. p.home) (slice_get w.places c.args.actor)) c.self.view_is ∙ c.requires.home) in
    omega (arith, within, c.self.inside.places.ok.0)

pub invariant_of-self-2 : goal.invariant_of-self-2
invariant_of-self-2 c = λ _.
    let v = value_of c.self.inside in
    let sound = c.self.invariant (ap (λ v. v.spent) c.self.view_is ∙ c.requires.ready) in
    let runs = ap (λ v. v.closed) c.self.view_is ∙ c.requires.runs in
    let p = c.index-place.result.now in
    let h = c.index_mut-home.result.now in
    let at = placed_at v.places c.args.actor c.args.number (ap (λ w. option_and_then (λ p. p.home) (slice_get w.places c.args.actor)) c.self.view_is ∙ c.requires.home) p c.index-place.ensures in
    let there = living_found v.homes c.args.number (λ (h : Home). true) (some_says (living_at v.homes c.args.number) (ap (λ w. is_some (living_at w.homes c.args.number)) c.self.view_is ∙ c.requires.lives)) h c.index_mut-home.ensures.value in
    let can = ap (λ w. can_issue w c.args.actor) c.self.view_is ∙ c.requires.can in
    let more = more_there v c.args.actor c.args.number p h at.here at.home there.here can in
    let free = free_there v c.args.actor c.args.number p h at.here at.home there.here can in
    let rest : IsTrue v.set.settled → IsAtRest h.instance = λ settled. subst (λ w. MayStart w (step.Issue c.args.actor)) (sym c.self.view_is) c.requires.rests settled tt c.args.number h there.here there.living in
    let line = subst (λ ls. IsNextLine ls c.args.actor (p.issued + 1) c.issued_from.result.next) c.as_slice-lines.ensures c.issued_from.ensures.next in
    let makes = subst (λ ls. MakesOf ls h.instance (step.Issue c.args.actor) c.issue.new.self c.in_ok-made.made) c.as_slice.ensures c.in_ok-made.ensures.makes in
    let x = c.index-lines-place.result in
    let command = ap (λ ls. (slice_index_or ls p.next x).command) c.as_slice-lines.ensures in
    issue_sound v sound runs c.args.actor c.args.number p h at.here at.home there.here there.living free more rest c.issue.new.self c.in_ok-made.made c.in_ok-made.ensures.ready makes
    c.shuts_behind-home.result (slice_index_or c.as_slice-lines.result.now p.next x).command (λ d. command ∙ ap (λ (l : Line). l.command) (same_at v.set.work.lines p.next x d more)) c.shuts_behind-home.ensures
    c.issued_from.result c.issued_from.ensures.waits line
    c.enter.new.chronicle c.keep.new.steps.items c.keep.new.ends.items c.in_ok-enter.ensures c.in_ok-keep.ensures.steps c.in_ok-keep.ensures.ends

pub returns-clause-advances : goal.returns-clause-advances
returns-clause-advances c =
    let v = value_of c.self.inside in
    let sound = c.self.invariant (ap (λ v. v.spent) c.self.view_is ∙ c.requires.ready) in
    let runs = ap (λ v. v.closed) c.self.view_is ∙ c.requires.runs in
    let p = c.index-place.result.now in
    let h = c.index_mut-home.result.now in
    let at = placed_at v.places c.args.actor c.args.number (ap (λ w. option_and_then (λ p. p.home) (slice_get w.places c.args.actor)) c.self.view_is ∙ c.requires.home) p c.index-place.ensures in
    let there = living_found v.homes c.args.number (λ (h : Home). true) (some_says (living_at v.homes c.args.number) (ap (λ w. is_some (living_at w.homes c.args.number)) c.self.view_is ∙ c.requires.lives)) h c.index_mut-home.ensures.value in
    let can = ap (λ w. can_issue w c.args.actor) c.self.view_is ∙ c.requires.can in
    let more = more_there v c.args.actor c.args.number p h at.here at.home there.here can in
    let free = free_there v c.args.actor c.args.number p h at.here at.home there.here can in
    let rest : IsTrue v.set.settled → IsAtRest h.instance = λ settled. subst (λ w. MayStart w (step.Issue c.args.actor)) (sym c.self.view_is) c.requires.rests settled tt c.args.number h there.here there.living in
    let line = subst (λ ls. IsNextLine ls c.args.actor (p.issued + 1) c.issued_from.result.next) c.as_slice-lines.ensures c.issued_from.ensures.next in
    let makes = subst (λ ls. MakesOf ls h.instance (step.Issue c.args.actor) c.issue.new.self c.in_ok-made.made) c.as_slice.ensures c.in_ok-made.ensures.makes in
    let x = c.index-lines-place.result in
    let command = ap (λ ls. (slice_index_or ls p.next x).command) c.as_slice-lines.ensures in
    advances_at c.self.view_is (issue_advances v sound runs c.args.actor c.args.number p h at.here at.home there.here there.living free more rest c.issue.new.self c.in_ok-made.made c.in_ok-made.ensures.ready makes
    c.shuts_behind-home.result (slice_index_or c.as_slice-lines.result.now p.next x).command (λ d. command ∙ ap (λ (l : Line). l.command) (same_at v.set.work.lines p.next x d more)) c.shuts_behind-home.ensures
    c.issued_from.result c.issued_from.ensures.waits line
    c.enter.new.chronicle c.keep.new.steps.items c.keep.new.ends.items c.in_ok-enter.ensures c.in_ok-keep.ensures.steps c.in_ok-keep.ensures.ends)
