use Rattle.std.proofs.Common.{◌≡◌, ◌<◌, Some, length, heap_items, refl, ap, sym, ◌∙◌, rules, arith}
use Rattle.std.specs.Bool.{⊤}
use Rattle.std.proofs.lemmas.Bool.{true≢false}
use Rattle.std.proofs.lemmas.Option.{MatchOption-at_some}
use Rattle.job_queue.specs.Queue.{priority_of, AreHeld}
use Rattle.job_queue.specs.Ranks.{IsLive}
use Rattle.job_queue.proofs.Ranking.{under_top, at_top}
use Rattle.job_queue.proofs.queue.Queue.head.Goals as goal

pub returns-in-Some-clause-none : goal.returns-in-Some-clause-none
returns-in-Some-clause-none c =
    let long : 0 < length (heap_items c.self.inside.ranks) = search rules in
    let top = at_top (heap_items c.self.inside.ranks) c.in-Some.field-0.now long c.in-Some.ensures.lookup in
    let live : IsLive c.self.inside.priorities c.in-Some.field-0.now = MatchOption-at_some ⊤ (IsLive c.self.inside.priorities) c.in-Some.field-0.now top c.self.invariant.3 in
    let at : priority_of c.args.self.now.0 c.in-Some.field-0.now.1.0 ≡ Some c.in-Some.field-0.now.0 = sym (ap (λ v. priority_of v.0 c.in-Some.field-0.now.1.0) c.self.view_is) ∙ live in
    (λ e. absurd (true≢false e), λ held. absurd (omega (arith, held _ _ at, c.if-priority-gt0.true)))

pub returns-in_default-clause-none : goal.returns-in_default-clause-none
returns-in_default-clause-none c =
    let held : AreHeld c.args.self.now.0 = λ id p at.
    let in_table = ap (λ v. priority_of v.0 id) c.self.view_is ∙ at in
    let le = under_top c.in-Some.field-0.now (heap_items c.self.inside.ranks) id p (c.in-Some.ensures.greatest c.self.invariant.2) (c.self.invariant.1 id p in_table) in
    omega (arith, le, c.if-priority-gt0.false) in
    (λ e. held, λ h. refl)
