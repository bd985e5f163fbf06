use Rattle.std.proofs.Common.{◌≡◌, Some, refl, inr, sym, ap, ◌∙◌, subst}
use Rattle.std.specs.Prelude.{All, Contains}
use Rattle.std.specs.List.Sorted.{IsStrictlyIncreasing}
use Rattle.job_deeds.specs.manager_rules.Limits.{no_limits}
use Rattle.job_deeds.specs.manager_rules.Deeds.{Deed, Takes, due_of}
use Rattle.job_deeds.specs.manager_rules.Due.{MayDo}
use Rattle.job_deeds.specs.manager_rules.Scene.{IsAsked}
use Rattle.job_deeds.specs.manager_rules.Jobs.{ids_of}
use Rattle.job_deeds.specs.Actions.{deed_of}
use Rattle.job_deeds.specs.Choices.{Chooses, IsSeen}
use Rattle.job_deeds.specs.Passing.{IsPasserOf}
use Rattle.job_deeds.proofs.Finding.{none_of}
use Rattle.job_deeds.proofs.Passes.{passer_ready}
use Rattle.job_deeds.proofs.job_rules_proofs.Among.{Among, among_from, among_mapped, contains_from}
use Rattle.job_book.specs.Value.{scene_of}
use Rattle.job_book.proofs.book.Book.passing.Goals as goal

pub choice-requires-clause-asked : goal.choice-requires-clause-asked
choice-requires-clause-asked g c = subst (All IsAsked) (sym (c.in_ok-desk.ensures.asked ∙ c.as_slice.ensures)) c.requires.asked

pub place_in-at-requires-clause-known : goal.place_in-at-requires-clause-known
place_in-at-requires-clause-known g c =
    let s = scene_of c.args.self.now c.args.now c.args.asked.now (λ ask. 0) no_limits in
    let seen = subst (λ list. IsSeen c.in_ok-desk.desk (scene_of c.args.self.now c.args.now list (λ ask. 0) no_limits)) c.as_slice.ensures (c.in_ok-desk.ensures.seen (λ ask. 0) no_limits) in
    let p = subst (IsPasserOf s) c.in-Some.is (c.in_ok-desk.ensures.desk.passer s seen) in
    subst (λ js. Contains (ids_of js) c.in-Some.id) (sym c.in_ok-desk.ensures.rows) (contains_from (ids_of s.jobs) c.in-Some.id (subst (λ n. Among n (ids_of s.jobs)) p.3 (among_mapped (λ j. j.id) s.jobs p.0 (among_from s.jobs p.0 p.2))))

pub returns-in_default : goal.returns-in_default
returns-in_default g c = λ answer limits says.
    let s = scene_of c.args.self.now c.args.now c.args.asked.now answer limits in
    let seen = subst (λ list. IsSeen c.in_ok-desk.desk (scene_of c.args.self.now c.args.now list answer limits)) c.as_slice.ensures (c.in_ok-desk.ensures.seen answer limits) in
    subst (IsPasserOf s) (none_of c.in_ok-desk.desk.passer c.in_default.not-Some) (c.in_ok-desk.ensures.desk.passer s seen)

pub returns-in_ok-due-in-Some-2 : goal.returns-in_ok-due-in-Some-2
returns-in_ok-due-in-Some-2 g c = λ answer limits says.
    let s = scene_of c.args.self.now c.args.now c.args.asked.now answer limits in
    let seen = subst (λ list. IsSeen c.in_ok-desk.desk (scene_of c.args.self.now c.args.now list answer limits)) c.as_slice.ensures (c.in_ok-desk.ensures.seen answer limits) in
    let job = c.index-desk-at.result in
    let chosen = subst (λ j. Chooses s j c.in_ok-action.field-0) (sym c.index-desk-at.is) (c.in_ok-action.ensures.found s seen says) in
    record {
      j = job;
      known = subst (λ js. Contains js job) c.in_ok-desk.ensures.rows (c.place_in-at.result, c.place_in-at.ensures.within, sym c.index-desk-at.is);
      deed = deed_of c.in-Some-2.action;
      may = subst (Chooses s job) c.in-Some-2.is chosen;
      is = subst (λ j. c.in_ok-due-in-Some-2.field-0 ≡ due_of c.args.now j (deed_of c.in-Some-2.action)) (sym c.index-desk-at.is) c.in_ok-due-in-Some-2.ensures;
    }

pub returns-in-None : goal.returns-in-None
returns-in-None g c = λ answer limits says j r known p.
    let s = scene_of c.args.self.now c.args.now c.args.asked.now answer limits in
    let seen = subst (λ list. IsSeen c.in_ok-desk.desk (scene_of c.args.self.now c.args.now list answer limits)) c.as_slice.ensures (c.in_ok-desk.ensures.seen answer limits) in
    let job = c.index-desk-at.result in
    let chosen : (deed : Deed) → MayDo s job deed → ⊥ = subst (Chooses s job) c.in-None.is (subst (λ j. Chooses s j c.in_ok-action.field-0) (sym c.index-desk-at.is) (c.in_ok-action.ensures.found s seen says)) in
    let named = ap (λ j. j.id) c.index-desk-at.is ∙ c.place_in-at.ensures.named job in
    let q = passer_ready s (subst (λ js. IsStrictlyIncreasing (ids_of js)) c.in_ok-desk.ensures.rows c.in_ok-desk.ensures.desk.rising) c.in_ok-desk.desk.passer (c.in_ok-desk.ensures.desk.passer s seen) job
    (subst (λ js. Contains js job) c.in_ok-desk.ensures.rows (c.place_in-at.result, c.place_in-at.ensures.within, sym c.index-desk-at.is)) (c.in-Some.is ∙ ap Some (sym named)) in
    chosen (Takes q.0) (q.1.leaves.waits, inr q.1, q.1.leaves.fit, refl)
