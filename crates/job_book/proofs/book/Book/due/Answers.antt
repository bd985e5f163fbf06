use Rattle.std.proofs.Common.{◌≡◌, ◌<◌, ◌≤◌, false, get_or, length, refl, sym, ap, ◌∙◌, subst, arith}
use Rattle.std.specs.Prelude.{Contains}
use Rattle.std.specs.List.{AllByRecursion as Each, list_any}
use Rattle.std.proofs.lemmas.List.{take_all}
use Rattle.job_deeds.specs.manager_rules.Deeds.{Deed, due_of}
use Rattle.job_deeds.specs.manager_rules.Due.{MayDo}
use Rattle.job_deeds.specs.Actions.{deed_of}
use Rattle.job_book.specs.Active.{active_of}
use Rattle.job_deeds.specs.Choices.{Chooses, IsSeen}
use Rattle.job_book.specs.Contract.{plain}
use Rattle.job_book.specs.Value.{scene_of}
use Rattle.job_book.specs.Waking.{is_about}
use Rattle.job_book.proofs.Actives.{active_length, none_active_due, sleeps_at}
use Rattle.job_deeds.proofs.Finding.{each_next, each_past}
use Rattle.job_book.proofs.Plain.{due_to, finds_after}
use Rattle.job_book.proofs.book.Book.due.Goals as goal

pub choice-requires-clause-known : goal.choice-requires-clause-known
choice-requires-clause-known g c = subst (Contains c.plain_desk-desk.result.rows.now) c.index-desk-at.is (c.place_of_active-at.result, c.place_of_active-at.ensures.within, sym c.index-desk-at.is)

pub returns-in-Some : goal.returns-in-Some
returns-in-Some g c = λ answer limits says.
    let s = scene_of (plain c.args.self.now) c.args.now c.args.asked.now answer limits in
    let jobs = c.plain_desk-desk.ensures.rows in
    let chosen = c.in_ok-action.ensures.found s (subst (λ list. IsSeen c.plain_desk-desk.result (scene_of (plain c.args.self.now) c.args.now list answer limits)) c.as_slice.ensures (c.plain_desk-desk.ensures.seen answer limits)) says in
    due_to (scene_of c.args.self.now c.args.now c.args.asked.now answer limits) c.in_ok-due.field-0 (record {
      j = c.index-desk-at.result;
      known = subst (λ js. Contains js c.index-desk-at.result) jobs (c.place_of_active-at.result, c.place_of_active-at.ensures.within, sym c.index-desk-at.is);
      deed = deed_of c.in-Some.action;
      may = subst (Chooses s c.index-desk-at.result) c.in-Some.is (subst (λ j. Chooses s j c.in_ok-action.field-0) (sym c.index-desk-at.is) chosen);
      is = subst (λ j. c.in_ok-due.field-0 ≡ due_of c.args.now j (deed_of c.in-Some.action)) (sym c.index-desk-at.is) c.in_ok-due.ensures;
    })

pub loop-index-preserved : goal.loop-index-preserved
loop-index-preserved g c = λ answer limits says.
    let s = scene_of (plain c.args.self.now) c.args.now c.args.asked.now answer limits in
    let jobs = c.plain_desk-desk.ensures.rows in
    let job = c.index-desk-at.result in
    let chosen = c.in_ok-action.ensures.found s (subst (λ list. IsSeen c.plain_desk-desk.result (scene_of (plain c.args.self.now) c.args.now list answer limits)) c.as_slice.ensures (c.plain_desk-desk.ensures.seen answer limits)) says in
    let within : c.loop-index.index < length c.self.inside.active.items = omega (arith, c.loop-index-test.true, c.len-index-end.ensures) in
    let short : c.loop-index.index < length (active_of c.args.self.now.jobs) = subst (λ n. c.loop-index.index < n) (active_length c.self.inside.rows.items c.self.inside.active.items c.self.invariant.2 ∙ ap (λ v. length (active_of v.jobs)) c.self.view_is) within in
    each_next (λ j. (deed : Deed) → MayDo s j deed → ⊥) (active_of c.args.self.now.jobs) c.loop-index.index job (c.loop-index.invariant answer limits says) short
    (c.index-desk-at.is ∙ c.place_of_active-at.ensures.job job ∙ ap (λ js. get_or (active_of js) c.loop-index.index job) jobs)
    (subst (Chooses s job) c.in_default.is (subst (λ j. Chooses s j c.in_ok-action.field-0) (sym c.index-desk-at.is) chosen))

pub returns : goal.returns
returns g c = finds_after c.args.self.now c.args.now c.args.asked.now _ c.in_ok-found.found (λ answer limits says due is.
    let s = scene_of (plain c.args.self.now) c.args.now c.args.asked.now answer limits in
    let past : length c.self.inside.active.items ≤ c.loop-index.index = omega (arith, c.loop-index-test.false, c.len-index-end.ensures) in
    let all : length (active_of s.jobs) ≤ c.loop-index.index = subst (λ n. n ≤ c.loop-index.index) (active_length c.self.inside.rows.items c.self.inside.active.items c.self.invariant.2 ∙ ap (λ v. length (active_of v.jobs)) c.self.view_is) past in
    none_active_due s (subst (Each (λ j. (deed : Deed) → MayDo s j deed → ⊥)) (take_all c.loop-index.index (active_of s.jobs) all) (c.loop-index.invariant answer limits says)) due is)
    c.in_ok-found.ensures

pub loop-index-preserved-then-sleeps : goal.loop-index-preserved-then-sleeps
loop-index-preserved-then-sleeps g c = λ answer limits says.
    let s = scene_of (plain c.args.self.now) c.args.now c.args.asked.now answer limits in
    let rows = c.self.inside.rows.items in
    let list = c.self.inside.active.items in
    let at = c.loop-index.index in
    let entry = c.index.result.now in
    let within : at < length list = omega (arith, c.loop-index-test.true, c.len-index-end.ensures) in
    let short : at < length (active_of c.args.self.now.jobs) = subst (λ n. at < n) (active_length rows list c.self.invariant.2 ∙ ap (λ v. length (active_of v.jobs)) c.self.view_is) within in
    each_past (λ j. (deed : Deed) → MayDo s j deed → ⊥) (active_of c.args.self.now.jobs) at (c.loop-index.invariant answer limits says) short
    (λ d. subst (λ js. (deed : Deed) → MayDo s (get_or (active_of js) at d) deed → ⊥) (ap (λ v. v.jobs) c.self.view_is)
    (sleeps_at s rows list at entry d c.self.invariant.2 c.self.invariant.3 within c.index.ensures (c.if-sleeps.ensures.early refl)
    (subst (λ asked. list_any (is_about entry.id) asked ≡ false) (c.plain_desk-desk.ensures.asked ∙ c.as_slice.ensures) (c.if-sleeps.ensures.quiet refl))))
