use Rattle.std.proofs.Common.{◌∙◌, ◌<◌, ◌^◌, ap, sym, subst}
use Rattle.std.specs.Prelude.{Contains}
use Rattle.std.specs.List.{AllByRecursion as Each}
use Rattle.manager_rules.specs.Jobs.{ids_of}
use Rattle.manager_rules.specs.Posts.{IsDuePost}
use Rattle.job_manager.specs.Follows.{after_post}
use Rattle.job_manager.specs.Managed.{WasDuePost}
use Rattle.job_manager.specs.Posts.{post_of, told}
use Rattle.job_manager.proofs.Following.{from-open, gained, on-ok, was-due}
use Rattle.job_manager.proofs.manager.follow.Goals as goal

pub submitted-requires-clause-new : goal.submitted-requires-clause-new
submitted-requires-clause-new c =
    let d = subst (λ p. IsDuePost c.requires.desk (post_of p)) c.in-Submits.is c.requires.due in
    subst (λ js. Contains (ids_of js) c.in-Submits.field-0.id → ⊥) c.requires.jobs d.new

pub submitted-requires-clause-spec : goal.submitted-requires-clause-spec
submitted-requires-clause-spec c =
    let d = subst (λ p. IsDuePost c.requires.desk (post_of p)) c.in-Submits.is c.requires.due in
    c.accepted_texts_tell_jobspecs.ensures d.from.text c.in-Submits.field-0.spec d.accepted

pub submitted-requires-clause-begins : goal.submitted-requires-clause-begins
submitted-requires-clause-begins c =
    let d = subst (λ p. IsDuePost c.requires.desk (post_of p)) c.in-Submits.is c.requires.due in
    let x = told c.in-Submits.field-0 in
    let s = c.requires.desk.scene in
    let open_ = from-open s c.requires.desk.birth c.requires.desk.submits x d c.requires.valid.submits in
    (d.from.by.actor, d.from.urgency, c.due_submissions_tell_themselves.ensures.asks s c.requires.desk.birth c.requires.desk.submits x d c.requires.valid.scene open_)

pub submitted-requires-clause-known : goal.submitted-requires-clause-known
submitted-requires-clause-known c =
    let d = subst (λ p. IsDuePost c.requires.desk (post_of p)) c.in-Submits.is c.requires.due in
    let x = told c.in-Submits.field-0 in
    let s = c.requires.desk.scene in
    let open_ = from-open s c.requires.desk.birth c.requires.desk.submits x d c.requires.valid.submits in
    let small = subst (λ js. Each (λ j. j.id < 2 ^ 64) js) (sym c.requires.jobs) c.keeps.ensures.small in (
      x.needs,
      c.due_submissions_tell_themselves.ensures.needs s c.requires.desk.birth c.requires.desk.submits x d c.requires.valid.scene open_ small,
      subst (λ js. Each (λ need. Contains (ids_of js) need.on) x.needs) c.requires.jobs (c.due_submissions_tell_themselves.ensures.known s c.requires.desk.birth c.requires.desk.submits x d),
    )

pub returns-in-Submits : goal.returns-in-Submits
returns-in-Submits c =
    let d = subst (λ p. IsDuePost c.requires.desk (post_of p)) c.in-Submits.is c.requires.due in
    let x = told c.in-Submits.field-0 in
    let s = c.requires.desk.scene in
    let open_ = from-open s c.requires.desk.birth c.requires.desk.submits x d c.requires.valid.submits in
    let small = subst (λ js. Each (λ j. j.id < 2 ^ 64) js) (sym c.requires.jobs) c.keeps.ensures.small in
    let asks = c.due_submissions_tell_themselves.ensures.asks s c.requires.desk.birth c.requires.desk.submits x d c.requires.valid.scene open_ in
    let needs = c.due_submissions_tell_themselves.ensures.needs s c.requires.desk.birth c.requires.desk.submits x d c.requires.valid.scene open_ small in
    on-ok c.submitted.result
    (λ h. gained c.args.book.now c.submitted.new.self x d.from.by.actor d.from.urgency asks needs h ∙ ap (λ p. after_post (post_of p) c.args.book.now) (sym c.in-Submits.is))
    c.submitted.ensures.added

pub landed-requires : goal.landed-requires
landed-requires c = was-due c.args.book.now c.in-Does.due (subst (λ p. WasDuePost c.args.book.now (post_of p)) c.in-Does.is c.requires)
