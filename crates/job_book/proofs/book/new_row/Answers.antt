use Rattle.std.proofs.Common.{◌≡◌, ℕ, List, None, Ok, ap, ap₂, sym, ◌∙◌}
use Rattle.std.specs.Prelude.{option_and_then}
use Rattle.job_deeds.specs.job_spec.declared.spec.Depend.{Depend}
use Rattle.job_deeds.specs.job_spec.declared.spec.JobSpec.{JobSpec}
use Rattle.job_deeds.specs.job_states.declared.job.Job.{Job}
use Rattle.job_deeds.specs.job_states.Replay.{allowed}
use Rattle.job_deeds.specs.job_states.Table.{begun_by, submitted_job}
use Rattle.job_deeds.specs.manager_rules.Jobs.{StoredJob}
use Rattle.job_book.proofs.book.new_row.Goals as goal

abbrev row_of : ℕ → JobSpec → List Depend → Job → StoredJob
row_of id spec needs job = record { id = id; spec = spec; needs = needs; job = job; start = None; r = None }

pub returns-in-Ok : goal.returns-in-Ok
returns-in-Ok c = λ needs userid urgency are begins.
    let job : Ok c.in-Ok.job ≡ Ok (submitted_job userid urgency) = sym c.in-Ok.ensures ∙ ap (λ o. allowed 0 None (option_and_then begun_by o)) begins in
    let same : c.in-Ok.job ≡ submitted_job userid urgency = cc in
    ap₂ (row_of c.args.id c.args.spec) (c.in_ok-needs.ensures needs are) same
