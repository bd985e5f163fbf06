use Rattle.std.proofs.Common.{◌≡◌, ap, ◌∙◌, option_map}
use Rattle.job_states.specs.Changes.{change_of}
use Rattle.manager_rules.specs.Posts.{job_after}
use Rattle.run_picture.specs.Rows.{held_then}
use Rattle.run_picture.specs.declared.jobs.JobRow.{JobRow}
use Rattle.run_picture.proofs.Keeping.{step_is}
use Rattle.run_picture.proofs.jobs.add_event.Goals as goal

pub returns : goal.returns
returns c =
    let row = c.args.row.now in
    let r = option_map (λ text. text.now) c.args.r in
    let job : c.step.new.job ≡ job_after (change_of c.args.event.now) row.job = step_is row.job c.step.new.job c.args.event.now c.in-Ok.ensures.done in
    let held : c.in_ok-row.field-0 ≡ held_then c.step.new.job c.take-before.result r = c.in_ok-row.ensures in
    let before : c.take-before.result ≡ row.held = c.take-before.ensures.value in
    let now : ◌≡◌ {A = JobRow} (record { id = row.id; label = row.label; job = c.step.new.job; held = c.in_ok-row.field-0 }) (record { id = row.id; label = row.label; job = c.step.new.job; held = held_then c.step.new.job row.held r }) =
    ap (λ h. record { id = row.id; label = row.label; job = c.step.new.job; held = h }) (held ∙ ap (λ b. held_then c.step.new.job b r) before) in
    now ∙ ap (λ j. record { id = row.id; label = row.label; job = j; held = held_then j row.held r }) job
