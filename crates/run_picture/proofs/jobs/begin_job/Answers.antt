use Rattle.std.proofs.Common.{◌<◌, ◌≤◌, take, drop, subst}
use Rattle.std.specs.List.{AllByRecursion as Each}
use Rattle.std.specs.List.Sorted.{IsStrictlyIncreasing}
use Rattle.run_picture.specs.Rows.{row_ids}
use Rattle.run_picture.proofs.Keeping.{job_begun}
use Rattle.run_picture.proofs.jobs.begin_job.Goals as goal

pub returns : goal.returns
returns c = λ x jobs named line readable are.
    let rows = c.args.rows.now.items in
    let at = c.place_of-at.result in
    job_begun x c.in_ok-row.row rows c.insert.new.rows.items jobs at c.args.id c.args.line.now named line readable c.in_ok-row.ensures
    (subst (λ xs. IsStrictlyIncreasing (row_ids xs) → Each (λ row. row.id < c.args.id) (take at xs)) c.deref.ensures.value c.place_of-at.ensures.before)
    (subst (λ xs. IsStrictlyIncreasing (row_ids xs) → Each (λ row. c.args.id ≤ row.id) (drop at xs)) c.deref.ensures.value c.place_of-at.ensures.behind)
    c.in_ok-insert.ensures are
