use Rattle.std.proofs.Common.{◌≡◌, ◌<◌, true, length, get_or, sym, ◌∙◌, subst}
use Rattle.run_picture.specs.declared.jobs.JobRow.{JobRow}
use Rattle.run_picture.proofs.Keeping.{done_more, line_added}
use Rattle.run_picture.proofs.jobs.add_line.Goals as goal

pub returns-then-stands_at : goal.returns-then-stands_at
returns-then-stands_at c = done_more _ _ c.add_at.result (λ made due jobs named line put readable are.
    let rows = c.args.rows.now.items in
    let at = c.place_of-at.result in
    let yes : c.stands_at.result ≡ true = c.if-stands_at.true in
    let same : c.deref-2.result.now ≡ rows = c.deref-2.ensures.value in
    let event : c.in_ok-event.event ≡ due.event = c.in_ok-event.ensures due.event readable.2 line in
    let within : at < length rows = subst (λ xs. at < length xs) same (c.stands_at.ensures.within yes) in
    let here : (d : JobRow) → (get_or rows at d).id ≡ due.job = λ d. subst (λ xs. (get_or xs at d).id ≡ c.args.id) same (c.stands_at.ensures.named yes d) ∙ sym named in
    line_added due rows c.add_at.new.rows.items jobs at c.in_ok-event.event _ event put readable.0 are within here made) c.add_at.ensures
