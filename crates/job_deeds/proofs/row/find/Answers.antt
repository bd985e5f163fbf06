use Rattle.std.proofs.Common.{◌≡◌, ◌<◌, ◌≤◌, length, sym, ap, ◌∙◌, Some, None, arith, rules}
use Rattle.std.proofs.lemmas.Bool.{ltb-false, ltb-true}
use Rattle.std.proofs.lemmas.List.{get_or_default}
use Rattle.job_deeds.proofs.Places.{found_at, missing_at}
use Rattle.job_deeds.proofs.row.find.Goals as goal

pub returns-in_err-row : goal.returns-in_err-row
returns-in_err-row c =
    let past : length c.args.rows.now ≤ c.place_of.result = ltb-false _ _ (sym c.in_err-row.ensures.lookup.0) in
    let none = missing_at c.args.rows.now c.args.id c.place_of.result c.requires c.place_of.ensures.before c.place_of.ensures.after (λ d w e. let no : ⊥ = omega (arith, past, w) in no) in
    let is : c.from_residual.result ≡ None = search rules in
    rw is (sym none)

pub returns-then-row-id : goal.returns-then-row-id
returns-then-row-id c =
    let within : c.place_of.result < length c.args.rows.now = ltb-true _ _ (sym c.in_ok-row.ensures.lookup.0) in
    let read = c.in_ok-row.ensures.lookup.1 in
    let named : c.in_ok-row.row.now.id ≡ c.args.id = ap (λ j. j.id) (sym c.row.view_is) ∙ c.if-row-id.true in
    ap Some read ∙ sym (found_at c.args.rows.now c.args.id c.place_of.result c.in_ok-row.row.now c.place_of.ensures.before within (ap (λ j. j.id) (sym read) ∙ named))

pub returns-else-row-id : goal.returns-else-row-id
returns-else-row-id c =
    let read = c.in_ok-row.ensures.lookup.1 in
    sym (missing_at c.args.rows.now c.args.id c.place_of.result c.requires c.place_of.ensures.before c.place_of.ensures.after
    (λ d w e. c.if-row-id.false (ap (λ j. j.id) c.row.view_is ∙ ap (λ j. j.id) (read ∙ get_or_default c.args.rows.now c.place_of.result c.in_ok-row.row.now d w) ∙ e)))
