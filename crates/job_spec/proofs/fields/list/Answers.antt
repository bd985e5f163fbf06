use Rattle.std.proofs.Common.{subst, sym, map}
use Rattle.outcomes.specs.Outcomes.{Finds}
use Rattle.serde_json.specs.View.{view}
use Rattle.job_spec.specs.Fields.{as_list}
use Rattle.job_spec.proofs.Lists.{err_finds, missing, present}
use Rattle.job_spec.proofs.fields.list.Goals as goal

pub returns-in_err-field : goal.returns-in_err-field
returns-in_err-field c =
    err_finds (λ vs. map view vs.now) c.from_residual.result c.in_err-field.field-0.0 _ c.from_residual.ensures.1
    (missing as_list c.args.place c.args.key.now (view c.args.value.now) c.in_err-field.field-0.0 c.in_err-field.ensures)

pub returns : goal.returns
returns c =
    subst (Finds (λ vs. map view vs.now) c.elements.result)
    (sym (present as_list c.args.place c.args.key.now (view c.args.value.now) _ c.in_ok-field.ensures)) c.elements.ensures
