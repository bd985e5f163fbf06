use Rattle.std.proofs.Common.{sym, ap, ◌∙◌}
use Rattle.std.specs.Option.{ok_or}
use Rattle.serde_json.specs.Find.{as_str}
use Rattle.serde_json.specs.View.{view}
use Rattle.job_spec.specs.declared.faults.SpecFault.TheVariants.{BadField}
use Rattle.job_spec.proofs.Lists.{err_finds, missing, present}
use Rattle.job_spec.proofs.fields.text.Goals as goal

pub returns-in_err-field : goal.returns-in_err-field
returns-in_err-field c =
    err_finds (λ s. s.now) c.from_residual.result c.in_err-field.field-0.0 _ c.from_residual.ensures.1
    (missing as_str c.args.place c.args.key.now (view c.args.value.now) c.in_err-field.field-0.0 c.in_err-field.ensures)

pub returns-in-Some : goal.returns-in-Some
returns-in-Some c =
    present as_str c.args.place c.args.key.now (view c.args.value.now) _ c.in_ok-field.ensures
    ∙ ap (λ s. ok_or s (BadField c.args.place)) (sym c.in-Some.ensures)

pub returns-in-None : goal.returns-in-None
returns-in-None c =
    present as_str c.args.place c.args.key.now (view c.args.value.now) _ c.in_ok-field.ensures
    ∙ ap (λ s. ok_or s (BadField c.args.place)) (sym c.in-None.ensures)
