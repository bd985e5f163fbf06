use Rattle.std.proofs.Common.{sym}
use Rattle.serde_json.specs.View.{view}
use Rattle.fl_json.proofs.Inside.{valid_under, deep_under}
use Rattle.fl_json.proofs.fields.field.Goals as goal

pub returns-in-Some-clause-valid : goal.returns-in-Some-clause-valid
returns-in-Some-clause-valid c = λ v. valid_under c.args.key.now (view c.args.value.now) (view c.in-Some.found.now) (sym c.in-Some.ensures) v

pub returns-in-Some-clause-inside : goal.returns-in-Some-clause-inside
returns-in-Some-clause-inside c = deep_under c.args.key.now (view c.args.value.now) (view c.in-Some.found.now) (sym c.in-Some.ensures)
