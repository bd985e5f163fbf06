use Rattle.std.proofs.Common.{◌∙◌, sym, ap}
use Rattle.std.specs.Prelude.{map, Ok}
use Rattle.serde_json.specs.View.{view}
use Rattle.job_spec.proofs.Lists.{elements_are}
use Rattle.job_spec.proofs.fields.elements.Goals as goal

pub returns-in-Some : goal.returns-in-Some
returns-in-Some c =
    elements_are c.args.place (view c.args.value.now) c.in-Some.items.now.items c.in-Some.ensures
    ∙ ap (λ vs. Ok (map view vs)) (sym c.as_slice.ensures.value)
