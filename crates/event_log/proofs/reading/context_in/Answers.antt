use Rattle.std.proofs.Common.{◌≡◌, ◌<◌, true, Some, sym, ap, ◌∙◌, subst, arith}
use Rattle.std.specs.Prelude.{Ok, is_some}
use Rattle.std.specs.Str.{IsUtf8}
use Rattle.serde_json.specs.Data.{depth}
use Rattle.serde_json.specs.Find.{as_object}
use Rattle.serde_json.specs.Read.{max_depth}
use Rattle.serde_json.specs.View.{view}
use Rattle.fl_json.proofs.Canonical.{no_float}
use Rattle.event_log.specs.Events.{◌>>=◌, object_text, if_there}
use Rattle.event_log.proofs.Faults.{object_text_is, is_object_text}
use Rattle.event_log.proofs.reading.context_in.Goals as goal

pub returns-in_ok-to_vec-in-Ok-clause-found : goal.returns-in_ok-to_vec-in-Ok-clause-found
returns-in_ok-to_vec-in-Ok-clause-found c =
    let d = view c.in-Ok.context.now in
    let is : is_some (as_object d) ≡ true = sym c.is_object.ensures ∙ c.if-is_object.true in
    let written = c.from_vec.ensures ∙ c.in_ok-to_vec-in-Ok.ensures.text (no_float d (c.in-Ok.ensures.valid c.requires.valid)) in
    ap (if_there object_text) c.in-Ok.ensures.value ∙ ap (λ r. r >>= λ t. Ok (Some t)) (object_text_is d is) ∙ sym (ap (λ t. Ok (Some t)) written)

pub returns-in_ok-to_vec-in-Ok-clause-object : goal.returns-in_ok-to_vec-in-Ok-clause-object
returns-in_ok-to_vec-in-Ok-clause-object c =
    let d = view c.in-Ok.context.now in
    let is : is_some (as_object d) ≡ true = sym c.is_object.ensures ∙ c.if-is_object.true in
    let valid = c.in-Ok.ensures.valid c.requires.valid in
    let written = c.from_vec.ensures ∙ c.in_ok-to_vec-in-Ok.ensures.text (no_float d valid) in
    let inside : depth d < max_depth = omega (arith, c.in-Ok.ensures.inside, c.requires.nests) in
    is_object_text d c.from_vec.result is valid written (subst IsUtf8 (sym c.from_vec.ensures) c.in_ok-to_vec-in-Ok.ensures.utf8) inside
