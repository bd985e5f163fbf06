use Rattle.std.proofs.Common.{[], ◌∷◌, ◌++◌, map, ap, ◌∙◌}
use Rattle.std.proofs.lemmas.List.{map_push}
use Rattle.serde_json.specs.View.{view}
use Rattle.resource_set.proofs.printing.push_group.Goals as goal

pub returns-clause-value : goal.returns-clause-value
returns-clause-value c =
    let old = c.args.values.now.items in
    ap (map view) c.in_ok-push.ensures.items ∙ map_push view old c.in_ok-value.value
    ∙ ap (λ d. map view old ++ d ∷ []) c.in_ok-value.ensures.value
