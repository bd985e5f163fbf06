use Rattle.std.proofs.Common.{rules, ◌≡◌, true, ap, ◌∙◌}
use Rattle.kvs_requests.specs.Stages.{is_entering}
use Rattle.kvs_requests.proofs.rows.take_entrant.Goals as goal

pub unreachable-requires : goal.unreachable-requires
unreachable-requires c =
    let row = c.index_mut-row.result.now in
    let e : is_entering c.take_stage.result ≡ true = ap is_entering c.take_stage.ensures ∙ ap (λ r. is_entering r.stage) c.index_mut-row.ensures.value ∙ c.requires.enters row in
    search rules
