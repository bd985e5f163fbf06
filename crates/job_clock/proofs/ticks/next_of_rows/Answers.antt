use Rattle.std.proofs.Common.{rules, tests, ◌≡◌, min, sym, ◌∙◌}
use Rattle.std.specs.List.{reduce}
use Rattle.std.specs.Prelude.{filter, filter_map, nat_lt}
use Rattle.std.proofs.lemmas.Iterator.{YieldsList-from_slice}
use Rattle.std.proofs.lemmas.Iterator.Adapters.{option_map_id}
use Rattle.std.proofs.lemmas.Iterator.Consumers.{YieldsList-at, YieldsList-from_filter, YieldsList-from_filter_map, min_from_yields_List}
use Rattle.job_clock.specs.Targets.{target_in}
use Rattle.job_clock.proofs.Least.{soonest_of}
use Rattle.job_clock.proofs.ticks.next_of_rows.Goals as goal

pub returns : goal.returns
returns c =
    let road = YieldsList-from_filter _ _ (YieldsList-at c.filter.ensures.source (YieldsList-from_filter_map _ _ (YieldsList-from_slice c.args.rows.now cc) c.filter_map.ensures.closure (λ x r q k. search (rules, tests)))) c.filter.ensures.closure (λ x r q k. search (rules, tests)) in
    let least : c.min.result ≡ reduce min (filter (λ target. nat_lt c.args.now target) (filter_map target_in c.args.rows.now)) =
    sym (option_map_id c.min.result) ∙ min_from_yields_List _ c.min.result c.min.ensures.ran road in
    soonest_of _ c.min.result least
