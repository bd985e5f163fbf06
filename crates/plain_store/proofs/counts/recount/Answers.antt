use Rattle.std.proofs.Common.{◌≡◌, ◌≤◌, ◌<◌, ◌^◌, Some, None, is_some, sym, ap, ◌∙◌, subst, rules, true≢false}
use Rattle.std.specs.Option.{unwrap_or}
use Rattle.std.specs.Ordering.{is_eq}
use Rattle.std.specs.Map.{set_value}
use Rattle.kvs_model.specs.Store.{path_cmp}
use Rattle.kvs_model.proofs.Paths.{path_self}
use Rattle.plain_store.specs.Counted.{Counts, kept_at, times, weight}
use Rattle.plain_store.proofs.Counted.{kept_lookup, counted-root, counted-set_value, stays-set_value, countable_place, weight_of}
use Rattle.plain_store.proofs.counts.recount.Goals as goal

pub returns-in_default-clause-counted : goal.returns-in_default-clause-counted
returns-in_default-clause-counted c = counted-root c.args.counts.now.entries c.args.path.now c.args.stood c.args.stands c.in_default.ensures.cases

pub unreachable-requires : goal.unreachable-requires
unreachable-requires c =
    let found : None ≡ kept_at c.args.counts.now.entries c.in-Some.place.now = c.in_default-get_mut.ensures.value ∙ kept_lookup c.args.counts.now.entries c.in-Some.place.now in
    true≢false (sym (countable_place c.args.counts.now.entries c.args.path.now c.in-Some.place.now c.in-Some.field-0-0.now c.in-Some.ensures.cases.0 c.requires.kept) ∙ ap is_some (sym found))

pub counted-requires-clause-stood : goal.counted-requires-clause-stood
counted-requires-clause-stood c =
    let counts = c.args.counts.now.entries in
    let place = c.in-Some.place.now in
    let found : Some c.in-Some-get_mut.count.now ≡ kept_at counts place = c.in-Some-get_mut.ensures.value ∙ kept_lookup counts place in
    subst (λ w. times c.args.stood w ≤ c.in-Some-get_mut.count.now) (weight_of place place c.args.path.now c.in-Some.field-0-0.now c.in-Some.ensures.cases.0 ∙ ap (λ b. times b 1) (path_self place))
    (subst (λ o. times c.args.stood (weight place c.args.path.now) ≤ unwrap_or o 0) (sym found) (c.requires.stood place))

pub counted-requires-clause-bound : goal.counted-requires-clause-bound
counted-requires-clause-bound c =
    let counts = c.args.counts.now.entries in
    let place = c.in-Some.place.now in
    let found : Some c.in-Some-get_mut.count.now ≡ kept_at counts place = c.in-Some-get_mut.ensures.value ∙ kept_lookup counts place in
    subst (λ o. unwrap_or o 0 < 2 ^ 63) (sym found) (c.requires.bound place)

pub returns-clause-counted : goal.returns-clause-counted
returns-clause-counted c =
    let counts = c.args.counts.now.entries in
    let place = c.in-Some.place.now in
    let new : Counts = (c.get_mut.follows.lender c.counted.result).entries in
    let written : new ≡ set_value (λ k. is_eq (path_cmp place k.items)) counts c.counted.result = search rules in
    let found : Some c.in-Some-get_mut.count.now ≡ kept_at counts place = c.in-Some-get_mut.ensures.value ∙ kept_lookup counts place in
    counted-set_value counts new c.args.path.now place c.in-Some.field-0-0.now c.in-Some-get_mut.count.now c.counted.result c.args.stood c.args.stands c.in-Some.ensures.cases.0 (sym found) written c.counted.ensures

pub returns-clause-stays : goal.returns-clause-stays
returns-clause-stays c =
    let counts = c.args.counts.now.entries in
    let place = c.in-Some.place.now in
    let new : Counts = (c.get_mut.follows.lender c.counted.result).entries in
    let written : new ≡ set_value (λ k. is_eq (path_cmp place k.items)) counts c.counted.result = search rules in
    stays-set_value counts new place c.counted.result written
