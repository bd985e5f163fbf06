use Rattle.std.proofs.Common.{◌≡◌, ◌<◌, ◌≤◌, length, get_or, sym, ap, ◌∙◌, subst, arith}
use Rattle.std.specs.List.{list_all}
use Rattle.std.proofs.lemmas.List.{take_all}
use Rattle.std.proofs.lemmas.List.Folds.{list_all_at}
use Rattle.idset.specs.Ids.{has, ids_from}
use Rattle.idset.specs.Runs.{runs}
use Rattle.idset.specs.declared.ranges.IdRange.{IdRange}
use Rattle.resource_set.proofs.Spans.{small_runs, all_runs}
use Rattle.resource_set.proofs.units.are_among.Goals as goal

pub is_range_among-requires : goal.is_range_among-requires
is_range_among-requires c =
    let rs = c.ranges-range-items.result.now in
    let i = c.loop-range.range-index in
    let inside : i < length rs = omega arith in
    let none : IdRange = record { first = 0; last = 0 } in
    let same : rs ≡ runs c.args.ids.now = c.ranges-range-items.ensures.runs in
    let at : i < length (runs c.args.ids.now) = subst (λ l. i < length l) same inside in
    subst (λ l. (get_or l i none).last < 65536) (sym same) (small_runs c.args.ids.now c.ranges-range-items.ensures.set.below i none at).1

pub returns-then-not-is_range_among : goal.returns-then-not-is_range_among
returns-then-not-is_range_among c =
    let rs = c.ranges-range-items.result.now in
    let i = c.loop-range.range-index in
    let inside : i < length rs = omega arith in
    let none : IdRange = record { first = 0; last = 0 } in
    let p = has c.args.others.now in
    sym (all_runs p c.args.ids.now c.ranges-range-items.ensures.set.below
    ∙ ap (list_all (λ (r : IdRange). list_all p (ids_from r.first r.last))) (sym c.ranges-range-items.ensures.runs)
    ∙ list_all_at (λ (r : IdRange). list_all p (ids_from r.first r.last)) rs i none inside (sym c.is_range_among.ensures ∙ c.if-not-is_range_among.true))

pub returns : goal.returns
returns c =
    let rs = c.ranges-range-items.result.now in
    let i = c.loop-range.range-index in
    let whole : length rs ≤ i = omega arith in
    let p = has c.args.others.now in
    sym (all_runs p c.args.ids.now c.ranges-range-items.ensures.set.below
    ∙ ap (list_all (λ (r : IdRange). list_all p (ids_from r.first r.last))) (sym c.ranges-range-items.ensures.runs ∙ sym (take_all i rs whole))
    ∙ c.loop-range.invariant)
