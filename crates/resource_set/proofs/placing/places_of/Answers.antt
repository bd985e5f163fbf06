use Rattle.std.proofs.Common.{ℕ, Option, ◌<◌, length, sym, subst, ◌∙◌, arith}
use Rattle.std.specs.Ordering.{nat_cmp}
use Rattle.std.specs.BTreeMap.{get}
use Rattle.outcomes.specs.Outcomes.{Fails}
use Rattle.resource_set.specs.Reading.{unless_twice, lasting}
use Rattle.resource_set.proofs.Ranks.{no_twice}
use Rattle.resource_set.proofs.Placed.{placed_more, once_more, fails_there, err_gives}
use Rattle.resource_set.proofs.placing.places_of.Goals as goal

pub returns-in_err-place_ranks-clause-once : goal.returns-in_err-place_ranks-clause-once
returns-in_err-place_ranks-clause-once c =
    let inside : c.loop-place.place < length c.args.entries.now = omega arith in
    let fault = c.in_err-place_ranks.field-0.0 in
    err_gives _ _ fault _ c.from_residual-in_err-place_ranks.ensures.1
    (subst (λ o. Fails lasting fault (unless_twice o)) (sym c.loop-place.invariant.once)
    (fails_there c.args.entries.now c.loop-place.place c.index-entries-place.result c.deref.result.now (λ r. get nat_cmp c.loop-place.places r) fault
    inside c.index-entries-place.is c.loop-place.invariant.placed (c.deref.ensures.value ∙ c.in_ok-ranks.ensures.ids) c.in_err-place_ranks.ensures.once))

pub loop-place-preserved : goal.loop-place-preserved
loop-place-preserved c =
    let entries = c.args.entries.now in
    let i = c.loop-place.place in
    let inside : i < length entries = omega arith in
    let entry = c.index-entries-place.result in
    let ids = c.deref.ensures.value ∙ c.in_ok-ranks.ensures.ids in
    let old : ℕ → Option ℕ = λ r. get nat_cmp c.loop-place.places r in
    let none = no_twice _ c.in_ok-place_ranks.ensures.once in
    record {
      placed = placed_more entries i entry c.deref.result.now old (λ r. get nat_cmp c.place_ranks.new.places r) inside c.index-entries-place.is c.loop-place.invariant.placed ids none c.in_ok-place_ranks.ensures.placed;
      once = c.loop-place.invariant.once ∙ once_more entries i entry c.deref.result.now old inside c.index-entries-place.is c.loop-place.invariant.placed ids none;
    }
