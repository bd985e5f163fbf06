use Rattle.std.proofs.Common.{◌≡◌, ◌<◌, true, false, cond, is_some, Some, take, length, get_or, eqb, sym, ap, ap₂, ◌∙◌, arith}
use Rattle.std.specs.Ordering.{nat_cmp}
use Rattle.std.specs.BTreeMap.{get}
use Rattle.idset.specs.Ids.{has}
use Rattle.std.proofs.lemmas.List.Folds.{list_any_more}
use Rattle.resource_set.specs.Reading.{unless_twice}
use Rattle.resource_set.proofs.Ranks.{is_eq-nat_cmp, unplaced, cond_twice, find_here, find_behind}
use Rattle.resource_set.proofs.placing.place_ranks.Goals as goal

pub returns-then-is_some-clause-once : goal.returns-then-is_some-clause-once
returns-then-is_some-clause-once c =
    let ranks = c.args.ranks.now in
    let i = c.loop-rank.rank-index in
    let inside : i < length ranks = omega arith in
    let was = unplaced ranks i c.args.place (λ r. get nat_cmp c.loop-rank.places r) (λ r. get nat_cmp c.args.places.now r) c.requires inside c.loop-rank.invariant.placed in
    let met : is_some (get nat_cmp c.args.places.now (get_or ranks i 0)) ≡ true = sym (ap is_some (c.in_ok-insert.ensures.old ∙ was)) ∙ sym c.if-is_some.ensures in
    ap unless_twice (c.loop-rank.invariant.once ∙ find_here (λ r. is_some (get nat_cmp c.args.places.now r)) ranks i inside met)

pub loop-rank-preserved : goal.loop-rank-preserved
loop-rank-preserved c =
    let ranks = c.args.ranks.now in
    let i = c.loop-rank.rank-index in
    let inside : i < length ranks = omega arith in
    let rank = get_or ranks i 0 in
    let was = unplaced ranks i c.args.place (λ r. get nat_cmp c.loop-rank.places r) (λ r. get nat_cmp c.args.places.now r) c.requires inside c.loop-rank.invariant.placed in
    let unmet : is_some (get nat_cmp c.args.places.now rank) ≡ false = sym (ap is_some (c.in_ok-insert.ensures.old ∙ was)) ∙ sym c.if-is_some.ensures in
    record {
      placed = λ r.
          let old = get nat_cmp c.args.places.now r in
          c.in_ok-insert.ensures.updates.0 r
          ∙ ap₂ (λ b o. cond b (Some c.args.place) o) (is_eq-nat_cmp rank r) (c.loop-rank.invariant.placed r)
          ∙ cond_twice (eqb rank r) (has (take i ranks) r) (Some c.args.place) old
          ∙ ap (λ b. cond b (Some c.args.place) old) (sym (list_any_more (λ x. eqb x r) ranks i 0 inside));
      once = c.loop-rank.invariant.once ∙ find_behind (λ r. is_some (get nat_cmp c.args.places.now r)) ranks i inside unmet;
    }
