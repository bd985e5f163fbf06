use Rattle.std.proofs.Common.{◌≡◌, sym, subst, length, arith}
use Rattle.std.specs.Prelude.{IfOk}
use Rattle.std.proofs.lemmas.Bool.Decides.{nat_tests}
use Rattle.resource_set.specs.Units.{without_ids}
use Rattle.resource_set.proofs.Spans.{minus_is, without_none, none_left, is_empty}
use Rattle.resource_set.proofs.units.ids_without.Goals as goal
use Rattle.resource_set.proofs.units.ids_without.Goals.{then-count-eq0-via-then-count-eq0, then-count-eq0-via-else-count-eq0+then-count-eq0-2}

pub returns-then-count-eq0 : goal.returns-then-count-eq0
returns-then-count-eq0 c =
    let ids = c.args.ids.now in
    let taken = c.args.taken.now in
    let same : ids ≡ without_ids ids taken = elim c.then-count-eq0.branch [
      | then-count-eq0-via-then-count-eq0 w ↦ let none : length ids ≡ 0 = grind (arith, nat_tests) in none_left ids taken none
      | then-count-eq0-via-else-count-eq0+then-count-eq0-2 w ↦ let none : length taken ≡ 0 = grind (arith, nat_tests) in sym (without_none ids taken (is_empty taken none))
    ] in
    subst (λ l. IfOk c.copy.result (λ left. left ≡ l)) same c.copy.ensures

pub returns : goal.returns
returns c = subst (λ l. IfOk c.minus.result (λ left. left ≡ l)) (minus_is c.args.ids.now c.args.taken.now c.count.ensures.set) c.minus.ensures
