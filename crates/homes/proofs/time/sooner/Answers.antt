use Rattle.std.proofs.Common.{sym, subst}
use Rattle.std.specs.Prelude.{◌++◌}
use Rattle.instance.specs.manager_rules.Times.{IsLeast}
use Rattle.instance.specs.job_book.Seconds.{IsSoonest}
use Rattle.homes.proofs.Walking.{soonest_both}
use Rattle.homes.proofs.time.sooner.Goals as goal

pub returns-in-Some-Some : goal.returns-in-Some-Some
returns-in-Some-Some c = λ xs ys l m.
    let one = c.in-Some-Some.one in
    let other = c.in-Some-Some.other in
    subst (IsLeast (xs ++ ys)) (sym c.min.ensures)
    (soonest_both xs ys one other (subst (IsSoonest xs) c.in-Some-Some.is-0 l) (subst (IsSoonest ys) c.in-Some-Some.is-1 m))
