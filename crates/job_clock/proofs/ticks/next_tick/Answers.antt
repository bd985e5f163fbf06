use Rattle.std.proofs.Common.{Option, Some, None, sym, subst}
use Rattle.std.specs.Prelude.{IfNone, filter, flat_map, nat_lt}
use Rattle.job_book.specs.Contract.{seconds_left}
use Rattle.job_book.specs.Seconds.{IsSoonest}
use Rattle.manager_rules.specs.Times.{seconds_of}
use Rattle.job_clock.specs.Targets.{IsNextTick, targets_of}
use Rattle.job_clock.proofs.Least.{next_alone, next_of_two, none_ahead}
use Rattle.job_clock.proofs.ticks.next_tick.Goals as goal

-- what is so is so also where there is none
so_of : {A : Type 0} (o : Option A) (P : Type 0) → P → IfNone o P
so_of None P p = p
so_of (Some x) P p = tt

pub returns-in_err-target-clause-none : goal.returns-in_err-target-clause-none
returns-in_err-target-clause-none c =
    let soonest = c.next_target.ensures in
    so_of c.from_residual.result _ (none_ahead (targets_of c.args.commands.now) c.args.now (subst (IsSoonest (filter (λ target. nat_lt c.args.now target) (targets_of c.args.commands.now))) c.in_err-target.was soonest))

pub returns-in-Some-clause-some : goal.returns-in-Some-clause-some
returns-in-Some-clause-some c =
    let soonest = c.next_target.ensures in
    let least = subst (IsSoonest (filter (λ target. nat_lt c.args.now target) (targets_of c.args.commands.now))) c.in_ok-target.was soonest in
    subst (IsNextTick (targets_of c.args.commands.now) (seconds_left c.args.now c.args.book.now) c.args.now) (sym c.min.ensures)
    (next_of_two (targets_of c.args.commands.now) (flat_map seconds_of c.args.book.now.jobs) c.args.now c.in_ok-target.target least c.in-Some.second c.in-Some.ensures.some)

pub returns-in-None-clause-some : goal.returns-in-None-clause-some
returns-in-None-clause-some c =
    let soonest = c.next_target.ensures in
    let least = subst (IsSoonest (filter (λ target. nat_lt c.args.now target) (targets_of c.args.commands.now))) c.in_ok-target.was soonest in
    next_alone (targets_of c.args.commands.now) (flat_map seconds_of c.args.book.now.jobs) c.args.now c.in_ok-target.target least c.in-None.ensures.none
