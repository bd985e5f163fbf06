use Rattle.std.proofs.Common.{◌≡◌, true, ◌++◌, sym, ap, ◌∙◌, subst, rules}
use Rattle.std.specs.Prelude.{filter, nat_lt}
use Rattle.job_deeds.specs.job_states.Table.{is_state}
use Rattle.job_deeds.specs.job_states.declared.job.State.TheVariants as state
use Rattle.job_deeds.specs.manager_rules.Times.{seconds_of}
use Rattle.job_book.specs.Seconds.{IsSoonest, sooner_of}
use Rattle.job_book.proofs.Ahead.{soonest_running}
use Rattle.job_book.proofs.seconds.sooner_with.Goals as goal

pub returns : goal.returns
returns c = λ seconds so_far.
    let runs : is_state c.args.row.now.job.state state.Run ≡ true = search rules in
    subst (IsSoonest (seconds ++ filter (λ second. nat_lt c.args.now second) (seconds_of c.args.row.now))) (sym (c.sooner-2.ensures ∙ ap (λ o. sooner_of c.args.now o c.end_of_units.result) c.sooner.ensures))
    (soonest_running c.args.now seconds c.args.next c.end_of_command.result c.end_of_units.result c.args.row.now runs c.end_of_command.ensures c.end_of_units.ensures so_far)
