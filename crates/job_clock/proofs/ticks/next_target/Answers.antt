use Rattle.std.proofs.Common.{◌<◌, ◌^◌, sym, subst}
use Rattle.std.specs.Prelude.{All, IfSome, filter, filter_map, nat_lt}
use Rattle.job_book.specs.Seconds.{IsSoonest}
use Rattle.job_clock.specs.Targets.{target_in}
use Rattle.job_clock.proofs.Least.{bounded_in}
use Rattle.job_clock.proofs.ticks.next_target.Goals as goal

pub next_of_rows-requires : goal.next_of_rows-requires
next_of_rows-requires c =
    subst (λ rows. All (λ row. IfSome (target_in row) (λ target. target < 2 ^ 64)) rows) (sym c.rows.ensures)
    (bounded_in (λ target. target < 2 ^ 64) target_in c.args.commands.now.rows c.requires)

pub returns : goal.returns
returns c = subst (λ rows. IsSoonest (filter (λ target. nat_lt c.args.now target) (filter_map target_in rows)) c.next_of_rows.result) c.rows.ensures c.next_of_rows.ensures
