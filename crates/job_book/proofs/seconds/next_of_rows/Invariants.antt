use Rattle.std.proofs.Common.{take}
use Rattle.std.specs.Prelude.{filter, flat_map, nat_lt}
use Rattle.job_deeds.specs.manager_rules.Times.{seconds_of}
use Rattle.job_book.specs.Active.{active_of}
use Rattle.job_book.specs.Seconds.{IsSoonest}
use Rattle.job_book.proofs.seconds.next_of_rows.Given as goal

abbrev pub invariant-loop-index : goal.invariant-loop-index
invariant-loop-index l = IsSoonest (filter (λ second. nat_lt l.now second) (flat_map seconds_of (take l.index (active_of l.rows)))) l.next
