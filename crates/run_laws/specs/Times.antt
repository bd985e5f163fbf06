-- How far time can go in a run.
use Rattle.std.specs.Prelude.{ℕ, ◌+◌, ◌<◌, ◌^◌, List, []}
use Rattle.std.specs.List.{sum_by}
use Rattle.std.specs.Option.{option_map_or}
use Rattle.kvs_rules.specs.Sequence.{EachAfter}
use Rattle.kvs_txn.specs.declared.txn.By.{By}
use Rattle.workload.specs.Tallies.{seconds_in, seconds_of}
use Rattle.workload.specs.declared.work.Workload.{Workload}
use Rattle.answers.specs.declared.chronicle.Entry.{Entry}
use Rattle.answers.specs.declared.chronicle.Entry.TheVariants as entry
use Rattle.answers.specs.Chronicle.{Setup}
use Rattle.answers.specs.Commands.{command_at}
use Rattle.answers.specs.Jobs.{second_of, start_of}

-- the seconds that a command lets pass, if it is an advance
abbrev pub seconds_at : Workload → By → ℕ
seconds_at work by = option_map_or seconds_of (command_at work by) 0

-- the seconds that the command which an entry issues lets pass
abbrev pub seconds_by : Workload → Entry → ℕ
seconds_by work (entry.Issued actor command) =
    seconds_at work (record { actor = actor; command = command })
seconds_by work _ = 0

-- the seconds of all advances that are issued
abbrev pub seconds_issued : Workload → List Entry → ℕ
seconds_issued work c = sum_by (seconds_by work) c

-- the second after all advances has its place in 64 bits
abbrev pub HasTime : Setup → Type 0
HasTime set = start_of set + seconds_in set.work.lines < 2 ^ 64

-- whenever something happens the second has its place in 64 bits
abbrev pub KeepsTime : Setup → List Entry → Type 0
KeepsTime set c = EachAfter (λ past e. second_of set past < 2 ^ 64) [] c
