-- The instances of a run that live, and the time.
use Rattle.std.specs.Prelude.{ℕ, ◌+◌, ◌&&◌, not, List, Bool, true, false, Option, Some, None, filter, filter_map, map, option_and_then, option_map, if◌then◌else◌}
use Rattle.std.specs.List.{list_any}
use Rattle.std.specs.Option.{option_map_or}
use Rattle.kvs_txn.specs.declared.txn.By.{By}
use Rattle.workload.specs.declared.work.Command.{Command}
use Rattle.workload.specs.declared.work.Command.TheVariants as command
use Rattle.workload.specs.declared.work.Workload.{Workload}
use Rattle.instance_rules.specs.Family.{Living}
use Rattle.answers.specs.Chronicle.{Setup, before_issue, is_replied, top}
use Rattle.answers.specs.Commands.{command_at}
use Rattle.answers.specs.Jobs.{instance_of, log_in, second_of}
use Rattle.answers.specs.declared.chronicle.Entry.{Entry}
use Rattle.answers.specs.declared.chronicle.Entry.TheVariants as entry
use Rattle.hierarchy.specs.Births.{birth_of, has_lost_home, lives, numbers}
use Rattle.hierarchy.specs.Own.{own_of, setup_in}

-- ---- who lives

-- whether an entry issues a shutdown
abbrev pub is_shutdown : Option Command → Bool
is_shutdown (Some command.Shutdown) = true
is_shutdown _ = false

abbrev pub shuts_down : Workload → Entry → Bool
shuts_down work (entry.Issued actor number) =
    is_shutdown (command_at work (record { actor = actor; command = number }))
shuts_down work _ = false

-- an instance as one that lives: a child is that of a job of its parent, and may shut down
abbrev pub living_in : Setup → List Entry → ℕ → Living
living_in set c i = record {
  number = i;
  inst = instance_of (setup_in set c i);
  log = log_in (setup_in set c i).work (own_of set c i);
  from = option_map (λ b. (b.parent, b.job)) (birth_of c i);
  shuts = option_map_or (λ b. list_any (shuts_down set.work) (own_of set c i)) (birth_of c i) false;
}

-- the instances that live
abbrev pub family_of : Setup → List Entry → List Living
family_of set c = map (living_in set c) (filter (lives c) (numbers c))

-- ---- time

-- the second that it is in the run
abbrev pub second_in : Setup → List Entry → ℕ
second_in set c = second_of (setup_in set c top) (own_of set c top)

-- the seconds for which a command lets time go on, if it is an advance
abbrev pub seconds_asked : Command → Option ℕ
seconds_asked (command.Advance seconds) = Some seconds
seconds_asked _ = None

-- the target of the advance that an entry issues, if it is left: it is open, and its actor's
-- instance has gone
abbrev pub left_by : Setup → List Entry → Entry → Option ℕ
left_by set c (entry.Issued actor number) =
    let by : By = record { actor = actor; command = number } in
    if has_lost_home set.work.actors c actor && not (is_replied by c)
    then option_map (λ seconds. second_in set (before_issue by c) + seconds)
    (option_and_then seconds_asked (command_at set.work by))
    else None
left_by set c _ = None

-- the targets of open advances whose instances have gone
abbrev pub left_in : Setup → List Entry → List ℕ
left_in set c = filter_map (left_by set c) c
