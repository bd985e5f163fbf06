-- Which open job commands can be told what became of them.
use Rattle.std.specs.Prelude.{ℕ, ◌-◌, ◌==◌, ◌&&◌, nat_le, List, Bool, true, false, Option, Some, None, is_some, option_and_then, option_map}
use Rattle.std.specs.Option.{option_map_or}
use Rattle.job_deeds.specs.job_states.declared.job.State.{State}
use Rattle.job_deeds.specs.job_states.declared.job.State.TheVariants as state
use Rattle.kvs_core.specs.Value.{CoreValue}
use Rattle.kvs_core.specs.Seen.{primary_heard}
use Rattle.job_deeds.specs.manager_rules.Dependencies.{job_at as stored_at}
use Rattle.job_deeds.specs.manager_rules.Jobs.{StoredJob}
use Rattle.job_manager.specs.Value.{ManagerValue}
use Rattle.job_commands.specs.Rows.{Labels, job_at}
use Rattle.job_commands.specs.declared.ask.JobAsk.{JobAsk}
use Rattle.job_commands.specs.declared.ask.JobAsk.TheVariants as ask
use Rattle.job_commands.specs.declared.row.Row.{Row}
use Rattle.job_commands.specs.declared.row.Stage.{Stage}
use Rattle.job_commands.specs.declared.row.Stage.TheVariants as stage

-- the label that a command names, of those that are about one job
abbrev pub label_of : JobAsk → Option (List ℕ)
label_of (ask.Submit label urgency needs text) = None
label_of (ask.Cancel label) = Some label
label_of (ask.Raise label kind severity note) = Some label
label_of (ask.Urge label urgency) = Some label
label_of (ask.StateOf label) = Some label
label_of (ask.Info label key) = Some label
label_of ask.Jobs = None
label_of (ask.Why label) = Some label
label_of (ask.ResultOf label) = Some label
label_of (ask.Watch label) = Some label
label_of (ask.Advance seconds) = None

-- the job that a label names, and its state
abbrev pub job_in : Labels → List StoredJob → List ℕ → Option StoredJob
job_in labels jobs label = option_and_then (stored_at jobs) (job_at label labels)

abbrev pub state_in : Labels → List StoredJob → List ℕ → Option State
state_in labels jobs label = option_map (λ j. j.job.state) (job_in labels jobs label)

abbrev pub is_inactive : State → Bool
is_inactive state.Inactive = true
is_inactive _ = false

-- whether a raise of this severity comes too late for a job in this state
abbrev pub is_late_raise : ℕ → State → Bool
is_late_raise severity state.Inactive = true
is_late_raise severity state.Cleanup = severity == 0
is_late_raise severity _ = false

abbrev pub is_ending : State → Bool
is_ending state.Cleanup = true
is_ending state.Inactive = true
is_ending _ = false

abbrev pub has_run : State → Bool
has_run state.Run = true
has_run other = is_ending other

-- whether a job in this state answers the command: it comes too late, or asks nothing of the job's
-- future
abbrev pub fits : JobAsk → State → Bool
fits (ask.Submit label urgency needs text) where_ = false
fits (ask.Cancel label) where_ = is_ending where_
fits (ask.Raise label kind severity note) where_ = is_late_raise severity where_
fits (ask.Urge label urgency) where_ = has_run where_
fits (ask.StateOf label) where_ = true
fits (ask.Info label key) where_ = true
fits ask.Jobs where_ = false
fits (ask.Why label) where_ = true
fits (ask.ResultOf label) where_ = is_inactive where_
fits (ask.Watch label) where_ = false
fits (ask.Advance seconds) where_ = false

-- whether a command about the job of a label can be told: there is none, or its state answers
abbrev pub is_answered : Labels → List StoredJob → JobAsk → List ℕ → Bool
is_answered labels jobs asks label = option_map_or (fits asks) (state_in labels jobs label) true

-- whether a command that no landing has carried out can be told, which was issued at this second
abbrev pub is_open_ready : Labels → List StoredJob → ℕ → ℕ → JobAsk → Bool
is_open_ready labels jobs now issued (ask.Submit label urgency needs text) = false
is_open_ready labels jobs now issued ask.Jobs = true
is_open_ready labels jobs now issued (ask.Advance seconds) =
    nat_le issued now && nat_le seconds (now - issued)
is_open_ready labels jobs now issued asks =
    option_map_or (is_answered labels jobs asks) (label_of asks) false

-- whether a command that the landing of this number carried out can be told: a submission where its
-- broker has heard it
abbrev pub is_carried_out : Labels → CoreValue → ℕ → ℕ → JobAsk → Bool
is_carried_out labels core rank number (ask.Submit label urgency needs text) =
    is_some (job_at label labels) && nat_le number (primary_heard core rank)
is_carried_out labels core rank number (ask.Cancel label) = true
is_carried_out labels core rank number (ask.Raise label kind severity note) = true
is_carried_out labels core rank number (ask.Urge label urgency) = true
is_carried_out labels core rank number _ = false

abbrev pub is_ready_at : Labels → ManagerValue → ℕ → Row → Stage → Bool
is_ready_at labels manager now row stage.Waits =
    is_open_ready labels manager.book.jobs now row.issued row.ask
is_ready_at labels manager now row (stage.Landed number) =
    is_carried_out labels manager.core row.rank number row.ask

-- whether an open command can be told what became of it
abbrev pub is_ready : Labels → ManagerValue → ℕ → Row → Bool
is_ready labels manager now row = is_ready_at labels manager now row row.stage
