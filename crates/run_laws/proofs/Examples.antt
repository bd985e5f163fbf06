-- Computed facts: what follows by the table of events and states, and the feeds of a watch.
use Rattle.std.proofs.Common.{◌≡◌, [], ◌∷◌, true, None, Some, refl}
use Rattle.job_states.specs.Table.{submitted_job}
use Rattle.job_states.specs.declared.job.Change.TheVariants.{Alloc, Depend, Prioritize, Start, Validate}
use Rattle.job_states.specs.declared.job.Job.{Job}
use Rattle.job_states.specs.declared.job.State.TheVariants as state
use Rattle.kvs_txn.specs.declared.txn.By.{By}
use Rattle.answers.specs.declared.chronicle.Entry.TheVariants as entry
use Rattle.run_laws.specs.Feeds.{feeds_of}
use Rattle.run_laws.specs.Views.{FollowsByTable, after_changes}

-- a job that a user has submitted, and the same once it waits for resources
abbrev new : Job
new = submitted_job 7 16

abbrev waiting : Job
waiting = record new { state = state.Sched; priority = Some 16 }

waits_later : FollowsByTable new waiting
waits_later = (Validate ∷ Depend ∷ Prioritize 16 ∷ [], refl)

-- once it has its resources it runs
runs_later : FollowsByTable waiting (record waiting { state = state.Run; allocated = true; started = true })
runs_later = (Alloc ∷ Start ∷ [], refl)

-- nothing takes resources before it waits for them
none_before : after_changes (Alloc ∷ []) new ≡ None
none_before = refl

-- ---- feeds

abbrev watch : By
watch = record { actor = 0; command = 2 }

-- another watch's feeds are none of its own
its_feeds : feeds_of watch (entry.Watched 0 2 3 0 1 ∷ entry.Watched 1 2 3 0 4 ∷ entry.Watched 0 2 5 1 3 ∷ [])
    ≡ record { number = 3; first = 0; count = 1 } ∷ record { number = 5; first = 1; count = 3 } ∷ []
its_feeds = refl
