use Rattle.std.proofs.Common.{◌≡◌, ℕ, ◌+◌, ◌<◌, List, length, get_or, drop, Ok, sym, ap, ◌∙◌}
use Rattle.event_log.specs.Events.{◌>>=◌}
use Rattle.std.proofs.lemmas.List.{at_drop_more}
use Rattle.event_log.specs.declared.event.Event.{Event}
use Rattle.job_states.specs.declared.job.Job.{Job}
use Rattle.job_states.specs.Replay.{stepped, replay_on}
use Rattle.job_states.proofs.replaying.replay.Goals as goal

-- one event more
one_more : (events : List Event) (i : ℕ) (job next : Job) (event : Event) → i < length events → event ≡ get_or events i event
    → stepped (i + 1) job event ≡ Ok next → replay_on (i + 1) job (drop i events) ≡ replay_on (i + 1 + 1) next (drop (i + 1) events)
one_more events i job next event low is done =
    at_drop_more (replay_on (i + 1) job) events i event low
    ∙ ap (λ after. after >>= λ job. replay_on (i + 1 + 1) job (drop (i + 1) events)) (ap (stepped (i + 1) job) (sym is) ∙ done)

pub loop-place-preserved : goal.loop-place-preserved
loop-place-preserved c =
    sym (one_more c.in-Some.later.now c.loop-place.place c.loop-place.job c.step.new.job c.index-later-place.result c.loop-place-test.true c.index-later-place.is c.in_ok-step.ensures.done)
    ∙ c.loop-place.invariant
