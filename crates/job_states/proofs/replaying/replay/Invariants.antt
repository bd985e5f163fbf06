use Rattle.std.proofs.Common.{◌≡◌, ◌+◌, drop}
use Rattle.job_states.specs.Replay.{replay_on}
use Rattle.job_states.proofs.replaying.replay.Given as goal

abbrev pub invariant-loop-place : goal.invariant-loop-place
invariant-loop-place l = replay_on (l.place + 1) l.job (drop l.place l.later) ≡ replay_on 1 l.initial.job l.later
