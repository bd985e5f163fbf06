-- How far time goes on.
use Rattle.std.specs.Prelude.{◌≡◌, ℕ, ◌+◌, ◌≤◌, List, None, filter, nat_lt}
use Rattle.job_book.specs.Contract.{seconds_left}
use Rattle.job_clock.specs.Standing.{PassesNone}
use Rattle.job_clock.specs.Targets.{targets_of}
use Rattle.job_commands.specs.declared.ask.JobAsk.{JobAsk}
use Rattle.job_commands.specs.declared.ask.JobAsk.TheVariants as ask
use Rattle.run_limits.specs.Limits.{most_seconds}
use Rattle.job_service.specs.Value.{JobServiceValue}

-- the seconds by which a command lets time go on
abbrev pub seconds_asked : JobAsk → ℕ
seconds_asked (ask.Advance seconds) = seconds
seconds_asked _ = 0

-- how many jobs a command submits
abbrev pub jobs_asked : JobAsk → ℕ
jobs_asked (ask.Submit label urgency needs text) = 1
jobs_asked _ = 0

-- the command is counted among what was issued: the submissions, and the seconds of all advances
pub record Counts (asked : JobAsk) (old new : JobServiceValue) : Type 0 where
  pub submitted : new.submitted ≡ old.submitted + jobs_asked asked
  pub span : new.span ≡ old.span + seconds_asked asked

-- as many brokers, submissions and seconds of advances as before
pub record KeepsCounts (old new : JobServiceValue) : Type 0 where
  pub size : new.manager.core.size ≡ old.manager.core.size
  pub submitted : new.submitted ≡ old.submitted
  pub span : new.span ≡ old.span

-- all advances of the instance together let time go on by no more than 1,000,000,000 seconds
abbrev pub HasTime : JobServiceValue → JobAsk → Type 0
HasTime v (ask.Advance seconds) = v.span + seconds ≤ most_seconds
HasTime v _ = Unit {0}

-- nothing is posted and nothing is due, and time may go on to this second by whatever advance of
-- the run: no command and no resources end before it, and it isn't too far from the birth
pub record MayPassTo (v : JobServiceValue) (second : ℕ) : Type 0 where
  pub unposted : v.manager.posted ≡ None
  pub unfound : v.found ≡ None
  pub unborn : v.bearing ≡ None
  pub passes : PassesNone (seconds_left v.second v.manager.book) v.second second
  pub near : second ≤ v.birth + most_seconds

-- the seconds ahead that open advances wait for
abbrev pub targets_left : JobServiceValue → List ℕ
targets_left v = filter (λ target. nat_lt v.second target) (targets_of v.commands)
