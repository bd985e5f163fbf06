-- What was issued and what is ahead make up all that the lines submit and all seconds that they let pass.
use Rattle.std.proofs.Common.{◌≡◌, ℕ, ◌+◌, ◌<◌, List, length, true, cond, Option, Some, None, get_or, set, refl, sym, ap, ◌∙◌, arith, true≢false}
use Rattle.std.specs.Prelude.{slice_get}
use Rattle.std.specs.Option.{option_map_or}
use Rattle.services.specs.instance_rules.Desks.{is_submission}
use Rattle.services.specs.instance_rules.Log as rules
use Rattle.services.specs.job_commands.Asks.{told}
use Rattle.services.specs.job_commands.declared.ask.JobAsk.{JobAsk}
use Rattle.services.specs.job_commands.declared.ask.JobAsk.TheVariants as ask
use Rattle.services.specs.job_service.Agrees.{HasRoom}
use Rattle.services.specs.job_service.Times.{Counts, HasTime, KeepsCounts, jobs_asked, seconds_asked}
use Rattle.services.specs.answers.Jobs.{job_ask_of}
use Rattle.services.specs.workload.declared.work.Command.{Command}
use Rattle.services.specs.workload.declared.work.Command.TheVariants as command
use Rattle.services.specs.workload.declared.work.Line.{Line}
use Rattle.services.specs.workload.Laws.{KeepsTallies}
use Rattle.services.specs.workload.Tallies.{seconds_in, seconds_of, submits, submits_in}
use Rattle.instance.specs.declared.seats.Seat.{Seat}
use Rattle.instance.specs.Agrees.{IsTallied, lines_ahead}
use Rattle.instance.specs.Floors.{Floors}
use Rattle.instance.specs.Seats.{raised, with_floors}
use Rattle.instance.specs.Value.{InstanceValue}
use Rattle.instance.proofs.Ahead.{MovesOn, issue_ahead, kept_ahead}

-- ---- what a command counts for

abbrev jobs_by : rules.JobAsk → ℕ
jobs_by (rules.Submit label urgency needs text) = 1
jobs_by _ = 0

abbrev seconds_by : rules.JobAsk → ℕ
seconds_by (rules.Advance seconds) = seconds
seconds_by _ = 0

jobs_told : (a : JobAsk) → jobs_asked a ≡ jobs_by (told a)
jobs_told (ask.Submit label urgency needs text) = refl
jobs_told (ask.Cancel label) = refl
jobs_told (ask.Raise label kind severity note) = refl
jobs_told (ask.Urge label urgency) = refl
jobs_told (ask.StateOf label) = refl
jobs_told (ask.Info label key) = refl
jobs_told ask.Jobs = refl
jobs_told (ask.Why label) = refl
jobs_told (ask.ResultOf label) = refl
jobs_told (ask.Watch label) = refl
jobs_told (ask.Advance seconds) = refl

seconds_told : (a : JobAsk) → seconds_asked a ≡ seconds_by (told a)
seconds_told (ask.Submit label urgency needs text) = refl
seconds_told (ask.Cancel label) = refl
seconds_told (ask.Raise label kind severity note) = refl
seconds_told (ask.Urge label urgency) = refl
seconds_told (ask.StateOf label) = refl
seconds_told (ask.Info label key) = refl
seconds_told ask.Jobs = refl
seconds_told (ask.Why label) = refl
seconds_told (ask.ResultOf label) = refl
seconds_told (ask.Watch label) = refl
seconds_told (ask.Advance seconds) = refl

-- how many jobs a command submits
abbrev pub count_of : Command → ℕ
count_of c = cond (submits c) 1 0

command_jobs : (c : Command) → count_of c ≡ option_map_or jobs_by (job_ask_of c) 0
command_jobs (command.Submit label urgency depends spec) = refl
command_jobs _ = refl

command_seconds : (c : Command) → seconds_of c ≡ option_map_or seconds_by (job_ask_of c) 0
command_seconds (command.Advance seconds) = refl
command_seconds _ = refl

pub jobs_of : (c : Command) (a : JobAsk) → job_ask_of c ≡ Some (told a) → count_of c ≡ jobs_asked a
jobs_of c a e = command_jobs c ∙ ap (λ o. option_map_or jobs_by o 0) e ∙ sym (jobs_told a)

pub seconds_of_ask : (c : Command) (a : JobAsk) → job_ask_of c ≡ Some (told a) → seconds_of c ≡ seconds_asked a
seconds_of_ask c a e = command_seconds c ∙ ap (λ o. option_map_or seconds_by o 0) e ∙ sym (seconds_told a)

-- what is asked counts for nothing
abbrev pub CountsNone : Option rules.JobAsk → Type 0
CountsNone asked = (option_map_or jobs_by asked 0 ≡ 0) × (option_map_or seconds_by asked 0 ≡ 0)

-- a submission counts for one job
one_job : (a : JobAsk) → is_submission (Some (told a)) ≡ true → jobs_asked a ≡ 1
one_job (ask.Submit label urgency needs text) h = refl
one_job (ask.Cancel label) h = absurd (true≢false (sym h))
one_job (ask.Raise label kind severity note) h = absurd (true≢false (sym h))
one_job (ask.Urge label urgency) h = absurd (true≢false (sym h))
one_job (ask.StateOf label) h = absurd (true≢false (sym h))
one_job (ask.Info label key) h = absurd (true≢false (sym h))
one_job ask.Jobs h = absurd (true≢false (sym h))
one_job (ask.Why label) h = absurd (true≢false (sym h))
one_job (ask.ResultOf label) h = absurd (true≢false (sym h))
one_job (ask.Watch label) h = absurd (true≢false (sym h))
one_job (ask.Advance seconds) h = absurd (true≢false (sym h))

-- ---- where nothing is issued

-- the seats of which one has seen further have the same lines ahead
pub raised_ahead : (seats : List Seat) (to : ℕ) (floors : Floors) (lines : List Line) → lines_ahead (raised seats to floors) lines ≡ lines_ahead seats lines
raised_ahead seats to floors lines = on (slice_get seats to) refl
  where
    on : (o : Option Seat) → slice_get seats to ≡ o → lines_ahead (option_map_or (λ seat. set seats to (with_floors floors seat)) o seats) lines ≡ lines_ahead seats lines
    on None e = refl
    on (Some seat) e = kept_ahead seats to seat (with_floors floors seat) lines e refl

-- ---- an issue

-- the actor's next line is ahead
module _ (v : InstanceValue) (lines : List Line) (h : IsTallied v lines) (few : KeepsTallies lines) (a : ℕ) (seat : Seat) (sits : slice_get v.seats a ≡ Some seat) (below : seat.next < length lines)
    (own : (d : Line) → (get_or lines seat.next d).actor ≡ a) (d : Line) where
  abbrev cmd : Command
  cmd = (get_or lines seat.next d).command

  abbrev behind : Seat
  behind = record seat { next = seat.next + 1 }

  moves : MovesOn v.seats lines a seat (seat.next + 1)
  moves = record { sits = sits; below = below; own = own; after = omega arith; passed = λ k e low high. absurd (omega (arith, low, high)) }

  pub room_for : (asked : JobAsk) → job_ask_of cmd ≡ Some (told asked) → is_submission (Some (told asked)) ≡ true → HasRoom v.services.jobs
  room_for asked e one =
      let less = issue_ahead v.seats lines a seat behind moves (λ line. cond (submits line.command) 1 0) d in
      let count : count_of cmd ≡ 1 = jobs_of cmd asked e ∙ one_job asked one in
      let tallied = h.submits in
      let most = few.submits in
      omega arith

  pub time_for : (asked : JobAsk) → job_ask_of cmd ≡ Some (told asked) → HasTime v.services.jobs asked
  time_for asked e = on asked (seconds_of_ask cmd asked e)
    where
      less : seconds_in (lines_ahead v.seats lines) ≡ seconds_in (lines_ahead (set v.seats a behind) lines) + seconds_of cmd
      less = issue_ahead v.seats lines a seat behind moves (λ line. seconds_of line.command) d

      on : (a : JobAsk) → seconds_of cmd ≡ seconds_asked a → HasTime v.services.jobs a
      on (ask.Advance seconds) is = let one = less in let tallied = h.seconds in omega arith
      on (ask.Submit label urgency needs text) is = tt
      on (ask.Cancel label) is = tt
      on (ask.Raise label kind severity note) is = tt
      on (ask.Urge label urgency) is = tt
      on (ask.StateOf label) is = tt
      on (ask.Info label key) is = tt
      on ask.Jobs is = tt
      on (ask.Why label) is = tt
      on (ask.ResultOf label) is = tt
      on (ask.Watch label) is = tt

-- once it is issued, it is counted
module _ (v : InstanceValue) (lines : List Line) (h : IsTallied v lines) (a : ℕ) (seat new : Seat) (m : MovesOn v.seats lines a seat new.next) (after : InstanceValue) (seats : after.seats ≡ set v.seats a new) (d : Line) where
  abbrev issued : Command
  issued = (get_or lines seat.next d).command

  submits_less : submits_in (lines_ahead v.seats lines) ≡ submits_in (lines_ahead after.seats lines) + count_of issued
  submits_less = issue_ahead v.seats lines a seat new m (λ line. cond (submits line.command) 1 0) d ∙ ap (λ ss. submits_in (lines_ahead ss lines) + count_of issued) (sym seats)

  seconds_less : seconds_in (lines_ahead v.seats lines) ≡ seconds_in (lines_ahead after.seats lines) + seconds_of issued
  seconds_less = issue_ahead v.seats lines a seat new m (λ line. seconds_of line.command) d ∙ ap (λ ss. seconds_in (lines_ahead ss lines) + seconds_of issued) (sym seats)

  -- as a command on jobs
  pub tallied_job : (asked : JobAsk) → job_ask_of issued ≡ Some (told asked) → Counts asked v.services.jobs after.services.jobs → IsTallied after lines
  tallied_job asked e counts = record {
    submits = let less = submits_less in let is = jobs_of issued asked e in let counted = counts.submitted in let tallied = h.submits in omega arith;
    seconds = let less = seconds_less in let is = seconds_of_ask issued asked e in let counted = counts.span in let tallied = h.seconds in omega arith;
  }

  -- as another one, which counts for nothing
  pub tallied_other : CountsNone (job_ask_of issued) → KeepsCounts v.services.jobs after.services.jobs → IsTallied after lines
  tallied_other e keeps = record {
    submits = let less = submits_less in let is = command_jobs issued ∙ e.0 in let counted = keeps.submitted in let tallied = h.submits in omega arith;
    seconds = let less = seconds_less in let is = command_seconds issued ∙ e.1 in let counted = keeps.span in let tallied = h.seconds in omega arith;
  }
