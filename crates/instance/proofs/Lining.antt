-- What was issued and what is ahead, where nothing is issued: they depend on no more of the seats than their next lines.
use Rattle.std.proofs.Common.{◌≡◌, ℕ, ◌+◌, ◌≤◌, List, Option, refl, sym, subst, ap₂, ◌∙◌}
use Rattle.std.specs.Prelude.{slice_get}
use Rattle.std.specs.Option.{option_map}
use Rattle.services.specs.job_service.Times.{KeepsCounts}
use Rattle.services.specs.workload.declared.work.Line.{Line}
use Rattle.services.specs.run_limits.Limits.{most_seconds}
use Rattle.services.specs.workload.Tallies.{seconds_in, submits_in}
use Rattle.instance.specs.declared.seats.Seat.{Seat}
use Rattle.instance.specs.Agrees.{IsTallied}
use Rattle.instance.specs.Value.{InstanceValue}
use Rattle.instance.proofs.Ahead.{same_ahead}

-- the place of an actor's next line, if it has a seat
abbrev pub next_at : List Seat → ℕ → Option ℕ
next_at seats a = option_map (λ (seat : Seat). seat.next) (slice_get seats a)

-- each actor's next line is where it was
abbrev pub HaveSameLines : List Seat → List Seat → Type 0
HaveSameLines old new = (a : ℕ) → next_at new a ≡ next_at old a

pub same_lines : (seats : List Seat) → HaveSameLines seats seats
same_lines seats a = refl

-- as many are counted where nothing was issued
pub tallied_on : (old new : InstanceValue) (lines : List Line) → KeepsCounts old.services.jobs new.services.jobs → HaveSameLines old.seats new.seats → IsTallied old lines → IsTallied new lines
tallied_on old new lines kept same h = record {
  submits = ap₂ (λ n ls. n + submits_in ls) kept.submitted (same_ahead old.seats new.seats lines same) ∙ h.submits;
  seconds = subst (λ n. n ≤ most_seconds) (sym (ap₂ (λ n ls. n + seconds_in ls) kept.span (same_ahead old.seats new.seats lines same))) h.seconds;
}
