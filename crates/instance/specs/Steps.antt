-- Which steps an instance can make.
use Rattle.std.specs.Prelude.{◌≡◌, ℕ, ◌&&◌, nat_lt, Bool, false, List, [], Option, None, is_some, length, option_and_then, slice_get}
use Rattle.std.specs.Option.{option_map_or}
use Rattle.services.specs.kvs_rules.declared.events.KvsStep.{KvsStep}
use Rattle.services.specs.Steps.{can_step}
use Rattle.services.specs.Value.{ServicesValue}
use Rattle.services.specs.workload.declared.work.Line.{Line}
use Rattle.services.specs.answers.declared.steps.Step.{Step}
use Rattle.services.specs.answers.declared.steps.Step.TheVariants as step
use Rattle.instance.specs.declared.seats.OpenLook.{OpenLook}
use Rattle.instance.specs.declared.seats.Seat.{Seat}
use Rattle.instance.specs.Family.{is_due, targets_left}
use Rattle.instance.specs.Seats.{has_come, is_fed_next, is_free, last_command, look_in}
use Rattle.instance.specs.Value.{InstanceValue}

-- whether the actor at this seat can be issued its next command, of so many lines
abbrev pub has_issue : ℕ → List Seat → ℕ → Bool
has_issue lines seats actor = option_map_or (λ seat. is_free seat.waiting && nat_lt seat.next lines)
    (slice_get seats actor) false

-- the line of the actor's next command
abbrev pub next_of : List Seat → ℕ → ℕ
next_of seats actor = option_map_or (λ seat. seat.next) (slice_get seats actor) 0

-- whether the open command of the actor at this seat can be replied
abbrev pub has_answer : ServicesValue → List Seat → ℕ → Bool
has_answer services seats actor = option_map_or
    (λ seat. has_come services (last_command actor seat) seat.waiting)
    (slice_get seats actor) false

-- whether the open command of the actor at this seat is a watch that can be fed
abbrev pub has_feed : ServicesValue → List Seat → ℕ → Bool
has_feed services seats actor = option_map_or
    (λ seat. is_fed_next services (last_command actor seat) seat) (slice_get seats actor) false

-- whether the actor's next command can be issued
abbrev pub can_issue : List Line → InstanceValue → ℕ → Bool
can_issue lines v actor = has_issue (length lines) v.seats actor

-- whether the actor's open command can be replied
abbrev pub can_answer : InstanceValue → ℕ → Bool
can_answer v actor = has_answer v.services v.seats actor

-- whether the actor's open watch can be fed
abbrev pub can_feed : InstanceValue → ℕ → Bool
can_feed v actor = has_feed v.services v.seats actor

-- the open look of an actor
abbrev pub look_of : InstanceValue → ℕ → Option OpenLook
look_of v actor = option_and_then look_in (slice_get v.seats actor)

-- whether something that is due can be posted
abbrev pub can_post : InstanceValue → Bool
can_post v = is_some v.services.jobs.found

-- no step of the services, no feed and no reply can be made, no look is open, and nothing is posted
-- or due: an issue, the end or the time goes on
pub record IsAtRest (v : InstanceValue) : Type 0 where
  pub steps : (s : KvsStep) → can_step v.services s ≡ false
  pub feeds : (actor : ℕ) → can_feed v actor ≡ false
  pub answers : (actor : ℕ) → can_answer v actor ≡ false
  pub looks : (actor : ℕ) → look_of v actor ≡ None
  pub due : is_due v ≡ false

-- nothing can happen but the end: no advance waits for a later second, and nothing is to be issued
pub record IsOver (lines : List Line) (v : InstanceValue) : Type 0 where
  pub steps : (s : KvsStep) → can_step v.services s ≡ false
  pub feeds : (actor : ℕ) → can_feed v actor ≡ false
  pub answers : (actor : ℕ) → can_answer v actor ≡ false
  pub looks : (actor : ℕ) → look_of v actor ≡ None
  pub due : is_due v ≡ false
  pub targets : targets_left v ≡ []
  pub issues : (actor : ℕ) → can_issue lines v actor ≡ false

-- the step issues a command, or lets time go on
abbrev pub IsStart : Step → Type 0
IsStart (step.Issue actor) = Unit {0}
IsStart step.Tick = Unit {0}
IsStart _ = ⊥
