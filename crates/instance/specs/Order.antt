-- The actors that can be fed, replied to or issued a command, in the order in which these steps are
-- made, and the posts of the job manager.
use Rattle.std.specs.Prelude.{ℕ, ◌==◌, ◌&&◌, List, [], ◌∷◌, Bool, false, Option, Some, None, length, filter_map, slice_get, option_and_then, if◌then◌else◌}
use Rattle.std.specs.List.{filter, range_with_len}
use Rattle.std.specs.Option.{option_map_or}
use Rattle.services.specs.workload.declared.work.Line.{Line}
use Rattle.instance.specs.declared.seats.Seat.{Seat}
use Rattle.instance.specs.Seats.{is_free}
use Rattle.services.specs.answers.declared.steps.Step.{Step}
use Rattle.services.specs.answers.declared.steps.Step.TheVariants as step
use Rattle.instance.specs.Steps.{can_answer, can_feed, can_post}
use Rattle.instance.specs.Value.{InstanceValue}

-- the actors whose open watch can be fed
abbrev pub feeds : InstanceValue → List ℕ
feeds v = filter (can_feed v) (range_with_len 0 (length v.seats))

-- the actors whose open command can be replied
abbrev pub answers : InstanceValue → List ℕ
answers v = filter (can_answer v) (range_with_len 0 (length v.seats))

-- the post of what is due, if something is to be posted
abbrev pub posts : InstanceValue → List Step
posts v = if can_post v then step.Post 0 ∷ [] else []

-- whether the actor's next command stands in this line, and the actor waits for nothing
abbrev pub is_next_line : List Seat → ℕ → ℕ → Bool
is_next_line seats actor line = option_map_or (λ seat. is_free seat.waiting && (seat.next == line))
    (slice_get seats actor) false

-- the actor of this line, if its command can be issued
abbrev pub issue_of : List Line → List Seat → ℕ → Option ℕ
issue_of lines seats at = option_and_then (λ line. if is_next_line seats line.actor at
    then Some line.actor else None) (slice_get lines at)

-- the actors whose next command can be issued, in the order of the workload's lines
abbrev pub issues : List Line → InstanceValue → List ℕ
issues lines v = filter_map (issue_of lines v.seats) (range_with_len 0 (length lines))
