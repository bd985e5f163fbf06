-- The steps that a world can make, in the order in which it makes them.
use Rattle.std.specs.Prelude.{◌==◌, ◌%◌, ◌&&◌, ℕ, max, nat_lt, List, [], ◌∷◌, ◌++◌, Bool, false, Option, Some, None, filter_map, flat_map, length, map, option_and_then, option_map, slice_get, if◌then◌else◌}
use Rattle.std.specs.List.{cons_option, enumerate_from, filter, range_with_len}
use Rattle.std.specs.Option.{option_map_or}
use Rattle.instance.specs.services.Order.{possible, possible_losses}
use Rattle.instance.specs.answers.declared.steps.Step.{Step}
use Rattle.instance.specs.answers.declared.steps.Step.TheVariants as step
use Rattle.instance.specs.Family.{bearing}
use Rattle.instance.specs.Order.{answers, feeds}
use Rattle.instance.specs.Steps.{can_post}
use Rattle.homes.specs.Times.{may_go}
use Rattle.world.specs.Choice.{chosen, losses_left}
use Rattle.world.specs.Looks.{has_look}
use Rattle.world.specs.Steps.{can_issue, can_tick}
use Rattle.world.specs.Value.{WorldValue}
use Rattle.homes.specs.declared.homes.Home.{Home}
use Rattle.homes.specs.declared.homes.Place.{Place}
use Rattle.world.specs.declared.order.Order.{Order}
use Rattle.world.specs.declared.order.Order.TheVariants as order
use Rattle.world.specs.declared.run.drawing.Kind.{Kind}
use Rattle.world.specs.declared.run.drawing.Kind.TheVariants as kind

-- ---- by instance

-- whether an actor at this place waits, whose instance is the one of this number
abbrev pub waits_in : List Place → ℕ → ℕ → Bool
waits_in places i actor = option_map_or
    (λ p. p.waits && option_map_or (λ home. home == i) p.home false) (slice_get places actor) false

-- the actors that wait, whose instance is the one of this number
abbrev pub left_in : List Place → ℕ → List ℕ
left_in places i = filter (waits_in places i) (range_with_len 0 (length places))

-- a step, if it can be made
abbrev pub only_if : Bool → Step → List Step
only_if can s = if can then s ∷ [] else []

-- the steps of a kind that a living instance can make
abbrev pub steps_in : WorldValue → Kind → ℕ → Home → List Step
steps_in v kind.Turn i h = map (step.Kvs i) (possible h.instance.services)
steps_in v kind.Feed i h = map step.Feed (feeds h.instance)
steps_in v kind.Reply i h = map step.Answer (answers h.instance)
steps_in v kind.Post i h = only_if (can_post h.instance) (step.Post i)
steps_in v kind.Birth i h = cons_option (option_map (step.Birth i) (bearing h.instance)) []
steps_in v kind.End i h = only_if (may_go v.homes h) (step.End i)
steps_in v kind.Loss i h = map (step.Kvs i) (possible_losses h.instance.services)

-- those that are left where it has gone: its actors are told
abbrev pub steps_left : WorldValue → Kind → ℕ → List Step
steps_left v kind.Reply i = map step.Answer (left_in v.places i)
steps_left v _ i = []

abbrev pub steps_at : WorldValue → Kind → ℕ × Home → List Step
steps_at v k at = if at.1.gone then steps_left v k at.0 else steps_in v k at.0 at.1

-- the steps of a kind, instance by instance
abbrev pub steps_of : WorldValue → Kind → List Step
steps_of v k = flat_map (steps_at v k) (enumerate_from 0 v.homes)

-- ---- by line

-- whether the next line of an actor that can be issued a command stands here
abbrev pub is_next : WorldValue → ℕ → ℕ → Bool
is_next v at actor = can_issue v actor
    && option_map_or (λ p. p.next == at) (slice_get v.places actor) false

-- the actor of this line, if its command can be issued
abbrev pub issue_at : WorldValue → ℕ → Option ℕ
issue_at v at = option_and_then
    (λ line. if is_next v at line.actor then Some line.actor else None)
    (slice_get v.set.work.lines at)

abbrev pub issues : WorldValue → List ℕ
issues v = filter_map (issue_at v) (range_with_len 0 (length v.set.work.lines))

-- ---- all

-- what can be made before the end, but for losses: a step of a service, a feed of a watch, a reply, a
-- post, a birth, an end of a child, a tick, an issue by line
abbrev pub before_end : WorldValue → List Step
before_end v = steps_of v kind.Turn
    ++ (steps_of v kind.Feed
    ++ (steps_of v kind.Reply
    ++ (steps_of v kind.Post
    ++ (steps_of v kind.Birth
    ++ (steps_of v kind.End
    ++ (only_if (can_tick v) step.Tick ++ map step.Issue (issues v)))))))

-- the losses that may be made
abbrev pub losses : WorldValue → List Step
losses v = if nat_lt 0 (losses_left v.order) then steps_of v kind.Loss else []

-- all that can be made before the end: losses stand last
abbrev pub all_before_end : WorldValue → List Step
all_before_end v = before_end v ++ losses v

-- the end comes where nothing else can
abbrev pub or_close : List Step → List Step
or_close [] = step.Close ∷ []
or_close (s ∷ more) = s ∷ more

-- the steps that can be made where no look is open, in order
abbrev pub free_steps : WorldValue → List Step
free_steps v = if v.closed then [] else or_close (all_before_end v)

-- the kinds of steps that instances have but for losses, in their order
abbrev pub kinds : List Kind
kinds = kind.Turn ∷ kind.Feed ∷ kind.Reply ∷ kind.Post ∷ kind.Birth ∷ kind.End ∷ []

-- the steps of these kinds
abbrev pub by_instances : WorldValue → List Step
by_instances v = flat_map (steps_of v) kinds

-- the next step of a run in one lane: while a look is open nothing is begun, and the others come in
-- their order
abbrev pub next_step : WorldValue → Option Step
next_step v = if has_look v then slice_get (by_instances v) 0 else chosen v.order (free_steps v)

-- the steps among which it is
abbrev pub possible_steps : WorldValue → List Step
possible_steps v = if has_look v then by_instances v else free_steps v

-- ---- in lanes

-- whether an actor is one of this lane's, among so many
abbrev pub is_own : ℕ → ℕ → ℕ → Bool
is_own count lane actor = actor % count == lane % count

-- the issues of a lane's actors, by line
abbrev pub own_issues : WorldValue → ℕ → ℕ → List ℕ
own_issues v count lane = filter (is_own count lane) (issues v)

-- the end, where nothing is left
abbrev pub end_behind : List Step → List Step
end_behind [] = step.Close ∷ []
end_behind (s ∷ more) = []

-- what any lane may make behind the steps of instances: a tick or the end, but while a look is open
abbrev pub last_steps : WorldValue → List Step
last_steps v = if has_look v then []
    else only_if (can_tick v) step.Tick ++ end_behind (before_end v)

-- what a lane may make, of so many: first the issues of its own actors
abbrev pub lane_steps : WorldValue → ℕ → ℕ → List Step
lane_steps v count lane =
    map step.Issue (own_issues v count lane) ++ (by_instances v ++ last_steps v)

-- the steps that a lane may make
abbrev pub possible_by : Order → WorldValue → ℕ → List Step
possible_by (order.Lanes count) v lane = lane_steps v (max count 1) lane
possible_by _ v lane = possible_steps v

abbrev pub possible_in : WorldValue → ℕ → List Step
possible_in v lane = if v.closed then [] else possible_by v.order v lane
