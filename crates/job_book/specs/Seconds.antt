-- The next second at which something happens by itself, and whose child is to be born.
use Rattle.std.specs.Prelude.{◌≡◌, ◌&&◌, ℕ, List, [], Bool, true, false, not, Option, Some, None, min, nat_lt, if◌then◌else◌}
use Rattle.std.specs.Option.{option_map_or}
use Rattle.job_deeds.specs.job_states.Table.{is_state}
use Rattle.job_deeds.specs.job_states.declared.job.State.TheVariants as state
use Rattle.job_deeds.specs.shells.Endings.{ending_of}
use Rattle.job_deeds.specs.shells.declared.ends.Ending.{Ending}
use Rattle.job_deeds.specs.shells.declared.ends.Ending.TheVariants as ending
use Rattle.job_deeds.specs.manager_rules.declared.asked.Asked.{Asked}
use Rattle.job_deeds.specs.manager_rules.Jobs.{StoredJob}
use Rattle.job_deeds.specs.manager_rules.Scene.{has_child}
use Rattle.job_deeds.specs.manager_rules.Times.{IsLeast}

-- a command that ends with the instance that it begins
abbrev pub begins_child : Ending → Bool
begins_child (ending.At second status) = false
begins_child ending.Child = true

-- a job that runs a child's command
abbrev pub is_parent : StoredJob → Bool
is_parent j = is_state j.job.state state.Run && (j.job.started
    && option_map_or (λ start. begins_child (ending_of j.spec start)) j.start false)

-- a job that is to have a child
abbrev pub is_bearing : List Asked → StoredJob → Bool
is_bearing asked j = is_parent j && not (has_child asked j.id)

-- the least of some numbers, if there are any
abbrev pub IsSoonest : List ℕ → Option ℕ → Type 0
IsSoonest numbers None = numbers ≡ []
IsSoonest numbers (Some n) = IsLeast numbers n

-- the least with one more, which counts where it is ahead
abbrev pub sooner_of : ℕ → Option ℕ → Option ℕ → Option ℕ
sooner_of now next None = next
sooner_of now None (Some second) = if nat_lt now second then Some second else None
sooner_of now (Some first) (Some second) =
    if nat_lt now second then Some (min first second) else Some first
