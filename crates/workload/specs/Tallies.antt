-- What the command lines of a workload declare and ask for in all.
use Rattle.std.specs.Prelude.{ℕ, ◌+◌, List, Bool, true, false, count_by}
use Rattle.std.specs.List.{list_any, sum_by}
use Rattle.std.specs.Str.{bytes_eq}
use Rattle.workload.specs.declared.work.Command.{Command}
use Rattle.workload.specs.declared.work.Command.TheVariants as command
use Rattle.workload.specs.declared.work.Line.{Line}
use Rattle.std.specs.Option.{option_map_or}
use Rattle.std.specs.Result.{result_ok}
use Rattle.job_spec.specs.Specs.{spec_reading}
use Rattle.shells.specs.declared.ends.Ending.{Ending}
use Rattle.shells.specs.declared.ends.Ending.TheVariants.{At, Child}
use Rattle.shells.specs.Endings.{ending_of}

-- the command submits a job under this label
abbrev pub declares : List ℕ → Command → Bool
declares label (command.Submit other urgency depends spec) = bytes_eq other label
declares label _ = false

-- the label stands in one of these submissions
abbrev pub is_declared : List ℕ → List Line → Bool
is_declared label lines = list_any (λ line. declares label line.command) lines

abbrev pub submits : Command → Bool
submits (command.Submit label urgency depends spec) = true
submits _ = false

-- how many jobs these lines submit
abbrev pub submits_in : List Line → ℕ
submits_in lines = count_by (λ line. submits line.command) lines

-- the command ends with its instance
abbrev pub is_child : Ending → Bool
is_child Child = true
is_child (At second status) = false

-- the text is a jobspec whose command begins an instance
unfoldable pub begins_instance : List ℕ → Bool
begins_instance text =
    option_map_or (λ spec. is_child (ending_of spec 0)) (result_ok (spec_reading text)) false

-- the command submits a job that begins an instance
abbrev pub begins : Command → Bool
begins (command.Submit label urgency depends spec) = begins_instance spec
begins _ = false

-- how many instances there may be: the top, and one for each submission that begins one
abbrev pub instances_in : List Line → ℕ
instances_in lines = count_by (λ line. begins line.command) lines + 1

-- the command asks for an event of the job of this label
abbrev pub posts_on : List ℕ → Command → Bool
posts_on label (command.Cancel other) = bytes_eq other label
posts_on label (command.Raise other kind severity note) = bytes_eq other label
posts_on label (command.Urgency other urgency) = bytes_eq other label
posts_on label _ = false

-- how many events these lines ask for of the job of this label
abbrev pub posts_in : List ℕ → List Line → ℕ
posts_in label lines = count_by (λ line. posts_on label line.command) lines

abbrev pub seconds_of : Command → ℕ
seconds_of (command.Advance seconds) = seconds
seconds_of _ = 0

-- how many seconds these lines let pass
abbrev pub seconds_in : List Line → ℕ
seconds_in lines = sum_by (λ line. seconds_of line.command) lines
