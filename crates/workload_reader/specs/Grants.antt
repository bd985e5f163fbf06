-- The line that names the grant of a workload.
use Rattle.std.specs.Prelude.{ℕ, ◌==◌, List, [], ◌∷◌, Bool, false, not, ◌||◌, Option, is_some, is_none, length}
use Rattle.std.specs.Option.{option_map_or}
use Rattle.resource_set.specs.declared.node.Resources.{Resources}
use Rattle.workload.specs.Grants.{grant_of, is_past_grant}
use Rattle.workload.specs.declared.work.Workload.{Workload}
use Rattle.workload_reader.specs.declared.faults.LineFault.{LineFault}
use Rattle.workload_reader.specs.declared.faults.LineFault.TheVariants as line_fault
use Rattle.workload_reader.specs.declared.faults.Which.TheVariants as which

-- a grant can't stand here: one stands before, or a command
abbrev pub is_late : Workload → Bool
is_late work = is_some work.grant || not (length work.lines == 0)

-- the faults of what a text tells as a grant, in their order
abbrev pub told_faults : ℕ → Option Resources → List (Bool × LineFault)
told_faults number grant = (is_none grant, line_fault.BadCommand number)
    ∷ (option_map_or is_past_grant grant false, line_fault.Limit number which.Grant)
    ∷ []

-- the faults of a grant's line, in their order, where the text behind the word `grant` is this
abbrev pub grant_faults : Workload → ℕ → List ℕ → List (Bool × LineFault)
grant_faults work number text =
    (is_late work, line_fault.BadCommand number) ∷ told_faults number (grant_of text)

-- the workload with the grant that a text tells
abbrev pub with_grant : Workload → List ℕ → Workload
with_grant work text = record work { grant = grant_of text }
