-- The command whose options clap reads.
use Rattle.std.specs.Prelude.{◌≡◌, ◌≢◌, List, [], ℕ, Bool, Option, None, true, Some, codes}
use Rattle.std.specs.Str.{bytes_eq}
use Rattle.clap.specs.Words.{App, Rule, Text, fault_of, found_of, matches_of, new_app, new_rule, rows_of, with_rule}
use Rattle.clap.specs.Simple.{on_top}
use Rattle.clap.specs.declared.parser.matches.ArgMatches.{ArgMatches}
use Rattle.clap.specs.declared.builder.action.ArgAction.TheVariants.{Set, SetTrue}

-- an option with a value
abbrev pub valued : Text → Rule
valued name = record (new_rule name) { long = Some name; action = Some Set }

-- an option without one
abbrev pub flag : Text → Rule
flag name = record (new_rule name) { long = Some name; action = Some SetTrue }

-- its words stand without the name of the program, and it adds no option of its own
abbrev pub bare : App
bare = on_top (λ s. record s { no_binary_name = true; disable_help_flag = true })
    (new_app (codes "run"))

unfoldable pub run_app : App
run_app = with_rule (with_rule (with_rule (with_rule (with_rule (with_rule (with_rule (with_rule
    bare
    (valued (codes "size"))) (valued (codes "fanout"))) (valued (codes "hash")))
    (valued (codes "shuffle"))) (valued (codes "losses"))) (valued (codes "workers")))
    (flag (codes "journal"))) (flag (codes "backfill"))

-- `--`, which is no option
abbrev pub is_dashes : List ℕ → Bool
is_dashes word = bytes_eq word (codes "--")

-- clap refuses the words, or takes them and has what its walk over them finds
abbrev pub IsParse : List (List ℕ) → Option ArgMatches → Type 0
IsParse words None = fault_of run_app words ≢ []
IsParse words (Some m) = (fault_of run_app words ≡ [])
    × (rows_of (found_of m) ≡ matches_of run_app words)
