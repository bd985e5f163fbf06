-- The text of a generated workload.
use Rattle.std.specs.Prelude.{ℕ, ◌+◌, ◌%◌, List, [], ◌∷◌, ◌++◌, codes, decimal, flat_map}
use Rattle.std.specs.List.{range_with_len}
use Rattle.lists.specs.Ascii.{newline}
use Rattle.workload_generator.specs.declared.drawn.Drawn.{Drawn}
use Rattle.workload_generator.specs.declared.drawn.Kind.{Kind}
use Rattle.workload_generator.specs.declared.drawn.Kind.TheVariants as kind
use Rattle.workload_generator.specs.Drawn.{asked, drawn, submissions}

-- the line of an actor, at one of the brokers 0 to 6
unfoldable pub actor_line : ℕ → List ℕ
actor_line number =
    codes "actor a" ++ decimal number ++ codes " " ++ decimal (number % 7) ++ newline ∷ []

-- a jobspec, version 1 (RFC 25): so many slots of one core, and a command that sleeps for so many
-- seconds
unfoldable pub jobspec : ℕ → ℕ → List ℕ
jobspec slots seconds = codes "{\"resources\":[{\"type\":\"slot\",\"count\":" ++ decimal slots
    ++ codes ",\"with\":[{\"type\":\"core\",\"count\":1}],\"label\":\"task\"}],"
    ++ codes "\"tasks\":[{\"command\":[\"sleep\",\"" ++ decimal seconds
    ++ codes "\"],\"slot\":\"task\",\"count\":{\"per_slot\":1}}],"
    ++ codes "\"attributes\":{\"system\":{\"duration\":0}},\"version\":1}"

-- a command at a place that asks for this, with what is chosen by a word
abbrev pub command_text : ℕ → Kind → ℕ → List ℕ
command_text place kind.Put choice =
    codes "put k" ++ decimal (choice % 100) ++ codes " v" ++ decimal place
command_text place kind.Append choice =
    codes "append l" ++ decimal (choice % 10) ++ codes " +"
command_text place kind.Commit choice = codes "commit"
command_text place kind.Get choice = codes "get k" ++ decimal (choice % 100)
command_text place kind.Submit choice =
    codes "submit j" ++ decimal place ++ codes " " ++ jobspec (choice % 4 + 1) (choice % 5)
command_text place kind.Advance choice = codes "advance " ++ decimal (choice % 3)

-- the line of a command at a place that asks for this: one of the eight actors, and the command
unfoldable pub line_text : ℕ → Kind → Drawn → List ℕ
line_text place wanted words = codes "a" ++ decimal (words.actor % 8) ++ codes " "
    ++ command_text place wanted words.choice ++ newline ∷ []

-- the line of the command at a place that a seed draws
abbrev pub command_line : ℕ → ℕ → List ℕ
command_line seed place =
    line_text place (asked (submissions seed place) (drawn seed place)) (drawn seed place)

-- the lines of so many actors, numbered from 0
abbrev pub actor_lines : ℕ → List ℕ
actor_lines count = flat_map actor_line (range_with_len 0 count)

-- the lines of so many commands that a seed draws, behind those of eight actors
abbrev pub generated : ℕ → ℕ → List ℕ
generated seed count = actor_lines 8 ++ flat_map (command_line seed) (range_with_len 0 count)
