-- The workload that a text spells, and the first fault of a text that spells none.
use Rattle.std.specs.Prelude.{ℕ, ◌+◌, ◌==◌, nat_lt, nat_le, List, [], ◌∷◌, ◌++◌, Bool, true, not, ◌&&◌, ◌||◌, Option, Some, None, is_none, length, codes, unwrap_or, if◌then◌else◌}
use Rattle.std.specs.Option.{option_map, option_map_or, option_to_list}
use Rattle.std.specs.Str.{bytes_eq, is_utf8}
use Rattle.outcomes.specs.Outcomes.{first_of, or_else}
use Rattle.run_limits.specs.Limits.{most_text}
use Rattle.workload.specs.Limits.{most_line, most_actors, most_commands}
use Rattle.workload_reader.specs.Lines.{TextLine, lines_of}
use Rattle.workload.specs.Words.{first_word, behind_word, is_empty, is_name, is_number, number_value}
use Rattle.workload.specs.Actors.{place_of}
use Rattle.workload.specs.Laws.{empty}
use Rattle.workload_reader.specs.Verbs.{faults_of, verb_of, said, said_by}
use Rattle.workload_reader.specs.Grants.{grant_faults, with_grant}
use Rattle.workload.specs.declared.work.Actor.{Actor}
use Rattle.workload.specs.declared.work.Command.{Command}
use Rattle.workload.specs.declared.work.Line.{Line}
use Rattle.workload.specs.declared.work.Workload.{Workload}
use Rattle.workload_reader.specs.declared.faults.LineFault.{LineFault}
use Rattle.workload_reader.specs.declared.faults.LineFault.TheVariants as line_fault
use Rattle.workload_reader.specs.declared.faults.Which.TheVariants as which

-- a line that is passed over: it has no word, or its first word begins with `#`
abbrev pub is_passed_over : List ℕ → Bool
is_passed_over [] = true
is_passed_over (b ∷ bs) = b == 35

-- the line begins with this word
abbrev pub begins_with : List ℕ → List ℕ → Bool
begins_with word line = bytes_eq (first_word line) word

-- the label that the words behind an actor's rank name, where there are words
abbrev pub label_in : List ℕ → Option (List ℕ)
label_in words = if is_empty (first_word words) then None else Some (first_word (behind_word words))

-- those words are none, or `of` and a label
abbrev pub is_home : List ℕ → Bool
is_home words = is_empty (first_word words) || bytes_eq (first_word words) (codes "of")
    && is_name (first_word (behind_word words))
    && is_empty (first_word (behind_word (behind_word words)))

-- the actor that the text behind the word `actor` declares
abbrev pub actor_of : List ℕ → Actor
actor_of tail = record {
  name = first_word tail;
  rank = number_value (first_word (behind_word tail));
  of = label_in (behind_word (behind_word tail));
}

-- that text is one free name, one word, and for an actor of a child the label of its job
abbrev pub is_declaration : List Actor → List ℕ → Bool
is_declaration actors tail = is_name (first_word tail)
    && not (bytes_eq (first_word tail) (codes "actor"))
    && not (bytes_eq (first_word tail) (codes "grant"))
    && is_none (place_of (first_word tail) actors)
    && not (is_empty (first_word (behind_word tail)))
    && is_home (behind_word (behind_word tail))

-- the faults of the text behind the word `actor`, in their order; the size is the top instance's
abbrev pub declaration_faults : ℕ → List Actor → ℕ → List ℕ → List (Bool × LineFault)
declaration_faults size actors number tail =
    (not (is_declaration actors tail), line_fault.BadCommand number)
    ∷ (not (is_number (first_word (behind_word tail))), line_fault.BadNumber number)
    ∷ (
      is_none (actor_of tail).of
          && nat_le size (actor_of tail).rank,
      line_fault.Limit number which.Rank,
    )
    ∷ []

-- the faults of an actor's line, in their order
abbrev pub actor_faults : ℕ → List Actor → ℕ → List ℕ → List (Bool × LineFault)
actor_faults size actors number tail =
    (nat_le most_actors (length actors), line_fault.Limit number which.Actors)
    ∷ declaration_faults size actors number tail

-- the faults of what the actor of this number says, in their order; the text begins with the verb
unfoldable pub verb_faults : Workload → ℕ → ℕ → List ℕ → List (Bool × LineFault)
verb_faults work by number text =
    option_map_or (λ v. faults_of number (said_by work by v (behind_word text)))
    (verb_of (first_word text)) ((true, line_fault.BadCommand number) ∷ [])

-- the faults of a command's line, in their order
abbrev pub command_faults : Workload → ℕ → List ℕ → List (Bool × LineFault)
command_faults work number line =
    (nat_le most_commands (length work.lines), line_fault.Limit number which.Commands)
    ∷ (is_none (place_of (first_word line) work.actors), line_fault.NoActor number)
    ∷ verb_faults work (unwrap_or (place_of (first_word line) work.actors) 0) number
    (behind_word line)

-- the faults of a line of this number, in their order, where the lines before it spell this
-- workload
abbrev pub line_faults : ℕ → Workload → ℕ → TextLine → List (Bool × LineFault)
line_faults size work number line =
    (nat_lt most_line line.bytes, line_fault.Limit number which.Line)
    ∷ (if is_passed_over (first_word line.text) then []
    else if begins_with (codes "actor") line.text
    then actor_faults size work.actors number (behind_word line.text)
    else if begins_with (codes "grant") line.text
    then grant_faults work number (behind_word line.text)
    else command_faults work number line.text)

-- the command that a text spells, where its first word is a verb
abbrev pub command_of : Workload → List ℕ → Option Command
command_of work text =
    option_map (λ v. (said work v (behind_word text)).command) (verb_of (first_word text))

-- the command line that a line is, where its second word is a verb
abbrev pub line_of : Workload → List ℕ → Option Line
line_of work line = option_map (λ c. record {
  actor = unwrap_or
      (place_of (first_word line) work.actors) 0;
  command = c;
}) (command_of work (behind_word line))

-- the workload with an actor more
abbrev pub with_actor : Workload → List ℕ → Workload
with_actor work tail = record work { actors = work.actors ++ actor_of tail ∷ [] }

-- the workload with a command line more
abbrev pub with_command : Workload → List ℕ → Workload
with_command work line = record work { lines = work.lines ++ option_to_list (line_of work line) }

-- the workload of one line more, which has no fault
abbrev pub with_line : Workload → TextLine → Workload
with_line work line = if is_passed_over (first_word line.text) then work
    else if begins_with (codes "actor") line.text then with_actor work (behind_word line.text)
    else if begins_with (codes "grant") line.text then with_grant work (behind_word line.text)
    else with_command work line.text

-- the workload of further lines
abbrev pub with_lines : Workload → List TextLine → Workload
with_lines work [] = work
with_lines work (line ∷ more) = with_lines (with_line work line) more

-- the first fault of further lines, the first of which has this number
abbrev pub fault_in : ℕ → Workload → ℕ → List TextLine → Option LineFault
fault_in size work number [] = None
fault_in size work number (line ∷ more) = or_else (first_of (line_faults size work number line))
    (fault_in size (with_line work line) (number + 1) more)

-- the first fault of a text, if it has one: a workload's text has none
unfoldable pub first_fault : ℕ → List ℕ → Option LineFault
first_fault size text = if nat_lt most_text (length text) then Some line_fault.TooLong
    else if not (is_utf8 text) then Some line_fault.NotUtf8
    else fault_in size empty 1 (lines_of text)

-- a text without a fault spells this workload
unfoldable pub spelled : List ℕ → Workload
spelled text = with_lines empty (lines_of text)
