-- The events that a text tells, line by line.
use Rattle.std.specs.Prelude.{◌+◌, ◌==◌, ℕ, List, [], ◌∷◌, Option, Some, None, Result, Ok, Err, length, if◌then◌else◌, flat_map}
use Rattle.std.specs.List.{slice_split}
use Rattle.lists.specs.Ascii.{newline}
use Rattle.fl_json.specs.declared.faults.JsonFault.{JsonFault}
use Rattle.fl_json.specs.declared.faults.JsonFault.TheVariants as json
use Rattle.event_log.specs.declared.event.Event.{Event}
use Rattle.event_log.specs.declared.event.LogFault.{LogFault}
use Rattle.event_log.specs.declared.event.LogFault.TheVariants.{NoMemory, NoNewline, BadLine}
use Rattle.event_log.specs.Events.{◌>>=◌, told, line_text}

-- the event of the line of this number
abbrev pub at_line : {A : Type 0} → ℕ → Result A JsonFault → Result A LogFault
at_line line (Ok x) = Ok x
at_line line (Err fault) = Err (BadLine line fault)

-- the events of the lines from this number on, which stand between newlines; nothing stands behind
-- the last newline
abbrev pub events_from : ℕ → List (List ℕ) → Result (List Event) LogFault
events_from line [] = Ok []
events_from line (last ∷ []) =
    if length last == 0 then Ok [] else (at_line line (told last) >>= λ event. Err NoNewline)
events_from line (first ∷ next ∷ more) = do
  event ← at_line line (told first)
  events ← events_from (line + 1) (next ∷ more)
  Ok (event ∷ events)

-- the events of a log, or its first fault
unfoldable pub log_reading : List ℕ → Result (List Event) LogFault
log_reading text = events_from 1 (slice_split (λ b. b == newline) text)

-- the event of the first line of what is left of a log: a line whose newline is missing counts
-- where it tells an event
abbrev pub first_told : ℕ → List ℕ → List ℕ → Result Event LogFault
first_told line first behind =
    at_line line (told first) >>= λ event. if length behind == 0 then Err NoNewline else Ok event

-- the text of a log: the lines of its events, one after another
abbrev pub log_text : List Event → List ℕ
log_text events = flat_map line_text events

-- the faults that tell of what is read: all but want of memory
abbrev pub lasting : LogFault → Option LogFault
lasting NoMemory = None
lasting fault = Some fault

-- the fault of a log of which a line has this fault
abbrev pub line_fault : ℕ → JsonFault → LogFault
line_fault line json.NoMemory = NoMemory
line_fault line (json.BadNumber place) = BadLine line (json.BadNumber place)
line_fault line json.NotJson = BadLine line json.NotJson
line_fault line json.Missing = BadLine line json.Missing
line_fault line json.WrongKind = BadLine line json.WrongKind
