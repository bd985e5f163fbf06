-- An event with a context.
use Rattle.std.specs.Prelude.{ℕ, List, Some}
use Rattle.serde_json.specs.Data.{Data}
use Rattle.serde_json.specs.Written.{compact_text}
use Rattle.event_log.specs.declared.event.Event.{Event}

abbrev pub event_telling : ℕ → List ℕ → Data → Event
event_telling now name context =
    record { timestamp = now; name = name; context = Some (compact_text context) }
