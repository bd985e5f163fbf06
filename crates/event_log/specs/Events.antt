-- The event that a JSON value tells, and the text of an event (Flux RFC 18).
use Rattle.std.specs.Prelude.{◌≡◌, ◌||◌, ◌==◌, ◌<◌, ◌^◌, ℕ, List, [], ◌∷◌, ◌++◌, Bool, true, not, Option, Some, None, Result, Ok, Err, codes, decimal, length, if◌then◌else◌, IfSome}
use Rattle.std.specs.List.{list_all}
use Rattle.std.specs.Str.{bytes_eq, IsUtf8}
use Rattle.lists.specs.Ascii.{newline}
use Rattle.json.specs.Print.{quoted}
use Rattle.serde_json.specs.Data.{Data, Members, depth}
use Rattle.serde_json.specs.Data as json
use Rattle.serde_json.specs.Find.{as_str}
use Rattle.serde_json.specs.Read.{max_depth}
use Rattle.serde_json.specs.Written.{compact_text}
use Rattle.fl_json.specs.Reading.{reading, field_as, as_any, as_natural}
use Rattle.fl_json.specs.Valid.{HaveValid}
use Rattle.fl_json.specs.declared.faults.JsonFault.{JsonFault}
use Rattle.fl_json.specs.declared.faults.JsonFault.TheVariants.{NoMemory, BadNumber, NotJson, Missing, WrongKind}
use Rattle.event_log.specs.declared.event.Event.{Event}

infixl 10 ◌>>=◌
abbrev pub ◌>>=◌ : {A B E : Type 0} → Result A E → (A → Result B E) → Result B E
(Ok x) >>= f = f x
(Err e) >>= f = Err e

-- the value where a test holds
abbrev pub only_if : {A : Type 0} → Bool → A → Result A JsonFault
only_if test x = if test then Ok x else Err WrongKind

-- the timestamp: a whole number of at least 0
abbrev pub timestamp_of : Data → Result ℕ JsonFault
timestamp_of d = field_as as_natural (codes "timestamp") d

-- the name: text that isn't empty
abbrev pub name_of : Data → Result (List ℕ) JsonFault
name_of d = field_as as_str (codes "name") d >>= λ name. only_if (not (length name == 0)) name

-- the canonical text of an object
abbrev pub object_text : Data → Result (List ℕ) JsonFault
object_text json.null = Err WrongKind
object_text (json.boolean b) = Err WrongKind
object_text (json.number n) = Err WrongKind
object_text (json.string s) = Err WrongKind
object_text (json.array ds) = Err WrongKind
object_text (json.object ms) = Ok (compact_text (json.object ms))

-- what is made of a field that may be missing
abbrev pub if_there : {A B : Type 0} → (A → Result B JsonFault)
    → Result A JsonFault → Result (Option B) JsonFault
if_there f (Ok x) = f x >>= λ y. Ok (Some y)
if_there f (Err NoMemory) = Err NoMemory
if_there f (Err (BadNumber place)) = Err (BadNumber place)
if_there f (Err NotJson) = Err NotJson
if_there f (Err Missing) = Ok None
if_there f (Err WrongKind) = Err WrongKind

-- the context: the canonical text of an object, if it is there
abbrev pub context_of : Data → Result (Option (List ℕ)) JsonFault
context_of d = if_there object_text (field_as as_any (codes "context") d)

-- no key but the three of an event
abbrev pub is_event_key : List ℕ → Bool
is_event_key key = bytes_eq key (codes "timestamp")
    || bytes_eq key (codes "name") || bytes_eq key (codes "context")

abbrev pub keys_of : Members → List (List ℕ)
keys_of json.no_members = []
keys_of (json.member key d ms) = key ∷ keys_of ms

abbrev pub has_event_keys : Data → Bool
has_event_keys json.null = true
has_event_keys (json.boolean b) = true
has_event_keys (json.number n) = true
has_event_keys (json.string s) = true
has_event_keys (json.array ds) = true
has_event_keys (json.object ms) = list_all is_event_key (keys_of ms)

-- the event that a value tells, or the first fault
unfoldable pub event_of : Data → Result Event JsonFault
event_of d = do
  timestamp ← timestamp_of d
  name ← name_of d
  context ← context_of d
  only_if (has_event_keys d) (record { timestamp = timestamp; name = name; context = context })

-- the event that a line tells, without its newline
abbrev pub told : List ℕ → Result Event JsonFault
told line = reading line >>= event_of

-- ---- writing

abbrev pub context_text : Option (List ℕ) → List ℕ
context_text None = []
context_text (Some context) = codes "\"context\":" ++ context ++ codes ","

-- the line of an event: compact, with its keys in order, and a newline
abbrev pub line_text : Event → List ℕ
line_text event = codes "{" ++ context_text event.context ++ codes "\"name\":" ++ quoted event.name
    ++ codes ",\"timestamp\":" ++ decimal event.timestamp ++ (codes "}" ++ newline ∷ [])

-- the canonical text of an object, which nests less deep than what is read
pub record IsObjectText (text : List ℕ) : Type 0 where
  pub members : Members
  pub valid : HaveValid members
  pub is : text ≡ compact_text (json.object members)
  pub utf8 : IsUtf8 text
  pub nests : depth (json.object members) < max_depth

-- an event that a log can tell
pub record IsEvent (event : Event) : Type 0 where
  pub timed : event.timestamp < 2 ^ 64
  pub named : 0 < length event.name
  pub utf8 : IsUtf8 event.name
  pub context : IfSome event.context IsObjectText
