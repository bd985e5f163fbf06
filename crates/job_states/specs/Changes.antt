-- What an event asks of a job, by its name and its context.
use Rattle.std.specs.Prelude.{ℕ, ◌-◌, ◌^◌, List, [], ◌∷◌, Bool, ◌||◌, Option, Some, None, is_none, is_some, codes, option_and_then, option_map, nat_le, if◌then◌else◌}
use Rattle.std.specs.Str.{bytes_eq}
use Rattle.std.specs.Result.{result_ok}
use Rattle.outcomes.specs.Outcomes.{or_else}
use Rattle.serde_json.specs.Data.{Data}
use Rattle.serde_json.specs.Find.{get, as_str, as_bool}
use Rattle.fl_json.specs.Reading.{reading, as_natural}
use Rattle.event_log.specs.declared.event.Event.{Event}
use Rattle.job_states.specs.declared.job.Change.{Change}
use Rattle.job_states.specs.declared.job.Change.TheVariants.{Submit, Validate, AddDependency, RemoveDependency, Depend, Prioritize, Urge, Alloc, Restart, Start, Finish, Except, Release, Free, Clean}

infixl 10 ◌>>=◌
abbrev pub ◌>>=◌ : {A B : Type 0} → Option A → (A → Option B) → Option B
None >>= f = None
(Some x) >>= f = f x

-- ---- the parts of a context

-- what a context has under a key, seen as one kind of value
abbrev pub part : {A : Type 0} → (Data → Option A) → List ℕ → Data → Option A
part kind key context = option_and_then kind (get key context)

-- a whole number below 2^64
abbrev pub number_at : List ℕ → Data → Option ℕ
number_at key context = part as_natural key context

-- a number that is at most this one
abbrev pub number_to : ℕ → List ℕ → Data → Option ℕ
number_to most key context = number_at key context >>= λ n. if nat_le n most then Some n else None

-- what a context has under a key, if anything, is a number that is at most this one
abbrev pub allows : ℕ → List ℕ → Data → Bool
allows most key context = is_none (get key context) || is_some (number_to most key context)

-- a text
abbrev pub text_at : List ℕ → Data → Option (List ℕ)
text_at key context = part as_str key context

-- `true` or `false`
abbrev pub truth_at : List ℕ → Data → Option Bool
truth_at key context = part as_bool key context

-- ---- the events

-- what stands behind this name
abbrev pub named : {A : Type 0} → List ℕ → List (List ℕ × A) → Option A
named name [] = None
named name (row ∷ rows) = if bytes_eq name row.0 then Some row.1 else named name rows

-- the events that need nothing of a context
abbrev pub plain_change : List ℕ → Option Change
plain_change name = named name (
    (codes "validate", Validate)
    ∷ (codes "depend", Depend)
    ∷ (codes "alloc", Alloc)
    ∷ (codes "flux-restart", Restart)
    ∷ (codes "start", Start)
    ∷ (codes "free", Free)
    ∷ (codes "clean", Clean)
    ∷ []
    )

abbrev pub submission : Data → Option Change
submission context = do
  userid ← number_to (2 ^ 32 - 1) (codes "userid") context
  urgency ← number_to 31 (codes "urgency") context
  flags ← number_at (codes "flags") context
  version ← number_at (codes "version") context
  Some (Submit userid urgency)

abbrev pub urging : Data → Option Change
urging context = do
  urgency ← number_to 31 (codes "urgency") context
  userid ← number_to (2 ^ 32 - 1) (codes "userid") context
  Some (Urge urgency)

-- the user may lack
abbrev pub exception : Data → Option Change
exception context = do
  severity ← number_to 7 (codes "severity") context
  type ← text_at (codes "type") context
  if allows (2 ^ 32 - 1) (codes "userid") context then Some (Except severity) else None

abbrev pub releasing : Data → Option Change
releasing context = do
  ranks ← text_at (codes "ranks") context
  last ← truth_at (codes "final") context
  Some (Release last)

-- the events that need parts of a context
abbrev pub change_by : List ℕ → Data → Option Change
change_by name context = named name (
    (codes "submit", submission context)
    ∷ (codes "dependency-add", option_map AddDependency (text_at (codes "description") context))
    ∷ (
      codes "dependency-remove",
      option_map RemoveDependency
          (text_at (codes "description") context),
    )
    ∷ (codes "priority", option_map Prioritize (number_to (2 ^ 32 - 1) (codes "priority") context))
    ∷ (codes "urgency", urging context)
    ∷ (codes "finish", option_map Finish (number_at (codes "status") context))
    ∷ (codes "exception", exception context)
    ∷ (codes "release", releasing context)
    ∷ []
    ) >>= λ change. change

-- the value of an event's context
abbrev pub context_of : Event → Option Data
context_of event = event.context >>= λ context. result_ok (reading context)

-- what an event asks; none where its name is unknown or its context lacks what is needed
abbrev pub change_of : Event → Option Change
change_of event = or_else (plain_change event.name) (context_of event >>= change_by event.name)
