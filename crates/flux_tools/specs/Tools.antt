-- The tools: which words ask for one, what it prints of the text that it is given, and why it
-- refuses a text.
use Rattle.std.specs.Prelude.{◌≡◌, ◌≢◌, ℕ, List, [], ◌∷◌, ◌++◌, ◌+◌, Option, Some, None, Result, Ok, Err, codes, length, if◌then◌else◌}
use Rattle.std.specs.Option.{option_map_or}
use Rattle.std.specs.Str.{bytes_eq}
use Rattle.std.specs.Io.KnownBytes.{Consumes, IsAtEnd}
use Rattle.lists.specs.Ascii.{newline, space}
use Rattle.outside.specs.Causes.{Rose, HasReadCount}
use Rattle.outside.specs.declared.reading.ReadFault.{ReadFault}
use Rattle.outside.specs.declared.reading.ReadFault.TheVariants as read
use Rattle.idset.specs.declared.faults.IdFault.TheVariants as id
use Rattle.idset.specs.Text as idset
use Rattle.idset.specs.Runs as runs
use Rattle.hostlist.specs.declared.faults.HostFault.TheVariants as host
use Rattle.hostlist.specs.Reading as hostlist
use Rattle.hostlist.specs.Printing.{canonical}
use Rattle.fluid_ids.specs.declared.faults.FluidFault.{FluidFault}
use Rattle.fluid_ids.specs.declared.forms.Form.TheVariants.{F58, Dothex, Decimal}
use Rattle.fluid_ids.specs.Texts as fluid
use Rattle.resource_set.specs.declared.node.Resources.{Resources}
use Rattle.resource_set.specs.declared.faults.RFault.{RFault}
use Rattle.resource_set.specs.Reading as resources
use Rattle.resource_set.specs.Writing.{r_text}
use Rattle.event_log.specs.declared.event.Event.{Event}
use Rattle.event_log.specs.declared.event.LogFault.{LogFault}
use Rattle.event_log.specs.Logs.{log_reading}
use Rattle.job_states.specs.declared.job.Job.{Job}
use Rattle.job_states.specs.declared.job.ReplayFault.{ReplayFault}
use Rattle.job_states.specs.Names.{state_name}
use Rattle.job_states.specs.Replay.{replayed}
use Rattle.run_limits.specs.Limits.{most_text}
use Rattle.flux_tools.specs.declared.tools.ToolName.{ToolName}
use Rattle.flux_tools.specs.declared.tools.ToolName.TheVariants as tool
use Rattle.flux_tools.specs.declared.faults.ToolFault.{ToolFault}
use Rattle.flux_tools.specs.declared.faults.ToolFault.TheVariants.{NoMemory, Id, Host, Fluid, R, Log, Replay, Read}

-- the tool that a word names, whose text is the next word
abbrev pub tool_named : List ℕ → Option ToolName
tool_named name = if bytes_eq name (codes "idset") then Some tool.Idset
    else if bytes_eq name (codes "hostlist") then Some tool.Hostlist
    else if bytes_eq name (codes "fluid") then Some tool.Fluid
    else None

-- the tool that a word names, whose text is what the source has
abbrev pub reader_named : List ℕ → Option ToolName
reader_named name = if bytes_eq name (codes "R") then Some tool.R
    else if bytes_eq name (codes "replay") then Some tool.Replay
    else None

-- the tool that words ask for
abbrev pub asked : List (List ℕ) → Option ToolName
asked [] = None
asked (name ∷ []) = reader_named name
asked (name ∷ text ∷ []) = tool_named name
asked (name ∷ text ∷ more ∷ words) = None

-- the words are a tool's
abbrev pub AreToolWords : List (List ℕ) → Type 0
AreToolWords words = asked words ≢ None

-- the words are those of a tool that reads the source
abbrev pub AreReaderWords : List (List ℕ) → Type 0
AreReaderWords words = AreToolWords words × (length words ≡ 1)

-- ---- what is printed

-- a text and a newline
abbrev pub line : List ℕ → List ℕ
line text = text ++ newline ∷ []

-- the canonical idset, or the leftmost fault (Flux RFC 22)
abbrev pub idset_answer : List ℕ → Result (List ℕ) ToolFault
idset_answer text = option_map_or (λ fault. Err (Id fault))
    (idset.first_fault text) (Ok (line (runs.printed (idset.spelled text))))

-- the canonical hostlist, or the first fault (Flux RFC 29)
abbrev pub hostlist_answer : List ℕ → Result (List ℕ) ToolFault
hostlist_answer text = option_map_or (λ fault. Err (Host fault))
    (hostlist.first_fault text) (Ok (line (canonical (hostlist.spelled text))))

-- the three texts of an id, with a space between
abbrev pub fluid_line : ℕ → List ℕ
fluid_line id =
    line (fluid.printed F58 id ++ space ∷ fluid.printed Dothex id
    ++ space ∷ fluid.printed Decimal id)

-- the three texts of the id that is told, or why there is none (Flux RFC 19)
abbrev pub fluid_told : Result ℕ FluidFault → Result (List ℕ) ToolFault
fluid_told (Ok id) = Ok (fluid_line id)
fluid_told (Err fault) = Err (Fluid fault)

-- the canonical R, or the first fault (Flux RFC 20)
abbrev pub r_told : Result Resources RFault → Result (List ℕ) ToolFault
r_told (Ok r) = Ok (line (r_text r))
r_told (Err fault) = Err (R fault)

-- the name of a job's state, or the first event that may not stand where it does (Flux RFC 21)
abbrev pub job_told : Result Job ReplayFault → Result (List ℕ) ToolFault
job_told (Ok job) = Ok (line (state_name job.state))
job_told (Err fault) = Err (Replay fault)

-- what the events of a log tell, or the log's first fault (Flux RFC 18)
abbrev pub log_told : Result (List Event) LogFault → Result (List ℕ) ToolFault
log_told (Ok events) = job_told (replayed events)
log_told (Err fault) = Err (Log fault)

-- what a tool prints of a text, or why it refuses it
abbrev pub answer : ToolName → List ℕ → Result (List ℕ) ToolFault
answer tool.Idset text = idset_answer text
answer tool.Hostlist text = hostlist_answer text
answer tool.Fluid text = fluid_told (fluid.meaning text)
answer tool.R text = r_told (resources.told text)
answer tool.Replay text = log_told (log_reading text)

-- a call that finds this answer unless it wants memory; a text that is there is never one that
-- can't be read
abbrev pub Fails : ToolFault → Result (List ℕ) ToolFault → Type 0
Fails NoMemory found = Unit {0}
Fails (Id fault) found = found ≡ Err (Id fault)
Fails (Host fault) found = found ≡ Err (Host fault)
Fails (Fluid fault) found = found ≡ Err (Fluid fault)
Fails (R fault) found = found ≡ Err (R fault)
Fails (Log fault) found = found ≡ Err (Log fault)
Fails (Replay fault) found = found ≡ Err (Replay fault)
Fails (Read fault) found = ⊥

abbrev pub Gives : {X : Type 0} → (X → List ℕ) → Result X ToolFault
    → Result (List ℕ) ToolFault → Type 0
Gives seen (Ok x) found = found ≡ Ok (seen x)
Gives seen (Err fault) found = Fails fault found

-- ---- the text that a tool is given

-- the text that words give their tool: the word behind its name, or all that the source has
abbrev pub IsGiven : List (List ℕ) → Option (List ℕ) → Option (List ℕ) → List ℕ → Type 0
IsGiven [] before after text = ⊥
IsGiven (name ∷ []) before after text = Consumes before after text × IsAtEnd after
IsGiven (name ∷ word ∷ words) before after text = text ≡ word

-- what the words' tool prints of the text that it is given, or why it refuses it
pub record HasAnswer (words : List (List ℕ)) (before after : Option (List ℕ))
    (found : Result (List ℕ) ToolFault) : Type 0 where
  pub name : ToolName
  pub is : asked words ≡ Some name
  pub text : List ℕ
  pub given : IsGiven words before after text
  pub answered : answer name text ≡ found

-- the source went on past the most bytes
abbrev pub GoesOn : Option (List ℕ) → Option (List ℕ) → Type 0
GoesOn before after = (bytes : List ℕ) × Consumes before after bytes
    × (length bytes ≡ most_text + 1)

-- a tool that reads the source finds too much there
abbrev pub IsLong : List (List ℕ) → Option (List ℕ) → Option (List ℕ) → ReadFault → Type 0
IsLong words before after read.NoMemory = ⊥
IsLong words before after read.Failed = ⊥
IsLong words before after read.TooLong = AreReaderWords words × GoesOn before after

-- why a tool refuses the text that it is given
abbrev pub IsRefused : List (List ℕ) → Option (List ℕ) → Option (List ℕ) → ToolFault → Type 0
IsRefused words before after NoMemory = ⊥
IsRefused words before after (Read fault) = IsLong words before after fault
IsRefused words before after (Id fault) = HasAnswer words before after (Err (Id fault))
IsRefused words before after (Host fault) = HasAnswer words before after (Err (Host fault))
IsRefused words before after (Fluid fault) = HasAnswer words before after (Err (Fluid fault))
IsRefused words before after (R fault) = HasAnswer words before after (Err (R fault))
IsRefused words before after (Log fault) = HasAnswer words before after (Err (Log fault))
IsRefused words before after (Replay fault) = HasAnswer words before after (Err (Replay fault))

-- why a tool prints nothing: want of memory, a source that failed, or a text that it refuses
abbrev pub HasCause : List (List ℕ) → Option (List ℕ) → Option (List ℕ) → ℕ → ℕ → ToolFault → Type 0
HasCause words before after old new NoMemory = Unit {0}
HasCause words before after old new (Read read.Failed) = AreReaderWords words × Rose old new
HasCause words before after old new fault = IsRefused words before after fault

-- the source's count of faults behind a tool's call: it rose where the source failed, and else it
-- stayed
abbrev pub HasCount : {T : Type 0} → ℕ → ℕ → Result T ToolFault → Type 0
HasCount old new (Ok x) = new ≡ old
HasCount old new (Err (Read fault)) = HasReadCount {T = ℕ} old new (Err fault)
HasCount old new (Err NoMemory) = new ≡ old
HasCount old new (Err (Id fault)) = new ≡ old
HasCount old new (Err (Host fault)) = new ≡ old
HasCount old new (Err (Fluid fault)) = new ≡ old
HasCount old new (Err (R fault)) = new ≡ old
HasCount old new (Err (Log fault)) = new ≡ old
HasCount old new (Err (Replay fault)) = new ≡ old
