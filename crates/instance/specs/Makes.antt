-- What a step of an instance makes.
use Rattle.std.specs.Prelude.{◌≡◌, ℕ, Bool, IsTrue, List, [], ◌∷◌, ◌++◌}
use Rattle.std.specs.List.{AllByRecursion as Each}
use Rattle.services.specs.kvs_rules.Brokers.{HasHeard}
use Rattle.services.specs.kvs_rules.Namespaces.{primary}
use Rattle.services.specs.kvs_rules.Sequence.{EachAfter}
use Rattle.services.specs.workload.declared.work.Line.{Line}
use Rattle.services.specs.answers.declared.chronicle.Entry.{Entry}
use Rattle.services.specs.answers.declared.chronicle.Entry.TheVariants as entry
use Rattle.services.specs.answers.declared.steps.Step.{Step}
use Rattle.services.specs.answers.declared.steps.Step.TheVariants as step
use Rattle.services.specs.resource_set.declared.node.Resources.{Resources}
use Rattle.services.specs.answers.Chronicle.{Setup, top}
use Rattle.services.specs.answers.Commands.{broker_of}
use Rattle.services.specs.answers.Legal.{HasSettled, IsLegalEntry, SettlesFirst}
use Rattle.services.specs.answers.Services.{log_of}
use Rattle.services.specs.answers.Stretches.{IsStretch}
use Rattle.services.specs.answers.Whole.{IsClosingEntry, IsWhole}
use Rattle.instance.specs.Agrees.{AgreesOwn}
use Rattle.instance.specs.Steps.{IsAtRest, IsStart}
use Rattle.instance.specs.Value.{InstanceValue}

-- the entries are those that the step may make after the chronicle, each is legal, and the instance
-- agrees with both; they keep a chronicle settled, if the instance has settled where the step
-- issues a command or lets time go on
pub record Follows (set : Setup) (own : List Entry)
    (s : Step) (new : InstanceValue) (entries : List Entry) : Type 0 where
  pub made : IsStretch set.work own s entries
  pub legal : EachAfter (IsLegalEntry set) own entries
  pub agrees : AgreesOwn new set (own ++ entries)
  pub settled : (IsStart s → HasSettled set own) → EachAfter (SettlesFirst set) own entries

-- the entries follow every chronicle that agrees
abbrev pub Makes : InstanceValue → Step → InstanceValue → List Entry → Type 0
Makes old s new entries = (set : Setup) (own : List Entry)
    → AgreesOwn old set own → Follows set own s new entries

-- so do those of a look that is told this number, where the actor's broker has heard it
abbrev pub Records : InstanceValue → ℕ → ℕ → InstanceValue → List Entry → Type 0
Records old actor number new entries = (set : Setup) (own : List Entry) → AgreesOwn old set own
    → HasHeard (log_of set.work top own) (broker_of set.work actor) primary number
    → Follows set own (step.Record actor) new entries

-- the instance is at rest, if the run is settled
abbrev pub IssuesAtRest : Setup → InstanceValue → Type 0
IssuesAtRest set v = IsTrue set.settled → IsAtRest v

-- the lines are those of a workload with which the instance stands, and a command may be issued
abbrev pub MayIssueOf : InstanceValue → List Line → Type 0
MayIssueOf v lines = (set : Setup) × (own : List Entry)
    × AgreesOwn v set own × (set.work.lines ≡ lines) × IssuesAtRest set v

-- the entries of an issue follow every chronicle that agrees, where the workload has these lines
-- and a settled run has come to rest
abbrev pub MakesOf : List Line → InstanceValue → Step → InstanceValue → List Entry → Type 0
MakesOf lines old s new entries = (set : Setup) (own : List Entry)
    → AgreesOwn old set own → set.work.lines ≡ lines → IssuesAtRest set old
    → Follows set own s new entries

-- the birth of the child of a job follows every chronicle that agrees, with whatever the run tells
-- of the child
abbrev pub Bears : InstanceValue → ℕ → InstanceValue → Type 0
Bears old job new = (set : Setup) (own : List Entry) → AgreesOwn old set own
    → (child : ℕ) (label : List ℕ) (second : ℕ) (grant : Resources)
    → Follows set own (step.Birth top job) new (entry.Born child top job label second grant ∷ [])

-- so does the end of the child of a job
abbrev pub LetsGo : InstanceValue → ℕ → Bool → InstanceValue → Type 0
LetsGo old job shut new = (set : Setup) (own : List Entry) → AgreesOwn old set own
    → (child : ℕ) → Follows set own (step.End child) new (entry.Gone child top job shut ∷ [])

-- and a tick to this second
abbrev pub PassesTo : InstanceValue → ℕ → InstanceValue → Type 0
PassesTo old second new = (set : Setup) (own : List Entry) → AgreesOwn old set own
    → Follows set own step.Tick new (entry.Ticked second ∷ [])

-- closing replies and the end follow the chronicle, and make it whole
pub record Ends (set : Setup) (own left : List Entry) : Type 0 where
  pub closing : Each IsClosingEntry left
  pub legal : EachAfter (IsLegalEntry set) own (left ++ entry.Closed ∷ [])
  pub whole : IsWhole set (own ++ left ++ entry.Closed ∷ [])
