-- What a landing does to the commands and to the refusals.
use Rattle.std.specs.Prelude.{◌≡◌, ℕ, ◌++◌, List, [], ◌∷◌, Option, Some, None, filter, not, slice_get}
use Rattle.instance_rules.specs.Desks.{Begins}
use Rattle.instance_rules.specs.Log.{Instance, IsPending, JobAsk, Log, Named, Submit}
use Rattle.instance_rules.specs.Replies.{AsksForEvent}
use Rattle.job_commands.specs.Agrees.{AgreesCommands, HasUniqueLabels, IsIdOf}
use Rattle.job_commands.specs.Moments.{CarriesOut, landing}
use Rattle.job_commands.specs.Rows.{AreCarried, CommandsValue}
use Rattle.job_deeds.specs.kvs_txn.declared.txn.By.{By}
use Rattle.job_deeds.specs.kvs_txn.declared.txn.Group.{Group}
use Rattle.job_service.specs.declared.refusals.Refused.{Refused}
use Rattle.job_service.specs.Refusals.{is_refusal_of}

-- the command of the first transaction, if it has one
abbrev pub command_of_first : List Group → Option By
command_of_first [] = None
command_of_first (group ∷ groups) = slice_get group.authors 0

-- the landing of this number carries out the submission, and gives its job this id
pub record LandsSubmission (by : By) (id number : ℕ) (old new : CommandsValue) : Type 0 where
  pub rows : AreCarried by number old.rows new.rows
  pub size : new.issued ≡ old.issued
  pub marks : new.marks ≡ old.marks
  pub children : new.children ≡ old.children
  pub agrees : (inst : Instance) (log : Log) (group : Group) (authors : List (Option By))
      (groups : List Group) (label : List ℕ) (urgency : ℕ) (needs : List Named) (text : List ℕ)
      → AgreesCommands old inst log → HasUniqueLabels inst → IsPending by log
      → inst.asks by ≡ Some (Submit label urgency needs text) → IsIdOf old inst.birth by id
      → CarriesOut inst by group authors groups → Begins group id
      → AgreesCommands new inst (log ++ landing number authors groups ∷ [])

-- it carries out a command that asks for an event
pub record LandsEvent (by : By) (number : ℕ) (old new : CommandsValue) : Type 0 where
  pub rows : AreCarried by number old.rows new.rows
  pub size : new.issued ≡ old.issued
  pub marks : new.marks ≡ old.marks
  pub children : new.children ≡ old.children
  pub labels : new.labels ≡ old.labels
  pub agrees : (inst : Instance) (log : Log) (group : Group) (authors : List (Option By))
      (groups : List Group) (ask : JobAsk) → AgreesCommands old inst log → inst.asks by ≡ Some ask
      → AsksForEvent ask → CarriesOut inst by group authors groups
      → AgreesCommands new inst (log ++ landing number authors groups ∷ [])

-- a submission where a job has this id
abbrev pub LandsAs : Option ℕ → By → ℕ → CommandsValue → CommandsValue → Type 0
LandsAs (Some id) by number old new = LandsSubmission by id number old new
LandsAs None by number old new = LandsEvent by number old new

-- the landing carries out a command, of which no refusal is left, or none
abbrev pub IsLanded : Option By → Option ℕ → ℕ → CommandsValue
    → CommandsValue → List Refused → List Refused → Type 0
IsLanded (Some by) id number old new list left =
    LandsAs id by number old new × (left ≡ filter (λ r. not (is_refusal_of by r)) list)
IsLanded None id number old new list left = (new ≡ old) × (left ≡ list)
