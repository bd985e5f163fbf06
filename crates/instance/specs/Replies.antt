-- What an actor is told.
use Rattle.std.specs.Prelude.{◌≡◌, ℕ, [], ◌∷◌, ◌++◌, Option, Some, None}
use Rattle.services.specs.kvs_txn.declared.txn.By.{By}
use Rattle.services.specs.kvs_rules.declared.events.KvsAnswer.{KvsAnswer}
use Rattle.services.specs.instance_rules.Log.{Instance, IsOpen, Log, Replied, Shut, Shutdown}
use Rattle.services.specs.Agrees.{AgreesServices}
use Rattle.services.specs.Asks.{Answers, Tells}
use Rattle.services.specs.Value.{ServicesValue}
use Rattle.services.specs.answers.declared.chronicle.Reply.{Reply}
use Rattle.services.specs.answers.declared.chronicle.Reply.TheVariants as reply
use Rattle.services.specs.answers.Entering.{reply_of}
use Rattle.instance.specs.declared.seats.Waiting.{Waiting}
use Rattle.instance.specs.declared.seats.Waiting.TheVariants as waiting

-- an answer that the services handed over
pub record IsTaken (old new : ServicesValue) (by : By)
    (given : Reply) (number : Option ℕ) : Type 0 where
  pub answer : KvsAnswer
  pub handed : given ≡ reply_of answer
  pub tells : Tells old new by number answer

-- what became of a job command, as the services told it
abbrev pub IsToldOf : ServicesValue → ServicesValue → By → Reply → Option ℕ → Type 0
IsToldOf old new by given number = (inst : Instance) (log : Log)
    → AgreesServices old inst log → Answers new inst log by given number

-- whatever log agrees, a command that shuts the instance down and is open may be told so there
abbrev pub MayBeShut : ServicesValue → By → Type 0
MayBeShut v by = (inst : Instance) (log : Log) → AgreesServices v inst log
    → inst.asks by ≡ Some Shutdown → IsOpen by log
    → AgreesServices v inst (log ++ Replied by Shut None ∷ [])

-- what the actor is told, who waits so
abbrev pub IsGiven : ServicesValue → ServicesValue → By → Waiting → Reply → Option ℕ → Type 0
IsGiven old new by waiting.Nothing given number = ⊥
IsGiven old new by waiting.Staged given number =
    (given ≡ reply.Staged) × (number ≡ None) × (new ≡ old)
IsGiven old new by waiting.TxnFull given number =
    (given ≡ reply.TxnFull) × (number ≡ None) × (new ≡ old)
-- one that tells another is replied to in that step
IsGiven old new by (waiting.Tell to) given number = ⊥
IsGiven old new by waiting.Using given number =
    (given ≡ reply.Using) × (number ≡ None) × (new ≡ old)
-- a look is recorded
IsGiven old new by waiting.Look given number = ⊥
IsGiven old new by waiting.Service given number = IsTaken old new by given number
IsGiven old new by waiting.Jobs given number = IsToldOf old new by given number
IsGiven old new by waiting.Shutdown given number =
    (given ≡ reply.Shut) × (number ≡ None) × (new ≡ old) × MayBeShut old by
