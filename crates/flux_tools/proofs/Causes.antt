-- A fault of the text that a tool is given is a cause.
use Rattle.std.proofs.Common.{◌≡◌, ℕ, List, [], ◌∷◌, Option, Some, Result, Ok, Err, IfErr, length, arith}
use Rattle.std.specs.Io.KnownBytes.{Consumes, IsAtEnd}
use Rattle.flux_tools.specs.declared.tools.ToolName.{ToolName}
use Rattle.flux_tools.specs.declared.faults.ToolFault.{ToolFault}
use Rattle.flux_tools.specs.declared.faults.ToolFault.TheVariants.{NoMemory, Id, Host, Fluid, R, Log, Replay, Read}
use Rattle.flux_tools.specs.Tools.{Fails, Gives, HasCause, HasCount, IsGiven, answer, asked}

pub cause_of : (words : List (List ℕ)) (before after : Option (List ℕ)) (old new : ℕ) (name : ToolName) (text : List ℕ) → asked words ≡ Some name → IsGiven words before after text → (fault : ToolFault) → Fails fault (answer name text) → HasCause words before after old new fault
cause_of words before after old new name text is given NoMemory f = tt
cause_of words before after old new name text is given (Id fault) f = record { name = name; is = is; text = text; given = given; answered = f }
cause_of words before after old new name text is given (Host fault) f = record { name = name; is = is; text = text; given = given; answered = f }
cause_of words before after old new name text is given (Fluid fault) f = record { name = name; is = is; text = text; given = given; answered = f }
cause_of words before after old new name text is given (R fault) f = record { name = name; is = is; text = text; given = given; answered = f }
cause_of words before after old new name text is given (Log fault) f = record { name = name; is = is; text = text; given = given; answered = f }
cause_of words before after old new name text is given (Replay fault) f = record { name = name; is = is; text = text; given = given; answered = f }
cause_of words before after old new name text is given (Read fault) f = absurd f

-- so is that of a call over this text
pub call_cause : {X : Type 0} (seen : X → List ℕ) (words : List (List ℕ)) (before after : Option (List ℕ)) (old new : ℕ) (name : ToolName) (text : List ℕ) → asked words ≡ Some name → IsGiven words before after text → (result : Result X ToolFault) → Gives seen result (answer name text) → IfErr result (λ fault. HasCause words before after old new fault)
call_cause seen words before after old new name text is given (Ok x) f = tt
call_cause seen words before after old new name text is given (Err fault) f = cause_of words before after old new name text is given fault f

-- a word alone gives its tool all that the source has
pub alone_given : (words : List (List ℕ)) (before after : Option (List ℕ)) (text : List ℕ) → length words ≡ 1 → Consumes before after text → IsAtEnd after → IsGiven words before after text
alone_given [] before after text one took ended = absurd (omega arith)
alone_given (name ∷ []) before after text one took ended = (took, ended)
alone_given (name ∷ word ∷ words) before after text one took ended = absurd (omega arith)

-- and so is that of a call over all that the source has
pub read_cause : {X : Type 0} (seen : X → List ℕ) (words : List (List ℕ)) (before after : Option (List ℕ)) (old new : ℕ) (name : ToolName) (text : List ℕ) → asked words ≡ Some name → length words ≡ 1 → Consumes before after text → IsAtEnd after → (result : Result X ToolFault) → Gives seen result (answer name text) → IfErr result (λ fault. HasCause words before after old new fault)
read_cause seen words before after old new name text is one took ended result f = call_cause seen words before after old new name text is (alone_given words before after text one took ended) result f

-- a call over a text that is there doesn't end with a fault of the source
pub steady_count : {X : Type 0} (seen : X → List ℕ) (old new : ℕ) (found : Result (List ℕ) ToolFault) (result : Result X ToolFault) → Gives seen result found → new ≡ old → HasCount old new result
steady_count seen old new found (Ok x) given steady = steady
steady_count seen old new found (Err NoMemory) given steady = steady
steady_count seen old new found (Err (Id fault)) given steady = steady
steady_count seen old new found (Err (Host fault)) given steady = steady
steady_count seen old new found (Err (Fluid fault)) given steady = steady
steady_count seen old new found (Err (R fault)) given steady = steady
steady_count seen old new found (Err (Log fault)) given steady = steady
steady_count seen old new found (Err (Replay fault)) given steady = steady
steady_count seen old new found (Err (Read fault)) given steady = absurd given
