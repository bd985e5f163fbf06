-- One line more of a text.
use Rattle.std.proofs.Common.{subst, ◌≡◌, ◌<◌, ◌≤◌, ℕ, ◌+◌, eqb, true, false, List, [], ◌∷◌, ◌++◌, length, refl, ap, ap₂, sym, ◌∙◌, arith}
use Rattle.std.specs.List.{before_first, after_first, position_or_len, slice_split}
use Rattle.std.specs.Str.Lines.{strip_carriage_return}
use Rattle.std.proofs.lemmas.List.{length-append}
use Rattle.std.proofs.lemmas.List.Splits.{slice_split_first, slice_split_none, length-slice_split}
use Rattle.std.proofs.lemmas.List.Sums.{fails_before_first}
use Rattle.std.specs.Prelude.{Option, None}
use Rattle.std.specs.Prelude.{Result, Ok, Err, IsErrAnd, codes, nat_lt}
use Rattle.outcomes.specs.Outcomes.{Faults, Reads, first_of, or_else}
use Rattle.workload.specs.Limits.{most_line}
use Rattle.workload_reader.specs.Lines.{TextLine, ended_line, last_line, lines_in, lines_of}
use Rattle.workload.specs.Words.{first_word, behind_word}
use Rattle.workload_reader.specs.Verbs.{lasting}
use Rattle.workload_reader.specs.Reading.{fault_in, with_line, with_lines, line_faults, actor_faults, begins_with, is_passed_over, with_actor}
use Rattle.workload.specs.declared.work.Workload.{Workload}
use Rattle.workload_reader.specs.declared.faults.LineFault.{LineFault}
use Rattle.workload_reader.specs.declared.faults.LineFault.TheVariants as line_fault

ended_first : (piece : List ℕ) (more : List (List ℕ)) → 0 < length more → lines_in (piece ∷ more) ≡ ended_line piece ∷ lines_in more
ended_first piece [] some = absurd (omega arith)
ended_first piece (next ∷ more) some = refl

-- the line in front of the first newline, and what stands behind it
pub first_line : (rest piece behind text : List ℕ) → (position_or_len (λ b. eqb b 10) rest < length rest) × (piece ≡ before_first (λ b. eqb b 10) rest) × (behind ≡ after_first (λ b. eqb b 10) rest)
    → text ≡ strip_carriage_return piece → lines_of rest ≡ (record { bytes = length piece; text = text }) ∷ lines_of behind
first_line rest piece behind text cut is =
    let parts = slice_split (λ b. eqb b 10) in
    ap lines_in (slice_split_first (λ b. eqb b 10) rest 0 cut.0)
    ∙ ended_first _ (parts (after_first (λ b. eqb b 10) rest)) (omega (arith, length-slice_split (λ b. eqb b 10) (after_first (λ b. eqb b 10) rest)))
    ∙ ap₂ (λ p b. ended_line p ∷ lines_of b) (sym cut.1) (sym cut.2)
    ∙ ap (λ t. of_text (length piece) t ∷ lines_of behind) (sym is)
  where
    of_text : ℕ → List ℕ → TextLine
    of_text bytes text = record { bytes = bytes; text = text }

-- the line behind the last newline
pub only_line : (rest : List ℕ) → position_or_len (λ b. eqb b 10) rest ≡ length rest → lines_of rest ≡ last_line rest ∷ []
only_line rest none = ap lines_in (slice_split_none (λ b. eqb b 10) rest (λ k d l. fails_before_first (λ b. eqb b 10) rest k d (omega (arith, none, l))))

-- what stands behind a newline is shorter
pub shorter : (rest piece behind : List ℕ) → rest ≡ piece ++ (10 ∷ behind) → length behind + 1 ≤ length rest
shorter rest piece behind is = let long : length rest ≡ length (piece ++ (10 ∷ behind)) = ap length is in omega (arith, long, length-append piece (10 ∷ behind))

-- where the next line has no fault, the first fault is behind it
pub fault_behind : (size : ℕ) (work : Workload) (number : ℕ) (all rest : List TextLine) (line : TextLine) → all ≡ line ∷ rest → first_of (line_faults size work number line) ≡ None
    → fault_in size work number all ≡ fault_in size (with_line work line) (number + 1) rest
fault_behind size work number all rest line here none = ap (fault_in size work number) here ∙ ap (λ f. or_else f (fault_in size (with_line work line) (number + 1) rest)) none

-- a fault of the next line is the first one
pub fault_here : (size : ℕ) (work : Workload) (number : ℕ) (all rest : List TextLine) (line : TextLine) (e : LineFault) → all ≡ line ∷ rest → Faults lasting e (first_of (line_faults size work number line))
    → Faults lasting e (fault_in size work number all)
fault_here size work number all rest line line_fault.NoMemory here h = tt
fault_here size work number all rest line e here h = ap (fault_in size work number) here ∙ ap (λ f. or_else f (fault_in size (with_line work line) (number + 1) rest)) h

-- the value behind the next line
pub value_behind : (work : Workload) (all rest : List TextLine) (line : TextLine) → all ≡ line ∷ rest → with_lines work all ≡ with_lines (with_line work line) rest
value_behind work all rest line here = ap (with_lines work) here

-- the same reading by another name of the first fault and of the value
pub Reads-along : {X : Type 0} (f g : Option LineFault) (P Q : X → Type 0) (r : Result X LineFault) → f ≡ g → ((x : X) → P x → Q x) → Reads lasting f P r → Reads lasting g Q r
Reads-along f g P Q (Ok x) same to h = (sym same ∙ h.0, to x h.1)
Reads-along f g P Q (Err e) same to h = subst (Faults lasting e) same h

-- the faults of a line that begins with `actor`
pub actor_line : (size : ℕ) (work : Workload) (number : ℕ) (line : TextLine) → nat_lt most_line line.bytes ≡ false → is_passed_over (first_word line.text) ≡ false → begins_with (codes "actor") line.text ≡ true
    → first_of (actor_faults size work.actors number (behind_word line.text)) ≡ first_of (line_faults size work number line)
actor_line size work number line short word actor = rw (short, word, actor) refl

pub actor_value : (work : Workload) (line : TextLine) → is_passed_over (first_word line.text) ≡ false → begins_with (codes "actor") line.text ≡ true → with_actor work (behind_word line.text) ≡ with_line work line
actor_value work line word actor = rw (word, actor) refl

-- what hands on a fault
pub err_reads : {X : Type 0} (r : Result X LineFault) (e : LineFault) (f : Option LineFault) (P : X → Type 0) → IsErrAnd r (λ x. x ≡ e) → Faults lasting e f → Reads lasting f P r
err_reads (Ok x) e f P is h = absurd is
err_reads (Err x) e f P is h = subst (λ y. Faults lasting y f) (sym is) h
