-- What holds of the empty workload, and stays with each line without a fault, holds of what a text spells.
use Rattle.std.proofs.Common.{◌≡◌, ℕ, ◌+◌, Bool, true, false, cond, not, List, [], ◌∷◌, length, refl, sym}
use Rattle.std.specs.Prelude.{Option, Some, None, codes, nat_lt}
use Rattle.std.specs.Str.{IsUtf8, is_utf8}
use Rattle.std.proofs.lemmas.Str.{IsUtf8-from_is_utf8}
use Rattle.outcomes.specs.Outcomes.{first_of, or_else}
use Rattle.run_limits.specs.Limits.{most_text}
use Rattle.workload.specs.Limits.{most_line}
use Rattle.workload_reader.specs.Lines.{TextLine, lines_of}
use Rattle.workload.specs.Words.{first_word, behind_word}
use Rattle.workload_reader.specs.Grants.{grant_faults, with_grant}
use Rattle.workload.specs.Laws.{empty}
use Rattle.workload_reader.specs.Reading.{fault_in, first_fault, spelled, with_line, with_lines, with_actor, with_command, actor_faults, command_faults, line_faults, begins_with, is_passed_over}
use Rattle.workload_reader.proofs.Texts.{AreTexts, lines_utf8}
use Rattle.workload.specs.declared.work.Workload.{Workload}
use Rattle.workload_reader.specs.declared.faults.LineFault.{LineFault}
use Rattle.workload_reader.specs.declared.faults.LineFault.TheVariants as line_fault
use Rattle.workload_reader.specs.declared.faults.Which.TheVariants as which

pub some_is_not_none : {A : Type 0} {x : A} → Some x ≡ None → ⊥
some_is_not_none h = cc

-- none of these applies, one by one
abbrev pub NoneApplies : {A : Type 0} → List (Bool × A) → Type 0
NoneApplies [] = Unit {0}
NoneApplies (t ∷ ts) = (t.0 ≡ false) × NoneApplies ts

one_more : {A : Type 0} (test : Bool) (x : A) (more : List (Bool × A)) → ((first_of more ≡ None) → NoneApplies more) → first_of ((test, x) ∷ more) ≡ None → (test ≡ false) × NoneApplies more
one_more false x more rest h = (refl, rest h)
one_more true x more rest h = absurd (some_is_not_none h)

pub none_applies : {A : Type 0} (tests : List (Bool × A)) → first_of tests ≡ None → NoneApplies tests
none_applies [] h = tt
none_applies (t ∷ more) h = one_more t.0 t.1 more (none_applies more) h

-- the first does not, nor do the others
pub one_by_one : {A : Type 0} (test : Bool) (x : A) (more : List (Bool × A)) → first_of ((test, x) ∷ more) ≡ None → (test ≡ false) × (first_of more ≡ None)
one_by_one false x more h = (refl, h)
one_by_one true x more h = absurd (some_is_not_none h)

pub neither : (a b : Option LineFault) → or_else a b ≡ None → (a ≡ None) × (b ≡ None)
neither None b h = (refl, h)
neither (Some e) b h = let wrong : Some e ≡ None = h in cc

-- a test whose turn is false
pub stands : (test : Bool) → not test ≡ false → test ≡ true
stands true h = refl
stands false h = sym h

-- and one whose turn is true
pub fails : (test : Bool) → not test ≡ true → test ≡ false
fails true h = sym h
fails false h = refl

-- lines of UTF-8 without a fault keep P
module _ (size : ℕ) (P : Workload → Type 0)
    (keeps_actor : (work : Workload) (number : ℕ) (tail : List ℕ) → P work → first_of (actor_faults size work.actors number tail) ≡ None → P (with_actor work tail))
    (keeps_grant : (work : Workload) (number : ℕ) (text : List ℕ) → P work → first_of (grant_faults work number text) ≡ None → P (with_grant work text))
    (keeps_command : (work : Workload) (number : ℕ) (line : List ℕ) → IsUtf8 line → P work → first_of (command_faults work number line) ≡ None → P (with_command work line))
  where
    line_keeps : (work : Workload) (number : ℕ) (line : TextLine) → IsUtf8 line.text → P work → first_of (line_faults size work number line) ≡ None → P (with_line work line)
    line_keeps work number line is h none =
        let passed = is_passed_over (first_word line.text) in
        let actor = begins_with (codes "actor") line.text in
        let grant = begins_with (codes "grant") line.text in
        let rest = behind_word line.text in
        let orders = command_faults work number line.text in
        let grants = grant_faults work number rest in
        let actors = actor_faults size work.actors number rest in
        let body : List (Bool × LineFault) = cond passed [] (cond actor actors (cond grant grants orders)) in
        let short = one_by_one (nat_lt most_line line.bytes) (line_fault.Limit number which.Line) body none in
        (elim passed as (λ b. first_of (cond b [] (cond actor actors (cond grant grants orders))) ≡ None
        → P (cond b work (cond actor (with_actor work rest) (cond grant (with_grant work rest) (with_command work line.text))))) [
          | true ↦ λ _. h
          | false ↦ elim actor as (λ b. first_of (cond b actors (cond grant grants orders)) ≡ None
              → P (cond b (with_actor work rest) (cond grant (with_grant work rest) (with_command work line.text)))) [
                | true ↦ keeps_actor work number rest h
                | false ↦ elim grant as (λ b. first_of (cond b grants orders) ≡ None → P (cond b (with_grant work rest) (with_command work line.text))) [
                  | true ↦ keeps_grant work number rest h
                  | false ↦ keeps_command work number line.text is h
                ]
              ]
        ]) short.1

    lines_keep : (work : Workload) (number : ℕ) (all : List TextLine) → AreTexts all → P work → fault_in size work number all ≡ None → P (with_lines work all)
    lines_keep work number [] are h none = h
    lines_keep work number (line ∷ more) are h none =
        let both = neither (first_of (line_faults size work number line)) (fault_in size (with_line work line) (number + 1) more) none in
        lines_keep (with_line work line) (number + 1) more are.1 (line_keeps work number line are.0 h both.0) both.1

    pub text_keeps : P empty → (text : List ℕ) → first_fault size text ≡ None → P (spelled text)
    unfolding first_fault spelled
    text_keeps start text none = (elim (nat_lt most_text (length text)) as (λ b. cond b (Some line_fault.TooLong) (cond (not (is_utf8 text)) (Some line_fault.NotUtf8) (fault_in size empty 1 (lines_of text))) ≡ None → P (with_lines empty (lines_of text))) [
      | true ↦ λ wrong. absurd (some_is_not_none wrong)
      | false ↦ elim (not (is_utf8 text)) as (λ b. not (is_utf8 text) ≡ b → cond b (Some line_fault.NotUtf8) (fault_in size empty 1 (lines_of text)) ≡ None → P (with_lines empty (lines_of text))) [
        | true ↦ λ _ wrong. absurd (some_is_not_none wrong)
        | false ↦ λ is. lines_keep empty 1 (lines_of text) (lines_utf8 text (IsUtf8-from_is_utf8 text (stands (is_utf8 text) is))) start
      ] refl
    ]) none
