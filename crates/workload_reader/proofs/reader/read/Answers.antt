use Rattle.std.proofs.Common.{◌≡◌, ◌∙◌, ap, refl, ℕ, List, true, false, length, arith, inl, inr}
use Rattle.std.specs.Prelude.{nat_lt, Some}
use Rattle.std.specs.Str.{IsUtf8, is_utf8}
use Rattle.run_limits.specs.Limits.{most_text}
use Rattle.workload_reader.specs.Lines.{lines_of}
use Rattle.std.proofs.lemmas.Bool.{cases_Bool}
use Rattle.std.proofs.lemmas.Bool.Decides.{nat_tests}
use Rattle.std.proofs.lemmas.Str.{IsUtf8-from_is_utf8, is_utf8-from_IsUtf8}
use Rattle.workload.specs.Laws.{empty}
use Rattle.workload_reader.specs.Reading.{fault_in, first_fault, spelled, with_lines}
use Rattle.workload_reader.specs.declared.faults.LineFault.TheVariants as line_fault
use Rattle.workload_reader.proofs.LineLemmas.{Reads-along}
use Rattle.workload_reader.proofs.reader.read.Goals as goal

long : (size : ℕ) (text : List ℕ) → nat_lt most_text (length text) ≡ true → first_fault size text ≡ Some line_fault.TooLong
unfolding first_fault
long size text l = rw l refl

bad : (size : ℕ) (text : List ℕ) → nat_lt most_text (length text) ≡ false → is_utf8 text ≡ false → first_fault size text ≡ Some line_fault.NotUtf8
unfolding first_fault
bad size text l u = rw (l, u) refl

by_lines : (size : ℕ) (text : List ℕ) → nat_lt most_text (length text) ≡ false → is_utf8 text ≡ true → fault_in size empty 1 (lines_of text) ≡ first_fault size text
unfolding first_fault
by_lines size text l u = rw (l, u) refl

is_spelled : (text : List ℕ) → with_lines empty (lines_of text) ≡ spelled text
unfolding spelled
is_spelled text = refl

not_utf8 : (text : List ℕ) → ¬ (IsUtf8 text) → is_utf8 text ≡ false
not_utf8 text h = elim (cases_Bool (is_utf8 text)) [ inl is ↦ absurd (h (IsUtf8-from_is_utf8 text is)) | inr is ↦ is ]

pub returns-then-text-gt-MOST_TEXT : goal.returns-then-text-gt-MOST_TEXT
returns-then-text-gt-MOST_TEXT c = long c.args.size c.args.text.now (grind (arith, nat_tests))

pub returns-in_default : goal.returns-in_default
returns-in_default c = bad c.args.size c.args.text.now (grind (arith, nat_tests)) (not_utf8 _ c.in_default.ensures.cases.0)

pub returns : goal.returns
returns c =
    let size = c.args.size in
    let text = c.args.text.now in
    let same : c.in-Ok.text.now ≡ text = c.in-Ok.ensures.cases.0 in
    let short : nat_lt most_text (length text) ≡ false = grind (arith, nat_tests) in
    Reads-along _ _ _ _ c.read_lines.result
    (ap (λ t. fault_in size empty 1 (lines_of t)) same ∙ by_lines size text short (is_utf8-from_IsUtf8 _ c.in-Ok.ensures.cases.1))
    (λ _ h. h ∙ ap (λ t. with_lines empty (lines_of t)) same ∙ is_spelled text) c.read_lines.ensures
