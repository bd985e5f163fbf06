-- A text that goes on past the limit.
use Rattle.std.proofs.Common.{◌≡◌, ℕ, ◌+◌, List, length, ap, arith, Some, cond, not}
use Rattle.std.proofs.lemmas.Bool.{lt-ltb}
use Rattle.run_limits.specs.Limits.{most_text}
use Rattle.std.specs.Str.{is_utf8}
use Rattle.workload_reader.specs.Lines.{lines_of}
use Rattle.workload.specs.Laws.{empty}
use Rattle.workload_reader.specs.Reading.{first_fault, fault_in}
use Rattle.workload_reader.specs.declared.faults.LineFault.TheVariants as line_fault

-- its first fault is that
pub too_long : (size : ℕ) (text : List ℕ) → length text ≡ 16777216 + 1 → first_fault size text ≡ Some line_fault.TooLong
unfolding first_fault
too_long size text e =
    ap (λ b. cond b (Some line_fault.TooLong) (cond (not (is_utf8 text)) (Some line_fault.NotUtf8) (fault_in size empty 1 (lines_of text)))) (lt-ltb most_text (length text) (omega arith))
