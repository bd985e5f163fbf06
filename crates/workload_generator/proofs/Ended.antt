-- A text of printed lines is read as these lines.
use Rattle.std.proofs.Common.{◌≡◌, ℕ, zero, suc, ◌-◌, ◌<◌, ◌==◌, false, List, [], ◌∷◌, ◌++◌, length, refl, ap, ◌∙◌, arith}
use Rattle.std.specs.Prelude.{All, slice_index}
use Rattle.std.specs.List.{list_all, slice_split}
use Rattle.std.specs.Str.Lines.{strip_carriage_return}
use Rattle.std.proofs.lemmas.Bool.{and_parts}
use Rattle.std.proofs.lemmas.Bool.Decides.{nat_tests}
use Rattle.std.proofs.lemmas.List.Elements.{All-nil, All-cons}
use Rattle.std.proofs.lemmas.List.Splits.{length-slice_split, slice_split_at}
use Rattle.workload_reader.specs.Lines.{TextLine, ended_line, lines_in, lines_of}
use Rattle.workload_generator.proofs.Printed.{Passes, is_printed}

no_newline : (line : List ℕ) → Passes is_printed line → All (λ b. (b == 10) ≡ false) line
no_newline [] h = All-nil _
no_newline (b ∷ bs) h =
    let both = and_parts (is_printed b) (list_all is_printed bs) h in
    All-cons (λ c. (c == 10) ≡ false) b bs (grind (arith, nat_tests)) (no_newline bs both.1)

no_return_at : (line : List ℕ) (i : ℕ) → Passes is_printed line → (slice_index line i == 13) ≡ false
no_return_at [] i h = refl
no_return_at (b ∷ bs) zero h =
    let both = and_parts (is_printed b) (list_all is_printed bs) h in grind (arith, nat_tests)
no_return_at (b ∷ bs) (suc i) h = no_return_at bs i (and_parts (is_printed b) (list_all is_printed bs) h).1

no_return : (line : List ℕ) → Passes is_printed line → strip_carriage_return line ≡ line
no_return line h = rw (no_return_at line (length line - 1) h) refl

ended_first : (piece : List ℕ) (more : List (List ℕ)) → 0 < length more → lines_in (piece ∷ more) ≡ ended_line piece ∷ lines_in more
ended_first piece [] some = absurd (omega arith)
ended_first piece (next ∷ more) some = refl

-- a line as it is read
abbrev pub as_read : ℕ → List ℕ → TextLine
as_read bytes text = record { bytes = bytes; text = text }

-- a printed line, and a newline
pub line_first : (line rest : List ℕ) → Passes is_printed line → lines_of (line ++ 10 ∷ rest) ≡ as_read (length line) line ∷ lines_of rest
line_first line rest h =
    let parts = slice_split (λ b. b == 10) in
    ap lines_in (slice_split_at (λ b. b == 10) line 10 rest (no_newline line h) refl)
    ∙ ended_first line (parts rest) (omega (arith, length-slice_split (λ b. b == 10) rest))
    ∙ ap (λ t. as_read (length line) t ∷ lines_of rest) (no_return line h)
