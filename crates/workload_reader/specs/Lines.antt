-- The lines of a text.
use Rattle.std.specs.Prelude.{ℕ, ◌==◌, List, [], ◌∷◌, length}
use Rattle.std.specs.List.{slice_split}
use Rattle.std.specs.Str.Lines.{strip_carriage_return}
use Rattle.lists.specs.Ascii.{newline}

-- a line: how many bytes stand before its newline, and its text
pub record TextLine : Type 0 where
  pub bytes : ℕ
  pub text : List ℕ

-- the line that a newline ends: one carriage return just before the newline is not of its text
abbrev pub ended_line : List ℕ → TextLine
ended_line piece = record { bytes = length piece; text = strip_carriage_return piece }

-- the last line, which no newline ends
abbrev pub last_line : List ℕ → TextLine
last_line piece = record { bytes = length piece; text = piece }

-- the lines in the pieces between newlines
abbrev pub lines_in : List (List ℕ) → List TextLine
lines_in [] = []
lines_in (piece ∷ []) = last_line piece ∷ []
lines_in (piece ∷ next ∷ more) = ended_line piece ∷ lines_in (next ∷ more)

-- the lines of a text; the last one may be empty
abbrev pub lines_of : List ℕ → List TextLine
lines_of text = lines_in (slice_split (λ b. b == newline) text)
