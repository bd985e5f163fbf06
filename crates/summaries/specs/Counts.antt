-- How often words occur.
use Rattle.std.specs.Prelude.{◌≡◌, ◌==◌, ℕ, zero, suc, ◌+◌, List, [], ◌∷◌, ◌++◌, Bool, not, Option, Some, None, codes, count_by, decimal, filter, length, map, unwrap_or}
use Rattle.std.specs.BTreeMap.{BTreeMap, get, Updates}
use Rattle.std.specs.Cmp.Lexicographic.{slice_cmp}
use Rattle.std.specs.List.{before_first, slice_split}
use Rattle.std.specs.List.Sorted.{IsStrictlySortedBy}
use Rattle.std.specs.Map.{keys_of, lookup}
use Rattle.std.specs.Ordering.{nat_cmp}
use Rattle.std.specs.Str.{bytes_eq}
use Rattle.lists.specs.Ascii.{newline, space}

-- a word of a line ends before a space
abbrev pub is_space : ℕ → Bool
is_space b = b == space

-- what stands before the first space of a line, or the whole line
abbrev pub first_word : List ℕ → List ℕ
first_word line = before_first is_space line

-- the first words of the lines of a text, some of which may be empty
abbrev pub first_words : List ℕ → List (List ℕ)
first_words text = map first_word (slice_split (λ b. b == newline) text)

-- how often a word that isn't empty occurs
abbrev pub times : List ℕ → List (List ℕ) → ℕ
times word words = count_by (bytes_eq word) (filter (λ w. not (length w == 0)) words)

-- a count, where there is something to count
abbrev pub counted : ℕ → Option ℕ
counted zero = None
counted (suc n) = Some (suc n)

-- the words that aren't empty, each once and in byte order, with how often they occur
pub record IsTally (words : List (List ℕ)) (rows : List (List ℕ × ℕ)) : Type 0 where
  pub rising : IsStrictlySortedBy (slice_cmp nat_cmp) (keys_of rows)
  pub exact : (word : List ℕ) → lookup (bytes_eq word) rows ≡ counted (times word words)

-- a word with how often it occurs, as it is printed
abbrev pub row_text : List ℕ × ℕ → List ℕ
row_text row = row.0 ++ codes " " ++ decimal row.1 ++ newline ∷ []

-- the word is counted once more, and every other as often
abbrev pub CountsOneMore : BTreeMap (List ℕ) ℕ → BTreeMap (List ℕ) ℕ → List ℕ → Type 0
CountsOneMore old new word = Updates (slice_cmp nat_cmp) old new word
    (Some (unwrap_or (get (slice_cmp nat_cmp) old word) 0 + 1))
