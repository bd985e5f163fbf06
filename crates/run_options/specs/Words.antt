-- Which words spell options.
use Rattle.std.specs.Prelude.{ℕ, ◌==◌, ◌&&◌, ◌||◌, List, [], ◌∷◌, Bool, not, Option, Some, None, codes, option_map, option_and_then, if◌then◌else◌}
use Rattle.std.specs.List.{before_first, after_first, list_any}
use Rattle.std.specs.Str.{bytes_eq}
use Rattle.lists.specs.Ascii.{equals_sign}
use Rattle.run_options.specs.declared.Options.{Options}
use Rattle.run_options.specs.declared.given.Given.{Given}
use Rattle.run_options.specs.Given.{nothing, with_backfill, with_journal, with_value, options_from}

-- `=` stands between a name and its value in one word
abbrev pub is_equals : ℕ → Bool
is_equals b = b == equals_sign

-- the option that the word names has no value
abbrev pub is_flag : List ℕ → Bool
is_flag word = bytes_eq word (codes "--journal") || bytes_eq word (codes "--backfill")

-- the value of the option that the word names stands in the next word
abbrev pub wants_value : List ℕ → Bool
wants_value word = not (is_flag word) && not (list_any is_equals word)

-- the option that one word gives whole
abbrev pub with_word : Given → List ℕ → Option Given
with_word g word = if bytes_eq word (codes "--journal") then with_journal g
    else if bytes_eq word (codes "--backfill") then with_backfill g
    else if list_any is_equals word
    then with_value g (before_first is_equals word) (after_first is_equals word)
    else None

-- further words, each option in one of them or two, where none is given twice
unfoldable pub with_words : Given → List (List ℕ) → Option Given
with_words g [] = Some g
with_words g (word ∷ []) = if wants_value word then None else with_word g word
with_words g (word ∷ next ∷ words) = if wants_value word
    then option_and_then (λ more. with_words more words) (with_value g word next)
    else option_and_then (λ more. with_words more (next ∷ words)) (with_word g word)

-- the options that words spell, if they spell any
abbrev pub options_of : List (List ℕ) → Option Options
options_of words = option_map options_from (with_words nothing words)
