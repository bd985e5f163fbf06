-- The words of a `submit` line: a label, maybe an urgency, dependencies, and a jobspec's text.
use Rattle.std.specs.Prelude.{ℕ, ◌==◌, ◌&&◌, ◌||◌, List, Bool, Option, Some, None, codes, drop, filter_map, is_some, length, option_and_then, option_map, if◌then◌else◌}
use Rattle.std.specs.List.{before_first, after_first, list_all, list_any, slice_split}
use Rattle.std.specs.Option.{option_map_or}
use Rattle.std.specs.Str.{bytes_eq}
use Rattle.lists.specs.Ascii.{colon, equals_sign, opening_brace}
use Rattle.job_spec.specs.Limits.{scheme_of}
use Rattle.workload.specs.Words.{first_word, behind_word, is_empty, is_name, is_space, number_value}
use Rattle.workload.specs.declared.work.Needed.{Needed}

-- a jobspec's text begins at the first `{`
abbrev pub is_brace : ℕ → Bool
is_brace b = b == opening_brace

-- the words before it
abbrev pub head_of : List ℕ → List ℕ
head_of tail = before_first is_brace tail

-- the jobspec's text, or nothing where there is none
abbrev pub json_of : List ℕ → List ℕ
json_of tail = drop (length (head_of tail)) tail

-- the label, and the words behind it
abbrev pub label_of : List ℕ → List ℕ
label_of tail = first_word (head_of tail)

abbrev pub options_of : List ℕ → List ℕ
options_of tail = behind_word (head_of tail)

-- `=` stands between the name and the value of an option, `:` between a scheme and a label
abbrev pub is_equals : ℕ → Bool
is_equals b = b == equals_sign

abbrev pub is_colon : ℕ → Bool
is_colon b = b == colon

-- the value of an option of this name, where the word is one
abbrev pub value_of : List ℕ → List ℕ → Option (List ℕ)
value_of name word = if list_any is_equals word
    then (if bytes_eq (before_first is_equals word) name
    then Some (after_first is_equals word) else None)
    else None

-- the urgency's digits, where the first option is the urgency
abbrev pub urgency_in : List ℕ → Option (List ℕ)
urgency_in options = value_of (codes "urgency") (first_word options)

-- the urgency, which is 16 where none is named
abbrev pub urgency_of : List ℕ → ℕ
urgency_of options = option_map_or number_value (urgency_in options) 16

-- the words behind the urgency
abbrev pub behind_urgency : List ℕ → List ℕ
behind_urgency options = if is_some (urgency_in options) then behind_word options else options

-- the dependency that SCHEME:LABEL is
abbrev pub dependency_of : List ℕ → Option Needed
dependency_of value = if list_any is_colon value && is_name (after_first is_colon value)
    then option_map (λ s. record { scheme = s; label = after_first is_colon value })
    (scheme_of (before_first is_colon value))
    else None

-- the dependency that a word names
abbrev pub needed_of : List ℕ → Option Needed
needed_of word = option_and_then dependency_of (value_of (codes "dep") word)

-- each of the words names a dependency
abbrev pub are_needs : List ℕ → Bool
are_needs text = list_all (λ w. is_empty w || is_some (needed_of w)) (slice_split is_space text)

-- the dependencies that the words name
abbrev pub needs_of : List ℕ → List Needed
needs_of text = filter_map needed_of (slice_split is_space text)
