-- What a text spells is built, with its keys and values within their limits.
use Rattle.std.proofs.Common.{◌≡◌, ℕ, ◌≤◌, true, false, List, [], ◌∷◌, ◌++◌, length, not, refl, arith}
use Rattle.std.specs.Prelude.{Option, Some, None, All}
use Rattle.std.specs.Option.{option_map_or}
use Rattle.std.specs.Str.{IsUtf8}
use Rattle.std.proofs.lemmas.Bool.{and_parts}
use Rattle.std.proofs.lemmas.Bool.Decides.{nat_tests}
use Rattle.std.proofs.lemmas.List.Elements.{All-nil, All-push}
use Rattle.outcomes.specs.Outcomes.{first_of}
use Rattle.kvs_txn.specs.Keys.{components}
use Rattle.workload.specs.Limits.{most_members, most_severity, most_urgency, most_value}
use Rattle.workload.specs.Words.{first_word, behind_word, is_number_within, number_value}
use Rattle.workload_reader.specs.Verbs.{faults_of, is_past_key, is_past_value, name_and_number, one_content, one_key, key_and_text, own_link, two_keys, raising, urging, submission, said}
use Rattle.workload_reader.specs.Submits.{options_of, urgency_in}
use Rattle.workload_reader.specs.Reading.{first_fault, spelled}
use Rattle.workload.specs.Laws.{IsBuilt, IsKeyPath}
use Rattle.workload_reader.proofs.Along.{none_applies, stands}
use Rattle.workload_reader.proofs.Commands.{IsSpoken, lines_keep}
use Rattle.workload_reader.proofs.Texts.{behind_utf8}
use Rattle.kvs_txn.proofs.Names.{name_utf8}
use Rattle.workload.specs.declared.work.Command.TheVariants as command
use Rattle.workload.specs.declared.work.Line.{Line}
use Rattle.workload.specs.declared.work.Workload.{Workload}
use Rattle.workload_reader.specs.declared.verbs.Verb.{Verb}
use Rattle.workload_reader.specs.declared.verbs.Verb.TheVariants as verb

key_within : (key : List ℕ) → is_past_key key ≡ false → IsKeyPath (components key)
key_within key h = record { key = key; short = grind (arith, nat_tests); spelled = refl; shallow = grind (arith, nat_tests) }

value_within : (text : List ℕ) → is_past_value text ≡ false → length text ≤ most_value
value_within text h = grind (arith, nat_tests)

one_key_built : (number : ℕ) (tail : List ℕ) → first_of (faults_of number (one_key command.Get tail)) ≡ None → IsKeyPath (components (first_word tail))
one_key_built number tail none = key_within (first_word tail) (none_applies (faults_of number (one_key command.Get tail)) none).1.1.1.0

key_and_text_built : (number : ℕ) (tail : List ℕ) → first_of (faults_of number (key_and_text command.Put tail)) ≡ None
    → IsKeyPath (components (first_word tail)) × (length (behind_word tail) ≤ most_value)
key_and_text_built number tail none =
    let tests = none_applies (faults_of number (key_and_text command.Put tail)) none in
    (key_within (first_word tail) tests.1.1.1.0, value_within (behind_word tail) tests.1.1.1.1.0)

two_keys_built : (number : ℕ) (tail : List ℕ) → first_of (faults_of number (two_keys own_link tail)) ≡ None
    → IsKeyPath (components (first_word tail)) × IsKeyPath (components (first_word (behind_word tail)))
two_keys_built number tail none =
    let tests = none_applies (faults_of number (two_keys own_link tail)) none in
    (key_within (first_word tail) tests.1.1.1.0, key_within (first_word (behind_word tail)) tests.1.1.1.1.0)

number_within : (word : List ℕ) → not (is_number_within 1 most_members word) ≡ false → (1 ≤ number_value word) × (number_value word ≤ most_members)
number_within word h = (grind (arith, nat_tests), grind (arith, nat_tests))

fence_built : (number : ℕ) (tail : List ℕ) → first_of (faults_of number (name_and_number 1 most_members command.Fence tail)) ≡ None
    → (1 ≤ number_value (first_word (behind_word tail))) × (number_value (first_word (behind_word tail)) ≤ most_members)
fence_built number tail none = number_within (first_word (behind_word tail)) (none_applies (faults_of number (name_and_number 1 most_members command.Fence tail)) none).1.1.0

content_built : (number : ℕ) (tail : List ℕ) → first_of (faults_of number (one_content command.ContentStore tail)) ≡ None → length tail ≤ most_value
content_built number tail none = value_within tail (none_applies (faults_of number (one_content command.ContentStore tail)) none).1.1.1.0

-- ---- commands on jobs and on time

number_at_most : (high : ℕ) (word : List ℕ) → not (is_number_within 0 high word) ≡ false → number_value word ≤ high
number_at_most high word h = grind (arith, nat_tests)

urgency_within : (digits : Option (List ℕ)) → not (option_map_or (is_number_within 0 most_urgency) digits true) ≡ false
    → option_map_or number_value digits 16 ≤ most_urgency
urgency_within None h = omega arith
urgency_within (Some word) h = number_at_most most_urgency word h

raised_built : (work : Workload) (number : ℕ) (tail : List ℕ) → IsUtf8 tail → first_of (faults_of number (raising work tail)) ≡ None
    → IsBuilt (raising work tail).command
raised_built work number tail text none =
    let tests = none_applies (faults_of number (raising work tail)) none in
    let names = and_parts _ _ (and_parts _ _ (stands _ tests.1.0)).0 in (
      number_at_most most_severity (first_word (behind_word (behind_word tail))) tests.1.1.0,
      name_utf8 (first_word (behind_word tail)) names.1,
      behind_utf8 (behind_word (behind_word tail)) (behind_utf8 (behind_word tail) (behind_utf8 tail text)),
    )

submitted_built : (work : Workload) (number : ℕ) (tail : List ℕ)
    → first_of (faults_of number (submission work tail)) ≡ None → IsBuilt (submission work tail).command
submitted_built work number tail none =
    let tests = none_applies (faults_of number (submission work tail)) none in
    urgency_within (urgency_in (options_of tail)) tests.1.1.0

verb_built : (work : Workload) (number : ℕ) (tail : List ℕ) (v : Verb) → IsUtf8 tail
    → first_of (faults_of number (said work v tail)) ≡ None → IsBuilt (said work v tail).command
verb_built work number tail verb.Put text none = key_and_text_built number tail none
verb_built work number tail verb.Append text none = key_and_text_built number tail none
verb_built work number tail verb.Unlink text none = one_key_built number tail none
verb_built work number tail verb.Mkdir text none = one_key_built number tail none
verb_built work number tail verb.Symlink text none = let keys = two_keys_built number tail none in (keys.0, keys.1, refl)
verb_built work number tail verb.Commit text none = tt
verb_built work number tail verb.Fence text none = fence_built number tail none
verb_built work number tail verb.Get text none = one_key_built number tail none
verb_built work number tail verb.Ls text none = one_key_built number tail none
verb_built work number tail verb.Readlink text none = one_key_built number tail none
verb_built work number tail verb.ContentStore text none = content_built number tail none
verb_built work number tail verb.Submit text none = submitted_built work number tail none
verb_built work number tail verb.Raise text none = raised_built work number tail text none
verb_built work number tail verb.Urgency text none =
    number_at_most most_urgency (first_word (behind_word tail)) (none_applies (faults_of number (urging work tail)) none).1.1.0
verb_built work number tail v text none = tt

AreBuilt : List Line → Type 0
AreBuilt lines = All (λ l. IsBuilt l.command) lines

one_built : (work : Workload) (by number : ℕ) (tail : List ℕ) (v : Verb) → IsSpoken work by number v tail → AreBuilt work.lines
    → AreBuilt (work.lines ++ record { actor = by; command = (said work v tail).command } ∷ [])
unfolding AreBuilt
one_built work by number tail v is h =
    All-push (λ l. IsBuilt l.command) work.lines (record { actor = by; command = (said work v tail).command }) h (verb_built work number tail v is.text is.none)

pub text_built : (size : ℕ) (text : List ℕ) → first_fault size text ≡ None → All (λ l. IsBuilt l.command) (spelled text).lines
unfolding AreBuilt
text_built size text none = lines_keep AreBuilt one_built (All-nil _) size text none
