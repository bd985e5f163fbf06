-- What the command of a drawn line is, and that it has no fault.
use Rattle.std.proofs.Common.{◌≡◌, ℕ, suc, ◌+◌, ◌^◌, ◌%◌, ◌<◌, ◌≤◌, ◌&&◌, not, Bool, true, false, List, [], ◌∷◌, ◌++◌, length, refl, ap, ap₂, ◌∙◌, arith, append_assoc, take, drop, cond}
use Rattle.std.specs.Prelude.{nat_le, nat_lt, codes, decimal, map, Some, None}
use Rattle.std.specs.Fmt.{digits}
use Rattle.std.specs.Option.{option_map_or}
use Rattle.std.specs.List.{list_all, range_with_len, prefix_len}
use Rattle.std.proofs.lemmas.Bool.{and_parts}
use Rattle.std.proofs.lemmas.Bool.Decides.{nat_tests}
use Rattle.std.proofs.Math.Seq.{drop-append_seam}
use Rattle.std.proofs.lemmas.Fmt.{length-decimal-le}
use Rattle.outcomes.specs.Outcomes.{first_of}
use Rattle.kvs_txn.specs.Keys.{components}
use Rattle.run_limits.specs.Limits.{most_seconds, most_submits}
use Rattle.workload.specs.Laws.{IsWord}
use Rattle.workload.specs.Words.{behind_word, first_word, is_empty, is_name, is_name_byte, is_number_within, is_space}
use Rattle.workload.specs.Limits.{most_instances, most_name, most_needs, most_urgency}
use Rattle.workload.specs.Tallies.{begins_instance, instances_in, is_declared, seconds_in, submits_in}
use Rattle.workload.proofs.WordLemmas.{word_behind, word_last}
use Rattle.workload.specs.declared.work.Actor.{Actor}
use Rattle.workload.specs.declared.work.Command.{Command}
use Rattle.workload.specs.declared.work.Command.TheVariants as command
use Rattle.workload.specs.declared.work.Line.{Line}
use Rattle.workload.specs.declared.work.Workload.{Workload}
use Rattle.workload_reader.specs.Reading.{command_of, verb_faults}
use Rattle.workload_reader.specs.Submits.{are_needs, behind_urgency, head_of, is_brace, json_of, label_of, needs_of, options_of, urgency_in, urgency_of}
use Rattle.workload_reader.specs.Verbs.{is_past_key, is_past_value}
use Rattle.workload_reader.specs.declared.faults.LineFault.{LineFault}
use Rattle.workload_reader.proofs.Along.{fails}
use Rattle.workload_reader.specs.declared.faults.LineFault.TheVariants as line_fault
use Rattle.workload_reader.specs.declared.faults.Which.TheVariants as which
use Rattle.workload_generator.specs.Texts.{command_text, jobspec}
use Rattle.workload_generator.specs.declared.drawn.Kind.{Kind}
use Rattle.workload_generator.specs.declared.drawn.Kind.TheVariants as kind
use Rattle.workload_generator.proofs.Cases.{below, passes_below}
use Rattle.workload_generator.proofs.Printed.{DigitsPass, Passes, number_passes, passes_both}
use Rattle.workload_generator.proofs.Jobspecs.{begins_no_instance}

-- the eight actors
abbrev pub eight : List Actor
eight = map (λ number. record { name = codes "a" ++ decimal number; rank = number % 7; of = None }) (range_with_len 0 8)

-- the workload of these actors with these lines
abbrev pub with_eight : List Line → Workload
with_eight lines = record { actors = eight; lines = lines; grant = None }

-- what is said is without a fault, and is this command
pub record Speaks (lines : List Line) (by number : ℕ) (text : List ℕ) (said : Command) : Type 0 where
  pub sound : first_of (verb_faults (with_eight lines) by number text) ≡ None
  pub says : command_of (with_eight lines) text ≡ Some said

-- ---- words

-- a letter and a number
abbrev pub numbered : ℕ → ℕ → List ℕ
numbered letter n = letter ∷ decimal n

not_space : DigitsPass (λ b. not (is_space b))
not_space c low high = grind (arith, nat_tests)

a_word : (letter n : ℕ) → not (is_space letter) ≡ true → n < 2 ^ 64 → IsWord (numbered letter n)
a_word letter n h small = record {
  some = omega arith;
  unbroken = rw (h, number_passes (λ b. not (is_space b)) not_space n small) refl;
}

filled : (b : ℕ) (bs : List ℕ) → is_empty (b ∷ bs) ≡ false
filled b bs = grind (arith, nat_tests)

-- ---- keys

abbrev is_short_key : ℕ → ℕ → Bool
is_short_key letter n = not (is_past_key (numbered letter n))

short_keys : (list_all (is_short_key 107) (range_with_len 0 100) && list_all (is_short_key 108) (range_with_len 0 10)) ≡ true
unfolding digits
short_keys = refl

k_short : (n : ℕ) → n < 100 → is_past_key (numbered 107 n) ≡ false
k_short n low = fails _ (passes_below (is_short_key 107) 100 n low (and_parts _ _ short_keys).0)

l_short : (n : ℕ) → n < 10 → is_past_key (numbered 108 n) ≡ false
l_short n low = fails _ (passes_below (is_short_key 108) 10 n low (and_parts _ _ short_keys).1)

-- the faults of a key, and of a text behind it
abbrev key_tests : ℕ → List ℕ → List (Bool × LineFault)
key_tests number key = (false, line_fault.NoActor number)
    ∷ (not (not (is_empty key) && true), line_fault.BadCommand number)
    ∷ (false, line_fault.BadNumber number)
    ∷ (is_past_key key, line_fault.Limit number which.Key)
    ∷ []

abbrev text_tests : ℕ → List ℕ → List ℕ → List (Bool × LineFault)
text_tests number key text = key_tests number key ++ (is_past_value text, line_fault.Limit number which.Value) ∷ []

keyed : (number letter n : ℕ) → is_past_key (numbered letter n) ≡ false → first_of (key_tests number (numbered letter n)) ≡ None
keyed number letter n short = rw (filled letter (decimal n), short) refl

-- ---- each kind of command

put_speaks : (lines : List Line) (by number place n : ℕ) → n < 100 → place < 2 ^ 64
    → Speaks lines by number (codes "put k" ++ decimal n ++ codes " v" ++ decimal place) (command.Put (components (numbered 107 n)) (numbered 118 place))
unfolding verb_faults
put_speaks lines by number place n low small =
    let behind = numbered 118 place in
    let tail : List ℕ = (numbered 107 n ++ 32 ∷ 118 ∷ []) ++ decimal place in
    let is : tail ≡ numbered 107 n ++ 32 ∷ behind = append_assoc (numbered 107 n) (32 ∷ 118 ∷ []) (decimal place) in
    let cut = word_behind [] (numbered 107 n) behind refl (a_word 107 n refl (omega (arith, low))) in
    let key : first_word tail ≡ numbered 107 n = ap first_word is ∙ cut.0 in
    let text : behind_word tail ≡ behind = ap behind_word is ∙ cut.1 in
    let few = length-decimal-le 20 place (omega arith) (omega (arith, small)) small in
    let short : is_past_value behind ≡ false = grind (arith, nat_tests, few) in
    record {
      sound = ap₂ (λ k t. first_of (text_tests number k t)) key text ∙ rw (filled 107 (decimal n), k_short n low, short) refl;
      says = ap₂ (λ k t. Some (command.Put (components k) t)) key text;
    }

append_speaks : (lines : List Line) (by number n : ℕ) → n < 10
    → Speaks lines by number (codes "append l" ++ decimal n ++ codes " +") (command.Append (components (numbered 108 n)) (codes "+"))
unfolding verb_faults
append_speaks lines by number n low =
    let tail : List ℕ = numbered 108 n ++ 32 ∷ codes "+" in
    let cut = word_behind [] (numbered 108 n) (codes "+") refl (a_word 108 n refl (omega (arith, low))) in
    let key : first_word tail ≡ numbered 108 n = cut.0 in
    let text : behind_word tail ≡ codes "+" = cut.1 in
    record {
      sound = ap₂ (λ k t. first_of (text_tests number k t)) key text ∙ rw (filled 108 (decimal n), l_short n low) refl;
      says = ap₂ (λ k t. Some (command.Append (components k) t)) key text;
    }

commit_speaks : (lines : List Line) (by number : ℕ) → Speaks lines by number (codes "commit") command.Commit
unfolding verb_faults
commit_speaks lines by number = record { sound = refl; says = refl }

-- the faults of a key alone
abbrev one_key_tests : ℕ → List ℕ → List ℕ → List (Bool × LineFault)
one_key_tests number key behind = (false, line_fault.NoActor number)
    ∷ (not ((not (is_empty key) && is_empty (first_word behind)) && true), line_fault.BadCommand number)
    ∷ (false, line_fault.BadNumber number)
    ∷ (is_past_key key, line_fault.Limit number which.Key)
    ∷ []

get_speaks : (lines : List Line) (by number n : ℕ) → n < 100
    → Speaks lines by number (codes "get k" ++ decimal n) (command.Get (components (numbered 107 n)))
unfolding verb_faults
get_speaks lines by number n low =
    let tail : List ℕ = numbered 107 n in
    let cut = word_last [] tail refl (a_word 107 n refl (omega (arith, low))) in
    let key : first_word tail ≡ numbered 107 n = cut.0 in
    let rest : behind_word tail ≡ [] = cut.1 in
    record {
      sound = ap₂ (λ k r. first_of (one_key_tests number k r)) key rest ∙ rw (filled 107 (decimal n), k_short n low) refl;
      says = ap (λ k. Some (command.Get (components k))) key;
    }

in_time : (lines : List Line) (n : ℕ) → n < 3 → seconds_in lines ≤ 20000 → nat_lt most_seconds (seconds_in lines + n) ≡ false
in_time lines n low few = grind (arith, nat_tests)

advance_speaks : (lines : List Line) (by number n : ℕ) → n < 3 → seconds_in lines ≤ 20000
    → Speaks lines by number (codes "advance " ++ decimal n) (command.Advance n)
unfolding verb_faults digits
advance_speaks lines by number n low few = below (λ k. nat_lt most_seconds (seconds_in lines + k) ≡ false → Speaks lines by number (codes "advance " ++ decimal k) (command.Advance k)) 3 n low (
  λ time. record { sound = rw time refl; says = refl },
  (
    λ time. record { sound = rw time refl; says = refl },
    (λ time. record { sound = rw time refl; says = refl }, tt),
  ),
) (in_time lines n low few)

-- ---- submissions

before_brace : (label text : List ℕ) → Passes (λ b. not (is_brace b)) label → head_of (label ++ 123 ∷ text) ≡ label
before_brace [] text h = refl
before_brace (b ∷ bs) text h =
    let both = and_parts (not (is_brace b)) (list_all (λ x. not (is_brace x)) bs) h in
    let one : 1 + prefix_len (λ x. not (is_brace x)) (bs ++ 123 ∷ text) ≡ suc (prefix_len (λ x. not (is_brace x)) (bs ++ 123 ∷ text)) = omega arith in
    ap (λ t. take (cond t (1 + prefix_len (λ x. not (is_brace x)) (bs ++ 123 ∷ text)) 0) (b ∷ bs ++ 123 ∷ text)) both.0
    ∙ ap (λ k. take k (b ∷ bs ++ 123 ∷ text)) one ∙ ap (λ l. b ∷ l) (before_brace bs text both.1)

-- the label of the job that a line at a place submits
abbrev pub label_at : ℕ → List ℕ
label_at place = numbered 106 place

no_brace : DigitsPass (λ b. not (is_brace b))
no_brace c low high = grind (arith, nat_tests)

of_name : DigitsPass is_name_byte
of_name c low high = grind (arith, nat_tests)

a_label : (place : ℕ) → place < 2 ^ 64 → is_name (label_at place) ≡ true
a_label place small =
    let few = length-decimal-le 20 place (omega arith) (omega (arith, small)) small in
    let short : nat_le (length (label_at place)) most_name ≡ true = grind (arith, nat_tests, few) in
    rw (filled 106 (decimal place), short, number_passes is_name_byte of_name place small) refl

-- the faults of a label, the words behind it and a jobspec
abbrev submit_tests : List Line → ℕ → List ℕ → List ℕ → List ℕ → List (Bool × LineFault)
submit_tests lines number label options json = (false, line_fault.NoActor number)
    ∷ (
      not ((is_name label && not (is_declared label lines) && not (is_empty json)
          && are_needs (behind_urgency options) && nat_le (length (needs_of (behind_urgency options))) most_needs) && true),
      line_fault.BadCommand number,
    )
    ∷ (not (option_map_or (is_number_within 0 most_urgency) (urgency_in options) true), line_fault.BadNumber number)
    ∷ (nat_le most_submits (submits_in lines), line_fault.Limit number which.Submits)
    ∷ (begins_instance json && nat_le most_instances (instances_in lines), line_fault.Limit number which.Instances)
    ∷ []

abbrev submitted : List ℕ → List ℕ → List ℕ → Command
submitted label options json = command.Submit label (urgency_of options) (needs_of (behind_urgency options)) json

-- a jobspec begins with a brace
record IsBraced (text : List ℕ) : Type 0 where
  rest : List ℕ
  is : text ≡ 123 ∷ rest

braced : (slots seconds : ℕ) → IsBraced (jobspec slots seconds)
unfolding jobspec
braced slots seconds = record { rest = _; is = refl }

room_left : (lines : List Line) → submits_in lines < most_submits → nat_le most_submits (submits_in lines) ≡ false
room_left lines room = grind (arith, nat_tests)

spec_speaks : (lines : List Line) (by number place : ℕ) (json : List ℕ) → place < 2 ^ 64 → IsBraced json → begins_instance json ≡ false
    → is_declared (label_at place) lines ≡ false → submits_in lines < most_submits
    → Speaks lines by number (codes "submit j" ++ decimal place ++ codes " " ++ json) (command.Submit (label_at place) 16 [] json)
unfolding verb_faults
spec_speaks lines by number place json small brace begins free room =
    let own = label_at place in
    let tail : List ℕ = (own ++ 32 ∷ []) ++ json in
    let marked : Passes (λ b. not (is_brace b)) (own ++ 32 ∷ []) =
    passes_both (λ b. not (is_brace b)) own (32 ∷ []) (number_passes (λ b. not (is_brace b)) no_brace place small) refl in
    let head : head_of tail ≡ own ++ 32 ∷ [] = ap (λ j. head_of ((own ++ 32 ∷ []) ++ j)) brace.is ∙ before_brace (own ++ 32 ∷ []) brace.rest marked in
    let spec : json_of tail ≡ json = ap (λ h. drop (length h) tail) head ∙ drop-append_seam (own ++ 32 ∷ []) json in
    let cut = word_behind [] own [] refl (a_word 106 place refl small) in
    let label : label_of tail ≡ own = ap first_word head ∙ cut.0 in
    let options : options_of tail ≡ [] = ap behind_word head ∙ cut.1 in
    let some : is_empty json ≡ false = ap is_empty brace.is ∙ filled 123 brace.rest in
    record {
      sound = ap₂ (λ l o. first_of (submit_tests lines number l o (json_of tail))) label options ∙ ap (λ j. first_of (submit_tests lines number own [] j)) spec
          ∙ rw (a_label place small, free, some, room_left lines room, begins) refl;
      says = ap₂ (λ l o. Some (submitted l o (json_of tail))) label options ∙ ap (λ j. Some (submitted own [] j)) spec;
    }

-- ---- any kind

-- the command of a line at a place
abbrev pub command_at : ℕ → Kind → ℕ → Command
command_at place kind.Put choice = command.Put (components (numbered 107 (choice % 100))) (numbered 118 place)
command_at place kind.Append choice = command.Append (components (numbered 108 (choice % 10))) (codes "+")
command_at place kind.Commit choice = command.Commit
command_at place kind.Get choice = command.Get (components (numbered 107 (choice % 100)))
command_at place kind.Submit choice = command.Submit (label_at place) 16 [] (jobspec (choice % 4 + 1) (choice % 5))
command_at place kind.Advance choice = command.Advance (choice % 3)

abbrev pub is_submit : Kind → Bool
is_submit kind.Submit = true
is_submit _ = false

pub speaks : (lines : List Line) (by number place choice : ℕ) (wanted : Kind) → place < 2 ^ 64
    → is_declared (label_at place) lines ≡ false → (is_submit wanted ≡ true → submits_in lines < most_submits) → seconds_in lines ≤ 20000
    → Speaks lines by number (command_text place wanted choice) (command_at place wanted choice)
speaks lines by number place choice kind.Put small free room few = put_speaks lines by number place (choice % 100) (omega arith) small
speaks lines by number place choice kind.Append small free room few = append_speaks lines by number (choice % 10) (omega arith)
speaks lines by number place choice kind.Commit small free room few = commit_speaks lines by number
speaks lines by number place choice kind.Get small free room few = get_speaks lines by number (choice % 100) (omega arith)
speaks lines by number place choice kind.Submit small free room few =
    spec_speaks lines by number place (jobspec (choice % 4 + 1) (choice % 5)) small (braced (choice % 4 + 1) (choice % 5))
    (begins_no_instance (choice % 4) (choice % 5) (omega arith) (omega arith)) free (room refl)
speaks lines by number place choice kind.Advance small free room few = advance_speaks lines by number (choice % 3) (omega arith) few
