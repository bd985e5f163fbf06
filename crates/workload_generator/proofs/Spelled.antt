-- A drawn text is read without a fault, line by line.
use Rattle.std.proofs.Common.{◌≡◌, ℕ, zero, suc, ◌+◌, ◌*◌, ◌^◌, ◌%◌, ◌<◌, ◌≤◌, ◌==◌, Bool, true, false, List, [], ◌∷◌, ◌++◌, length, refl, sym, ap, ap₂, ◌∙◌, arith, cond, drop, true≢false}
use Rattle.std.specs.Prelude.{nat_le, nat_lt, codes, decimal, flat_map, map, None, option_map, if◌then◌else◌}
use Rattle.std.specs.Fmt.{digits}
use Rattle.std.specs.List.{range_with_len}
use Rattle.std.specs.Option.{option_to_list}
use Rattle.std.specs.Str.{is_utf8}
use Rattle.std.proofs.lemmas.Bool.Decides.{nat_tests}
use Rattle.std.proofs.lemmas.Fmt.{decimal_injective}
use Rattle.std.proofs.lemmas.List.{length_push}
use Rattle.std.proofs.lemmas.List.Folds.{list_any-append}
use Rattle.std.proofs.lemmas.List.Sums.{sum_by_push}
use Rattle.std.proofs.lemmas.Slice.Eq.{bytes_eq-Decides}
use Rattle.std.proofs.lemmas.Str.{IsUtf8-from_ascii, is_utf8-from_IsUtf8}
use Rattle.std.specs.Str.{bytes_eq}
use Rattle.outcomes.specs.Outcomes.{first_of, or_else}
use Rattle.run_limits.specs.Limits.{most_submits, most_text}
use Rattle.workload.specs.Laws.{empty}
use Rattle.workload.specs.Limits.{most_commands, most_line}
use Rattle.workload.specs.Tallies.{declares, is_declared, seconds_in, seconds_of, submits, submits_in}
use Rattle.workload.specs.declared.work.Command.{Command}
use Rattle.workload.specs.declared.work.Line.{Line}
use Rattle.workload_reader.specs.Lines.{TextLine, lines_of}
use Rattle.workload_reader.specs.Reading.{command_of, fault_in, first_fault, line_faults, verb_faults, with_line}
use Rattle.workload_reader.specs.declared.faults.LineFault.{LineFault}
use Rattle.workload_reader.specs.declared.faults.LineFault.TheVariants as line_fault
use Rattle.workload_reader.specs.declared.faults.Which.TheVariants as which
use Rattle.workload_generator.specs.Drawn.{asked, drawn, is_submission, kind_at, submissions, within}
use Rattle.workload_generator.specs.Texts.{actor_line, command_line, generated}
use Rattle.workload_generator.specs.declared.drawn.Drawn.{Drawn}
use Rattle.workload_generator.specs.declared.drawn.Kind.{Kind}
use Rattle.workload_generator.specs.declared.drawn.Kind.TheVariants as kind
use Rattle.workload_generator.proofs.Cases.{below}
use Rattle.workload_generator.proofs.Commands.{Speaks, command_at, is_submit, label_at, speaks, with_eight}
use Rattle.workload_generator.proofs.Counted.{submissions_more}
use Rattle.workload_generator.proofs.Ended.{as_read, line_first}
use Rattle.workload_generator.proofs.Sizes.{actor_ends, actor_piece, actors_small, bare_actor, bare_line, commands_small, line_ends, line_piece}

-- ---- one line

-- the line of the actor of this number
abbrev by_actor : ℕ → List ℕ → List ℕ
by_actor number text = codes "a" ++ decimal number ++ codes " " ++ text

-- its faults: of its length, of the count of lines, and of what is said
abbrev line_tests : List Line → ℕ → ℕ → ℕ → List ℕ → List (Bool × LineFault)
line_tests lines number bytes by text = (nat_lt most_line bytes, line_fault.Limit number which.Line)
    ∷ (nat_le most_commands (length lines), line_fault.Limit number which.Commands)
    ∷ (false, line_fault.NoActor number)
    ∷ verb_faults (with_eight lines) by number text

-- the lines behind it
abbrev lines_with : List Line → ℕ → List ℕ → List Line
lines_with lines by text = lines ++ option_to_list (option_map (λ (said : Command). record { actor = by; command = said }) (command_of (with_eight lines) text))

record IsBy (lines : List Line) (number bytes : ℕ) (text : List ℕ) (by : ℕ) : Type 0 where
  faults : line_faults 7 (with_eight lines) number (as_read bytes (by_actor by text)) ≡ line_tests lines number bytes by text
  more : with_line (with_eight lines) (as_read bytes (by_actor by text)) ≡ with_eight (lines_with lines by text)

is_by : (lines : List Line) (number bytes : ℕ) (text : List ℕ) (by : ℕ) → by < 8 → IsBy lines number bytes text by
unfolding digits
is_by lines number bytes text by low = below (IsBy lines number bytes text) 8 by low (
  record { faults = refl; more = refl },
  (
    record { faults = refl; more = refl },
    (
      record { faults = refl; more = refl },
      (
        record { faults = refl; more = refl },
        (
          record { faults = refl; more = refl },
          (
            record { faults = refl; more = refl },
            (
              record { faults = refl; more = refl },
              (record { faults = refl; more = refl }, tt),
            ),
          ),
        ),
      ),
    ),
  ),
)

-- a line has no fault, and adds its command
record IsSound (lines : List Line) (number bytes : ℕ) (text : List ℕ) (by : ℕ) (said : Command) : Type 0 where
  none : first_of (line_faults 7 (with_eight lines) number (as_read bytes (by_actor by text))) ≡ None
  more : with_line (with_eight lines) (as_read bytes (by_actor by text)) ≡ with_eight (lines ++ record { actor = by; command = said } ∷ [])

line_sound : (lines : List Line) (number bytes : ℕ) (text : List ℕ) (by : ℕ) (said : Command) → by < 8 → bytes ≤ 350 → length lines < 10000
    → Speaks lines by number text said → IsSound lines number bytes text by said
line_sound lines number bytes text by said low short few h =
    let is = is_by lines number bytes text by low in
    let in_line : nat_lt most_line bytes ≡ false = grind (arith, nat_tests) in
    let in_text : nat_le most_commands (length lines) ≡ false = grind (arith, nat_tests) in
    record {
      none = ap first_of is.faults ∙ rw (in_line, in_text, h.sound) refl;
      more = is.more ∙ ap (λ o. with_eight (lines ++ option_to_list (option_map (λ (c : Command). record { actor = by; command = c }) o))) h.says;
    }

-- ---- the lines so far

-- the lines of so many commands: they declare no later label, and submit and wait for no more than
-- is drawn
record AreLines (seed place : ℕ) (lines : List Line) : Type 0 where
  many : length lines ≡ place
  own : (later : ℕ) → place ≤ later → later < 2 ^ 64 → is_declared (label_at later) lines ≡ false
  submitted : submits_in lines ≤ submissions seed place
  few : submits_in lines ≤ most_submits
  soon : seconds_in lines ≤ 2 * place

no_lines : (seed : ℕ) → AreLines seed 0 []
no_lines seed = record { many = refl; own = λ later up small. refl; submitted = omega arith; few = omega arith; soon = omega arith }

-- labels of other places differ
other_label : (place later : ℕ) → place < later → later < 2 ^ 64 → bytes_eq (label_at place) (label_at later) ≡ false
other_label place later up small = differ (bytes_eq (label_at place) (label_at later)) refl
  where
    differ : (b : Bool) → bytes_eq (label_at place) (label_at later) ≡ b → b ≡ false
    differ false is = refl
    differ true is =
        let labels : label_at place ≡ label_at later = (bytes_eq-Decides (label_at place) (label_at later)).0 is in
        let same = decimal_injective place later (omega (arith, up, small)) small (ap (drop 1) labels) in
        absurd (omega (arith, up, same))

later_label : (place later choice : ℕ) (wanted : Kind) → place < later → later < 2 ^ 64 → declares (label_at later) (command_at place wanted choice) ≡ false
later_label place later choice kind.Submit up small = other_label place later up small
later_label place later choice kind.Put up small = refl
later_label place later choice kind.Append up small = refl
later_label place later choice kind.Commit up small = refl
later_label place later choice kind.Get up small = refl
later_label place later choice kind.Advance up small = refl

submits_by : (place choice : ℕ) (wanted : Kind) → submits (command_at place wanted choice) ≡ is_submit wanted
submits_by place choice kind.Submit = refl
submits_by place choice kind.Put = refl
submits_by place choice kind.Append = refl
submits_by place choice kind.Commit = refl
submits_by place choice kind.Get = refl
submits_by place choice kind.Advance = refl

waits : (place choice : ℕ) (wanted : Kind) → seconds_of (command_at place wanted choice) ≤ 2
waits place choice kind.Submit = omega arith
waits place choice kind.Put = omega arith
waits place choice kind.Append = omega arith
waits place choice kind.Commit = omega arith
waits place choice kind.Get = omega arith
waits place choice kind.Advance = omega arith

-- what is asked for is a submission only where one is drawn, and fewer than the most stand before
submit_within : (before digit : ℕ) → digit < 10 → is_submit (within before (kind_at digit)) ≡ true → (digit == 8 ≡ true) × (before < most_submits)
submit_within before digit low = below (λ d. is_submit (within before (kind_at d)) ≡ true → (d == 8 ≡ true) × (before < most_submits)) 10 digit low
    (no, (no, (no, (no, (no, (no, (no, (no, (there (nat_lt before most_submits) refl, (no, tt))))))))))
  where
    no : {P : Type 0} → false ≡ true → P
    no h = absurd (true≢false (sym h))

    there : (b : Bool) → nat_lt before most_submits ≡ b → is_submit (cond b kind.Submit kind.Commit) ≡ true → (8 == 8 ≡ true) × (before < most_submits)
    there true is h = (refl, grind (arith, nat_tests))
    there false is h = no h

submit_asked : (before : ℕ) (words : Drawn) → is_submit (asked before words) ≡ true → (is_submission words ≡ true) × (before < most_submits)
unfolding asked
submit_asked before words h = submit_within before (words.asks % 10) (omega arith) h

-- one more line
one_more : (seed place by choice : ℕ) (lines : List Line) (wanted : Kind) → place < 10000
    → (is_submit wanted ≡ true → (is_submission (drawn seed place) ≡ true) × (submissions seed place < most_submits))
    → AreLines seed place lines → AreLines seed (place + 1) (lines ++ record { actor = by; command = command_at place wanted choice } ∷ [])
one_more seed place by choice lines wanted small asks h =
    let said = command_at place wanted choice in
    let line : Line = record { actor = by; command = said } in
    let added : submits_in (lines ++ line ∷ []) ≡ submits_in lines + (if is_submit wanted then 1 else 0) =
    sum_by_push (λ (l : Line). cond (submits l.command) 1 0) lines line ∙ ap (λ b. submits_in lines + cond b 1 0) (submits_by place choice wanted) in
    let counted = submissions_more seed place in
    let both = counts (is_submit wanted) asks h.submitted h.few in
    record {
      many = length_push lines line ∙ ap (λ n. n + 1) h.many;
      own = λ later up wide. list_any-append (λ (l : Line). declares (label_at later) l.command) lines (line ∷ [])
          ∙ rw (h.own later (omega (arith, up)) wide, later_label place later choice wanted (omega (arith, up)) wide) refl;
      submitted = omega (arith, added, both.0);
      few = omega (arith, added, both.1);
      soon = omega (arith, sum_by_push (λ (l : Line). seconds_of l.command) lines line, h.soon, waits place choice wanted);
    }
  where
    counts : (b : Bool) → (b ≡ true → (is_submission (drawn seed place) ≡ true) × (submissions seed place < most_submits))
        → submits_in lines ≤ submissions seed place → submits_in lines ≤ most_submits
        → (submits_in lines + (if b then 1 else 0) ≤ submissions seed (place + 1)) × (submits_in lines + (if b then 1 else 0) ≤ most_submits)
    counts true is below_drawn below_most =
        let drawn_so = is refl in
        let more : submissions seed (place + 1) ≡ submissions seed place + 1 = submissions_more seed place ∙ ap (λ c. submissions seed place + (if c then 1 else 0)) drawn_so.0 in
        (omega (arith, more, below_drawn), omega (arith, drawn_so.1, below_drawn))
    counts false is below_drawn below_most =
        let more = submissions_more seed place in
        (omega (arith, more, below_drawn), omega (arith, below_most))

-- ---- all lines

abbrev commands : ℕ → ℕ → ℕ → List ℕ
commands seed place n = flat_map (command_line seed) (range_with_len place n)

commands_sound : (seed n place number : ℕ) (lines : List Line) → place + n ≤ 10000 → AreLines seed place lines
    → fault_in 7 (with_eight lines) number (lines_of (commands seed place n)) ≡ None
commands_sound seed zero place number lines few h = refl
commands_sound seed (suc n) place number lines few h =
    let words = drawn seed place in
    let wanted = asked (submissions seed place) words in
    let by = words.actor % 8 in
    let line = bare_line place wanted words in
    let rest = commands seed (place + 1) n in
    let piece = line_piece place wanted words (omega (arith, few)) in
    let asks = submit_asked (submissions seed place) words in
    let room : is_submit wanted ≡ true → submits_in lines < most_submits = λ is. omega (arith, h.submitted, (asks is).1) in
    let says = speaks lines by number place words.choice wanted (omega (arith, few)) (h.own place (omega arith) (omega (arith, few))) room (omega (arith, few, h.soon)) in
    let sound = line_sound lines number (length line) _ by _ (omega arith) piece.short (omega (arith, few, h.many)) says in
    let more = one_more seed place by words.choice lines wanted (omega (arith, few)) asks h in
    let cut : lines_of (commands seed place (suc n)) ≡ as_read (length line) line ∷ lines_of rest = ap lines_of (line_ends place wanted words rest) ∙ line_first line rest piece.printed in
    ap (fault_in 7 (with_eight lines) number) cut
    ∙ ap₂ (λ f w. or_else f (fault_in 7 w (number + 1) (lines_of rest))) sound.none sound.more
    ∙ commands_sound seed n (place + 1) (number + 1) _ (omega (arith, few)) more

-- the lines of actors
actors_read : (rest : List ℕ) (n a : ℕ) → a + n ≤ 8 → lines_of (flat_map actor_line (range_with_len a n) ++ rest)
    ≡ map (λ k. as_read (length (bare_actor k)) (bare_actor k)) (range_with_len a n) ++ lines_of rest
actors_read rest zero a few = refl
actors_read rest (suc n) a few =
    let more = flat_map actor_line (range_with_len (a + 1) n) in
    ap lines_of (actor_ends a more rest) ∙ line_first (bare_actor a) (more ++ rest) (actor_piece a (omega (arith, few))).printed
    ∙ ap (λ ls. as_read (length (bare_actor a)) (bare_actor a) ∷ ls) (actors_read rest n (a + 1) (omega (arith, few)))

actors_sound : (more : List TextLine) → fault_in 7 empty 1 (map (λ k. as_read (length (bare_actor k)) (bare_actor k)) (range_with_len 0 8) ++ more) ≡ fault_in 7 (with_eight []) 9 more
unfolding digits
actors_sound more = refl

-- ---- the text

pub text_sound : (seed count : ℕ) → count ≤ most_commands → first_fault 7 (generated seed count) ≡ None
unfolding first_fault
text_sound seed count few =
    let rest = commands seed 0 count in
    let small = actors_small rest (351 * count) (commands_small seed count 0 (omega (arith, few))) 8 0 (omega arith) in
    let short : nat_lt most_text (length (generated seed count)) ≡ false = grind (arith, nat_tests, small.short) in
    let text : is_utf8 (generated seed count) ≡ true = is_utf8-from_IsUtf8 (generated seed count) (IsUtf8-from_ascii (generated seed count) small.ascii) in
    let read = ap (fault_in 7 empty 1) (actors_read rest 8 0 (omega arith)) ∙ actors_sound (lines_of rest) in
    rw (short, text) (read ∙ commands_sound seed count 0 9 [] (omega (arith, few)) (no_lines seed))
