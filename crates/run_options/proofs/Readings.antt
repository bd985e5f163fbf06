-- What clap answers of the command's words, and what the reference says of them.
use Rattle.std.proofs.Common.{◌≡◌, ◌≢◌, ◌∙◌, ◌++◌, ◌||◌, cond, Bool, true, false, List, [], ◌∷◌, map, Option, Some, None, is_some, refl, sym, ap, inl, inr, codes, fold, bytes_eq, subst, true≢false}
use Rattle.std.specs.Prelude.{option_and_then, if◌then◌else◌}
use Rattle.std.specs.List.{list_any}
use Rattle.clap.specs.Walk.{Row, Rule, Text, first_of, has_row, one_of, row_text, rows_of, with_default}
use Rattle.clap.specs.Words.{matches_of, fault_of}
use Rattle.clap.specs.Kinds.{Kinds, or_else}
use Rattle.clap.specs.Faults.{given_default_fault, default_fault, defaults_fault, settle_fault, walk_fault}
use Rattle.clap.specs.Walk.{nothing_held, walk}
use Rattle.clap.specs.declared.builder.value_parser.Reading.TheVariants as reading
use Rattle.clap.specs.declared.parser.matches.ValueSource.TheVariants.{DefaultValue}
use Rattle.clap.specs.Walk.{at_row, more_values}
use Rattle.clap.specs.Matches.{first_value, one_text}
use Rattle.clap.specs.declared.parser.matches.Found.{Found}
use Rattle.clap.proofs.WalkLemmas.{first_value-rows, one_text-rows}
use Rattle.clap.proofs.FaultLemmas.{leaf_fault}
use Rattle.std.proofs.lemmas.Slice.Eq.{bytes_eq-Decides}
use Rattle.run_options.specs.declared.given.Given.{Given}
use Rattle.run_options.specs.Given.{nothing, with_value}
use Rattle.run_options.specs.Words.{wants_value, with_word, with_words}
use Rattle.run_options.proofs.Steps.{alone, paired, unpaired}
use Rattle.run_options.specs.Command.{is_dashes, run_app}
use Rattle.run_options.specs.Matches.{IsFlag, flag_of, given_in}
use Rattle.run_options.proofs.Rows.{IsSetByRow, Sound, absent, at_none, find_new, find_old, found, has_find, not_name, read, texts, value_in}
use Rattle.run_options.proofs.Sets.{Flags, given_of, same_given}
use Rattle.run_options.proofs.Views.{Names, hyphen_refused, names, no_value}
use Rattle.run_options.proofs.Whole.{Ends, fault, left, walk_tie}
use Rattle.run_options.proofs.Walks.{Name, Flag, by_journal, by_backfill, all_names, at, flag_rule, flag_rules, flag_text, rule, run_rules, run_shape, text}

-- ---- defaults

abbrev default_row : Flag → Row
default_row f = record { id = flag_text f; values = codes "false" ∷ []; count = None; source = Some DefaultValue; reading = reading.AsWritten }

abbrev with_flags : List Row → List Row
with_flags rows = with_default (with_default rows (flag_rule by_journal)) (flag_rule by_backfill)

no_default : (n : Name) (rows : List Row) → with_default rows (rule n) ≡ rows
no_default n rows = go (has_row (text n) rows)
  where
    go : (b : Bool) → (if b then rows else rows) ≡ rows
    go true = refl
    go false = refl

valueless : (n : Name) (rows : List Row) → default_fault rows (rule n) ≡ []
valueless n rows = go (has_row (text n) rows)
  where
    go : (b : Bool) → (if b || true then [] else given_default_fault (rule n) []) ≡ []
    go true = refl
    go false = refl

flag_default : (f : Flag) (rows : List Row) → default_fault rows (flag_rule f) ≡ []
flag_default f rows = go (has_row (flag_text f) rows)
  where
    go : (b : Bool) → (if b || false then [] else given_default_fault (flag_rule f) (flag_rule f).defaults) ≡ []
    go true = refl
    go false = refl

next_flag : (f : Flag) (rs : List Row) (rest : List Rule) → defaults_fault (with_default rs (flag_rule f)) rest ≡ [] → defaults_fault rs (flag_rule f ∷ rest) ≡ []
unfolding defaults_fault
next_flag f rs rest e = ap (λ ks. or_else ks (defaults_fault (with_default rs (flag_rule f)) rest)) (flag_default f rs) ∙ e

flag_defaults : (rs : List Row) → defaults_fault rs (flag_rule by_journal ∷ flag_rule by_backfill ∷ []) ≡ []
unfolding defaults_fault
flag_defaults rs = next_flag by_journal rs (flag_rule by_backfill ∷ []) (next_flag by_backfill (with_default rs (flag_rule by_journal)) [] refl)

valued_pass : (ns : List Name) (rows : List Row) (rest : List Rule) → defaults_fault rows rest ≡ [] → defaults_fault rows (map rule ns ++ rest) ≡ []
unfolding defaults_fault
valued_pass [] rows rest e = e
valued_pass (n ∷ ns) rows rest e = ap (λ ks. or_else ks (defaults_fault (with_default rows (rule n)) (map rule ns ++ rest))) (valueless n rows)
    ∙ ap (λ rs. defaults_fault rs (map rule ns ++ rest)) (no_default n rows) ∙ valued_pass ns rows rest e

defaults_pass : (rows : List Row) → defaults_fault rows run_rules ≡ []
defaults_pass rows = valued_pass all_names rows flag_rules (flag_defaults rows)

finish_valued : (ns : List Name) (rows : List Row) (rest : List Rule) → fold with_default rows (map rule ns ++ rest) ≡ fold with_default rows rest
finish_valued [] rows rest = refl
finish_valued (n ∷ ns) rows rest = ap (λ rs. fold with_default rs (map rule ns ++ rest)) (no_default n rows) ∙ finish_valued ns rows rest

finish : (rows : List Row) → fold with_default rows run_rules ≡ with_flags rows
finish rows = finish_valued all_names rows flag_rules

-- ---- the parse

right_nil : (ks : Kinds) → or_else ks [] ≡ ks
right_nil [] = refl
right_nil (k ∷ ks) = refl

abbrev rows_of_words : List Text → List Row
rows_of_words words = left (at [] None) words

pub fault_is : (words : List Text) → fault_of run_app words ≡ fault (at [] None) words
unfolding run_app
fault_is words =
    leaf_fault (record { top = run_shape; subs = [] }) nothing_held words refl
    ∙ ap (λ ds. or_else (walk_fault run_shape [] (at [] None) words) (or_else (settle_fault run_rules false (walk run_rules [] nothing_held words).held) (or_else ds []))) (defaults_pass (rows_of_words words))
    ∙ ap (or_else (walk_fault run_shape [] (at [] None) words)) (right_nil (settle_fault run_rules false (walk run_rules [] nothing_held words).held))

matches_are : (words : List Text) → matches_of run_app words ≡ with_flags (rows_of_words words)
unfolding run_app
matches_are words = finish (rows_of_words words)

-- what the matches' rows give
abbrev shown_flags : List Row → Flags
shown_flags rows f = flag_of (one_of (flag_text f) rows)

abbrev given_of_rows : List Row → Option Given
given_of_rows rows = given_of (texts rows) (shown_flags rows)

-- a flag that is not given has a row of its own, and other rows stay
not_given : (f : Flag) (rows : List Row) → has_row (flag_text f) rows ≡ false → with_default rows (flag_rule f) ≡ rows ++ default_row f ∷ []
not_given f rows none = ap (λ b. if b then rows else at_row (flag_text f) (more_values DefaultValue (codes "false" ∷ [])) (default_row f ∷ []) rows) none
    ∙ at_none (flag_text f) (more_values DefaultValue (codes "false" ∷ [])) (default_row f ∷ []) rows none

is_given : (f : Flag) (rows : List Row) → has_row (flag_text f) rows ≡ true → with_default rows (flag_rule f) ≡ rows
is_given f rows has = ap (λ b. if b then rows else at_row (flag_text f) (more_values DefaultValue (codes "false" ∷ [])) (default_row f ∷ []) rows) has

found_default : (f : Flag) (id : Text) (rows : List Row) → bytes_eq (flag_text f) id ≡ false → found id (with_default rows (flag_rule f)) ≡ found id rows
found_default f id rows other = go (has_row (flag_text f) rows) refl
  where
    go : (b : Bool) → has_row (flag_text f) rows ≡ b → found id (with_default rows (flag_rule f)) ≡ found id rows
    go true has = ap (found id) (is_given f rows has)
    go false none = ap (found id) (not_given f rows none) ∙ find_old (λ r. bytes_eq r.id id) rows (default_row f) other

-- the text of a flag in the matches
abbrev flag_shown : Bool → Text
flag_shown b = cond b (codes "true") (codes "false")

shown_default : (f : Flag) (rows : List Row) → IsSetByRow (flag_text f) rows → one_of (flag_text f) (with_default rows (flag_rule f)) ≡ Some (flag_shown (has_row (flag_text f) rows))
shown_default f rows set = go (has_row (flag_text f) rows) refl
  where
    own : (f : Flag) → option_and_then row_text (cond (bytes_eq (flag_text f) (flag_text f)) (Some (default_row f)) None) ≡ Some (codes "false")
    own by_journal = refl
    own by_backfill = refl

    go : (b : Bool) → has_row (flag_text f) rows ≡ b → one_of (flag_text f) (with_default rows (flag_rule f)) ≡ Some (flag_shown (has_row (flag_text f) rows))
    go true has = ap (one_of (flag_text f)) (is_given f rows has) ∙ set ∙ ap (λ b. cond b (Some (codes "true")) None) has ∙ ap (λ b. Some (flag_shown b)) (sym has)
    go false none = ap (one_of (flag_text f)) (not_given f rows none)
        ∙ ap (option_and_then row_text) (find_new (λ r. bytes_eq r.id (flag_text f)) rows (default_row f) (absent (flag_text f) rows none))
        ∙ own f ∙ ap (λ b. Some (flag_shown b)) (sym none)

-- what is found in all the rows
found_old : (id : Text) (rows : List Row) → bytes_eq (codes "journal") id ≡ false → bytes_eq (codes "backfill") id ≡ false → found id (with_flags rows) ≡ found id rows
found_old id rows journal backfill = found_default by_backfill id (with_default rows (flag_rule by_journal)) backfill ∙ found_default by_journal id rows journal

first_old : (n : Name) (rows : List Row) → first_of (text n) (with_flags rows) ≡ first_of (text n) rows
first_old n rows = ap value_in (found_old (text n) rows (not_name by_journal n) (not_name by_backfill n))

flag_text_in : (f : Flag) (rows : List Row) → Sound rows → one_of (flag_text f) (with_flags rows) ≡ Some (flag_shown (has_row (flag_text f) rows))
flag_text_in by_journal rows s =
    ap (option_and_then row_text) (found_default by_backfill (codes "journal") (with_default rows (flag_rule by_journal)) refl) ∙ shown_default by_journal rows (s.flags by_journal)
flag_text_in by_backfill rows s =
    let journaled = with_default rows (flag_rule by_journal) in
    let kept : found (codes "backfill") journaled ≡ found (codes "backfill") rows = found_default by_journal (codes "backfill") rows refl in
    let has : has_row (codes "backfill") journaled ≡ has_row (codes "backfill") rows = has_find (codes "backfill") journaled ∙ ap is_some kept ∙ sym (has_find (codes "backfill") rows) in
    let set : IsSetByRow (codes "backfill") journaled = ap (option_and_then row_text) kept ∙ s.flags by_backfill ∙ ap (λ b. cond b (Some (codes "true")) None) (sym has) in
    shown_default by_backfill journaled set ∙ ap (λ b. Some (flag_shown b)) has

flag_read : (b : Bool) → flag_of (Some (flag_shown b)) ≡ b
flag_read true = refl
flag_read false = refl

-- what the matches give is what the uses give
given_same : (rows : List Row) → Sound rows → given_of_rows (with_flags rows) ≡ read rows
given_same rows s = same_given (texts (with_flags rows)) (texts rows) (shown_flags (with_flags rows)) (λ f. has_row (flag_text f) rows) (λ n. first_old n rows) flag
  where
    flag : (f : Flag) → flag_of (one_of (flag_text f) (with_flags rows)) ≡ has_row (flag_text f) rows
    flag f = ap flag_of (flag_text_in f rows s) ∙ flag_read (has_row (flag_text f) rows)

empty_sound : Sound []
empty_sound = record { held = held; flags = set }
  where
    held : (n : Name) → has_row (text n) [] ≡ is_some (first_of (text n) [])
    held n = refl

    set : (f : Flag) → IsSetByRow (flag_text f) []
    set f = refl

spelled_first : (words : List Text) → list_any is_dashes words ≡ false → Ends (at [] None) words (with_words nothing words)
spelled_first words other = walk_tie words [] None other refl empty_sound

-- where clap takes the words, its matches give what they spell
rows_taken : (words : List Text) → list_any is_dashes words ≡ false → fault_of run_app words ≡ []
    → with_words nothing words ≡ given_of_rows (matches_of run_app words)
rows_taken words other passes = go (spelled_first words other)
  where
    go : Ends (at [] None) words (with_words nothing words) → with_words nothing words ≡ given_of_rows (matches_of run_app words)
    go (inl h) = h.1 ∙ sym (given_same (rows_of_words words) h.2) ∙ ap given_of_rows (sym (matches_are words))
    go (inr h) = absurd (h.0 (sym (fault_is words) ∙ passes))

-- the same of the matches themselves
pub taken : (words : List Text) (f : Found) → rows_of f ≡ matches_of run_app words → list_any is_dashes words ≡ false → fault_of run_app words ≡ []
    → with_words nothing words ≡ given_in f
unfolding given_in
taken words f rows other passes =
    let text_in : (id : Text) → first_of id (matches_of run_app words) ≡ first_value f id = λ id. ap (first_of id) (sym rows) ∙ sym (first_value-rows f id) in
    let flag_in : (id : Text) → flag_of (one_of id (matches_of run_app words)) ≡ flag_of (one_text f id) = λ id. ap (λ rs. flag_of (one_of id rs)) (sym rows) ∙ ap flag_of (sym (one_text-rows f id)) in
    rows_taken words other passes
    ∙ same_given (texts (matches_of run_app words)) (λ n. first_value f (text n)) (shown_flags (matches_of run_app words)) (λ g. flag_of (one_text f (flag_text g)))
    (λ n. text_in (text n)) (λ g. flag_in (flag_text g))

-- and each flag is written out in them
flag_in : (f : Flag) (rows : List Row) → Sound rows → IsFlag (one_of (flag_text f) (with_flags rows))
flag_in f rows s = subst IsFlag (sym (flag_text_in f rows s)) (go (has_row (flag_text f) rows))
  where
    go : (b : Bool) → IsFlag (Some (flag_shown b))
    go true = inl refl
    go false = inr refl

pub flag_written : (words : List Text) (f : Found) → rows_of f ≡ matches_of run_app words → list_any is_dashes words ≡ false → fault_of run_app words ≡ []
    → (flag : Flag) → IsFlag (one_text f (flag_text flag))
flag_written words f rows other passes flag = subst IsFlag (sym (one_text-rows f (flag_text flag) ∙ ap (one_of (flag_text flag)) (rows ∙ matches_are words))) (go (spelled_first words other))
  where
    go : Ends (at [] None) words (with_words nothing words) → IsFlag (one_of (flag_text flag) (with_flags (rows_of_words words)))
    go (inl h) = flag_in flag (rows_of_words words) h.2
    go (inr h) = absurd (h.0 (sym (fault_is words) ∙ passes))

-- where clap refuses them, they spell nothing
pub refused : (words : List Text) → list_any is_dashes words ≡ false → fault_of run_app words ≢ [] → with_words nothing words ≡ None
refused words other fails = go (spelled_first words other)
  where
    go : Ends (at [] None) words (with_words nothing words) → with_words nothing words ≡ None
    go (inl h) = absurd (fails (fault_is words ∙ h.0))
    go (inr h) = h.1

-- `--` spells nothing
dashes_value : (g : Given) (name value : Text) → is_dashes value ≡ true → with_value g name value ≡ None
dashes_value g name value is = go (names name)
  where
    go : Names name → with_value g name value ≡ None
    go (inl n) = ap (λ w. with_value g w value) n.1 ∙ hyphen_refused n.0 g value (45 ∷ [], (bytes_eq-Decides value (45 ∷ 45 ∷ [])).0 is)
    go (inr none) = no_value g name value none

Refuses : List Text → Type 0
Refuses words = list_any is_dashes words ≡ true → (g : Given) → with_words g words ≡ None

dashes_first : (g : Given) (word : Text) (words : List Text) → is_dashes word ≡ true → with_words g (word ∷ words) ≡ None
dashes_first g word words is = ap (λ w. with_words g (w ∷ words)) ((bytes_eq-Decides word (45 ∷ 45 ∷ [])).0 is) ∙ at_dashes words
  where
    at_dashes : (words : List Text) → with_words g ((45 ∷ 45 ∷ []) ∷ words) ≡ None
    at_dashes [] = unpaired g (45 ∷ 45 ∷ []) refl
    at_dashes (v ∷ rest) = paired g (45 ∷ 45 ∷ []) v rest refl

later : (words : List Text) (o : Option Given) → ((g : Given) → with_words g words ≡ None) → option_and_then (λ more. with_words more words) o ≡ None
later words None h = refl
later words (Some g) h = h g

dashes_later : (g : Given) (word : Text) (words : List Text) → Refuses words → ((next : Text) (rest : List Text) → words ≡ next ∷ rest → Refuses rest)
    → list_any is_dashes words ≡ true → (b : Bool) → wants_value word ≡ b → with_words g (word ∷ words) ≡ None
unfolding Refuses
dashes_later g word words all rest some false alone_so = alone g word words alone_so ∙ later words (with_word g word) (all some)
dashes_later g word [] all rest some true wants = absurd (true≢false (sym some))
dashes_later g word (next ∷ words) all rest some true wants = paired g word next words wants ∙ go (is_dashes next) refl
  where
    go : (b : Bool) → is_dashes next ≡ b → option_and_then (λ more. with_words more words) (with_value g word next) ≡ None
    go true is = ap (option_and_then (λ more. with_words more words)) (dashes_value g word next is)
    go false other = later words (with_value g word next) (rest next words refl (ap (λ b. b || list_any is_dashes words) (sym other) ∙ some))

refuses_word : (word : Text) (words : List Text) → Refuses words → ((next : Text) (rest : List Text) → words ≡ next ∷ rest → Refuses rest) → Refuses (word ∷ words)
unfolding Refuses
refuses_word word words all rest some g = go (is_dashes word) refl
  where
    go : (b : Bool) → is_dashes word ≡ b → with_words g (word ∷ words) ≡ None
    go true is = dashes_first g word words is
    go false other = dashes_later g word words all rest (ap (λ b. b || list_any is_dashes words) (sym other) ∙ some) (wants_value word) refl

same_rest : (a b : Text) (xs ys : List Text) → a ∷ xs ≡ b ∷ ys → xs ≡ ys
same_rest a b xs ys e = cc

refuses : (words : List Text) → Refuses words
unfolding Refuses
refuses [] some = absurd (true≢false (sym some))
refuses (word ∷ []) some = refuses_word word [] (refuses []) (λ next rest e. absurd (no_words next rest e)) some
  where
    no_words : (next : Text) (rest : List Text) → [] ≡ next ∷ rest → ⊥
    no_words next rest e = cc
refuses (word ∷ next ∷ words) some = refuses_word word (next ∷ words) (refuses (next ∷ words)) (λ n rest e. subst Refuses (same_rest next n words rest e) (refuses words)) some

pub dashes_refused : (words : List Text) → list_any is_dashes words ≡ true → with_words nothing words ≡ None
unfolding Refuses
dashes_refused words some = refuses words some nothing
