-- clap takes the words, none of which is `--`, where each spells an option that is not given yet.
use Rattle.std.proofs.Common.{◌≡◌, ◌≢◌, ◌∙◌, ◌++◌, ◌⊎◌, ◌&&◌, ◌||◌, Bool, true, false, not, List, [], ◌∷◌, Option, Some, None, refl, sym, ap, inl, inr, fold, subst, true≢false}
use Rattle.std.specs.Prelude.{option_and_then, if◌then◌else◌}
use Rattle.std.specs.List.{list_any}
use Rattle.clap.specs.Walk.{Held, Row, Rule, Text, Walk, has_row, settled_rows, used, walked}
use Rattle.clap.specs.Kinds.{Kinds, or_else}
use Rattle.clap.specs.Faults.{react_fault, settle_fault, turn_fault, use_fault, walk_fault}
use Rattle.clap.specs.declared.error.kind.ErrorKind.TheVariants as kind
use Rattle.run_options.specs.declared.given.Given.{Given}
use Rattle.run_options.specs.Given.{with_value}
use Rattle.run_options.specs.Words.{with_words}
use Rattle.run_options.specs.Command.{is_dashes}
use Rattle.run_options.proofs.Rows.{Sound, flagged_again, flagged_new, given_again, given_new, flag_row, made, read, sound_flag, sound_new, used_flag, used_new}
use Rattle.run_options.proofs.Sets.{nothing_then, then_in_turn, then_same, with_flag}
use Rattle.run_options.proofs.Steps.{alone, ended, paired, unpaired}
use Rattle.run_options.proofs.Strays.{HasHyphen, IsValueOf, first_fails, late_turn, missing, some_fault, unknown_turn, waits_turn}
use Rattle.run_options.proofs.Views.{IsStray, View, flagged, hyphen_refused, named, named_wants, stray, view, flag_wants, flag_word, whole, whole_wants, whole_word}
use Rattle.run_options.proofs.Walks.{Name, by_size, Flag, at, dashed, flag_dashed, flag_rule, flag_text, flag_turn, flag_walk, holding, named_turn, named_walk, rule, run_rules, run_shape, text, waits, whole_turn, whole_walk}

abbrev held_after : Walk → List Text → Held
held_after w words = (fold (walked run_rules []) w words).held

-- what the words fail by, from here on
abbrev pub fault : Walk → List Text → Kinds
fault w words = or_else (walk_fault run_shape [] w words) (settle_fault run_rules false (held_after w words))

-- the rows behind the words
abbrev pub left : Walk → List Text → List Row
left w words = settled_rows run_rules (held_after w words).pending (held_after w words).rows

-- the words fail and spell nothing, or their rows give what they spell
abbrev pub Ends : Walk → List Text → Option Given → Type 0
Ends w words r = ((fault w words ≡ []) × (r ≡ read (left w words)) × Sound (left w words)) ⊎ ((fault w words ≢ []) × (r ≡ None))

abbrev pub spelled : List Text → Option Given → Option Given
spelled words = option_and_then (λ g. with_words g words)

ends_as : (w : Walk) (words : List Text) (r s : Option Given) → r ≡ s → Ends w words s → Ends w words r
ends_as w words r s e (inl h) = inl (h.0, e ∙ h.1, h.2)
ends_as w words r s e (inr h) = inr (h.0, e ∙ h.1)

fault_next : (w next : Walk) (word : Text) (words : List Text) → turn_fault run_shape [] w word ≡ [] → walked run_rules [] w word ≡ next
    → fault w (word ∷ words) ≡ fault next words
unfolding walk_fault
fault_next w next word words passes is =
    ap (λ t. or_else (or_else t (walk_fault run_shape [] (walked run_rules [] w word) words)) (settle_fault run_rules false (held_after (walked run_rules [] w word) words))) passes
    ∙ ap (λ v. fault v words) is

turned : (w next : Walk) (word : Text) (words : List Text) (r : Option Given) → turn_fault run_shape [] w word ≡ [] → walked run_rules [] w word ≡ next
    → Ends next words r → Ends w (word ∷ words) r
turned w next word words r passes is (inl h) = inl (fault_next w next word words passes is ∙ h.0, h.1 ∙ ap (λ v. read (left v words)) (sym is), subst (λ v. Sound (left v words)) (sym is) h.2)
turned w next word words r passes is (inr h) = inr (subst (λ ks. ks ≢ []) (sym (fault_next w next word words passes is)) h.0, h.1)

fails_here : (w : Walk) (word : Text) (words : List Text) → turn_fault run_shape [] w word ≢ [] → fault w (word ∷ words) ≢ []
unfolding walk_fault
fails_here w word words fails = first_fails _ _ (first_fails _ _ fails)

fails_at_end : (w : Walk) → settle_fault run_rules false w.held ≢ [] → fault w [] ≢ []
unfolding walk_fault
fails_at_end w late = late

passes_at_end : (w : Walk) → settle_fault run_rules false w.held ≡ [] → fault w [] ≡ []
unfolding walk_fault
passes_at_end w e = e

either : (a b : Bool) → (a || b) ≡ false → (a ≡ false) × (b ≡ false)
either false b e = (refl, e)
either true b e = absurd (true≢false e)

late_fault : (words : List Text) (rows : List Row) (p : Option (Text × List Text)) → list_any is_dashes words ≡ false → settle_fault run_rules false (holding rows p) ≢ []
    → fault (at rows p) words ≢ []
late_fault [] rows p other late = fails_at_end (at rows p) late
late_fault (word ∷ words) rows p other late = fails_here (at rows p) word words (late_turn word rows p (either _ _ other).0 late)

-- ---- a use

use_is : (n : Name) (v : Text) (rows : List Row) → use_fault false (rule n) (v ∷ []) rows ≡ or_else (if has_row (text n) rows && not false then kind.ArgumentConflict ∷ [] else []) []
use_is n v rows = refl

use_new : (n : Name) (v : Text) (rows : List Row) → has_row (text n) rows ≡ false → use_fault false (rule n) (v ∷ []) rows ≡ []
use_new n v rows none = use_is n v rows ∙ ap (λ b. or_else (if b && not false then kind.ArgumentConflict ∷ [] else []) []) none

use_again : (n : Name) (v : Text) (rows : List Row) → has_row (text n) rows ≡ true → use_fault false (rule n) (v ∷ []) rows ≢ []
use_again n v rows has = subst (λ ks. ks ≢ []) (sym (use_is n v rows ∙ ap (λ b. or_else (if b && not false then kind.ArgumentConflict ∷ [] else []) []) has)) (some_fault _ _)

flag_is : (f : Flag) (rows : List Row) → use_fault false (flag_rule f) [] rows ≡ or_else (if has_row (flag_text f) rows && not false then kind.ArgumentConflict ∷ [] else []) []
flag_is f rows = refl

flag_new : (f : Flag) (rows : List Row) → has_row (flag_text f) rows ≡ false → use_fault false (flag_rule f) [] rows ≡ []
flag_new f rows none = flag_is f rows ∙ ap (λ b. or_else (if b && not false then kind.ArgumentConflict ∷ [] else []) []) none

flag_again : (f : Flag) (rows : List Row) → has_row (flag_text f) rows ≡ true → use_fault false (flag_rule f) [] rows ≢ []
flag_again f rows has = subst (λ ks. ks ≢ []) (sym (flag_is f rows ∙ ap (λ b. or_else (if b && not false then kind.ArgumentConflict ∷ [] else []) []) has)) (some_fault _ _)

-- the option before passes, and then this use
reacts : (a : Rule) (values : List Text) (rows : List Row) (p : Option (Text × List Text)) → settle_fault run_rules false (holding rows p) ≡ []
    → or_else (react_fault run_rules false a values (holding rows p)) [] ≡ or_else (use_fault false a values (settled_rows run_rules p rows)) []
reacts a values rows p e = ap (λ t. or_else (or_else t (use_fault false a values (settled_rows run_rules p rows))) []) e

pending_fault : (n : Name) (v : Text) (rows : List Row) → settle_fault run_rules false (holding rows (Some (text n, v ∷ []))) ≡ use_fault false (rule n) (v ∷ []) rows
pending_fault by_size v rows = refl
pending_fault _ v rows = refl

pending_rows : (n : Name) (v : Text) (rows : List Row) → settled_rows run_rules (Some (text n, v ∷ [])) rows ≡ used (rule n) (v ∷ []) rows
pending_rows by_size v rows = refl
pending_rows _ v rows = refl

-- ---- the walk

abbrev Claim : List Text → Type 0
Claim words = (rows : List Row) (p : Option (Text × List Text)) → list_any is_dashes words ≡ false → settle_fault run_rules false (holding rows p) ≡ []
    → Sound (settled_rows run_rules p rows) → Ends (at rows p) words (spelled words (read (settled_rows run_rules p rows)))

whole_spells : (n : Name) (v : Text) (words : List Text) (o : Option Given)
    → spelled ((dashed n ++ 61 ∷ v) ∷ words) o ≡ spelled words (option_and_then (λ g. with_value g (dashed n) v) o)
whole_spells n v words o =
    then_same (λ g. with_words g ((dashed n ++ 61 ∷ v) ∷ words)) (λ g. spelled words (with_value g (dashed n) v)) o
    (λ g. alone g (dashed n ++ 61 ∷ v) words (whole_wants n v) ∙ ap (spelled words) (whole_word n v g))
    ∙ then_in_turn (λ g. with_value g (dashed n) v) (λ g. with_words g words) o

named_spells : (n : Name) (v : Text) (words : List Text) (o : Option Given)
    → spelled (dashed n ∷ v ∷ words) o ≡ spelled words (option_and_then (λ g. with_value g (dashed n) v) o)
named_spells n v words o =
    then_same (λ g. with_words g (dashed n ∷ v ∷ words)) (λ g. spelled words (with_value g (dashed n) v)) o (λ g. paired g (dashed n) v words (named_wants n))
    ∙ then_in_turn (λ g. with_value g (dashed n) v) (λ g. with_words g words) o

flag_spells : (f : Flag) (words : List Text) (o : Option Given) → spelled (flag_dashed f ∷ words) o ≡ spelled words (option_and_then (with_flag f) o)
flag_spells f words o =
    then_same (λ g. with_words g (flag_dashed f ∷ words)) (λ g. spelled words (with_flag f g)) o (λ g. alone g (flag_dashed f) words (flag_wants f) ∙ ap (spelled words) (flag_word f g))
    ∙ then_in_turn (with_flag f) (λ g. with_words g words) o

none_spells : (word : Text) (words : List Text) (o : Option Given) → ((g : Given) → with_words g (word ∷ words) ≡ None) → spelled (word ∷ words) o ≡ None
none_spells word words o none = then_same (λ g. with_words g (word ∷ words)) (λ g. None) o none ∙ nothing_then o

-- `--NAME=VALUE`
at_whole : (n : Name) (v : Text) (words : List Text) (rows : List Row) (p : Option (Text × List Text)) → list_any is_dashes words ≡ false
    → settle_fault run_rules false (holding rows p) ≡ [] → Sound (settled_rows run_rules p rows) → Claim words
    → Ends (at rows p) ((dashed n ++ 61 ∷ v) ∷ words) (spelled ((dashed n ++ 61 ∷ v) ∷ words) (read (settled_rows run_rules p rows)))
at_whole n v words rows p other passes sound more = go (has_row (text n) rs) refl
  where
    rs : List Row
    rs = settled_rows run_rules p rows

    go : (b : Bool) → has_row (text n) (settled_rows run_rules p rows) ≡ b
        → Ends (at rows p) ((dashed n ++ 61 ∷ v) ∷ words) (spelled ((dashed n ++ 61 ∷ v) ∷ words) (read (settled_rows run_rules p rows)))
    go true has = inr (
      fails_here (at rows p) (dashed n ++ 61 ∷ v) words (subst (λ ks. ks ≢ []) (sym (whole_turn n v rows p ∙ reacts (rule n) (v ∷ []) rows p passes))
          (first_fails _ _ (use_again n v (settled_rows run_rules p rows) has))),
      whole_spells n v words (read (settled_rows run_rules p rows)) ∙ ap (spelled words) (given_again n v (settled_rows run_rules p rows) sound has),
    )
    go false none =
        let new = settled_rows run_rules p rows ++ made (text n) v ∷ [] in
        let row = used_new n v (settled_rows run_rules p rows) none in
        turned (at rows p) (at new None) (dashed n ++ 61 ∷ v) words (spelled ((dashed n ++ 61 ∷ v) ∷ words) (read (settled_rows run_rules p rows)))
        (whole_turn n v rows p ∙ reacts (rule n) (v ∷ []) rows p passes ∙ ap (λ ks. or_else ks []) (use_new n v (settled_rows run_rules p rows) none))
        (whole_walk n v rows p ∙ ap (λ k. at k None) row)
        (ends_as (at new None) words (spelled ((dashed n ++ 61 ∷ v) ∷ words) (read (settled_rows run_rules p rows))) (spelled words (read new))
        (whole_spells n v words (read (settled_rows run_rules p rows)) ∙ ap (spelled words) (given_new n v (settled_rows run_rules p rows) none))
        (more new None other refl (sound_new n v (settled_rows run_rules p rows) sound)))

-- a flag
at_flag : (f : Flag) (words : List Text) (rows : List Row) (p : Option (Text × List Text)) → list_any is_dashes words ≡ false
    → settle_fault run_rules false (holding rows p) ≡ [] → Sound (settled_rows run_rules p rows) → Claim words
    → Ends (at rows p) (flag_dashed f ∷ words) (spelled (flag_dashed f ∷ words) (read (settled_rows run_rules p rows)))
at_flag f words rows p other passes sound more = go (has_row (flag_text f) (settled_rows run_rules p rows)) refl
  where
    go : (b : Bool) → has_row (flag_text f) (settled_rows run_rules p rows) ≡ b
        → Ends (at rows p) (flag_dashed f ∷ words) (spelled (flag_dashed f ∷ words) (read (settled_rows run_rules p rows)))
    go true has = inr (
      fails_here (at rows p) (flag_dashed f) words (subst (λ ks. ks ≢ []) (sym (flag_turn f rows p ∙ reacts (flag_rule f) [] rows p passes))
          (first_fails _ _ (flag_again f (settled_rows run_rules p rows) has))),
      flag_spells f words (read (settled_rows run_rules p rows)) ∙ ap (spelled words) (flagged_again f (settled_rows run_rules p rows) has),
    )
    go false none =
        let new = settled_rows run_rules p rows ++ flag_row f ∷ [] in
        turned (at rows p) (at new None) (flag_dashed f) words (spelled (flag_dashed f ∷ words) (read (settled_rows run_rules p rows)))
        (flag_turn f rows p ∙ reacts (flag_rule f) [] rows p passes ∙ ap (λ ks. or_else ks []) (flag_new f (settled_rows run_rules p rows) none))
        (flag_walk f rows p ∙ ap (λ k. at k None) (used_flag f (settled_rows run_rules p rows) none))
        (ends_as (at new None) words (spelled (flag_dashed f ∷ words) (read (settled_rows run_rules p rows))) (spelled words (read new))
        (flag_spells f words (read (settled_rows run_rules p rows)) ∙ ap (spelled words) (flagged_new f (settled_rows run_rules p rows) none))
        (more new None other refl (sound_flag f (settled_rows run_rules p rows) sound)))

-- the value behind `--NAME`
at_value : (n : Name) (v : Text) (words : List Text) (rows : List Row) → list_any is_dashes (v ∷ words) ≡ false → Sound rows → Claim words
    → Ends (waits n rows) (v ∷ words) (spelled words (option_and_then (λ g. with_value g (dashed n) v) (read rows)))
at_value n v words rows other sound more = by (waits_turn n v rows (either _ _ other).0)
  where
    refused : HasHyphen v → spelled words (option_and_then (λ g. with_value g (dashed n) v) (read rows)) ≡ None
    refused h = ap (spelled words) (then_same (λ g. with_value g (dashed n) v) (λ g. None) (read rows) (λ g. hyphen_refused n g v h) ∙ nothing_then (read rows))

    taken : IsValueOf n v rows → (b : Bool) → has_row (text n) rows ≡ b
        → Ends (waits n rows) (v ∷ words) (spelled words (option_and_then (λ g. with_value g (dashed n) v) (read rows)))
    taken is true has = turned (waits n rows) (at rows (Some (text n, v ∷ []))) v words (spelled words (option_and_then (λ g. with_value g (dashed n) v) (read rows))) is.0 is.1
        (inr (
          late_fault words rows (Some (text n, v ∷ [])) (either _ _ other).1 (subst (λ ks. ks ≢ []) (sym (pending_fault n v rows)) (use_again n v rows has)),
          ap (spelled words) (given_again n v rows sound has),
        ))
    taken is false none =
        let new : settled_rows run_rules (Some (text n, v ∷ [])) rows ≡ rows ++ made (text n) v ∷ [] = pending_rows n v rows ∙ used_new n v rows none in
        turned (waits n rows) (at rows (Some (text n, v ∷ []))) v words (spelled words (option_and_then (λ g. with_value g (dashed n) v) (read rows))) is.0 is.1
        (ends_as (at rows (Some (text n, v ∷ []))) words (spelled words (option_and_then (λ g. with_value g (dashed n) v) (read rows)))
        (spelled words (read (settled_rows run_rules (Some (text n, v ∷ [])) rows)))
        (ap (spelled words) (given_new n v rows none ∙ ap read (sym new)))
        (more rows (Some (text n, v ∷ [])) (either _ _ other).1 (pending_fault n v rows ∙ use_new n v rows none) (subst Sound (sym new) (sound_new n v rows sound))))

    by : ((turn_fault run_shape [] (waits n rows) v ≢ []) × HasHyphen v) ⊎ IsValueOf n v rows
        → Ends (waits n rows) (v ∷ words) (spelled words (option_and_then (λ g. with_value g (dashed n) v) (read rows)))
    by (inl fails) = inr (fails_here (waits n rows) v words fails.0, refused fails.1)
    by (inr is) = taken is (has_row (text n) rows) refl

-- `--NAME VALUE`
at_named : (n : Name) (v : Text) (words : List Text) (rows : List Row) (p : Option (Text × List Text)) → list_any is_dashes (v ∷ words) ≡ false
    → settle_fault run_rules false (holding rows p) ≡ [] → Sound (settled_rows run_rules p rows) → Claim words
    → Ends (at rows p) (dashed n ∷ v ∷ words) (spelled (dashed n ∷ v ∷ words) (read (settled_rows run_rules p rows)))
at_named n v words rows p other passes sound more =
    turned (at rows p) (waits n (settled_rows run_rules p rows)) (dashed n) (v ∷ words) (spelled (dashed n ∷ v ∷ words) (read (settled_rows run_rules p rows)))
    (named_turn n rows p ∙ ap (λ ks. or_else ks []) passes) (named_walk n rows p)
    (ends_as (waits n (settled_rows run_rules p rows)) (v ∷ words) (spelled (dashed n ∷ v ∷ words) (read (settled_rows run_rules p rows)))
    (spelled words (option_and_then (λ g. with_value g (dashed n) v) (read (settled_rows run_rules p rows))))
    (named_spells n v words (read (settled_rows run_rules p rows)))
    (at_value n v words (settled_rows run_rules p rows) other sound more))

-- `--NAME` alone
at_last : (n : Name) (rows : List Row) (p : Option (Text × List Text)) → settle_fault run_rules false (holding rows p) ≡ []
    → Ends (at rows p) (dashed n ∷ []) (spelled (dashed n ∷ []) (read (settled_rows run_rules p rows)))
at_last n rows p passes =
    turned (at rows p) (waits n (settled_rows run_rules p rows)) (dashed n) [] (spelled (dashed n ∷ []) (read (settled_rows run_rules p rows)))
    (named_turn n rows p ∙ ap (λ ks. or_else ks []) passes) (named_walk n rows p)
    (inr (
      fails_at_end (waits n (settled_rows run_rules p rows)) (missing n (settled_rows run_rules p rows)),
      none_spells (dashed n) [] (read (settled_rows run_rules p rows)) (λ g. unpaired g (dashed n) (named_wants n)),
    ))

at_stray : (word : Text) (words : List Text) (rows : List Row) (p : Option (Text × List Text)) → is_dashes word ≡ false → IsStray word
    → Ends (at rows p) (word ∷ words) (spelled (word ∷ words) (read (settled_rows run_rules p rows)))
at_stray word words rows p other s = inr (
  fails_here (at rows p) word words (unknown_turn word rows p other s.unknown),
  none_spells word words (read (settled_rows run_rules p rows)) (λ g. s.refused g words),
)

last_word : (word : Text) → View word → Claim [] → Claim (word ∷ [])
last_word word (flagged f is) more rows p other passes sound = subst (λ w. Ends (at rows p) (w ∷ []) (spelled (w ∷ []) (read (settled_rows run_rules p rows)))) (sym is) (at_flag f [] rows p refl passes sound more)
last_word word (named n is) more rows p other passes sound = subst (λ w. Ends (at rows p) (w ∷ []) (spelled (w ∷ []) (read (settled_rows run_rules p rows)))) (sym is) (at_last n rows p passes)
last_word word (whole n v is) more rows p other passes sound = subst (λ w. Ends (at rows p) (w ∷ []) (spelled (w ∷ []) (read (settled_rows run_rules p rows)))) (sym is) (at_whole n v [] rows p refl passes sound more)
last_word word (stray s) more rows p other passes sound = at_stray word [] rows p (either _ _ other).0 s

more_words : (word next : Text) (words : List Text) → View word → Claim (next ∷ words) → Claim words → Claim (word ∷ next ∷ words)
more_words word next words (flagged f is) more later rows p other passes sound = subst (λ w. Ends (at rows p) (w ∷ next ∷ words) (spelled (w ∷ next ∷ words) (read (settled_rows run_rules p rows)))) (sym is) (at_flag f (next ∷ words) rows p (either _ _ other).1 passes sound more)
more_words word next words (named n is) more later rows p other passes sound = subst (λ w. Ends (at rows p) (w ∷ next ∷ words) (spelled (w ∷ next ∷ words) (read (settled_rows run_rules p rows)))) (sym is) (at_named n next words rows p (either _ _ other).1 passes sound later)
more_words word next words (whole n v is) more later rows p other passes sound = subst (λ w. Ends (at rows p) (w ∷ next ∷ words) (spelled (w ∷ next ∷ words) (read (settled_rows run_rules p rows)))) (sym is) (at_whole n v (next ∷ words) rows p (either _ _ other).1 passes sound more)
more_words word next words (stray s) more later rows p other passes sound = at_stray word (next ∷ words) rows p (either _ _ other).0 s

all_kept : (o : Option Given) → spelled [] o ≡ o
all_kept None = refl
all_kept (Some g) = ended g

pub walk_tie : (words : List Text) → Claim words
walk_tie [] = λ rows p other passes sound. inl (passes_at_end (at rows p) passes, all_kept (read (settled_rows run_rules p rows)), sound)
walk_tie (word ∷ []) = last_word word (view word) (walk_tie [])
walk_tie (word ∷ next ∷ words) = more_words word next words (view word) (walk_tie (next ∷ words)) (walk_tie words)
