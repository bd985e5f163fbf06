-- The rows of clap's matches, one a use, and what they give.
use Rattle.std.proofs.Common.{◌≡◌, ◌∙◌, ◌++◌, ◌||◌, cond, Bool, true, false, List, [], ◌∷◌, Option, Some, None, is_some, refl, sym, ap, codes, find, slice_get, bytes_eq, subst, true≢false}
use Rattle.std.specs.Prelude.{option_and_then, if◌then◌else◌}
use Rattle.clap.specs.Walk.{Row, Text, at_row, first_of, has_row, more_values, one_of, row_text, used}
use Rattle.clap.specs.declared.builder.value_parser.Reading.TheVariants as reading
use Rattle.clap.specs.declared.parser.matches.ValueSource.TheVariants.{CommandLine}
use Rattle.std.proofs.lemmas.Slice.Eq.{bytes_eq-Decides}
use Rattle.run_options.specs.declared.given.Given.{Given}
use Rattle.run_options.specs.Given.{with_value}
use Rattle.run_options.proofs.Walks.{Name, by_size, Flag, by_journal, by_backfill, dashed, flag_rule, flag_text, rule, text}
use Rattle.run_options.proofs.Sets.{Flags, Texts, given_of, put, raise, same_given, with_flag}
use Rattle.run_options.proofs.Sets as sets

-- the row of a use
abbrev pub made : Text → Text → Row
made id v = record { id = id; values = v ∷ []; count = None; source = Some CommandLine; reading = reading.AsWritten }

abbrev pub flag_row : Flag → Row
flag_row f = made (flag_text f) (codes "true")

-- ---- a use adds a row

pub at_none : (id : Text) (change : Row → List Row) (missing rows : List Row) → has_row id rows ≡ false → at_row id change missing rows ≡ rows ++ missing
at_none id change missing [] none = refl
at_none id change missing (r ∷ rs) none = go (bytes_eq r.id id) none (at_none id change missing rs)
  where
    go : (b : Bool) → (b || has_row id rs) ≡ false → (has_row id rs ≡ false → at_row id change missing rs ≡ rs ++ missing)
        → (if b then change r ++ rs else r ∷ at_row id change missing rs) ≡ r ∷ (rs ++ missing)
    go true e rest = absurd (true≢false e)
    go false e rest = ap (λ ks. r ∷ ks) (rest e)

nil_right : (rows : List Row) → rows ++ [] ≡ rows
nil_right [] = refl
nil_right (r ∷ rs) = ap (λ ks. r ∷ ks) (nil_right rs)

pub used_new : (n : Name) (v : Text) (rows : List Row) → has_row (text n) rows ≡ false → used (rule n) (v ∷ []) rows ≡ rows ++ made (text n) v ∷ []
used_new n v rows none =
    let gone : at_row (text n) (λ _. []) [] rows ≡ rows = at_none (text n) (λ _. []) [] rows none ∙ nil_right rows in
    ap (λ rs. at_row (text n) (more_values CommandLine (v ∷ [])) (made (text n) v ∷ []) rs) gone ∙ at_none (text n) (more_values CommandLine (v ∷ [])) (made (text n) v ∷ []) rows none

pub used_flag : (f : Flag) (rows : List Row) → has_row (flag_text f) rows ≡ false → used (flag_rule f) [] rows ≡ rows ++ flag_row f ∷ []
used_flag f rows none =
    let gone : at_row (flag_text f) (λ _. []) [] rows ≡ rows = at_none (flag_text f) (λ _. []) [] rows none ∙ nil_right rows in
    ap (λ rs. at_row (flag_text f) (more_values CommandLine (codes "true" ∷ [])) (flag_row f ∷ []) rs) gone ∙ at_none (flag_text f) (more_values CommandLine (codes "true" ∷ [])) (flag_row f ∷ []) rows none

pub find_new : (p : Row → Bool) (rows : List Row) (r : Row) → find p rows ≡ None → find p (rows ++ r ∷ []) ≡ cond (p r) (Some r) None
find_new p [] r none = refl
find_new p (x ∷ xs) r none = go (p x) none (find_new p xs r)
  where
    go : (b : Bool) → cond b (Some x) (find p xs) ≡ None → (find p xs ≡ None → find p (xs ++ r ∷ []) ≡ cond (p r) (Some r) None)
        → cond b (Some x) (find p (xs ++ r ∷ [])) ≡ cond (p r) (Some r) None
    go true e rest = cc
    go false e rest = rest e

pub find_old : (p : Row → Bool) (rows : List Row) (r : Row) → p r ≡ false → find p (rows ++ r ∷ []) ≡ find p rows
find_old p [] r other = ap (λ b. cond b (Some r) None) other
find_old p (x ∷ xs) r other = ap (λ o. cond (p x) (Some x) o) (find_old p xs r other)

pub find_kept : (p : Row → Bool) (rows : List Row) (r q : Row) → find p rows ≡ Some q → find p (rows ++ r ∷ []) ≡ Some q
find_kept p [] r q was = cc
find_kept p (x ∷ xs) r q was = go (p x) was (find_kept p xs r q)
  where
    go : (b : Bool) → cond b (Some x) (find p xs) ≡ Some q → (find p xs ≡ Some q → find p (xs ++ r ∷ []) ≡ Some q)
        → cond b (Some x) (find p (xs ++ r ∷ [])) ≡ Some q
    go true e rest = e
    go false e rest = rest e

pub has_find : (id : Text) (rows : List Row) → has_row id rows ≡ is_some (find (λ r. bytes_eq r.id id) rows)
has_find id [] = refl
has_find id (r ∷ rs) = go (bytes_eq r.id id) (has_find id rs)
  where
    go : (b : Bool) → has_row id rs ≡ is_some (find (λ r. bytes_eq r.id id) rs)
        → (b || has_row id rs) ≡ is_some (cond b (Some r) (find (λ r. bytes_eq r.id id) rs))
    go true e = refl
    go false e = e

abbrev pub found : Text → List Row → Option Row
found id rows = find (λ r. bytes_eq r.id id) rows

pub absent : (id : Text) (rows : List Row) → has_row id rows ≡ false → found id rows ≡ None
absent id rows none = go (found id rows) (sym (has_find id rows) ∙ none)
  where
    go : (o : Option Row) → is_some o ≡ false → o ≡ None
    go None e = refl
    go (Some r) e = absurd (true≢false e)

-- ---- what holds of the rows of uses

-- where a flag has a row, that one tells that it is set
abbrev pub IsSetByRow : Text → List Row → Type 0
IsSetByRow id rows = one_of id rows ≡ cond (has_row id rows) (Some (codes "true")) None

pub record Sound (rows : List Row) : Type 0 where
  pub held : (n : Name) → has_row (text n) rows ≡ is_some (first_of (text n) rows)
  pub flags : (f : Flag) → IsSetByRow (flag_text f) rows

abbrev pub value_in : Option Row → Option Text
value_in o = option_and_then (λ r. slice_get r.values 0) o

held_new : (id other v : Text) (rows : List Row) → has_row id rows ≡ is_some (first_of id rows)
    → has_row id (rows ++ made other v ∷ []) ≡ is_some (first_of id (rows ++ made other v ∷ []))
held_new id other v rows was = has_find id (rows ++ made other v ∷ []) ∙ go (found id rows) refl
  where
    here : (b : Bool) → is_some (cond b (Some (made other v)) None) ≡ is_some (value_in (cond b (Some (made other v)) None))
    here true = refl
    here false = refl

    go : (o : Option Row) → found id rows ≡ o → is_some (found id (rows ++ made other v ∷ [])) ≡ is_some (value_in (found id (rows ++ made other v ∷ [])))
    go None e = ap is_some (find_new _ rows (made other v) e) ∙ here (bytes_eq other id) ∙ ap (λ o. is_some (value_in o)) (sym (find_new _ rows (made other v) e))
    go (Some q) e = ap is_some (find_kept _ rows (made other v) q e) ∙ sym (ap is_some e) ∙ sym (has_find id rows) ∙ was
        ∙ ap (λ o. is_some (value_in o)) e ∙ ap (λ o. is_some (value_in o)) (sym (find_kept _ rows (made other v) q e))

pub has_other : (id other v : Text) (rows : List Row) → bytes_eq other id ≡ false → has_row id (rows ++ made other v ∷ []) ≡ has_row id rows
has_other id other v rows e = has_find id (rows ++ made other v ∷ []) ∙ ap is_some (find_old _ rows (made other v) e) ∙ sym (has_find id rows)

pub first_other : (id other v : Text) (rows : List Row) → bytes_eq other id ≡ false → first_of id (rows ++ made other v ∷ []) ≡ first_of id rows
first_other id other v rows e = ap value_in (find_old _ rows (made other v) e)

set_other : (id other v : Text) (rows : List Row) → bytes_eq other id ≡ false → IsSetByRow id rows → IsSetByRow id (rows ++ made other v ∷ [])
set_other id other v rows e was = ap (option_and_then row_text) (find_old _ rows (made other v) e) ∙ was
    ∙ ap (λ b. cond b (Some (codes "true")) None) (sym (has_other id other v rows e))

set_new : (id other : Text) (rows : List Row) → IsSetByRow id rows → IsSetByRow id (rows ++ made other (codes "true") ∷ [])
set_new id other rows was = go (found id rows) refl
  where
    shown : Option Row → Option Text
    shown o = cond (is_some o) (Some (codes "true")) None

    here : (b : Bool) → option_and_then row_text (cond b (Some (made other (codes "true"))) None) ≡ shown (cond b (Some (made other (codes "true"))) None)
    here true = refl
    here false = refl

    has : cond (has_row id (rows ++ made other (codes "true") ∷ [])) (Some (codes "true")) None ≡ shown (found id (rows ++ made other (codes "true") ∷ []))
    has = ap (λ b. cond b (Some (codes "true")) None) (has_find id (rows ++ made other (codes "true") ∷ []))

    go : (o : Option Row) → found id rows ≡ o → IsSetByRow id (rows ++ made other (codes "true") ∷ [])
    go None e = ap (option_and_then row_text) (find_new _ rows (made other (codes "true")) e) ∙ here (bytes_eq other id)
        ∙ ap shown (sym (find_new _ rows (made other (codes "true")) e)) ∙ sym has
    go (Some q) e = ap (option_and_then row_text) (find_kept _ rows (made other (codes "true")) q e) ∙ ap (option_and_then row_text) (sym e) ∙ was
        ∙ ap (λ b. cond b (Some (codes "true")) None) (has_find id rows) ∙ ap shown e
        ∙ ap shown (sym (find_kept _ rows (made other (codes "true")) q e)) ∙ sym has

pub not_flag : (n : Name) (f : Flag) → bytes_eq (text n) (flag_text f) ≡ false
not_flag by_size by_journal = refl
not_flag by_size by_backfill = refl
not_flag _ by_journal = refl
not_flag _ by_backfill = refl

pub not_name : (f : Flag) (n : Name) → bytes_eq (flag_text f) (text n) ≡ false
not_name by_journal by_size = refl
not_name by_backfill by_size = refl
not_name by_journal _ = refl
not_name by_backfill _ = refl

pub sound_new : (n : Name) (v : Text) (rows : List Row) → Sound rows → Sound (rows ++ made (text n) v ∷ [])
sound_new n v rows s = record {
  held = λ m. held_new (text m) (text n) v rows (s.held m);
  flags = λ f. set_other (flag_text f) (text n) v rows (not_flag n f) (s.flags f);
}

pub sound_flag : (f : Flag) (rows : List Row) → Sound rows → Sound (rows ++ flag_row f ∷ [])
sound_flag f rows s = record {
  held = λ m. held_new (text m) (flag_text f) (codes "true") rows (s.held m);
  flags = λ g. set_new (flag_text g) (flag_text f) rows (s.flags g);
}

-- ---- what rows give

abbrev pub texts : List Row → Texts
texts rows n = first_of (text n) rows

abbrev flags : List Row → Flags
flags rows f = has_row (flag_text f) rows

abbrev pub read : List Row → Option Given
read rows = given_of (texts rows) (flags rows)

no_text : (n : Name) (rows : List Row) → has_row (text n) rows ≡ false → first_of (text n) rows ≡ None
no_text n rows none = ap value_in (absent (text n) rows none)

-- the row of this use, under the text of an option
first_new : (n m : Name) (v : Text) (rows : List Row) → has_row (text n) rows ≡ false
    → first_of (text m) (rows ++ made (text n) v ∷ []) ≡ put n v (texts rows) m
first_new n m v rows none = go (bytes_eq (text n) (text m)) refl
  where
    go : (b : Bool) → bytes_eq (text n) (text m) ≡ b → first_of (text m) (rows ++ made (text n) v ∷ []) ≡ cond b (Some v) (first_of (text m) rows)
    go true e =
        let gone : has_row (text m) rows ≡ false = subst (λ id. has_row id rows ≡ false) ((bytes_eq-Decides (text n) (text m)).0 e) none in
        ap value_in (find_new _ rows (made (text n) v) (absent (text m) rows gone) ∙ ap (λ b. cond b (Some (made (text n) v)) None) e)
    go false e = first_other (text m) (text n) v rows e

pub given_new : (n : Name) (v : Text) (rows : List Row) → has_row (text n) rows ≡ false
    → option_and_then (λ g. with_value g (dashed n) v) (read rows) ≡ read (rows ++ made (text n) v ∷ [])
given_new n v rows none =
    sets.given_new n v (texts rows) (flags rows) (no_text n rows none)
    ∙ same_given (put n v (texts rows)) (texts (rows ++ made (text n) v ∷ [])) (flags rows) (flags (rows ++ made (text n) v ∷ []))
    (λ m. sym (first_new n m v rows none)) (λ f. sym (has_other (flag_text f) (text n) v rows (not_flag n f)))

some_text : (n : Name) (rows : List Row) → Sound rows → has_row (text n) rows ≡ true → (t : Text) × (first_of (text n) rows ≡ Some t)
some_text n rows s has = go (first_of (text n) rows) (sym (s.held n) ∙ has)
  where
    go : (o : Option Text) → is_some o ≡ true → (t : Text) × (o ≡ Some t)
    go None e = absurd (true≢false (sym e))
    go (Some t) e = (t, refl)

pub given_again : (n : Name) (v : Text) (rows : List Row) → Sound rows → has_row (text n) rows ≡ true
    → option_and_then (λ g. with_value g (dashed n) v) (read rows) ≡ None
given_again n v rows s has =
    let found = some_text n rows s has in
    sets.given_again n v found.0 (texts rows) (flags rows) found.1

-- the row of this flag, under the text of a flag
has_new : (f g : Flag) (rows : List Row) → has_row (flag_text f) rows ≡ false → has_row (flag_text g) (rows ++ flag_row f ∷ []) ≡ raise f (flags rows) g
has_new f g rows none = go (bytes_eq (flag_text f) (flag_text g)) refl
  where
    go : (b : Bool) → bytes_eq (flag_text f) (flag_text g) ≡ b → has_row (flag_text g) (rows ++ flag_row f ∷ []) ≡ (b || has_row (flag_text g) rows)
    go true e =
        let gone : has_row (flag_text g) rows ≡ false = subst (λ id. has_row id rows ≡ false) ((bytes_eq-Decides (flag_text f) (flag_text g)).0 e) none in
        has_find (flag_text g) (rows ++ flag_row f ∷ [])
        ∙ ap is_some (find_new _ rows (flag_row f) (absent (flag_text g) rows gone) ∙ ap (λ b. cond b (Some (flag_row f)) None) e)
    go false e = has_other (flag_text g) (flag_text f) (codes "true") rows e

pub flagged_new : (f : Flag) (rows : List Row) → has_row (flag_text f) rows ≡ false → option_and_then (with_flag f) (read rows) ≡ read (rows ++ flag_row f ∷ [])
flagged_new f rows none =
    sets.flagged_new f (texts rows) (flags rows) none
    ∙ same_given (texts rows) (texts (rows ++ flag_row f ∷ [])) (raise f (flags rows)) (flags (rows ++ flag_row f ∷ []))
    (λ n. sym (first_other (text n) (flag_text f) (codes "true") rows (not_name f n))) (λ g. sym (has_new f g rows none))

pub flagged_again : (f : Flag) (rows : List Row) → has_row (flag_text f) rows ≡ true → option_and_then (with_flag f) (read rows) ≡ None
flagged_again f rows has = sets.flagged_again f (texts rows) (flags rows) has
