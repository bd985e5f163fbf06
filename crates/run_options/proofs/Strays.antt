-- Words at which clap's walk fails, and a word behind `--NAME`.
use Rattle.std.proofs.Common.{◌≡◌, ◌≢◌, ◌∙◌, ◌++◌, ◌⊎◌, ◌&&◌, ◌||◌, cond, ℕ, Bool, true, false, not, List, [], ◌∷◌, length, map, Option, Some, None, is_some, refl, sym, ap, inl, inr, suc, slice_get, bytes_eq, chars, subst, true≢false, ◌==◌}
use Rattle.std.specs.Prelude.{option_and_then, if◌then◌else◌}
use Rattle.std.specs.List.{after_first, list_any, before_first}
use Rattle.std.specs.Option.{option_map_or}
use Rattle.std.proofs.lemmas.Slice.Eq.{bytes_eq-Decides}
use Rattle.clap.specs.Walk.{Held, Row, Rule, Text, Walk, Waiting, idle, option, plain, after_flag, arg_by_long, bundle_met, bundle_step, long_or_other, short_or_plain, takes_values, trailing, walked}
use Rattle.clap.specs.Lexer.{long_of, long_of_rest, name_and_value, short_of, short_of_rest, strip_byte}
use Rattle.clap.specs.Kinds.{Kinds, or_else}
use Rattle.clap.specs.Faults.{bundle_fault, bundle_step_fault, flag_word_fault, flags_fault, long_fault, option_fault, react_fault, settle_fault, step_fault, turn_fault}
use Rattle.clap.specs.declared.error.kind.ErrorKind.TheVariants as kind
use Rattle.std.proofs.lemmas.Bool.Decides.{nat_tests}
use Rattle.std.specs.List.{position_or_len}
use Rattle.std.specs.Prelude.{take, ◌+◌}
use Rattle.std.proofs.Common.{arith}
use Rattle.clap.specs.Walk.{Step, after_step}
use Rattle.run_options.proofs.Walks.{Name, by_size, Flag, by_journal, by_backfill, all_names, at, dashed, flag_dashed, flag_rule, flag_rules, flag_text, holding, run_rules, run_shape, text, waits, rule}

pub some_fault : (k : _) (ks : Kinds) → k ∷ ks ≢ []
some_fault k ks = λ e. cc

pub first_fails : (a b : Kinds) → a ≢ [] → or_else a b ≢ []
first_fails [] b h = absurd (h refl)
first_fails (k ∷ ks) b h = some_fault k ks

pub then_fails : (a b : Kinds) → b ≢ [] → or_else a b ≢ []
then_fails [] b h = h
then_fails (k ∷ ks) b h = some_fault k ks

-- ---- an option whose value is missing, or stands there a second time

-- what a turn finds, by what the word is
abbrev turn_lo : Waiting → Bool → Option (Text × Option Text) → Text → Held → Kinds
turn_lo waiting dd lo word h = or_else (if dd then [] else flag_word_fault run_rules false lo word h)
    (step_fault run_shape 1
    (if dd then (h, trailing 1) else long_or_other run_rules waiting word lo h).0
    (if dd then (h, trailing 1) else long_or_other run_rules waiting word lo h).1)

abbrev turn_so : Waiting → Option Text → Text → Held → Kinds
turn_so waiting so word h = or_else (option_map_or (λ flags. bundle_fault run_rules false flags h) so [])
    (step_fault run_shape 1 (short_or_plain run_rules waiting word so h).0 (short_or_plain run_rules waiting word so h).1)

turn_idle : (rows : List Row) (p : Option (Text × List Text)) (word : Text) → bytes_eq word (45 ∷ 45 ∷ []) ≡ false
    → turn_fault run_shape [] (at rows p) word ≡ turn_lo idle false (long_of word) word (holding rows p)
turn_idle rows p word e = ap (λ b. turn_lo idle b (long_of word) word (holding rows p)) e

turn_waits : (n : Name) (rows : List Row) (word : Text) → bytes_eq word (45 ∷ 45 ∷ []) ≡ false
    → turn_fault run_shape [] (waits n rows) word ≡ turn_lo (option (text n)) false (long_of word) word (holding rows (Some (text n, [])))
turn_waits n rows word e = ap (λ b. turn_lo (option (text n)) b (long_of word) word (holding rows (Some (text n, [])))) e

takes_late : (b : Bool) (a : Rule) (v : Option Text) (h : Held) → settle_fault run_rules false h ≢ []
    → (if b then option_fault run_rules false a v h else (if is_some v then kind.TooManyValues ∷ [] else react_fault run_rules false a [] h)) ≢ []
takes_late true a None h late = late
takes_late true a (Some v) h late = first_fails _ _ late
takes_late false a None h late = first_fails _ _ late
takes_late false a (Some v) h late = some_fault _ _

long_late : (o : Option Rule) (v : Option Text) (h : Held) → settle_fault run_rules false h ≢ [] → long_fault run_rules false o v h ≢ []
long_late None v h late = some_fault _ _
long_late (Some a) v h late = takes_late (takes_values a) a v h late

-- a word that is no option's, where none waits for its value
stray_bundle : (o : Option ℕ) (k : ℕ) (flags word : Text) (h : Held)
    → or_else (bundle_step_fault run_rules false o flags 0 h (flags_fault run_rules false k))
    (step_fault run_shape 1
    (after_flag run_rules idle word (bundle_step run_rules o flags 0 plain h (bundle_met run_rules k)).0 (bundle_step run_rules o flags 0 plain h (bundle_met run_rules k)).1).0
    (after_flag run_rules idle word (bundle_step run_rules o flags 0 plain h (bundle_met run_rules k)).0 (bundle_step run_rules o flags 0 plain h (bundle_met run_rules k)).1).1) ≢ []
stray_bundle None k flags word h = some_fault _ _
stray_bundle (Some x) k flags word h = some_fault _ _

stray_short : (so : Option Text) (word : Text) (rows : List Row) (p : Option (Text × List Text)) → turn_so idle so word (holding rows p) ≢ []
unfolding flags_fault bundle_met
stray_short None word rows p = some_fault _ _
stray_short (Some []) word rows p = some_fault _ _
stray_short (Some (x ∷ xs)) word rows p = stray_bundle (slice_get (chars (x ∷ xs)) 0) (length xs) (x ∷ xs) word (holding rows p)

-- where the option before it fails, each word fails
late_lo : (lo : Option (Text × Option Text)) (word : Text) (rows : List Row) (p : Option (Text × List Text)) → settle_fault run_rules false (holding rows p) ≢ []
    → turn_lo idle false lo word (holding rows p) ≢ []
late_lo None word rows p late = stray_short (short_of word) word rows p
late_lo (Some q) word rows p late = first_fails _ _ (long_late (arg_by_long run_rules q.0) q.1 (holding rows p) late)

pub late_turn : (word : Text) (rows : List Row) (p : Option (Text × List Text)) → bytes_eq word (45 ∷ 45 ∷ []) ≡ false
    → settle_fault run_rules false (holding rows p) ≢ [] → turn_fault run_shape [] (at rows p) word ≢ []
late_turn word rows p other late =
    subst (λ ks. ks ≢ []) (sym (turn_idle rows p word other)) (late_lo (long_of word) word rows p late)

-- ---- a word that is none of the command's

-- what stands before `=` is the name of no option, or that of one without a value
pub record IsUnknown (word : Text) : Type 0 where
  pub names : (n : Name) → bytes_eq (before_first (λ b. b == 61) word) (dashed n) ≡ false
  pub flags : (f : Flag) → bytes_eq (before_first (λ b. b == 61) word) (flag_dashed f) ≡ true → list_any (λ b. b == 61) word ≡ true

flipped : (xs ys : Text) → bytes_eq xs ys ≡ false → bytes_eq ys xs ≡ false
flipped xs ys e = go (bytes_eq ys xs) refl
  where
    go : (b : Bool) → bytes_eq ys xs ≡ b → bytes_eq ys xs ≡ false
    go false f = f
    go true f = absurd (true≢false (sym ((bytes_eq-Decides xs ys).1 (sym ((bytes_eq-Decides ys xs).0 f))) ∙ e))

-- the rule of a flag, by which of them is named
abbrev flag_named : Bool → Bool → Option Rule
flag_named j k = cond j (Some (flag_rule by_journal)) (cond k (Some (flag_rule by_backfill)) None)

by_flag : (j k : Bool) → cond (true && (j || false)) (Some (flag_rule by_journal)) (cond (true && (k || false)) (Some (flag_rule by_backfill)) None) ≡ flag_named j k
by_flag true k = refl
by_flag false true = refl
by_flag false false = refl

by_long : (ns : List Name) (rest : List Rule) (name : Text) → ((n : Name) → bytes_eq (text n) name ≡ false)
    → arg_by_long (map rule ns ++ rest) name ≡ arg_by_long rest name
by_long [] rest name other = refl
by_long (n ∷ ns) rest name other = ap (λ b. cond (true && (b || false)) (Some (rule n)) (arg_by_long (map rule ns ++ rest) name)) (other n) ∙ by_long ns rest name other

unknown_flag : (j k : Bool) (v : Option Text) (h : Held) → (j ≡ true → is_some v ≡ true) → (k ≡ true → is_some v ≡ true)
    → long_fault run_rules false (flag_named j k) v h ≢ []
unknown_flag false false v h journal backfill = some_fault _ _
unknown_flag false true None h journal backfill = absurd (true≢false (sym (backfill refl)))
unknown_flag false true (Some v) h journal backfill = some_fault _ _
unknown_flag true k None h journal backfill = absurd (true≢false (sym (journal refl)))
unknown_flag true k (Some v) h journal backfill = some_fault _ _

-- the text before `=`, behind a byte that is none
pub before_more : (b : ℕ) (xs : Text) → (b == 61) ≡ false → before_first (λ c. c == 61) (b ∷ xs) ≡ b ∷ before_first (λ c. c == 61) xs
before_more b xs other =
    let next : 1 + position_or_len (λ c. c == 61) xs ≡ suc (position_or_len (λ c. c == 61) xs) = omega arith in
    ap (λ t. take (cond (not t) (1 + position_or_len (λ c. c == 61) xs) 0) (b ∷ xs)) other ∙ ap (λ k. take k (b ∷ xs)) next

unknown_long : (rest : Text) (h : Held) → IsUnknown (45 ∷ 45 ∷ rest) → long_fault run_rules false (arg_by_long run_rules (name_and_value rest).0) (name_and_value rest).1 h ≢ []
unknown_long rest h u =
    let name = before_first (λ b. b == 61) rest in
    let whole : before_first (λ b. b == 61) (45 ∷ 45 ∷ rest) ≡ 45 ∷ 45 ∷ name = before_more 45 (45 ∷ rest) refl ∙ ap (λ t. 45 ∷ t) (before_more 45 rest refl) in
    let other : (n : Name) → bytes_eq (text n) name ≡ false = λ n. flipped name (text n) (ap (λ t. bytes_eq t (dashed n)) (sym whole) ∙ u.names n) in
    let is : arg_by_long run_rules name ≡ flag_named (bytes_eq (flag_text by_journal) name) (bytes_eq (flag_text by_backfill) name) =
    by_long all_names flag_rules name other ∙ by_flag (bytes_eq (flag_text by_journal) name) (bytes_eq (flag_text by_backfill) name) in
    let valued : (f : Flag) → bytes_eq (flag_text f) name ≡ true → is_some (name_and_value rest).1 ≡ true = λ f e.
    let same : flag_text f ≡ name = (bytes_eq-Decides (flag_text f) name).0 e in
    let named : bytes_eq (before_first (λ b. b == 61) (45 ∷ 45 ∷ rest)) (flag_dashed f) ≡ true =
    (bytes_eq-Decides (before_first (λ b. b == 61) (45 ∷ 45 ∷ rest)) (flag_dashed f)).1 (whole ∙ ap (λ t. 45 ∷ 45 ∷ t) (sym same)) in
    ap (λ b. is_some (if b then Some (after_first (λ c. c == 61) rest) else None)) (u.flags f named) in
    subst (λ o. long_fault run_rules false o (name_and_value rest).1 h ≢ []) (sym is)
    (unknown_flag (bytes_eq (flag_text by_journal) name) (bytes_eq (flag_text by_backfill) name) (name_and_value rest).1 h (valued by_journal) (valued by_backfill))

-- what `long_of` makes of a word, by its bytes
stripped : (word : Text) → (strip_byte 45 word ≡ None) ⊎ ((rest : Text) × (word ≡ 45 ∷ rest))
stripped [] = inl refl
stripped (b ∷ rest) = go (b == 45) refl
  where
    go : (t : Bool) → (b == 45) ≡ t → (strip_byte 45 (b ∷ rest) ≡ None) ⊎ ((r : Text) × (b ∷ rest ≡ 45 ∷ r))
    go false e = inl (ap (λ t. if t then Some rest else None) e)
    go true e = inr (rest, ap (λ c. c ∷ rest) (grind (arith, nat_tests)))

pub record IsLong (word : Text) : Type 0 where
  pub rest : Text
  pub is : word ≡ 45 ∷ 45 ∷ rest
  pub reads : long_of word ≡ Some (name_and_value rest)

pub long_or_none : (word : Text) → (long_of word ≡ None) ⊎ IsLong word
long_or_none word = one (stripped word)
  where
    three : (rest r : Text) → word ≡ 45 ∷ rest → rest ≡ 45 ∷ r → (long_of word ≡ None) ⊎ IsLong word
    three rest [] e f = inl (ap long_of (e ∙ ap (λ t. 45 ∷ t) f))
    three rest (x ∷ xs) e f = inr (record { rest = x ∷ xs; is = e ∙ ap (λ t. 45 ∷ t) f; reads = ap long_of (e ∙ ap (λ t. 45 ∷ t) f) })

    two : (rest : Text) → word ≡ 45 ∷ rest → (strip_byte 45 rest ≡ None) ⊎ ((r : Text) × (rest ≡ 45 ∷ r)) → (long_of word ≡ None) ⊎ IsLong word
    two rest e (inl none) = inl (ap long_of e ∙ ap (option_and_then long_of_rest) none)
    two rest e (inr r) = three rest r.0 e r.1

    one : (strip_byte 45 word ≡ None) ⊎ ((r : Text) × (word ≡ 45 ∷ r)) → (long_of word ≡ None) ⊎ IsLong word
    one (inl none) = inl (ap (λ o. option_and_then long_of_rest (option_and_then (strip_byte 45) o)) none)
    one (inr r) = two r.0 r.1 (stripped r.0)

pub unknown_turn : (word : Text) (rows : List Row) (p : Option (Text × List Text)) → bytes_eq word (45 ∷ 45 ∷ []) ≡ false → IsUnknown word
    → turn_fault run_shape [] (at rows p) word ≢ []
unknown_turn word rows p other u = subst (λ ks. ks ≢ []) (sym (turn_idle rows p word other)) (go (long_or_none word))
  where
    go : (long_of word ≡ None) ⊎ IsLong word → turn_lo idle false (long_of word) word (holding rows p) ≢ []
    go (inl none) = subst (λ lo. turn_lo idle false lo word (holding rows p) ≢ []) (sym none) (stray_short (short_of word) word rows p)
    go (inr long) = subst (λ lo. turn_lo idle false lo word (holding rows p) ≢ []) (sym long.reads)
        (first_fails _ _ (unknown_long long.rest (holding rows p) (subst IsUnknown long.is u)))

-- ---- a word behind `--NAME`

pub missing : (n : Name) (rows : List Row) → settle_fault run_rules false (holding rows (Some (text n, []))) ≢ []
missing by_size rows = some_fault _ _
missing _ rows = some_fault _ _

-- the word is the option's value, or begins with a hyphen and fails
abbrev pub IsValueOf : Name → Text → List Row → Type 0
IsValueOf n word rows = (turn_fault run_shape [] (waits n rows) word ≡ []) × (walked run_rules [] (waits n rows) word ≡ at rows (Some (text n, word ∷ [])))

abbrev after_so : Name → Option Text → Text → List Row → Walk
after_so n so word rows = after_step run_rules word (waits n rows)
    (short_or_plain run_rules (option (text n)) word so (holding rows (Some (text n, [])))).0
    (short_or_plain run_rules (option (text n)) word so (holding rows (Some (text n, [])))).1

abbrev ByShort : Name → Option Text → Text → List Row → Type 0
ByShort n so word rows = (turn_so (option (text n)) so word (holding rows (Some (text n, []))) ≢ [])
    ⊎ ((turn_so (option (text n)) so word (holding rows (Some (text n, []))) ≡ []) × (after_so n so word rows ≡ at rows (Some (text n, word ∷ []))))

plain_value : (n : Name) (word : Text) (rows : List Row) → after_so n None word rows ≡ at rows (Some (text n, word ∷ []))
plain_value by_size word rows = refl
plain_value _ word rows = refl

plain_passes : (n : Name) (word : Text) (rows : List Row) → turn_so (option (text n)) None word (holding rows (Some (text n, []))) ≡ []
plain_passes by_size word rows = refl
plain_passes _ word rows = refl

by_char : (n : Name) (o : Option ℕ) (x : ℕ) (xs word : Text) (rows : List Row) → slice_get (chars (x ∷ xs)) 0 ≡ o → ByShort n (Some (x ∷ xs)) word rows
unfolding flags_fault bundle_met
by_char n None x xs word rows e = inr (
  ap (λ o. or_else (bundle_step_fault run_rules false o (x ∷ xs) 0 (holding rows (Some (text n, []))) (flags_fault run_rules false (length xs)))
      (step_fault run_shape 1 (met o).0 (met o).1)) e ∙ plain_passes n word rows,
  ap (λ o. after_step run_rules word (waits n rows) (met o).0 (met o).1) e ∙ plain_value n word rows,
)
  where
    met : Option ℕ → Held × Step
    met o = after_flag run_rules (option (text n)) word
        (bundle_step run_rules o (x ∷ xs) 0 plain (holding rows (Some (text n, []))) (bundle_met run_rules (length xs))).0
        (bundle_step run_rules o (x ∷ xs) 0 plain (holding rows (Some (text n, []))) (bundle_met run_rules (length xs))).1
by_char n (Some c) x xs word rows e = inl (first_fails _ _ (subst (λ o. bundle_step_fault run_rules false o (x ∷ xs) 0 (holding rows (Some (text n, []))) (flags_fault run_rules false (length xs)) ≢ []) (sym e) (some_fault _ _)))

by_short : (n : Name) (so : Option Text) (word : Text) (rows : List Row) → ByShort n so word rows
unfolding flags_fault bundle_met
by_short n None word rows = inr (plain_passes n word rows, plain_value n word rows)
by_short n (Some []) word rows = inr (plain_passes n word rows, plain_value n word rows)
by_short n (Some (x ∷ xs)) word rows = by_char n (slice_get (chars (x ∷ xs)) 0) x xs word rows refl

-- a first hyphen
abbrev pub HasHyphen : Text → Type 0
HasHyphen word = (rest : Text) × (word ≡ 45 ∷ rest)

hyphen_or_none : (word : Text) → HasHyphen word ⊎ ((long_of word ≡ None) × (short_of word ≡ None))
hyphen_or_none word = go (stripped word)
  where
    go : (strip_byte 45 word ≡ None) ⊎ ((r : Text) × (word ≡ 45 ∷ r)) → HasHyphen word ⊎ ((long_of word ≡ None) × (short_of word ≡ None))
    go (inr r) = inl r
    go (inl none) = inr (ap (λ o. option_and_then long_of_rest (option_and_then (strip_byte 45) o)) none, ap (option_and_then short_of_rest) none)

value_turn : (n : Name) (word : Text) (rows : List Row) → bytes_eq word (45 ∷ 45 ∷ []) ≡ false → long_of word ≡ None
    → ByShort n (short_of word) word rows → (turn_fault run_shape [] (waits n rows) word ≢ []) ⊎ IsValueOf n word rows
unfolding walked
value_turn n word rows other none (inl fails) = inl (subst (λ ks. ks ≢ []) (sym (turn_waits n rows word other ∙ ap (λ lo. turn_lo (option (text n)) false lo word (holding rows (Some (text n, [])))) none)) fails)
value_turn n word rows other none (inr passes) = inr (
  turn_waits n rows word other ∙ ap (λ lo. turn_lo (option (text n)) false lo word (holding rows (Some (text n, [])))) none ∙ passes.0,
  ap (λ dd. stepped dd (long_of word)) other ∙ ap (stepped false) none ∙ passes.1,
)
  where
    stepped : Bool → Option (Text × Option Text) → Walk
    stepped dd lo = after_step run_rules word (waits n rows)
        (if dd then (holding rows (Some (text n, [])), trailing 1) else long_or_other run_rules (option (text n)) word lo (holding rows (Some (text n, [])))).0
        (if dd then (holding rows (Some (text n, [])), trailing 1) else long_or_other run_rules (option (text n)) word lo (holding rows (Some (text n, [])))).1

-- behind `--NAME` a word fails, and begins with a hyphen, or is the value
pub waits_turn : (n : Name) (word : Text) (rows : List Row) → bytes_eq word (45 ∷ 45 ∷ []) ≡ false
    → ((turn_fault run_shape [] (waits n rows) word ≢ []) × HasHyphen word) ⊎ IsValueOf n word rows
waits_turn n word rows other = go (hyphen_or_none word)
  where
    plainly : (long_of word ≡ None) → (short_of word ≡ None) → IsValueOf n word rows
    plainly none short = elim (value_turn n word rows other none (subst (λ so. ByShort n so word rows) (sym short) (inr (plain_passes n word rows, plain_value n word rows)))) [
      | inl fails ↦ absurd (fails (turn_waits n rows word other ∙ ap (λ lo. turn_lo (option (text n)) false lo word (holding rows (Some (text n, [])))) none
          ∙ ap (λ so. turn_so (option (text n)) so word (holding rows (Some (text n, [])))) short ∙ plain_passes n word rows))
      | inr is ↦ is
    ]

    hyphened : HasHyphen word → (long_of word ≡ None) ⊎ IsLong word → ((turn_fault run_shape [] (waits n rows) word ≢ []) × HasHyphen word) ⊎ IsValueOf n word rows
    hyphened h (inl none) = elim (value_turn n word rows other none (by_short n (short_of word) word rows)) [ inl fails ↦ inl (fails, h) | inr is ↦ inr is ]
    hyphened h (inr long) = inl (
      subst (λ ks. ks ≢ []) (sym (turn_waits n rows word other ∙ ap (λ lo. turn_lo (option (text n)) false lo word (holding rows (Some (text n, [])))) long.reads))
          (first_fails _ _ (long_late (arg_by_long run_rules (name_and_value long.rest).0) (name_and_value long.rest).1 (holding rows (Some (text n, []))) (missing n rows))),
      h,
    )

    go : HasHyphen word ⊎ ((long_of word ≡ None) × (short_of word ≡ None)) → ((turn_fault run_shape [] (waits n rows) word ≢ []) × HasHyphen word) ⊎ IsValueOf n word rows
    go (inl h) = hyphened h (long_or_none word)
    go (inr none) = inr (plainly none.0 none.1)
