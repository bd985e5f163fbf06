-- The canonical text of a valid value is read as it stands.
use Rattle.std.proofs.Common.{◌≡◌, ℕ, zero, suc, ◌+◌, ◌-◌, ◌/◌, ◌%◌, ◌^◌, ◌<◌, ◌≤◌, ℤ, pos, negsuc, Bool, true, false, ◌&&◌, ◌||◌, ◌==◌, cond, List, [], ◌∷◌, ◌++◌, length, take, drop, Option, Some, None, is_some, decimal, refl, sym, ap, ap₂, ◌∙◌, subst, arith, append_assoc, length-append, lt-ltb, le-leb, ne_eqb, inl, inr, ◌⊎◌}
use Rattle.std.specs.Prelude.{not, nat_lt, Result, Ok, Err, IfOk}
use Rattle.std.specs.Char.{digit_char, is_ascii_digit}
use Rattle.std.specs.List.{prefix_len}
use Rattle.std.specs.Str.{all_ascii_digits, IsUtf8}
use Rattle.std.specs.Str.Parse.{digits_value}
use Rattle.std.proofs.lemmas.Bool.{true≢false, false≢true, and_parts, eqb-true}
use Rattle.std.proofs.lemmas.Bool.Decides.{nat_tests}
use Rattle.std.proofs.lemmas.Fmt.{decimal_nonempty, digits_decimal, digits_value-decimal}
use Rattle.std.proofs.lemmas.Str.Parse.{IsNumeralModel, numerals_by_value, tells_all_ascii_digits}
use Rattle.json.specs.Print.{escape_letter, escape_byte, escape, quoted}
use Rattle.json.specs.Word.{head, after_number}
use Rattle.json.proofs.Printed.Decimals.{IsNumber-decimal}
use Rattle.serde_json.specs.Data.{Num, unsigned, negative, float, Data, null, boolean, number, string, array, object, Items, no_items, item, Members, no_members, member}
use Rattle.serde_json.specs.Data.{depth}
use Rattle.serde_json.specs.Read.{read, max_depth}
use Rattle.serde_json.specs.Written.{has_float, items_have_float, members_have_float, compact_text, items_text, members_text, comma_if}
use Rattle.fl_json.specs.Numbers.{begins_number, continues_number, string_len, piece_len, pieces, is_number, natural, is_magnitude, is_whole, whole_part, fraction, is_no_fraction, point_at, kept_number, kept, first_lost, all_kept, first_bad_number, rewritten}
use Rattle.fl_json.specs.Reading.{reading}
use Rattle.fl_json.specs.Valid.{IsWhole, IsValid, AreValid, HaveValid}
use Rattle.fl_json.proofs.Bytes.{AreOfNumber, number_bytes, number_rest, is_number-from_rest}
use Rattle.fl_json.proofs.Cuts.{pieces-next, pieces-nil, lost_later, kept_first, lost-nil, kept-nil, not_bad}
use Rattle.fl_json.proofs.Gifts.{good_reading, value_of_text}
use Rattle.fl_json.proofs.Lexing.{holds_below, below_holds, number_first}
use Rattle.fl_json.proofs.WholeTexts.{kept_as_number, kept_other, number_of_whole}

-- all of a text is kept
record Stays (t : List ℕ) : Type 0 where
  none : (place : ℕ) → first_lost place (pieces t) ≡ None
  same : all_kept (pieces t) ≡ t

stays_nil : Stays []
stays_nil = record { none = λ place. ap (first_lost place) pieces-nil ∙ lost-nil place; same = ap all_kept pieces-nil ∙ kept-nil }

front_taken : (a t : List ℕ) → take (length a) (a ++ t) ≡ a
front_taken [] t = refl
front_taken (x ∷ a) t = ap (λ l. x ∷ l) (front_taken a t)

front_dropped : (a t : List ℕ) → drop (length a) (a ++ t) ≡ t
front_dropped [] t = refl
front_dropped (x ∷ a) t = front_dropped a t

stays_front : (piece rest : List ℕ) → piece_len (piece ++ rest) ≡ length piece → 0 < length piece → kept piece ≡ Some piece → Stays rest → Stays (piece ++ rest)
stays_front piece rest len some k s =
    let long : 0 < length (piece ++ rest) = omega (arith, length-append piece rest) in
    let e : pieces (piece ++ rest) ≡ piece ∷ pieces rest = pieces-next (piece ++ rest) long ∙ ap (λ n. take n (piece ++ rest) ∷ pieces (drop n (piece ++ rest))) len
    ∙ ap₂ (λ p r. p ∷ pieces r) (front_taken piece rest) (front_dropped piece rest) in
    record {
      none = λ place. ap (first_lost place) e ∙ lost_later place piece piece (pieces rest) k ∙ s.none (place + length piece);
      same = ap all_kept e ∙ kept_first piece piece (pieces rest) k ∙ ap (λ l. piece ++ l) s.same;
    }

-- ---- another byte

byte_stays : (b : ℕ) (rest : List ℕ) → (b == 34) ≡ false → begins_number b ≡ false → Stays rest → Stays (b ∷ rest)
byte_stays b rest q d s =
    let len : piece_len (b ∷ rest) ≡ 1 = ap (λ z. cond z (suc (string_len false rest)) (cond (begins_number b) (suc (prefix_len continues_number rest)) 1)) q ∙ ap (λ z. cond z (suc (prefix_len continues_number rest)) 1) d in
    stays_front (b ∷ []) rest len (omega arith) (kept_other (b ∷ []) d) s

-- ---- a string

abbrev is_safe : ℕ → Bool
is_safe b = not (b == 34) && not (b == 92)

abbrev spells_safely : ℕ → Bool
spells_safely x = is_safe (digit_char (x / 16)) && is_safe (digit_char (x % 16))

off : (b : Bool) → not b ≡ true → b ≡ false
off true h = absurd (false≢true h)
off false h = refl

safe_byte : (b : ℕ) (t : List ℕ) → is_safe b ≡ true → string_len false (b ∷ t) ≡ 1 + string_len false t
safe_byte b t h =
    let both = and_parts (not (b == 34)) (not (b == 92)) h in
    ap (λ z. cond z 1 (suc (string_len (b == 92) t))) (off (b == 34) both.0) ∙ ap (λ z. suc (string_len z t)) (off (b == 92) both.1) ∙ omega arith

spelled : (x : ℕ) → x < 32 → spells_safely x ≡ true
unfolding holds_below
spelled x h = below_holds spells_safely 32 refl x h

plain_is_safe : (x : ℕ) → nat_lt 0 (escape_letter x) ≡ false → is_safe x ≡ true
plain_is_safe x h = go (x == 34) (x == 92) refl refl
  where
    go : (a b : Bool) → (x == 34) ≡ a → (x == 92) ≡ b → (not (x == 34) && not (x == 92)) ≡ true
    go true b i j = let wrong : true ≡ false = subst (λ y. nat_lt 0 (escape_letter y) ≡ false) (eqb-true x 34 i) h in absurd (true≢false wrong)
    go false true i j = let wrong : true ≡ false = subst (λ y. nat_lt 0 (escape_letter y) ≡ false) (eqb-true x 92 j) h in absurd (true≢false wrong)
    go false false i j = ap₂ (λ a b. not a && not b) i j

escaped_len : (x : ℕ) (t : List ℕ) → string_len false (escape_byte x ++ t) ≡ length (escape_byte x) + string_len false t
unfolding escape_byte
escaped_len x t = go (nat_lt 0 (escape_letter x)) (nat_lt x 32) refl refl
  where
    six : List ℕ
    six = 92 ∷ 117 ∷ 48 ∷ 48 ∷ digit_char (x / 16) ∷ digit_char (x % 16) ∷ []

    go : (a b : Bool) → nat_lt 0 (escape_letter x) ≡ a → nat_lt x 32 ≡ b
        → string_len false (cond a (92 ∷ escape_letter x ∷ []) (cond b (92 ∷ 117 ∷ 48 ∷ 48 ∷ digit_char (x / 16) ∷ digit_char (x % 16) ∷ []) (x ∷ [])) ++ t) ≡ length (cond a (92 ∷ escape_letter x ∷ []) (cond b (92 ∷ 117 ∷ 48 ∷ 48 ∷ digit_char (x / 16) ∷ digit_char (x % 16) ∷ []) (x ∷ []))) + string_len false t
    go true b i j = omega arith
    go false true i j =
        let low : x < 32 = grind (arith, nat_tests) in
        let both = and_parts (is_safe (digit_char (x / 16))) (is_safe (digit_char (x % 16))) (spelled x low) in
        let one = safe_byte (digit_char (x / 16)) (digit_char (x % 16) ∷ t) both.0 in
        let two = safe_byte (digit_char (x % 16)) t both.1 in
        ap (λ n. suc (suc (suc (suc n)))) (one ∙ ap (λ n. 1 + n) two) ∙ omega arith
    go false false i j = safe_byte x t (plain_is_safe x i)

quoted_len : (s rest : List ℕ) → string_len false ((escape s ++ 34 ∷ []) ++ rest) ≡ length (escape s ++ 34 ∷ [])
quoted_len [] rest = refl
quoted_len (x ∷ s) rest =
    let tail = (escape s ++ 34 ∷ []) ++ rest in
    let grouped : ((escape_byte x ++ escape s) ++ 34 ∷ []) ++ rest ≡ escape_byte x ++ tail = ap (λ l. l ++ rest) (append_assoc (escape_byte x) (escape s) (34 ∷ [])) ∙ append_assoc (escape_byte x) (escape s ++ 34 ∷ []) rest in
    let lens : length ((escape_byte x ++ escape s) ++ 34 ∷ []) ≡ length (escape_byte x) + length (escape s ++ 34 ∷ []) = ap length (append_assoc (escape_byte x) (escape s) (34 ∷ [])) ∙ length-append (escape_byte x) (escape s ++ 34 ∷ []) in
    ap (string_len false) grouped ∙ escaped_len x tail ∙ ap (λ n. length (escape_byte x) + n) (quoted_len s rest) ∙ sym lens

string_stays : (s rest : List ℕ) → Stays rest → Stays (quoted s ++ rest)
string_stays s rest k = stays_front (quoted s) rest (ap suc (quoted_len s rest)) (omega arith) (kept_other (quoted s) refl) k

-- ---- a number

run_stops : (cs rest : List ℕ) → AreOfNumber cs → continues_number (head rest) ≡ false → prefix_len continues_number (cs ++ rest) ≡ length cs
run_stops [] [] h e = refl
run_stops [] (b ∷ rest) h e = ap (λ z. cond z (1 + prefix_len continues_number rest) 0) e
run_stops (c ∷ cs) rest h e =
    let both = and_parts (continues_number c) _ h in
    ap (λ z. cond z (1 + prefix_len continues_number (cs ++ rest)) 0) both.0 ∙ ap (λ n. 1 + n) (run_stops cs rest both.1 e) ∙ omega arith

take_whole : (s : List ℕ) → take (length s) s ≡ s
take_whole [] = refl
take_whole (x ∷ s) = ap (λ l. x ∷ l) (take_whole s)

drop_whole : (s : List ℕ) → drop (length s) s ≡ []
drop_whole [] = refl
drop_whole (x ∷ s) = drop_whole s

kept_whole : (s : List ℕ) → is_whole s ≡ true → point_at s ≡ length s → kept_number s ≡ Some s
unfolding kept_number
kept_whole s w p =
    let whole : whole_part s ≡ s = ap (λ n. take n s) p ∙ take_whole s in
    let none : fraction s ≡ [] = ap (λ n. drop n s) p ∙ drop_whole s in
    ap₂ (λ a b. cond (is_whole a && is_no_fraction b) (Some a) (cond (is_number s) None (Some s))) whole none ∙ ap (λ z. cond (z && true) (Some s) (cond (is_number s) None (Some s))) w

begun_no_quote : (c : ℕ) → begins_number c ≡ true → (c == 34) ≡ false
begun_no_quote c h = grind (arith, nat_tests)

number_stays : (s rest : List ℕ) → is_whole s ≡ true → point_at s ≡ length s → continues_number (head rest) ≡ false → Stays rest → Stays (s ++ rest)
number_stays s rest w p stop k = go s w p (number_first s (ap is_some (number_rest s (number_of_whole s w)))) (number_bytes s (number_of_whole s w))
  where
    go : (s : List ℕ) → is_whole s ≡ true → point_at s ≡ length s → begins_number (head s) ≡ true → AreOfNumber s → Stays (s ++ rest)
    go [] w p b h = absurd (false≢true b)
    go (c ∷ cs) w p b h =
        let len : piece_len (c ∷ (cs ++ rest)) ≡ suc (length cs) = ap (λ z. cond z (suc (string_len false (cs ++ rest))) (cond (begins_number c) (suc (prefix_len continues_number (cs ++ rest))) 1)) (begun_no_quote c b)
        ∙ ap (λ z. cond z (suc (prefix_len continues_number (cs ++ rest))) 1) b ∙ ap suc (run_stops cs rest (and_parts (continues_number c) _ h).1 stop) in
        stays_front (c ∷ cs) rest len (omega arith) (kept_as_number (c ∷ cs) b ∙ kept_whole (c ∷ cs) w p) k

own : IsNumeralModel (λ ds. all_ascii_digits ds ≡ true) (digits_value 10)
own = numerals_by_value _ tells_all_ascii_digits

natural_decimal : (n : ℕ) → n < 2 ^ 64 → natural (decimal n) ≡ Some n
unfolding natural
natural_decimal n h =
    let some = decimal_nonempty n h in
    let v : digits_value 10 (decimal n) ≡ n = digits_value-decimal own n h in
    rw (ne_eqb (length (decimal n)) 0 (λ e. omega arith), digits_decimal own n h, v, lt-ltb n (2 ^ 64) h) refl

digit_no_point : (d : ℕ) → is_ascii_digit d ≡ true → (d == 46) ≡ false
digit_no_point d h = grind (arith, nat_tests)

digit_no_minus : (d : ℕ) → is_ascii_digit d ≡ true → (d == 45) ≡ false
digit_no_minus d h = grind (arith, nat_tests)

point_free : (ds : List ℕ) → all_ascii_digits ds ≡ true → point_at ds ≡ length ds
point_free [] h = refl
point_free (d ∷ ds) h =
    let both = and_parts (is_ascii_digit d) (all_ascii_digits ds) h in
    ap (λ z. cond (not z) (1 + prefix_len (λ b. not (b == 46)) ds) 0) (digit_no_point d both.0) ∙ ap (λ n. 1 + n) (point_free ds both.1) ∙ omega arith

no_minus : (ds : List ℕ) → all_ascii_digits ds ≡ true → (head ds == 45) ≡ false
no_minus [] h = refl
no_minus (d ∷ ds) h = digit_no_minus d (and_parts (is_ascii_digit d) (all_ascii_digits ds) h).0

whole_plain : (s : List ℕ) (n : ℕ) → is_number s ≡ true → (head s == 45) ≡ false → natural s ≡ Some n → is_whole s ≡ true
unfolding is_whole
whole_plain s n i m e = rw (i, m, e) refl

whole_signed : (ds : List ℕ) (n : ℕ) → is_number (45 ∷ ds) ≡ true → natural ds ≡ Some n → is_magnitude n ≡ true → is_whole (45 ∷ ds) ≡ true
unfolding is_whole
whole_signed ds n i e m = rw (i, e, m) refl

number_minus : (ds : List ℕ) → (head ds == 45) ≡ false → after_number (45 ∷ ds) ≡ after_number ds
unfolding after_number
number_minus ds h = rw h refl

unsigned_stays : (n : ℕ) (rest : List ℕ) → n < 2 ^ 64 → continues_number (head rest) ≡ false → Stays rest → Stays (decimal n ++ rest)
unsigned_stays n rest h stop k =
    let digits = digits_decimal own n h in
    number_stays (decimal n) rest (whole_plain (decimal n) n (is_number-from_rest (decimal n) (IsNumber-decimal n h)) (no_minus (decimal n) digits) (natural_decimal n h)) (point_free (decimal n) digits) stop k

negative_stays : (n : ℕ) (rest : List ℕ) → n < 2 ^ 63 → continues_number (head rest) ≡ false → Stays rest → Stays ((45 ∷ decimal (suc n)) ++ rest)
negative_stays n rest h stop k =
    let fits : suc n < 2 ^ 64 = omega arith in
    let ds = decimal (suc n) in
    let digits = digits_decimal own (suc n) fits in
    let some : 0 < suc n = omega arith in
    let most : suc n ≤ 2 ^ 63 = omega arith in
    let magnitude : is_magnitude (suc n) ≡ true = ap₂ (λ a b. a && b) (lt-ltb 0 (suc n) some) (le-leb (suc n) (2 ^ 63) most) in
    number_stays (45 ∷ ds) rest
    (whole_signed ds (suc n) (is_number-from_rest (45 ∷ ds) (number_minus ds (no_minus ds digits) ∙ IsNumber-decimal (suc n) fits)) (natural_decimal (suc n) fits) magnitude)
    (ap (λ n. 1 + n) (point_free ds digits) ∙ omega arith) stop k

-- ---- a value

comma_stays : (later : Bool) (rest : List ℕ) → Stays rest → Stays (comma_if later ++ rest)
comma_stays true rest k = byte_stays 44 rest refl refl k
comma_stays false rest k = k

items_stop : (ds : Items) (rest : List ℕ) → continues_number (head (items_text true ds ++ rest)) ≡ false
items_stop no_items rest = refl
items_stop (item d ds) rest = refl

members_stop : (ms : Members) (rest : List ℕ) → continues_number (head (members_text true ms ++ rest)) ≡ false
members_stop no_members rest = refl
members_stop (member k d ms) rest = refl

num_stays : (n : Num) (rest : List ℕ) → IsWhole n → continues_number (head rest) ≡ false → Stays rest → Stays (compact_text (number n) ++ rest)
num_stays (unsigned n) rest v stop k = unsigned_stays n rest v stop k
num_stays (negative (pos n)) rest v stop k = absurd v
num_stays (negative (negsuc n)) rest v stop k = negative_stays n rest v stop k
num_stays (float x) rest v stop k = absurd v

mutual
  value_stays : (d : Data) (rest : List ℕ) → IsValid d → continues_number (head rest) ≡ false → Stays rest → Stays (compact_text d ++ rest)
  value_stays null rest v stop k = byte_stays 110 _ refl refl (byte_stays 117 _ refl refl (byte_stays 108 _ refl refl (byte_stays 108 _ refl refl k)))
  value_stays (boolean true) rest v stop k = byte_stays 116 _ refl refl (byte_stays 114 _ refl refl (byte_stays 117 _ refl refl (byte_stays 101 _ refl refl k)))
  value_stays (boolean false) rest v stop k = byte_stays 102 _ refl refl (byte_stays 97 _ refl refl (byte_stays 108 _ refl refl (byte_stays 115 _ refl refl (byte_stays 101 _ refl refl k))))
  value_stays (number n) rest v stop k = num_stays n rest v stop k
  value_stays (string s) rest v stop k = string_stays s rest k
  value_stays (array ds) rest v stop k = byte_stays 91 _ refl refl (items_stays false ds rest v k)
  value_stays (object ms) rest v stop k = byte_stays 123 _ refl refl (members_stays false ms rest v k)

  items_stays : (later : Bool) (ds : Items) (rest : List ℕ) → AreValid ds → Stays rest → Stays (items_text later ds ++ rest)
  items_stays later no_items rest v k = byte_stays 93 rest refl refl k
  items_stays later (item d ds) rest v k =
      let more = value_stays d (items_text true ds ++ rest) v.0 (items_stop ds rest) (items_stays true ds rest v.1 k) in
      subst Stays (sym (append_assoc (comma_if later) (compact_text d ++ items_text true ds) rest ∙ ap (λ l. comma_if later ++ l) (append_assoc (compact_text d) (items_text true ds) rest))) (comma_stays later _ more)

  members_stays : (later : Bool) (ms : Members) (rest : List ℕ) → HaveValid ms → Stays rest → Stays (members_text later ms ++ rest)
  members_stays later no_members rest v k = byte_stays 125 rest refl refl k
  members_stays later (member key d ms) rest v k =
      let more = value_stays d (members_text true ms ++ rest) v.1 (members_stop ms rest) (members_stays true ms rest v.2 k) in
      let named = string_stays key (58 ∷ (compact_text d ++ (members_text true ms ++ rest))) (byte_stays 58 _ refl refl more) in
      subst Stays (sym (append_assoc (comma_if later) (quoted key ++ 58 ∷ (compact_text d ++ members_text true ms)) rest
      ∙ ap (λ l. comma_if later ++ l) (append_assoc (quoted key) (58 ∷ (compact_text d ++ members_text true ms)) rest ∙ ap (λ l. quoted key ++ 58 ∷ l) (append_assoc (compact_text d) (members_text true ms) rest)))) (comma_stays later _ named)

-- a valid value has no float
float_free : (n : Num) → IsWhole n → has_float (number n) ≡ false
float_free (unsigned n) v = refl
float_free (negative z) v = refl
float_free (float x) v = absurd v

neither : (a b : Bool) → a ≡ false → b ≡ false → (a || b) ≡ false
neither a b p q = ap₂ (λ x y. x || y) p q

mutual
  pub no_float : (d : Data) → IsValid d → has_float d ≡ false
  no_float null v = refl
  no_float (boolean b) v = refl
  no_float (number n) v = float_free n v
  no_float (string s) v = refl
  no_float (array ds) v = no_item_float ds v
  no_float (object ms) v = no_member_float ms v

  no_item_float : (ds : Items) → AreValid ds → items_have_float ds ≡ false
  no_item_float no_items v = refl
  no_item_float (item d ds) v = neither (has_float d) (items_have_float ds) (no_float d v.0) (no_item_float ds v.1)

  no_member_float : (ms : Members) → HaveValid ms → members_have_float ms ≡ false
  no_member_float no_members v = refl
  no_member_float (member k d ms) v = neither (has_float d) (members_have_float ms) (no_float d v.1) (no_member_float ms v.2)

-- the canonical text of a valid value is read as that value, where it is JSON of that value
pub canonical_reading : (d : Data) → IsValid d → IsUtf8 (compact_text d) → read (compact_text d) ≡ Some d → reading (compact_text d) ≡ Ok d
canonical_reading d v u e =
    let s : Stays (compact_text d) = subst Stays (Rattle.std.proofs.Common.append-nil (compact_text d)) (value_stays d [] v refl stays_nil) in
    let whole : Rattle.fl_json.specs.Reading.unless_bad (first_bad_number (compact_text d)) (Ok (rewritten (compact_text d))) ≡ Ok (compact_text d) = not_bad _ _ (s.none 0) ∙ ap Ok s.same in
    good_reading (compact_text d) (compact_text d) (Some d) whole (value_of_text (compact_text d) (Some d) u e)

-- what a writer of canonical texts writes of a valid value is read as that value
pub written_back : {T E : Type 0} (items : T → List ℕ) (r : Result T E) (d : Data) → IfOk r (λ t. has_float d ≡ false → items t ≡ compact_text d) → IfOk r (λ t. IsUtf8 (items t)) → IfOk r (λ t. depth d ≤ max_depth → read (items t) ≡ Some d)
    → IfOk r (λ t. IsValid d → depth d ≤ max_depth → reading (items t) ≡ Ok d)
written_back items (Err e) d text utf8 back = tt
written_back items (Ok t) d text utf8 back = λ v deep.
    let e : items t ≡ compact_text d = text (no_float d v) in
    ap reading e ∙ canonical_reading d v (subst IsUtf8 e utf8) (sym (ap read e) ∙ back deep)

pub canonical : {T E : Type 0} (items : T → List ℕ) (r : Result T E) (d : Data) → IfOk r (λ t. has_float d ≡ false → items t ≡ compact_text d) → IfOk r (λ t. IsValid d → items t ≡ compact_text d)
canonical items (Err e) d text = tt
canonical items (Ok t) d text = λ v. text (no_float d v)
