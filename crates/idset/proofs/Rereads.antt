-- What is printed is read again.
use Rattle.std.proofs.Common.{◌≡◌, ℕ, suc, ◌+◌, ◌<◌, ◌≤◌, true, false, cond, eqb, leb, ltb, List, [], ◌∷◌, ◌++◌, length, get_or, take, drop, map, All, refl, sym, ap, subst, ◌∙◌, append-nil, append_assoc, arith, rules}
use Rattle.std.specs.Prelude.{Option, None}
use Rattle.std.specs.List.{position_or_len, slice_split, join_with_byte}
use Rattle.std.specs.Char.{digit_value}
use Rattle.std.specs.Fmt.{decimal}
use Rattle.std.specs.Str.Parse.{AllDigits}
use Rattle.std.proofs.lemmas.Bool.Decides.{nat_tests}
use Rattle.std.proofs.lemmas.Fmt.{decimal_is_IsNumeral}
use Rattle.std.proofs.lemmas.List.{take_more, length-take-le, length-map, map-append}
use Rattle.std.proofs.lemmas.List.Elements.{All-cons, All-append}
use Rattle.std.proofs.lemmas.List.Splits.{slice_split_none, slice_split_at}
use Rattle.std.proofs.Math.Seq.{take-append_seam, drop-append_seam}
use Rattle.outcomes.specs.Outcomes.{first_of, or_else}
use Rattle.idset.specs.Ranges.{IsRange, AreApart, ids_in}
use Rattle.idset.specs.Runs.{range_text}
use Rattle.idset.specs.Text.{is_comma, is_no_digit, is_empty, leading_digits, behind_digits, number_value, range_of, body, is_bracketed, items, spelled, item_faults, behind_faults, faults_in, first_fault}
use Rattle.idset.specs.declared.ranges.IdRange.{IdRange}
use Rattle.idset.specs.declared.faults.IdFault.{IdFault}
use Rattle.idset.specs.declared.faults.IdFault.TheVariants as fault
use Rattle.idset.proofs.Numbers.{digit_is}
use Rattle.idset.proofs.Gaps.{no_range}
use Rattle.idset.proofs.Sets.{all_ranges}

-- the text behind digits begins with no digit
abbrev StopsHere : List ℕ → Type 0
StopsHere [] = Unit {0}
StopsHere (b ∷ bs) = is_no_digit b ≡ true

is_digit : (d : ℕ) → digit_value d < 10 → is_no_digit d ≡ false
is_digit d h = let is = digit_is d h in let low = is.0 in let high = is.1 in grind (arith, nat_tests)

no_comma : (d : ℕ) → digit_value d < 10 → is_comma d ≡ false
no_comma d h = let is = digit_is d h in let low = is.0 in let high = is.1 in grind (arith, nat_tests)

no_bracket : (d : ℕ) → digit_value d < 10 → eqb d 91 ≡ false
no_bracket d h = let is = digit_is d h in let low = is.0 in let high = is.1 in grind (arith, nat_tests)

place_behind : (ds rest : List ℕ) → AllDigits 10 ds → StopsHere rest → position_or_len is_no_digit (ds ++ rest) ≡ length ds
place_behind [] [] a s = refl
place_behind [] (b ∷ bs) a s = rw s refl
place_behind (d ∷ ds) rest a s = rw (is_digit d a.0, place_behind ds rest a.1 s) (omega arith)

leading : (ds rest : List ℕ) → AllDigits 10 ds → StopsHere rest → leading_digits (ds ++ rest) ≡ ds
unfolding leading_digits
leading ds rest a s = ap (λ n. take n (ds ++ rest)) (place_behind ds rest a s) ∙ take-append_seam ds rest

behind : (ds rest : List ℕ) → AllDigits 10 ds → StopsHere rest → behind_digits (ds ++ rest) ≡ rest
unfolding behind_digits
behind ds rest a s = ap (λ n. drop n (ds ++ rest)) (place_behind ds rest a s) ∙ drop-append_seam ds rest

-- what `decimal` writes of an id
record WritesId (ds : List ℕ) (n : ℕ) : Type 0 where
  some : is_empty ds ≡ false
  digits : AllDigits 10 ds
  value : number_value ds ≡ n

writes_id : (n : ℕ) → n < 65536 → WritesId (decimal n) n
unfolding number_value
writes_id n h =
    let is = decimal_is_IsNumeral n (omega arith) in
    let some : 0 < length (decimal n) = is.0.0 in
    record { some = grind (arith, nat_tests); digits = is.0.1; value = is.1 }

-- the range of one number, and of two
one_read : (ds : List ℕ) (n : ℕ) → WritesId ds n → range_of ds ≡ record { first = n; last = n }
one_read ds n w =
    let l : leading_digits ds ≡ ds = ap leading_digits (sym (append-nil ds)) ∙ leading ds [] w.digits tt in
    let b : behind_digits ds ≡ [] = ap behind_digits (sym (append-nil ds)) ∙ behind ds [] w.digits tt in
    rw (l, b) (ap (λ (v : ℕ). let r : IdRange = record { first = v; last = v } in r) w.value)

abbrev fault_of : ℕ → List ℕ → List ℕ → Option IdFault
fault_of place first rest = first_of ((is_empty first, fault.BadText place) ∷ behind_faults place first rest)

one_sound : (place : ℕ) (ds : List ℕ) (n : ℕ) → WritesId ds n → n < 65536 → first_of (item_faults place ds) ≡ None
one_sound place ds n w small =
    let l : leading_digits ds ≡ ds = ap leading_digits (sym (append-nil ds)) ∙ leading ds [] w.digits tt in
    let b : behind_digits ds ≡ [] = ap behind_digits (sym (append-nil ds)) ∙ behind ds [] w.digits tt in
    let t : leb 65536 n ≡ false = grind (arith, nat_tests) in
    ap (λ x. fault_of place x (behind_digits ds)) l ∙ ap (λ x. fault_of place ds x) b ∙ rw (w.some, w.value, t) refl

pair_read : (ds es : List ℕ) (m n : ℕ) → WritesId ds m → WritesId es n → range_of (ds ++ 45 ∷ es) ≡ record { first = m; last = n }
pair_read ds es m n w v =
    let l : leading_digits (ds ++ 45 ∷ es) ≡ ds = leading ds (45 ∷ es) w.digits refl in
    let b : behind_digits (ds ++ 45 ∷ es) ≡ 45 ∷ es = behind ds (45 ∷ es) w.digits refl in
    let k : leading_digits es ≡ es = ap leading_digits (sym (append-nil es)) ∙ leading es [] v.digits tt in
    rw (l, b, k, w.value, v.value) refl

pair_sound : (place : ℕ) (ds es : List ℕ) (m n : ℕ) → WritesId ds m → WritesId es n → m ≤ n → n < 65536 → first_of (item_faults place (ds ++ 45 ∷ es)) ≡ None
pair_sound place ds es m n w v up small =
    let l : leading_digits (ds ++ 45 ∷ es) ≡ ds = leading ds (45 ∷ es) w.digits refl in
    let b : behind_digits (ds ++ 45 ∷ es) ≡ 45 ∷ es = behind ds (45 ∷ es) w.digits refl in
    let k : leading_digits es ≡ es = ap leading_digits (sym (append-nil es)) ∙ leading es [] v.digits tt in
    let q : behind_digits es ≡ [] = ap behind_digits (sym (append-nil es)) ∙ behind es [] v.digits tt in
    let s : ltb n m ≡ false = grind (arith, nat_tests) in
    let t : leb 65536 m ≡ false = grind (arith, nat_tests) in
    let u : leb 65536 n ≡ false = grind (arith, nat_tests) in
    ap (λ x. fault_of place x (behind_digits (ds ++ 45 ∷ es))) l ∙ ap (λ x. fault_of place ds x) b ∙ rw (w.some, k, q, v.some, w.value, v.value, s, t, u) refl

range_read : (r : IdRange) → IsRange r → range_of (range_text r) ≡ r
range_read r i =
    let some = i.some in
    let small = i.small in
    elim (eqb r.first r.last) as (λ b. eqb r.first r.last ≡ b → range_of (cond b (decimal r.first) (decimal r.first ++ 45 ∷ decimal r.last)) ≡ r) [
      | true ↦ λ e. let same : r.first ≡ r.last = grind (arith, nat_tests) in one_read (decimal r.first) r.first (writes_id r.first (omega arith)) ∙ ap (λ (v : ℕ). let q : IdRange = record { first = r.first; last = v } in q) same
      | false ↦ λ e. pair_read (decimal r.first) (decimal r.last) r.first r.last (writes_id r.first (omega arith)) (writes_id r.last small)
    ] refl

range_sound : (place : ℕ) (r : IdRange) → IsRange r → first_of (item_faults place (range_text r)) ≡ None
range_sound place r i =
    let some = i.some in
    let small = i.small in
    elim (eqb r.first r.last) as (λ b. first_of (item_faults place (cond b (decimal r.first) (decimal r.first ++ 45 ∷ decimal r.last))) ≡ None) [
      | true ↦ one_sound place (decimal r.first) r.first (writes_id r.first (omega arith)) (omega arith)
      | false ↦ pair_sound place (decimal r.first) (decimal r.last) r.first r.last (writes_id r.first (omega arith)) (writes_id r.last small) some small
    ]

-- no comma stands in a range's text
digits_whole : (ds : List ℕ) → AllDigits 10 ds → All (λ b. is_comma b ≡ false) ds
digits_whole [] a = search rules
digits_whole (d ∷ ds) a = All-cons (λ b. is_comma b ≡ false) d ds (no_comma d a.0) (digits_whole ds a.1)

range_whole : (r : IdRange) → IsRange r → All (λ b. is_comma b ≡ false) (range_text r)
range_whole r i =
    let some = i.some in
    let small = i.small in
    let first = digits_whole (decimal r.first) (writes_id r.first (omega arith)).digits in
    elim (eqb r.first r.last) as (λ b. All (λ x. is_comma x ≡ false) (cond b (decimal r.first) (decimal r.first ++ 45 ∷ decimal r.last))) [
      | true ↦ first
      | false ↦ All-append (λ x. is_comma x ≡ false) (decimal r.first) (45 ∷ decimal r.last) first (All-cons (λ x. is_comma x ≡ false) 45 (decimal r.last) refl (digits_whole (decimal r.last) (writes_id r.last small).digits))
    ]

abbrev joined_text : List IdRange → List ℕ
joined_text rs = join_with_byte 44 (map range_text rs)

cut_again : (r : IdRange) (rs : List IdRange) → IsRange r → All IsRange rs → slice_split is_comma (joined_text (r ∷ rs)) ≡ map range_text (r ∷ rs)
cut_again r [] i a = slice_split_none is_comma (range_text r) (range_whole r i)
cut_again r (q ∷ rs) i a =
    slice_split_at is_comma (range_text r) 44 (joined_text (q ∷ rs)) (range_whole r i) refl
    ∙ ap (λ parts. range_text r ∷ parts) (cut_again q rs (a 0 no_range (omega arith)) (λ k d h. a (suc k) d (omega arith)))

-- a range's text begins with a digit
begins : (ds rest : List ℕ) → is_empty ds ≡ false → AllDigits 10 ds → (is_bracketed (ds ++ rest) ≡ false) × (0 < length (ds ++ rest))
begins [] rest e a = cc
begins (d ∷ ds) rest e a = (no_bracket d a.0, omega arith)

range_begins : (r : IdRange) (rest : List ℕ) → IsRange r → (is_bracketed (range_text r ++ rest) ≡ false) × (0 < length (range_text r ++ rest))
range_begins r rest i =
    let some = i.some in
    let small = i.small in
    let w = writes_id r.first (omega arith) in
    elim (eqb r.first r.last) as (λ b. (is_bracketed (cond b (decimal r.first) (decimal r.first ++ 45 ∷ decimal r.last) ++ rest) ≡ false) × (0 < length (cond b (decimal r.first) (decimal r.first ++ 45 ∷ decimal r.last) ++ rest))) [
      | true ↦ begins (decimal r.first) rest w.some w.digits
      | false ↦ let P : List ℕ → Type 0 = λ t. (is_bracketed t ≡ false) × (0 < length t) in subst P (sym (append_assoc (decimal r.first) (45 ∷ decimal r.last) rest)) (begins (decimal r.first) ((45 ∷ decimal r.last) ++ rest) w.some w.digits)
    ]

text_begins : (r : IdRange) (rs : List IdRange) → IsRange r → (is_bracketed (joined_text (r ∷ rs)) ≡ false) × (0 < length (joined_text (r ∷ rs)))
text_begins r [] i = let P : List ℕ → Type 0 = λ t. (is_bracketed t ≡ false) × (0 < length t) in subst P (append-nil (range_text r)) (range_begins r [] i)
text_begins r (q ∷ rs) i = range_begins r (44 ∷ joined_text (q ∷ rs)) i

-- a text without brackets is its own body
own_body : (text : List ℕ) → is_bracketed text ≡ false → body text ≡ text
own_body [] e = refl
own_body (b ∷ bs) e = rw e refl

some_items : (text : List ℕ) → 0 < length text → items text ≡ slice_split is_comma text
some_items [] h = absurd (omega arith)
some_items (b ∷ bs) h = refl

sound_items : (place : ℕ) (rs : List IdRange) → All IsRange rs → faults_in place (map range_text rs) ≡ None
sound_items place [] a = refl
sound_items place (r ∷ rs) a =
    ap (λ f. or_else f (faults_in (place + length (range_text r) + 1) (map range_text rs))) (range_sound place r (a 0 no_range (omega arith)))
    ∙ sound_items (place + length (range_text r) + 1) rs (λ k d h. a (suc k) d (omega arith))

read_items : (rs : List IdRange) → All IsRange rs → map range_of (map range_text rs) ≡ rs
read_items [] a = refl
read_items (r ∷ rs) a = rw (range_read r (a 0 no_range (omega arith)), read_items rs (λ k d h. a (suc k) d (omega arith))) refl

items_again : (rs : List IdRange) → All IsRange rs → (is_bracketed (joined_text rs) ≡ false) × (items (body (joined_text rs)) ≡ map range_text rs)
items_again [] a = (refl, refl)
items_again (r ∷ rs) a =
    let i = a 0 no_range (omega arith) in
    let t = text_begins r rs i in
    (t.0, ap items (own_body (joined_text (r ∷ rs)) t.0) ∙ some_items (joined_text (r ∷ rs)) t.1 ∙ cut_again r rs i (λ k d h. a (suc k) d (omega arith)))

pub sound_again : (rs : List IdRange) → AreApart 0 rs → first_fault (joined_text rs) ≡ None
unfolding first_fault
sound_again rs apart =
    let a = all_ranges rs 0 apart in
    let t = items_again rs a in
    rw (t.1, t.0, sound_items 0 rs a) refl

pub read_again : (rs : List IdRange) → AreApart 0 rs → spelled (joined_text rs) ≡ ids_in rs
unfolding spelled
read_again rs apart =
    let a = all_ranges rs 0 apart in
    ap (λ parts. ids_in (map range_of parts)) (items_again rs a).1 ∙ ap ids_in (read_items rs a)

-- one range more
join_push : (c : ℕ) (parts : List (List ℕ)) (part : List ℕ) → join_with_byte c (parts ++ part ∷ []) ≡ cond (eqb (length parts) 0) part (join_with_byte c parts ++ (c ∷ part))
join_push c [] part = refl
join_push c (x ∷ []) part = refl
join_push c (x ∷ y ∷ parts) part =
    let more : eqb (length (y ∷ parts)) 0 ≡ false = grind (arith, nat_tests) in
    let all : eqb (length (x ∷ y ∷ parts)) 0 ≡ false = grind (arith, nat_tests) in
    let rest : join_with_byte c ((y ∷ parts) ++ part ∷ []) ≡ join_with_byte c (y ∷ parts) ++ (c ∷ part) = rw more at (join_push c (y ∷ parts) part) in
    rw all (ap (λ t. x ++ (c ∷ t)) rest ∙ sym (append_assoc x (c ∷ join_with_byte c (y ∷ parts)) (c ∷ part)))

pub text_more : (rs : List IdRange) (i : ℕ) (d : IdRange) → i < length rs → join_with_byte 44 (map range_text (take (i + 1) rs)) ≡ cond (eqb i 0) (range_text (get_or rs i d)) (join_with_byte 44 (map range_text (take i rs)) ++ (44 ∷ range_text (get_or rs i d)))
text_more rs i d h =
    let count : length (map range_text (take i rs)) ≡ i = length-map (take i rs) range_text ∙ length-take-le i rs (omega arith) in
    ap (λ xs. join_with_byte 44 (map range_text xs)) (take_more rs i d h)
    ∙ ap (join_with_byte 44) (map-append range_text (take i rs) (get_or rs i d ∷ []))
    ∙ join_push 44 (map range_text (take i rs)) (range_text (get_or rs i d))
    ∙ ap (λ n. cond (eqb n 0) (range_text (get_or rs i d)) (join_with_byte 44 (map range_text (take i rs)) ++ (44 ∷ range_text (get_or rs i d)))) count
