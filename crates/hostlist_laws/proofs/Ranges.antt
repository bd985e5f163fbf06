-- The texts of ranges: how they are read, and what a text without a fault is.
use Rattle.std.proofs.Common.{◌≡◌, ℕ, ◌+◌, ◌-◌, ◌<◌, ◌≤◌, Bool, true, false, cond, eqb, ltb, List, [], ◌∷◌, ◌++◌, length, map, refl, ap, ap₂, sym, ◌∙◌, append_assoc, arith}
use Rattle.std.specs.Prelude.{Option, Some, None, unwrap_or}
use Rattle.std.specs.List.{list_all, prefix_len, range_with_len}
use Rattle.std.specs.Char.{is_ascii_digit}
use Rattle.std.proofs.lemmas.Bool.Decides.{nat_tests}
use Rattle.std.proofs.lemmas.List.{take-append-drop}
use Rattle.outcomes.specs.Outcomes.{first_some, or_else}
use Rattle.hostlist.specs.Names.{padded, value_of}
use Rattle.hostlist.specs.Reading.{behind, digits_at, behind_digits, last_number, range_end, range_fault, number_fault, end_fault}
use Rattle.hostlist.specs.Reading as reading
use Rattle.hostlist.specs.declared.faults.HostFault.{HostFault}
use Rattle.hostlist.specs.declared.faults.HostFault.TheVariants.{BadText, Backwards}
use Rattle.hostlist.proofs.Numbers.{all_digits_is}
use Rattle.hostlist.proofs.ReadingLemmas.{digits_pass, length-take_while}
use Rattle.hostlist_laws.specs.Items.{Range, IsNumber, IsRange, last_of, range_text, range_hosts}
use Rattle.hostlist_laws.proofs.Fronts.{Stops, front_len, front_is, back_is}

-- what stands behind a range: the end of the bracket, or nothing
abbrev pub ending : Bool → List ℕ
ending closes = cond closes (93 ∷ []) []

-- how a text of a range is read
pub record IsRead (text : List ℕ) (range : Range) (closes : Bool) : Type 0 where
  pub first_is : digits_at text ≡ range.first
  pub first_len : prefix_len is_ascii_digit text ≡ length range.first
  pub last_is : digits_at (last_number text) ≡ last_of range
  pub last_len : prefix_len is_ascii_digit (last_number text) ≡ length (last_of range)
  pub end_is : range_end text ≡ ending closes

all_digits : (ds : List ℕ) → IsNumber ds → list_all is_ascii_digit ds ≡ true
all_digits ds h = sym (all_digits_is ds) ∙ h.decimal

ending_stops : (closes : Bool) → Stops is_ascii_digit (ending closes)
ending_stops true = refl
ending_stops false = tt

ending_no_dash : (closes : Bool) → behind 45 (ending closes) ≡ None
ending_no_dash true = refl
ending_no_dash false = refl

-- the text of a range, with its bracket's end or without it, is read as the range
pub range_read : (first : List ℕ) (last : Option (List ℕ)) (closes : Bool) → IsNumber first → IsNumber (unwrap_or last first)
    → IsRead (range_text (record { first = first; last = last }) ++ ending closes) (record { first = first; last = last }) closes
range_read low None closes h k =
    let text = low ++ ending closes in
    let front = front_is is_ascii_digit low (ending closes) (all_digits low h) (ending_stops closes) in
    let len = front_len is_ascii_digit low (ending closes) (all_digits low h) (ending_stops closes) in
    let back = back_is is_ascii_digit low (ending closes) (all_digits low h) (ending_stops closes) in
    let last : last_number text ≡ text = ap (λ o. unwrap_or o text) (ap (behind 45) back ∙ ending_no_dash closes) in
    record { first_is = front; first_len = len; last_is = ap digits_at last ∙ front; last_len = ap (prefix_len is_ascii_digit) last ∙ len; end_is = ap behind_digits last ∙ back }
range_read low (Some high) closes h k =
    let tail = high ++ ending closes in
    let whole : (low ++ 45 ∷ high) ++ ending closes ≡ low ++ 45 ∷ tail = append_assoc low (45 ∷ high) (ending closes) in
    let back : behind_digits (low ++ 45 ∷ tail) ≡ 45 ∷ tail = back_is is_ascii_digit low (45 ∷ tail) (all_digits low h) refl in
    let last : last_number ((low ++ 45 ∷ high) ++ ending closes) ≡ tail = ap last_number whole ∙ ap (λ o. unwrap_or o (low ++ 45 ∷ tail)) (ap (behind 45) back) in
    record {
      first_is = ap digits_at whole ∙ front_is is_ascii_digit low (45 ∷ tail) (all_digits low h) refl;
      first_len = ap (prefix_len is_ascii_digit) whole ∙ front_len is_ascii_digit low (45 ∷ tail) (all_digits low h) refl;
      last_is = ap digits_at last ∙ front_is is_ascii_digit high (ending closes) (all_digits high k) (ending_stops closes);
      last_len = ap (prefix_len is_ascii_digit) last ∙ front_len is_ascii_digit high (ending closes) (all_digits high k) (ending_stops closes);
      end_is = ap behind_digits last ∙ back_is is_ascii_digit high (ending closes) (all_digits high k) (ending_stops closes);
    }

number_clean : (place : ℕ) (text digits : List ℕ) → prefix_len is_ascii_digit text ≡ length digits → IsNumber digits → number_fault place text ≡ None
number_clean place text digits len h =
    let some : eqb (prefix_len is_ascii_digit text) 0 ≡ false = grind (arith, nat_tests, h.some) in
    let short : ltb 9 (prefix_len is_ascii_digit text) ≡ false = grind (arith, nat_tests, h.short) in
    rw (some, short) refl

end_clean : (place : ℕ) (closes : Bool) → end_fault place (ending closes) ≡ None
end_clean place true = refl
end_clean place false = refl

four_none : (a b c d : Option HostFault) → a ≡ None → b ≡ None → c ≡ None → d ≡ None → first_some (a ∷ b ∷ c ∷ d ∷ []) ≡ None
four_none a b c d p q r s = rw (p, q, r, s) refl

-- a text that is read as a range has no fault, and its hosts are those of the range
pub range_clean : (text : List ℕ) (range : Range) (closes : Bool) (place : ℕ) → IsRead text range closes → IsRange range → range_fault place text ≡ None
range_clean text range closes place t h =
    let ordered : ltb (value_of (last_of range)) (value_of range.first) ≡ false = grind (arith, nat_tests, h.ordered) in
    let forward : ltb (value_of (digits_at (last_number text))) (value_of (digits_at text)) ≡ false = ap₂ (λ a b. ltb (value_of a) (value_of b)) t.last_is t.first_is ∙ ordered in
    four_none _ _ _ _
    (number_clean place text range.first t.first_len h.first)
    (number_clean (place + (length text - length (last_number text))) (last_number text) (last_of range) t.last_len h.last)
    (ap (λ b. cond {A = Option HostFault} b (Some (Backwards place)) None) forward)
    (ap (end_fault (place + (length text - length (range_end text)))) t.end_is ∙ end_clean (place + (length text - length (range_end text))) closes)

pub hosts_read : (prefix text : List ℕ) (range : Range) (closes : Bool) → IsRead text range closes → reading.range_hosts prefix text ≡ range_hosts prefix range
hosts_read prefix text range closes t =
    ap₂ (λ a b. map (λ number. prefix ++ padded (length a) number) (range_with_len (value_of a) (value_of b + 1 - value_of a))) t.first_is t.last_is

-- the range that a text without a fault spells
pub record IsFound (text : List ℕ) : Type 0 where
  pub range : Range
  pub closes : Bool
  pub valid : IsRange range
  pub text_is : text ≡ range_text range ++ ending closes

-- where no fault of a list is found, each is none
pub or_none : (a b : Option HostFault) → or_else a b ≡ None → (a ≡ None) × (b ≡ None)
or_none None b h = (refl, h)
or_none (Some e) b h = absurd (let no : ⊥ = cc in no)

each_none : (a b c d : Option HostFault) → first_some (a ∷ b ∷ c ∷ d ∷ []) ≡ None → (a ≡ None) × (b ≡ None) × (c ≡ None) × (d ≡ None)
each_none a b c d h =
    let first = or_none a (or_else b (or_else c (or_else d None))) h in
    let second = or_none b (or_else c (or_else d None)) first.1 in
    let third = or_none c (or_else d None) second.1 in
    let fourth = or_none d None third.1 in
    (first.0, second.0, third.0, fourth.0)

-- where a test that is to fail makes no fault, it fails
pub test_none : (b : Bool) (e : HostFault) (o : Option HostFault) → cond b (Some e) o ≡ None → (b ≡ false) × (o ≡ None)
test_none true e o h = absurd (let no : ⊥ = cc in no)
test_none false e o h = (refl, h)

number_found : (place : ℕ) (text : List ℕ) → number_fault place text ≡ None → IsNumber (digits_at text)
number_found place text h =
    let len = prefix_len is_ascii_digit text in
    let begins = test_none (eqb len 0) (BadText place) (cond (ltb 9 len) (Some (BadText (place + 9))) None) h in
    let stops = test_none (ltb 9 len) (BadText (place + 9)) None begins.1 in
    let some : 0 < len = grind (arith, nat_tests, begins.0) in
    let short : len ≤ 9 = grind (arith, nat_tests, stops.0) in
    let long = length-take_while is_ascii_digit text in
    record { decimal = digits_pass text; some = omega arith; short = omega arith }

pub behind_found : (c : ℕ) (text rest : List ℕ) → behind c text ≡ Some rest → text ≡ c ∷ rest
behind_found c [] rest h = absurd (let no : ⊥ = cc in no)
behind_found c (b ∷ bs) rest h =
    elim (eqb b c) as (λ t. eqb b c ≡ t → cond {A = Option (List ℕ)} t (Some bs) None ≡ Some rest → b ∷ bs ≡ c ∷ rest) [
      | true ↦ λ q k. let same : b ≡ c = grind (arith, nat_tests) in let more : bs ≡ rest = cc in ap₂ (λ x xs. x ∷ xs) same more
      | false ↦ λ q k. absurd (let no : ⊥ = cc in no)
    ] refl h

nothing_more : (bs : List ℕ) (e : HostFault) → cond {A = Option HostFault} (eqb (length bs) 0) None (Some e) ≡ None → bs ≡ []
nothing_more [] e h = refl
nothing_more (b ∷ bs) e h =
    let test : eqb (length (b ∷ bs)) 0 ≡ false = grind (arith, nat_tests) in
    let some : Some e ≡ None = sym (ap (λ t. cond {A = Option HostFault} t None (Some e)) test) ∙ h in
    absurd (let no : ⊥ = cc in no)

end_found : (place : ℕ) (text : List ℕ) → end_fault place text ≡ None → (closes : Bool) × (text ≡ ending closes)
end_found place [] h = (false, refl)
end_found place (b ∷ bs) h =
    elim (eqb b 93) as (λ t. eqb b 93 ≡ t → cond {A = Option HostFault} t (cond (eqb (length bs) 0) None (Some (BadText (place + 1)))) (Some (BadText place)) ≡ None → (closes : Bool) × (b ∷ bs ≡ ending closes)) [
      | true ↦ λ q k. let same : b ≡ 93 = grind (arith, nat_tests) in (true, ap₂ (λ x xs. x ∷ xs) same (nothing_more bs (BadText (place + 1)) k))
      | false ↦ λ q k. absurd (let no : ⊥ = cc in no)
    ] refl h

-- by what stands behind the first number: a dash and the last one, or none
found_by : (text : List ℕ) (last : Option (List ℕ)) → behind 45 (behind_digits text) ≡ last → IsNumber (digits_at text) → IsNumber (digits_at (unwrap_or last text))
    → value_of (digits_at text) ≤ value_of (digits_at (unwrap_or last text)) → (closes : Bool) → behind_digits (unwrap_or last text) ≡ ending closes → IsFound text
found_by text None is h k ordered closes ends =
    let whole = take-append-drop (prefix_len is_ascii_digit text) text in
    record {
      range = record { first = digits_at text; last = None };
      closes = closes;
      valid = record { first = h; last = k; ordered = ordered };
      text_is = sym whole ∙ ap (λ t. digits_at text ++ t) ends;
    }
found_by text (Some tail) is h k ordered closes ends =
    let whole = take-append-drop (prefix_len is_ascii_digit text) text in
    let behind_it = take-append-drop (prefix_len is_ascii_digit tail) tail in
    record {
      range = record { first = digits_at text; last = Some (digits_at tail) };
      closes = closes;
      valid = record { first = h; last = k; ordered = ordered };
      text_is = sym whole ∙ ap (λ t. digits_at text ++ t) (behind_found 45 (behind_digits text) tail is ∙ ap (λ t. 45 ∷ t) (sym behind_it ∙ ap (λ t. digits_at tail ++ t) ends))
          ∙ sym (append_assoc (digits_at text) (45 ∷ digits_at tail) (ending closes));
    }

pub range_found : (place : ℕ) (text : List ℕ) → range_fault place text ≡ None → IsFound text
range_found place text h =
    let backwards : Option HostFault = cond (ltb (value_of (digits_at (last_number text))) (value_of (digits_at text))) (Some (Backwards place)) None in
    let none = each_none (number_fault place text) (number_fault (place + (length text - length (last_number text))) (last_number text)) backwards (end_fault (place + (length text - length (range_end text))) (range_end text)) h in
    let forward = test_none (ltb (value_of (digits_at (last_number text))) (value_of (digits_at text))) (Backwards place) None none.2 in
    let ordered : value_of (digits_at text) ≤ value_of (digits_at (last_number text)) = grind (arith, nat_tests, forward.0) in
    let ends = end_found (place + (length text - length (range_end text))) (range_end text) none.3 in
    found_by text (behind 45 (behind_digits text)) refl (number_found place text none.0) (number_found (place + (length text - length (last_number text))) (last_number text) none.1) ordered ends.0 ends.1
