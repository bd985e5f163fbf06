-- The canonical text of a list of hosts spells that list.
use Rattle.std.proofs.Common.{◌≡◌, ℕ, ◌+◌, ◌-◌, ◌<◌, ◌≤◌, suc, Bool, true, false, cond, not, eqb, ltb, List, [], ◌∷◌, ◌++◌, length, map, take, drop, get_or, refl, ap, ap₂, sym, ◌∙◌, subst, append_assoc, length-append, arith}
use Rattle.std.specs.Prelude.{Option, Some, None, unwrap_or}
use Rattle.std.specs.List.{list_all, prefix_len, take_while, join_with_byte, range_with_len}
use Rattle.std.specs.Char.{is_ascii_digit}
use Rattle.std.proofs.lemmas.Bool.Decides.{nat_tests}
use Rattle.std.proofs.lemmas.List.{append-nil, take_at, drop_at}
use Rattle.outcomes.specs.Outcomes.{first_some, or_else}
use Rattle.hostlist.specs.Names.{is_name_byte, is_host_name, IsHostName, AreHostNames, padded, value_of, number_digits, number_prefix, shares_prefix, follows}
use Rattle.hostlist.specs.Reading.{behind, digits_at, behind_digits, last_number, range_end, range_hosts, range_fault, number_fault, end_fault, prefix_of, pieces, spelled, text_fault, first_fault}
use Rattle.hostlist.specs.Printing.{chunks_by, run_text, group_text, canonical}
use Rattle.hostlist.specs.declared.faults.HostFault.{HostFault}
use Rattle.hostlist.specs.declared.faults.HostFault.TheVariants.{Backwards, TooMany}
use Rattle.hostlist.proofs.Numbers.{all_digits_is}
use Rattle.hostlist.proofs.NameLemmas.{and_true, and_left, and_right, list_all-append}
use Rattle.hostlist.proofs.ReadingLemmas.{no_name, plain, ranged_item, ranged_inside}
use Rattle.hostlist.proofs.ChunkLemmas.{run_one, run_more, group_one, group_more}
use Rattle.hostlist.proofs.PaddedLemmas.{IsNumber}
use Rattle.hostlist.proofs.RunLemmas.{Each, joined, joined-chunks_by, IsPart, parts_of, IsMember, members, first_member, name_is, prefix_some, IsRun, run_of}
use Rattle.hostlist.proofs.PieceReading.{Spells, comma_pieces, clean_fault, spells_on, spells_piece, is_other, names_other, digits_other}

-- the first element, if there is one, fails
abbrev Stops : (ℕ → Bool) → List ℕ → Type 0
Stops p [] = Unit {0}
Stops p (y ∷ ys) = p y ≡ false

prefix_all : (p : ℕ → Bool) (xs ys : List ℕ) → list_all p xs ≡ true → Stops p ys → prefix_len p (xs ++ ys) ≡ length xs
prefix_all p [] [] h s = refl
prefix_all p [] (y ∷ ys) h s = ap (λ b. cond b (1 + prefix_len p ys) 0) s
prefix_all p (x ∷ xs) ys h s =
    let more = prefix_all p xs ys (and_right (p x) (list_all p xs) h) s in
    let step : 1 + prefix_len p (xs ++ ys) ≡ suc (length xs) = omega (arith, more) in
    ap (λ b. cond b (1 + prefix_len p (xs ++ ys)) 0) (and_left (p x) (list_all p xs) h) ∙ step

front_is : (p : ℕ → Bool) (xs ys : List ℕ) → list_all p xs ≡ true → Stops p ys → take_while p (xs ++ ys) ≡ xs
front_is p xs ys h s = ap (λ n. take n (xs ++ ys)) (prefix_all p xs ys h s) ∙ take_at xs ys (length xs) refl

back_is : (p : ℕ → Bool) (xs ys : List ℕ) → list_all p xs ≡ true → Stops p ys → drop (prefix_len p (xs ++ ys)) (xs ++ ys) ≡ ys
back_is p xs ys h s = ap (λ n. drop n (xs ++ ys)) (prefix_all p xs ys h s) ∙ drop_at xs ys (length xs) refl

-- what stands behind a range: the end of the bracket, or nothing
abbrev ending : Bool → List ℕ
ending closes = cond closes (93 ∷ []) []

-- a text of a range, by its numbers
record IsRangeText (text low high : List ℕ) (closes : Bool) : Type 0 where
  first_is : digits_at text ≡ low
  first_len : prefix_len is_ascii_digit text ≡ length low
  last_is : digits_at (last_number text) ≡ high
  last_len : prefix_len is_ascii_digit (last_number text) ≡ length high
  end_is : range_end text ≡ ending closes

digits_pass : (ds : List ℕ) → IsNumber ds → list_all is_ascii_digit ds ≡ true
digits_pass ds h = sym (all_digits_is ds) ∙ h.pass

ending_stops : (closes : Bool) → Stops is_ascii_digit (ending closes)
ending_stops true = refl
ending_stops false = tt

ending_no_dash : (closes : Bool) → behind 45 (ending closes) ≡ None
ending_no_dash true = refl
ending_no_dash false = refl

one_text : (low : List ℕ) (closes : Bool) → IsNumber low → IsRangeText (low ++ ending closes) low low closes
one_text low closes h =
    let text = low ++ ending closes in
    let first = front_is is_ascii_digit low (ending closes) (digits_pass low h) (ending_stops closes) in
    let len = prefix_all is_ascii_digit low (ending closes) (digits_pass low h) (ending_stops closes) in
    let back = back_is is_ascii_digit low (ending closes) (digits_pass low h) (ending_stops closes) in
    let last : last_number text ≡ text = ap (λ o. unwrap_or o text) (ap (behind 45) back ∙ ending_no_dash closes) in
    record { first_is = first; first_len = len; last_is = ap digits_at last ∙ first; last_len = ap (prefix_len is_ascii_digit) last ∙ len; end_is = ap behind_digits last ∙ back }

span_text : (low high : List ℕ) (closes : Bool) → IsNumber low → IsNumber high → IsRangeText (low ++ 45 ∷ (high ++ ending closes)) low high closes
span_text low high closes h k =
    let tail = high ++ ending closes in
    let text = low ++ 45 ∷ tail in
    let back : behind_digits text ≡ 45 ∷ tail = back_is is_ascii_digit low (45 ∷ tail) (digits_pass low h) refl in
    let last : last_number text ≡ tail = ap (λ o. unwrap_or o text) (ap (behind 45) back) in
    record {
      first_is = front_is is_ascii_digit low (45 ∷ tail) (digits_pass low h) refl;
      first_len = prefix_all is_ascii_digit low (45 ∷ tail) (digits_pass low h) refl;
      last_is = ap digits_at last ∙ front_is is_ascii_digit high (ending closes) (digits_pass high k) (ending_stops closes);
      last_len = ap (prefix_len is_ascii_digit) last ∙ prefix_all is_ascii_digit high (ending closes) (digits_pass high k) (ending_stops closes);
      end_is = ap behind_digits last ∙ back_is is_ascii_digit high (ending closes) (digits_pass high k) (ending_stops closes);
    }

-- the last host of a run
abbrev last_of : List ℕ → List (List ℕ) → List ℕ
last_of x xs = get_or (x ∷ xs) (length xs) []

run_longer : (x y : List ℕ) (ys : List (List ℕ)) → run_text (x ∷ y ∷ ys) ≡ number_digits x ++ 45 ∷ number_digits (last_of x (y ∷ ys))
run_longer x y ys =
    let end : length (x ∷ y ∷ ys) - 1 ≡ length (y ∷ ys) = omega arith in
    run_more (x ∷ y ∷ ys) (omega arith) ∙ ap (λ n. number_digits x ++ 45 ∷ number_digits (get_or (x ∷ y ∷ ys) n [])) end

run_range : (x : List ℕ) (xs : List (List ℕ)) (closes : Bool) → IsNumber (number_digits x) → IsNumber (number_digits (last_of x xs))
    → IsRangeText (run_text (x ∷ xs) ++ ending closes) (number_digits x) (number_digits (last_of x xs)) closes
run_range x [] closes h k =
    let P : List ℕ → Type 0 = λ text. IsRangeText (text ++ ending closes) (number_digits x) (number_digits x) closes in
    subst P (sym (run_one (x ∷ []) refl)) (one_text (number_digits x) closes h)
run_range x (y ∷ ys) closes h k =
    let low = number_digits x in
    let high = number_digits (last_of x (y ∷ ys)) in
    let P : List ℕ → Type 0 = λ text. IsRangeText text low high closes in
    subst P (sym (ap (λ t. t ++ ending closes) (run_longer x y ys) ∙ append_assoc low (45 ∷ high) (ending closes))) (span_text low high closes h k)

ending_other : (closes : Bool) → list_all is_other (ending closes) ≡ true
unfolding is_other
ending_other true = refl
ending_other false = refl

dash_other : is_other 45 ≡ true
unfolding is_other
dash_other = refl

open_other : is_other 91 ≡ true
unfolding is_other
open_other = refl

run_other : (x : List ℕ) (xs : List (List ℕ)) (closes : Bool) → IsNumber (number_digits x) → IsNumber (number_digits (last_of x xs)) → list_all is_other (run_text (x ∷ xs) ++ ending closes) ≡ true
run_other x [] closes h k =
    list_all-append is_other (run_text (x ∷ [])) (ending closes) (ap (list_all is_other) (run_one (x ∷ []) refl) ∙ digits_other (number_digits x) h.pass) (ending_other closes)
run_other x (y ∷ ys) closes h k =
    let high = number_digits (last_of x (y ∷ ys)) in
    list_all-append is_other (run_text (x ∷ y ∷ ys)) (ending closes)
    (ap (list_all is_other) (run_longer x y ys) ∙ list_all-append is_other (number_digits x) (45 ∷ high) (digits_other (number_digits x) h.pass) (and_true (is_other 45) (list_all is_other high) dash_other (digits_other high k.pass)))
    (ending_other closes)

number_ok : (place : ℕ) (text : List ℕ) (n : ℕ) → prefix_len is_ascii_digit text ≡ n → 0 < n → n ≤ 9 → number_fault place text ≡ None
number_ok place text n len some short =
    let not_none : eqb (prefix_len is_ascii_digit text) 0 ≡ false = grind (arith, nat_tests) in
    let not_long : ltb 9 (prefix_len is_ascii_digit text) ≡ false = grind (arith, nat_tests) in
    rw (not_none, not_long) refl

end_ok : (place : ℕ) (closes : Bool) → end_fault place (ending closes) ≡ None
end_ok place true = refl
end_ok place false = refl

four_none : (a b c d : Option HostFault) → a ≡ None → b ≡ None → c ≡ None → d ≡ None → first_some (a ∷ b ∷ c ∷ d ∷ []) ≡ None
four_none a b c d p q r s = rw (p, q, r, s) refl

clean_range : (text low high : List ℕ) (closes : Bool) (place : ℕ) → IsRangeText text low high closes → IsNumber low → IsNumber high → value_of low ≤ value_of high → range_fault place text ≡ None
clean_range text low high closes place t h k ordered =
    let test : ltb (value_of high) (value_of low) ≡ false = grind (arith, nat_tests) in
    let forward : ltb (value_of (digits_at (last_number text))) (value_of (digits_at text)) ≡ false = ap₂ (λ a b. ltb (value_of a) (value_of b)) t.last_is t.first_is ∙ test in
    four_none _ _ _ _
    (number_ok place text (length low) t.first_len h.some h.short)
    (number_ok (place + (length text - length (last_number text))) (last_number text) (length high) t.last_len k.some k.short)
    (ap (λ b. cond {A = Option HostFault} b (Some (Backwards place)) None) forward)
    (ap (end_fault (place + (length text - length (range_end text)))) t.end_is ∙ end_ok (place + (length text - length (range_end text))) closes)

hosts_range : (prefix text low high : List ℕ) (closes : Bool) → IsRangeText text low high closes
    → range_hosts prefix text ≡ map (λ number. prefix ++ padded (length low) number) (range_with_len (value_of low) (value_of high + 1 - value_of low))
hosts_range prefix text low high closes t =
    ap₂ (λ a b. map (λ number. prefix ++ padded (length a) number) (range_with_len (value_of a) (value_of b + 1 - value_of a))) t.first_is t.last_is

-- the bracket behind a range
abbrev bracket_at : Bool → List ℕ → Option (List ℕ)
bracket_at closes prefix = cond closes None (Some prefix)

ending_bracket : (prefix : List ℕ) (closes : Bool) → cond {A = Option (List ℕ)} (eqb (length (ending closes)) 0) (Some prefix) None ≡ bracket_at closes prefix
ending_bracket prefix true = refl
ending_bracket prefix false = refl

inside_piece : (prefix text low high : List ℕ) (run : List (List ℕ)) (closes : Bool) → IsRangeText text low high closes → IsRun prefix run low high → list_all is_other text ≡ true → Spells (Some prefix) text run (bracket_at closes prefix)
inside_piece prefix text low high run closes t r other =
    let piece = ranged_inside 0 prefix text in
    spells_piece (Some prefix) (bracket_at closes prefix) text run other
    (λ place. (ranged_inside place prefix text).fault ∙ clean_range text low high closes place t r.low_number r.high_number r.ordered)
    (piece.hosts ∙ hosts_range prefix text low high closes t ∙ sym r.hosts)
    (piece.next ∙ ap (λ e. cond {A = Option (List ℕ)} (eqb (length e) 0) (Some prefix) None) t.end_is ∙ ending_bracket prefix closes)

name_some : (name : List ℕ) → IsHostName name → 0 < length name
name_some name h = let test = and_left (not (eqb (length name) 0)) (list_all is_name_byte name) h in grind (arith, nat_tests)

name_bytes : (name : List ℕ) → IsHostName name → list_all is_name_byte name ≡ true
name_bytes name h = and_right (not (eqb (length name) 0)) (list_all is_name_byte name) h

outside_piece : (prefix text low high : List ℕ) (run : List (List ℕ)) (closes : Bool) → IsHostName prefix → IsRangeText text low high closes → IsRun prefix run low high → list_all is_other text ≡ true
    → Spells None (prefix ++ 91 ∷ text) run (bracket_at closes prefix)
outside_piece prefix text low high run closes named t r other =
    let whole = prefix ++ 91 ∷ text in
    let bytes = name_bytes prefix named in
    let len = prefix_all is_name_byte prefix (91 ∷ text) bytes refl in
    let some : 0 < prefix_len is_name_byte whole = omega (arith, len, name_some prefix named) in
    let is : behind 91 (drop (prefix_len is_name_byte whole) whole) ≡ Some text = ap (behind 91) (back_is is_name_byte prefix (91 ∷ text) bytes refl) in
    let front : prefix_of None whole ≡ prefix = front_is is_name_byte prefix (91 ∷ text) bytes refl in
    let piece = ranged_item 0 whole text some is in
    spells_piece None (bracket_at closes prefix) whole run
    (list_all-append is_other prefix (91 ∷ text) (names_other prefix bytes) (and_true (is_other 91) (list_all is_other text) open_other other))
    (λ place. (ranged_item place whole text some is).fault ∙ clean_range text low high closes (place + (length whole - length text)) t r.low_number r.high_number r.ordered)
    (piece.hosts ∙ ap (λ p. range_hosts p text) front ∙ hosts_range prefix text low high closes t ∙ sym r.hosts)
    (piece.next ∙ ap₂ (λ p e. cond {A = Option (List ℕ)} (eqb (length e) 0) (Some p) None) front t.end_is ∙ ending_bracket prefix closes)

plain_piece : (name : List ℕ) → IsHostName name → Spells None name (name ∷ []) None
plain_piece name named =
    let bytes = name_bytes name named in
    let whole = append-nil name in
    let len : prefix_len is_name_byte name ≡ length name = ap (prefix_len is_name_byte) (sym whole) ∙ prefix_all is_name_byte name [] bytes tt in
    let some : 0 < prefix_len is_name_byte name = omega (arith, len, name_some name named) in
    let back : drop (prefix_len is_name_byte name) name ≡ [] = ap (λ x. drop (prefix_len is_name_byte x) x) (sym whole) ∙ back_is is_name_byte name [] bytes tt in
    let front : take_while is_name_byte name ≡ name = ap (take_while is_name_byte) (sym whole) ∙ front_is is_name_byte name [] bytes tt in
    let piece = plain 0 name some back in
    spells_piece None None name (name ∷ []) (names_other name bytes) (λ place. (plain place name some back).fault) (piece.hosts ∙ ap (λ x. x ∷ []) front) piece.bracket

abbrev AreRuns : List ℕ → List (List (List ℕ)) → Type 0
AreRuns prefix runs = Each (IsPart follows (IsMember prefix)) runs

abbrev runs_text : List (List (List ℕ)) → List ℕ
runs_text runs = join_with_byte 44 (map run_text runs)

-- a run in the bracket, and one with its prefix
run_inside : (prefix x : List ℕ) (xs : List (List ℕ)) (closes : Bool) → IsPart follows (IsMember prefix) (x ∷ xs) → Spells (Some prefix) (run_text (x ∷ xs) ++ ending closes) (x ∷ xs) (bracket_at closes prefix)
run_inside prefix x xs closes part =
    let r = run_of prefix x xs part in
    inside_piece prefix (run_text (x ∷ xs) ++ ending closes) (number_digits x) (number_digits (last_of x xs)) (x ∷ xs) closes (run_range x xs closes r.low_number r.high_number) r (run_other x xs closes r.low_number r.high_number)

run_outside : (prefix x : List ℕ) (xs : List (List ℕ)) (closes : Bool) → IsHostName prefix → IsPart follows (IsMember prefix) (x ∷ xs)
    → Spells None (prefix ++ 91 ∷ (run_text (x ∷ xs) ++ ending closes)) (x ∷ xs) (bracket_at closes prefix)
run_outside prefix x xs closes named part =
    let r = run_of prefix x xs part in
    outside_piece prefix (run_text (x ∷ xs) ++ ending closes) (number_digits x) (number_digits (last_of x xs)) (x ∷ xs) closes named (run_range x xs closes r.low_number r.high_number) r (run_other x xs closes r.low_number r.high_number)

inside_runs : (prefix : List ℕ) (run : List (List ℕ)) (runs : List (List (List ℕ))) → AreRuns prefix (run ∷ runs) → Spells (Some prefix) (runs_text (run ∷ runs) ++ 93 ∷ []) (joined (run ∷ runs)) None
inside_runs prefix [] runs parts = absurd (omega (arith, parts.0.some))
inside_runs prefix (x ∷ xs) [] parts =
    let P : List (List ℕ) → Type 0 = λ hs. Spells (Some prefix) (run_text (x ∷ xs) ++ 93 ∷ []) hs None in
    subst P (sym (append-nil (x ∷ xs))) (run_inside prefix x xs true parts.0)
inside_runs prefix (x ∷ xs) (run ∷ runs) parts =
    let text = run_text (x ∷ xs) in
    let rest = runs_text (run ∷ runs) in
    let P : List ℕ → Type 0 = λ t. Spells (Some prefix) t (x ∷ xs) (Some prefix) in
    let first : Spells (Some prefix) text (x ∷ xs) (Some prefix) = subst P (append-nil text) (run_inside prefix x xs false parts.0) in
    let Q : List ℕ → Type 0 = λ t. Spells (Some prefix) t (joined ((x ∷ xs) ∷ run ∷ runs)) None in
    subst Q (sym (append_assoc text (44 ∷ rest) (93 ∷ [])))
    (spells_on (Some prefix) (Some prefix) None text (rest ++ 93 ∷ []) (x ∷ xs) (joined (run ∷ runs)) first (inside_runs prefix run runs parts.1))

outside_runs : (prefix : List ℕ) (runs : List (List (List ℕ))) → 0 < length (joined runs) → IsHostName prefix → AreRuns prefix runs → Spells None (prefix ++ 91 ∷ (runs_text runs ++ 93 ∷ [])) (joined runs) None
outside_runs prefix [] some named parts = absurd (omega arith)
outside_runs prefix ([] ∷ runs) some named parts = absurd (omega (arith, parts.0.some))
outside_runs prefix ((x ∷ xs) ∷ []) some named parts =
    let P : List (List ℕ) → Type 0 = λ hs. Spells None (prefix ++ 91 ∷ (run_text (x ∷ xs) ++ 93 ∷ [])) hs None in
    subst P (sym (append-nil (x ∷ xs))) (run_outside prefix x xs true named parts.0)
outside_runs prefix ((x ∷ xs) ∷ run ∷ runs) some named parts =
    let text = run_text (x ∷ xs) in
    let rest = runs_text (run ∷ runs) ++ 93 ∷ [] in
    let P : List ℕ → Type 0 = λ t. Spells None (prefix ++ 91 ∷ t) (x ∷ xs) (Some prefix) in
    let first : Spells None (prefix ++ 91 ∷ text) (x ∷ xs) (Some prefix) = subst P (append-nil text) (run_outside prefix x xs false named parts.0) in
    let Q : List ℕ → Type 0 = λ t. Spells None t (joined ((x ∷ xs) ∷ run ∷ runs)) None in
    let same : (prefix ++ 91 ∷ text) ++ 44 ∷ rest ≡ prefix ++ 91 ∷ ((text ++ 44 ∷ runs_text (run ∷ runs)) ++ 93 ∷ []) =
    append_assoc prefix (91 ∷ text) (44 ∷ rest) ∙ ap (λ t. prefix ++ 91 ∷ t) (sym (append_assoc text (44 ∷ runs_text (run ∷ runs)) (93 ∷ []))) in
    subst Q same (spells_on None (Some prefix) None (prefix ++ 91 ∷ text) rest (x ∷ xs) (joined (run ∷ runs)) first (inside_runs prefix run runs parts.1))

list_all_front : (p : ℕ → Bool) (xs ys : List ℕ) → list_all p (xs ++ ys) ≡ true → list_all p xs ≡ true
list_all_front p [] ys h = refl
list_all_front p (x ∷ xs) ys h = and_true (p x) (list_all p xs) (and_left (p x) (list_all p (xs ++ ys)) h) (list_all_front p xs ys (and_right (p x) (list_all p (xs ++ ys)) h))

prefix_named : (prefix name : List ℕ) → IsHostName name → IsMember prefix name → IsHostName prefix
prefix_named prefix name named m =
    let bytes = list_all_front is_name_byte (number_prefix name) (number_digits name) (ap (list_all is_name_byte) (name_is name) ∙ name_bytes name named) in
    let some = prefix_some name m.numbered in
    let test : not (eqb (length (number_prefix name)) 0) ≡ true = let other : eqb (length (number_prefix name)) 0 ≡ false = grind (arith, nat_tests) in ap not other in
    subst IsHostName m.same (and_true (not (eqb (length (number_prefix name)) 0)) (list_all is_name_byte (number_prefix name)) test bytes)

group_spells : (group : List (List ℕ)) → IsPart shares_prefix IsHostName group → Spells None (group_text group) group None
group_spells [] part = absurd (omega (arith, part.some))
group_spells (x ∷ []) part =
    let P : List ℕ → Type 0 = λ t. Spells None t (x ∷ []) None in
    subst P (sym (group_one (x ∷ []) refl)) (plain_piece x part.each.0)
group_spells (x ∷ y ∷ zs) part =
    let group = x ∷ y ∷ zs in
    let prefix = number_prefix x in
    let runs = chunks_by follows group in
    let m = first_member x y part.linked.0 in
    let named = prefix_named prefix x part.each.0 m in
    let whole = joined-chunks_by follows group in
    let parts = parts_of follows (IsMember prefix) group (members prefix x (y ∷ zs) part.linked m) in
    let text : group_text group ≡ prefix ++ 91 ∷ (runs_text runs ++ 93 ∷ []) = group_more group (omega arith) ∙ append_assoc prefix (91 ∷ runs_text runs) (93 ∷ []) in
    let P : List ℕ → Type 0 = λ t. Spells None t group None in
    let Q : List (List ℕ) → Type 0 = λ hs. Spells None (prefix ++ 91 ∷ (runs_text runs ++ 93 ∷ [])) hs None in
    subst P (sym text) (subst Q whole (outside_runs prefix runs (omega (arith, ap length whole)) named parts))

groups_spell : (groups : List (List (List ℕ))) → 0 < length (joined groups) → Each (IsPart shares_prefix IsHostName) groups → Spells None (join_with_byte 44 (map group_text groups)) (joined groups) None
groups_spell [] some parts = absurd (omega arith)
groups_spell (group ∷ []) some parts =
    let P : List (List ℕ) → Type 0 = λ hs. Spells None (group_text group) hs None in
    subst P (sym (append-nil group)) (group_spells group parts.0)
groups_spell (group ∷ next ∷ groups) some parts =
    let more : 0 < length (joined (next ∷ groups)) = omega (arith, parts.1.0.some, length-append next (joined groups)) in
    spells_on None None None (group_text group) (join_with_byte 44 (map group_text (next ∷ groups))) group (joined (next ∷ groups)) (group_spells group parts.0) (groups_spell (next ∷ groups) more parts.1)

text_is : (text : List ℕ) (hosts : List (List ℕ)) → Spells None text hosts None → (text_fault text ≡ None) × (spelled text ≡ hosts)
unfolding text_fault spelled pieces
text_is [] hosts h = absurd (let none = h.clean.0 0 in let some = no_name 0 [] refl in cc)
text_is (b ∷ bs) hosts h = (clean_fault (length (b ∷ bs)) 0 None (comma_pieces (b ∷ bs)) h.clean h.ends, h.hosts_are)

each_named : (names : List (List ℕ)) → AreHostNames names → Each IsHostName names
each_named [] h = tt
each_named (x ∷ xs) h = (and_left (is_host_name x) (list_all is_host_name xs) h, each_named xs (and_right (is_host_name x) (list_all is_host_name xs) h))

none_text : (text_fault [] ≡ None) × (spelled [] ≡ [])
unfolding text_fault spelled pieces
none_text = (refl, refl)

canonical_is : (names : List (List ℕ)) → AreHostNames names → (text_fault (canonical names) ≡ None) × (spelled (canonical names) ≡ names)
unfolding canonical
canonical_is [] h = none_text
canonical_is (x ∷ xs) h =
    let groups = chunks_by shares_prefix (x ∷ xs) in
    let whole = joined-chunks_by shares_prefix (x ∷ xs) in
    let reading = groups_spell groups (omega (arith, ap length whole)) (parts_of shares_prefix IsHostName (x ∷ xs) (each_named (x ∷ xs) h)) in
    let P : List (List ℕ) → Type 0 = λ hs. Spells None (join_with_byte 44 (map group_text groups)) hs None in
    text_is (join_with_byte 44 (map group_text groups)) (x ∷ xs) (subst P whole reading)

pub canonical_none : canonical [] ≡ []
unfolding canonical
canonical_none = refl

-- what the canonical text of a list of names says to a reader
pub record IsReadAgain (names : List (List ℕ)) (text : List ℕ) : Type 0 where
  pub hosts : spelled text ≡ names
  pub fault : first_fault text ≡ cond (ltb 65536 (length names)) (Some TooMany) None

pub canonical_spells : (names : List (List ℕ)) → AreHostNames names → IsReadAgain names (canonical names)
unfolding first_fault
canonical_spells names h =
    let read = canonical_is names h in
    record { hosts = read.1; fault = ap₂ (λ f hs. or_else f (cond (ltb 65536 (length hs)) (Some TooMany) None)) read.0 read.1 }
