-- From the numbers of a text to its value.
use Rattle.std.proofs.Common.{◌≡◌, ℕ, zero, suc, ◌+◌, ◌-◌, ◌^◌, ◌<◌, ◌≤◌, ℤ, pos, negsuc, neg_ℤ, Bool, true, false, ◌&&◌, ◌==◌, cond, List, [], ◌∷◌, ◌++◌, length, get_or, drop, Option, Some, None, is_some, option_map, option_and_then, Ordering, Less, Equal, Greater, nat_cmp, inl, inr, ◌⊎◌, refl, sym, ap, ◌∙◌, subst, arith, append-nil, lt-ltb, le-leb, ne_eqb}
use Rattle.std.specs.Prelude.{not, nat_lt, ⊤}
use Rattle.std.specs.Ordering.{match_ordering, ordering_reverse, is_lt}
use Rattle.std.specs.Cmp.Lexicographic.{slice_cmp}
use Rattle.std.specs.Char.{is_ascii_digit, digit_value}
use Rattle.std.specs.Option.{option_map_or}
use Rattle.std.specs.Str.{all_ascii_digits}
use Rattle.std.specs.Str.Parse.{AllDigits, digits_value}
use Rattle.std.proofs.lemmas.Bool.{false≢true, and_parts}
use Rattle.std.proofs.lemmas.Bool.Decides.{nat_tests}
use Rattle.std.proofs.lemmas.Cmp.{nat_list_cmp_total}
use Rattle.std.specs.Float.Numeral.{Parts, scan_numeral as scan, IsWellFormed}
use Rattle.std.proofs.lemmas.Float.Parse.{scan_numeral-text_of as scan-text_of}
use Rattle.json.specs.Token.{Token}
use Rattle.json.specs.Json as json
use Rattle.json.specs.Tree.{json_tokens, items_tokens, members_tokens}
use Rattle.json.specs.Word.{head, after_minus}
use Rattle.serde_json.specs.Data.{Num, unsigned, negative, Data, number, array, object, Items, item, no_items, Members, no_members, member, put}
use Rattle.serde_json.specs.Read.{number_of, number_from, is_integer, of_json, of_items, of_members}
use Rattle.fl_json.specs.Numbers.{is_whole, is_number, natural, is_magnitude}
use Rattle.fl_json.specs.Valid.{IsWhole, IsBelowZero, IsBefore, IsValid, AreValid, HaveValid}

-- ---- one number

abbrev digits : List ℕ → Parts
digits ds = record { whole = ds; point = false; fraction = []; exponent_negative = false; exponent = []; len = length (ds ++ []) }

digit_below : (b : ℕ) → is_ascii_digit b ≡ true → digit_value b < 10
digit_below b h = grind (arith, nat_tests)

all_digits : (ds : List ℕ) → all_ascii_digits ds ≡ true → AllDigits 10 ds
all_digits [] h = tt
all_digits (d ∷ ds) h = let both = and_parts (is_ascii_digit d) (all_ascii_digits ds) h in (digit_below d both.0, all_digits ds both.1)

scanned : (ds : List ℕ) → all_ascii_digits ds ≡ true → scan ds ≡ digits ds
scanned ds h =
    let formed : IsWellFormed (digits ds) = record { whole_digits = all_digits ds h; fraction_digits = tt; exponent_digits = tt; no_point = λ _. refl; no_exponent = λ _. refl; len_is = refl } in
    ap scan (sym (append-nil ds)) ∙ scan-text_of (digits ds) formed

-- what a natural number is
record Natural (ds : List ℕ) (n : ℕ) : Type 0 where
  some : 0 < length ds
  ascii : all_ascii_digits ds ≡ true
  below : n < 2 ^ 64
  value : digits_value 10 ds ≡ n

natural_is : (ds : List ℕ) (n : ℕ) → natural ds ≡ Some n → Natural ds n
unfolding natural
natural_is ds n h = go (not (length ds == 0)) (all_ascii_digits ds) (nat_lt (digits_value 10 ds) (2 ^ 64)) refl refl refl h
  where
    go : (a b c : Bool) → not (length ds == 0) ≡ a → all_ascii_digits ds ≡ b → nat_lt (digits_value 10 ds) (2 ^ 64) ≡ c → cond (a && b && c) (Some (digits_value 10 ds)) None ≡ Some n → Natural ds n
    go true true true p q r e = let v : digits_value 10 ds ≡ n = cc in record { some = grind (arith, nat_tests); ascii = q; below = subst (λ k. k < 2 ^ 64) v (grind (arith, nat_tests)); value = v }
    go true true false p q r e = absurd (cc)
    go true false c p q r e = absurd (cc)
    go false b c p q r e = absurd (cc)

as_unsigned : (ds : List ℕ) (n : ℕ) → Natural ds n → number_from false (scan ds) ≡ Some (unsigned n)
as_unsigned ds n h =
    ap (number_from false) (scanned ds h.ascii) ∙ rw (lt-ltb _ _ h.some, append-nil ds, h.value) (rw (lt-ltb _ _ h.below) refl)

-- a number below 0
below_zero : (n : ℕ) → 0 < n → n ≤ 2 ^ 63 → (z : ℤ) × IsBelowZero z × (neg_ℤ (pos n) ≡ z)
below_zero zero some most = absurd (omega arith)
below_zero (suc n) some most = (negsuc n, omega arith, refl)

as_negative : (ds : List ℕ) (n : ℕ) → Natural ds n → 0 < n → n ≤ 2 ^ 63 → (z : ℤ) × IsBelowZero z × (number_from true (scan ds) ≡ Some (negative z))
as_negative ds n h some most =
    let z = below_zero n some most in
    (z.0, z.1, ap (number_from true) (scanned ds h.ascii) ∙ rw (lt-ltb _ _ h.some, append-nil ds, h.value) (rw (lt-ltb _ _ some, le-leb _ _ most) (ap (λ x. Some (negative x)) z.2)))

-- the value of a whole number is whole
pub record Whole (s : List ℕ) : Type 0 where
  pub num : Num
  pub is : number_of s ≡ Some num
  pub whole : IsWhole num

head_is : (s : List ℕ) → (head s == 45) ≡ (get_or s 0 0 == 45)
head_is [] = refl
head_is (b ∷ bs) = refl

whole_plain : (s : List ℕ) (n : ℕ) → (get_or s 0 0 == 45) ≡ false → natural s ≡ Some n → Whole s
unfolding number_of
whole_plain s n plain h = let k = natural_is s n h in record { num = unsigned n; is = rw plain (as_unsigned s n k); whole = k.below }

whole_signed : (s : List ℕ) (n : ℕ) → (get_or s 0 0 == 45) ≡ true → natural (drop 1 s) ≡ Some n → is_magnitude n ≡ true → Whole s
unfolding number_of
whole_signed s n signed h m =
    let some : 0 < n = grind (arith, nat_tests) in
    let most : n ≤ 2 ^ 63 = grind (arith, nat_tests) in
    let z = as_negative (drop 1 s) n (natural_is (drop 1 s) n h) some most in
    record { num = negative z.0; is = rw signed z.2; whole = z.1 }

pub whole_value : (s : List ℕ) → is_whole s ≡ true → Whole s
unfolding is_whole
whole_value s h = go (head s == 45) refl (and_parts (is_number s) _ h).1
  where
    plain : (o : Option ℕ) → (head s == 45) ≡ false → natural s ≡ o → is_some o ≡ true → Whole s
    plain None e q m = absurd (false≢true m)
    plain (Some n) e q m = whole_plain s n (sym (head_is s) ∙ e) q

    signed : (o : Option ℕ) → (head s == 45) ≡ true → natural (drop 1 s) ≡ o → option_map_or is_magnitude o false ≡ true → Whole s
    signed None e q m = absurd (false≢true m)
    signed (Some n) e q m = whole_signed s n (sym (head_is s) ∙ e) q m

    go : (b : Bool) → (head s == 45) ≡ b → cond (head s == 45) (option_map_or is_magnitude (natural (after_minus s)) false) (is_some (natural (after_minus s))) ≡ true → Whole s
    go true e m = signed (natural (drop 1 s)) e refl (sym (ap (λ b. option_map_or is_magnitude (natural (cond b (drop 1 s) s)) false) e) ∙ sym (ap (λ b. cond b (option_map_or is_magnitude (natural (after_minus s)) false) (is_some (natural (after_minus s)))) e) ∙ m)
    go false e m = plain (natural s) e refl (sym (ap (λ b. is_some (natural (cond b (drop 1 s) s))) e) ∙ sym (ap (λ b. cond b (option_map_or is_magnitude (natural (after_minus s)) false) (is_some (natural (after_minus s)))) e) ∙ m)

-- ---- tokens

-- a token, and what stands behind it: up to the first bad token each number is whole
abbrev pub WholeToken : Token → Type 0 → Type 0
WholeToken Token.begin_object more = more
WholeToken Token.end_object more = more
WholeToken Token.begin_array more = more
WholeToken Token.end_array more = more
WholeToken (Token.key s) more = more
WholeToken (Token.string s) more = more
WholeToken (Token.number s) more = (is_whole s ≡ true) × more
WholeToken (Token.boolean b) more = more
WholeToken Token.null more = more
WholeToken Token.bad more = ⊤

abbrev pub WholeTokens : List Token → Type 0
WholeTokens [] = ⊤
WholeTokens (t ∷ ts) = WholeToken t (WholeTokens ts)

abbrev mutual
  WholeJson : json.Json → Type 0
  WholeJson json.null = ⊤
  WholeJson (json.boolean b) = ⊤
  WholeJson (json.number s) = is_whole s ≡ true
  WholeJson (json.string s) = ⊤
  WholeJson (json.array js) = WholeItems js
  WholeJson (json.object ms) = WholeMembers ms

  WholeItems : json.Items → Type 0
  WholeItems json.no_items = ⊤
  WholeItems (json.item j js) = WholeJson j × WholeItems js

  WholeMembers : json.Members → Type 0
  WholeMembers json.no_members = ⊤
  WholeMembers (json.member k j ms) = WholeJson j × WholeMembers ms

mutual
  json_whole : (j : json.Json) (ts : List Token) → WholeTokens (json_tokens j ++ ts) → WholeJson j × WholeTokens ts
  json_whole json.null ts h = (tt, h)
  json_whole (json.boolean b) ts h = (tt, h)
  json_whole (json.number s) ts h = h
  json_whole (json.string s) ts h = (tt, h)
  json_whole (json.array js) ts h = items_whole js ts h
  json_whole (json.object ms) ts h = members_whole ms ts h

  items_whole : (js : json.Items) (ts : List Token) → WholeTokens (items_tokens js ++ ts) → WholeItems js × WholeTokens ts
  items_whole json.no_items ts h = (tt, h)
  items_whole (json.item j js) ts h =
      let first = json_whole j (items_tokens js ++ ts) (subst WholeTokens (Rattle.std.proofs.Common.append_assoc (json_tokens j) (items_tokens js) ts) h) in
      let more = items_whole js ts first.1 in
      ((first.0, more.0), more.1)

  members_whole : (ms : json.Members) (ts : List Token) → WholeTokens (members_tokens ms ++ ts) → WholeMembers ms × WholeTokens ts
  members_whole json.no_members ts h = (tt, h)
  members_whole (json.member k j ms) ts h =
      let first = json_whole j (members_tokens ms ++ ts) (subst WholeTokens (Rattle.std.proofs.Common.append_assoc (json_tokens j) (members_tokens ms) ts) h) in
      let more = members_whole ms ts first.1 in
      ((first.0, more.0), more.1)

-- ---- values

-- a key that is put among members stays behind the keys that it is behind
before_put_at : (o : Ordering) (low key next : List ℕ) (d e : Data) (ms : Members) → is_lt (slice_cmp nat_cmp low key) ≡ true → is_lt (slice_cmp nat_cmp low next) ≡ true
    → IsBefore low (match_ordering o (member key d (member next e ms)) (member next d ms) (member next e (put key d ms)))
before_put_at Less low key next d e ms a b = a
before_put_at Equal low key next d e ms a b = b
before_put_at Greater low key next d e ms a b = b

before_put : (low key : List ℕ) (d : Data) (ms : Members) → is_lt (slice_cmp nat_cmp low key) ≡ true → IsBefore low ms → IsBefore low (put key d ms)
before_put low key d no_members a b = a
before_put low key d (member next e ms) a b = before_put_at (slice_cmp nat_cmp key next) low key next d e ms a b

valid_put_at : (o : Ordering) (key next : List ℕ) (d e : Data) (ms : Members) → slice_cmp nat_cmp key next ≡ o → IsValid d → IsBefore next ms × IsValid e × HaveValid ms → HaveValid (put key d ms)
    → HaveValid (match_ordering o (member key d (member next e ms)) (member next d ms) (member next e (put key d ms)))
valid_put_at Less key next d e ms is v h later = (ap is_lt is, v, h)
valid_put_at Equal key next d e ms is v h later = (h.0, v, h.2)
valid_put_at Greater key next d e ms is v h later = (before_put next key d ms (ap is_lt (nat_list_cmp_total.antisymm next key ∙ ap ordering_reverse is)) h.0, h.1, later)

valid_put : (key : List ℕ) (d : Data) (ms : Members) → IsValid d → HaveValid ms → HaveValid (put key d ms)
valid_put key d no_members v h = (tt, v, tt)
valid_put key d (member next e ms) v h = valid_put_at (slice_cmp nat_cmp key next) key next d e ms refl v h (valid_put key d ms v h.2)

none_some : {A P : Type 0} (a : A) → None ≡ Some a → P
none_some a e = absurd (cc)

number_valid : (s : List ℕ) (d : Data) → is_whole s ≡ true → of_json (json.number s) ≡ Some d → IsValid d
number_valid s d h e = let w = whole_value s h in let same : Some (number w.num) ≡ Some d = sym (ap (option_map number) w.is) ∙ e in let is : number w.num ≡ d = cc in subst IsValid is w.whole

array_valid : (o : Option Items) (d : Data) → ((ds : Items) → o ≡ Some ds → AreValid ds) → option_map array o ≡ Some d → IsValid d
array_valid None d f e = none_some d e
array_valid (Some ds) d f e = let same : array ds ≡ d = cc in subst IsValid same (f ds refl)

object_valid : (o : Option Members) (d : Data) → ((ms : Members) → o ≡ Some ms → HaveValid ms) → option_map object o ≡ Some d → IsValid d
object_valid None d f e = none_some d e
object_valid (Some ms) d f e = let same : object ms ≡ d = cc in subst IsValid same (f ms refl)

item_valid : (o : Option Data) (r : Option Items) (ds : Items) → ((d : Data) → o ≡ Some d → IsValid d) → ((rest : Items) → r ≡ Some rest → AreValid rest) → option_and_then (λ d. option_map (item d) r) o ≡ Some ds → AreValid ds
item_valid None r ds f g e = none_some ds e
item_valid (Some d) None ds f g e = none_some ds e
item_valid (Some d) (Some rest) ds f g e = let same : item d rest ≡ ds = cc in subst AreValid same (f d refl, g rest refl)

member_valid : (o : Option Data) (more : Data → Option Members) (all : Members) → ((d : Data) → o ≡ Some d → more d ≡ Some all → HaveValid all) → option_and_then more o ≡ Some all → HaveValid all
member_valid None more all f e = none_some all e
member_valid (Some d) more all f e = f d refl e

mutual
  valid_of : (j : json.Json) (d : Data) → WholeJson j → of_json j ≡ Some d → IsValid d
  valid_of json.null d h e = let same : Data.null ≡ d = cc in subst IsValid same tt
  valid_of (json.boolean b) d h e = let same : Data.boolean b ≡ d = cc in subst IsValid same tt
  valid_of (json.number s) d h e = number_valid s d h e
  valid_of (json.string s) d h e = let same : Data.string s ≡ d = cc in subst IsValid same tt
  valid_of (json.array js) d h e = array_valid (of_items js) d (λ ds q. items_valid js ds h q) e
  valid_of (json.object ms) d h e = object_valid (of_members ms no_members) d (λ all q. members_valid ms no_members all h tt q) e

  items_valid : (js : json.Items) (ds : Items) → WholeItems js → of_items js ≡ Some ds → AreValid ds
  items_valid json.no_items ds h e = let same : no_items ≡ ds = cc in subst AreValid same tt
  items_valid (json.item j js) ds h e = item_valid (of_json j) (of_items js) ds (λ d q. valid_of j d h.0 q) (λ rest q. items_valid js rest h.1 q) e

  members_valid : (ms : json.Members) (found all : Members) → WholeMembers ms → HaveValid found → of_members ms found ≡ Some all → HaveValid all
  members_valid json.no_members found all h v e = let same : found ≡ all = cc in subst HaveValid same v
  members_valid (json.member k j ms) found all h v e = member_valid (of_json j) (λ d. of_members ms (put k d found)) all (λ d q r. members_valid ms (put k d found) all h.1 (valid_put k d found (valid_of j d h.0 q) v) r) e

-- what is read of tokens with whole numbers is valid
pub valid_read : (ts : List Token) (d : Data) → WholeTokens ts → option_and_then of_json (option_and_then (λ p. json.if_last p.0 p.1) (json.value Rattle.serde_json.specs.Read.max_depth ts)) ≡ Some d → IsValid d
valid_read ts d h e = go (json.value 127 ts) refl e
  where
    go : (o : Option (json.Json × List Token)) → json.value 127 ts ≡ o → option_and_then of_json (option_and_then (λ p. json.if_last p.0 p.1) o) ≡ Some d → IsValid d
    go None q e = none_some d e
    go (Some (j, t ∷ rest)) q e = none_some d e
    go (Some (j, [])) q e = valid_of j d (json_whole j [] (subst WholeTokens (Rattle.json.proofs.Unique.Spelling.value-json_tokens_back 127 ts [] j q) h)).0 e
