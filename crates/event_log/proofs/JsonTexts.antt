-- The canonical text of a valid value is JSON of that value, on one line.
use Rattle.std.proofs.Common.{◌≡◌, ℕ, suc, ◌^◌, ◌<◌, ◌≤◌, pos, negsuc, max, Bool, true, false, ◌&&◌, ◌==◌, List, [], ◌∷◌, ◌++◌, Option, Some, option_map, option_and_then, Ordering, Less, Equal, Greater, nat_cmp, decimal, inl, inr, refl, sym, ap, ap₂, ◌∙◌, subst, arith, append-nil, ne_eqb}
use Rattle.std.specs.Prelude.{not, ⊤}
use Rattle.std.specs.Bool.{IsTrue}
use Rattle.std.specs.List.{list_all}
use Rattle.std.specs.Ordering.{match_ordering, ordering_reverse, is_lt}
use Rattle.std.specs.Cmp.Lexicographic.{slice_cmp}
use Rattle.std.specs.Char.{is_ascii_digit}
use Rattle.std.specs.Str.{all_ascii_digits}
use Rattle.std.specs.Str.Parse.{digits_value}
use Rattle.std.proofs.lemmas.Bool.{and_parts, cases_lt}
use Rattle.std.proofs.lemmas.Bool.Decides.{nat_tests}
use Rattle.std.proofs.lemmas.Cmp.{nat_list_cmp_total}
use Rattle.std.proofs.lemmas.Fmt.{digits_decimal}
use Rattle.std.proofs.lemmas.Str.Parse.{IsNumeralModel, numerals_by_value, tells_all_ascii_digits}
use Rattle.json.specs.Token.{Token}
use Rattle.json.specs.Lex.{tokens}
use Rattle.json.specs.Json as json
use Rattle.json.specs.Print.{IsNumber, escape_byte, escape, quoted}
use Rattle.json.specs.Tree as tree
use Rattle.json.specs.Tree.{json_tokens}
use Rattle.json.specs.Word.{head, after_number}
use Rattle.json.proofs.Printed.Decimals.{IsNumber-decimal}
use Rattle.json.proofs.Printed.Strings.{escape_byte_plain}
use Rattle.json.proofs.Printed.Tokens.{tokens-print}
use Rattle.json.proofs.Printed.Trees.{ArePrintable-json_tokens, value-json_tokens}
use Rattle.serde_json.specs.Data.{Num, unsigned, negative, float, Data, null, boolean, number, string, array, object, Items, no_items, item, Members, no_members, member, put, depth, items_depth, members_depth}
use Rattle.serde_json.specs.Read.{read, max_depth, of_json, of_items, of_members}
use Rattle.serde_json.specs.Written.{number_text, outline, items_outline, members_outline, comma_if, compact_text, items_text, members_text}
use Rattle.serde_json.proofs.Numbers.{number_of-decimal, number_of-negative}
use Rattle.serde_json.proofs.Texts.{print-outline}
use Rattle.fl_json.specs.Valid.{IsWhole, IsBefore, IsValid, AreValid, HaveValid}
use Rattle.fl_json.proofs.Lexing.{holds_below, below_holds}

-- ---- members in their order

-- the members, and more behind them
abbrev with_more : Members → Members → Members
with_more no_members more = more
with_more (member k d ms) more = member k d (with_more ms more)

with_none : (ms : Members) → with_more ms no_members ≡ ms
with_none no_members = refl
with_none (member k d ms) = ap (member k d) (with_none ms)

with_more-more : (a b c : Members) → with_more (with_more a b) c ≡ with_more a (with_more b c)
with_more-more no_members b c = refl
with_more-more (member k d ms) b c = ap (member k d) (with_more-more ms b c)

-- all keys stand before this key, and before the first of the members
abbrev StandBefore : Members → List ℕ → Type 0
StandBefore no_members key = ⊤
StandBefore (member k d ms) key = (slice_cmp nat_cmp k key ≡ Less) × StandBefore ms key

abbrev StandBeforeAll : Members → Members → Type 0
StandBeforeAll found no_members = ⊤
StandBeforeAll found (member k d ms) = StandBefore found k

below : (o : Ordering) → IsTrue (is_lt o) → o ≡ Less
below Less h = refl
below Equal h = cc
below Greater h = cc

above : (k l : List ℕ) → slice_cmp nat_cmp l k ≡ Less → slice_cmp nat_cmp k l ≡ Greater
above k l h = nat_list_cmp_total.antisymm k l ∙ ap ordering_reverse h

before_next : (found : Members) (k next : List ℕ) → slice_cmp nat_cmp k next ≡ Less → StandBefore found k → StandBefore found next
before_next no_members k next e h = tt
before_next (member l d ms) k next e h = (nat_list_cmp_total.trans l k next h.0 e, before_next ms k next e h.1)

before_last : (found : Members) (k next : List ℕ) (d : Data) → slice_cmp nat_cmp k next ≡ Less → StandBefore found next → StandBefore (with_more found (member k d no_members)) next
before_last no_members k next d e h = (e, tt)
before_last (member l c ms) k next d e h = (h.0, before_last ms k next d e h.1)

put_behind : (k : List ℕ) (d : Data) (found : Members) → StandBefore found k → put k d found ≡ with_more found (member k d no_members)
put_behind k d no_members h = refl
put_behind k d (member l e ms) h =
    ap (λ o. match_ordering o (member k d (member l e ms)) (member l d ms) (member l e (put k d ms))) (above k l h.0) ∙ ap (member l e) (put_behind k d ms h.1)

still_before : (found : Members) (k : List ℕ) (d : Data) (ms : Members) → IsBefore k ms → StandBefore found k → StandBeforeAll (with_more found (member k d no_members)) ms
still_before found k d no_members e h = tt
still_before found k d (member next c ms) e h = let less = below (slice_cmp nat_cmp k next) e in before_last found k next d less (before_next found k next less h)

none_before : (ms : Members) → StandBeforeAll no_members ms
none_before no_members = tt
none_before (member k d ms) = tt

-- ---- the value of a text

number_back : (n : Num) → IsWhole n → of_json (json.number (number_text n)) ≡ Some (number n)
number_back (unsigned n) v = ap (option_map number) (number_of-decimal n v)
number_back (negative (pos n)) v = absurd v
number_back (negative (negsuc n)) v = ap (option_map number) (number_of-negative n v)
number_back (float x) v = absurd v

mutual
  outline_back : (d : Data) → IsValid d → of_json (outline d) ≡ Some d
  outline_back null v = refl
  outline_back (boolean b) v = refl
  outline_back (number n) v = number_back n v
  outline_back (string s) v = refl
  outline_back (array ds) v = ap (option_map array) (items_back ds v)
  outline_back (object ms) v = ap (option_map object) (members_back ms no_members v (none_before ms))

  items_back : (ds : Items) → AreValid ds → of_items (items_outline ds) ≡ Some ds
  items_back no_items v = refl
  items_back (item d ds) v = ap₂ (λ o r. option_and_then (λ e. option_map (item e) r) o) (outline_back d v.0) (items_back ds v.1)

  members_back : (ms found : Members) → HaveValid ms → StandBeforeAll found ms → of_members (members_outline ms) found ≡ Some (with_more found ms)
  members_back no_members found v h = ap Some (sym (with_none found))
  members_back (member k d ms) found v h =
      let last = with_more found (member k d no_members) in
      ap (option_and_then (λ e. of_members (members_outline ms) (put k e found))) (outline_back d v.1) ∙ ap (of_members (members_outline ms)) (put_behind k d found h)
      ∙ members_back ms last v.2 (still_before found k d ms v.0 h) ∙ ap Some (with_more-more found (member k d no_members) ms)

own : IsNumeralModel (λ ds. all_ascii_digits ds ≡ true) (digits_value 10)
own = numerals_by_value _ tells_all_ascii_digits

no_minus : (ds : List ℕ) → all_ascii_digits ds ≡ true → (head ds == 45) ≡ false
no_minus [] h = refl
no_minus (d ∷ ds) h = let digit = (and_parts (is_ascii_digit d) (all_ascii_digits ds) h).0 in grind (arith, nat_tests)

IsNumber-minus : (ds : List ℕ) → (head ds == 45) ≡ false → IsNumber ds → IsNumber (45 ∷ ds)
unfolding after_number
IsNumber-minus ds h n = sym (rw h refl) ∙ n

number_is : (n : Num) → IsWhole n → IsNumber (number_text n)
number_is (unsigned n) v = IsNumber-decimal n v
number_is (negative (pos n)) v = absurd v
number_is (negative (negsuc n)) v = let fits : suc n < 2 ^ 64 = omega arith in IsNumber-minus (decimal (suc n)) (no_minus (decimal (suc n)) (digits_decimal own (suc n) fits)) (IsNumber-decimal (suc n) fits)
number_is (float x) v = absurd v

mutual
  numbers : (d : Data) → IsValid d → tree.HasNumbers (outline d)
  numbers null v = tt
  numbers (boolean b) v = tt
  numbers (number n) v = number_is n v
  numbers (string s) v = tt
  numbers (array ds) v = items_numbers ds v
  numbers (object ms) v = members_numbers ms v

  items_numbers : (ds : Items) → AreValid ds → tree.ItemsHaveNumbers (items_outline ds)
  items_numbers no_items v = tt
  items_numbers (item d ds) v = (numbers d v.0, items_numbers ds v.1)

  members_numbers : (ms : Members) → HaveValid ms → tree.MembersHaveNumbers (members_outline ms)
  members_numbers no_members v = tt
  members_numbers (member k d ms) v = (numbers d v.1, members_numbers ms v.2)

mutual
  depth-outline : (d : Data) → tree.depth (outline d) ≡ depth d
  depth-outline null = refl
  depth-outline (boolean b) = refl
  depth-outline (number n) = refl
  depth-outline (string s) = refl
  depth-outline (array ds) = ap suc (items_depth-outline ds)
  depth-outline (object ms) = ap suc (members_depth-outline ms)

  items_depth-outline : (ds : Items) → tree.items_depth (items_outline ds) ≡ items_depth ds
  items_depth-outline no_items = refl
  items_depth-outline (item d ds) = ap₂ max (depth-outline d) (items_depth-outline ds)

  members_depth-outline : (ms : Members) → tree.members_depth (members_outline ms) ≡ members_depth ms
  members_depth-outline no_members = refl
  members_depth-outline (member k d ms) = ap₂ max (depth-outline d) (members_depth-outline ms)

-- what the grammar makes of the tokens of a text, as a value
abbrev whole : Option (json.Json × List Token) → Option Data
whole o = option_and_then of_json (option_and_then (λ p. json.if_last p.0 p.1) o)

-- a canonical text is read as its value
pub text_back : (d : Data) → IsValid d → depth d ≤ max_depth → read (compact_text d) ≡ Some d
text_back d v nests =
    let spelled : tokens (compact_text d) ≡ json_tokens (outline d) ++ [] = ap tokens (sym (print-outline d)) ∙ tokens-print (json_tokens (outline d)) (ArePrintable-json_tokens (outline d) (numbers d v)) ∙ sym (append-nil _) in
    let fits : tree.depth (outline d) ≤ max_depth = subst (λ n. n ≤ 127) (sym (depth-outline d)) nests in
    ap whole (ap (json.value max_depth) spelled ∙ value-json_tokens (outline d) max_depth [] fits) ∙ outline_back d v

-- ---- one line

abbrev pub is_line : List ℕ → Bool
is_line t = list_all (λ b. not (b == 10)) t

pub is_line-append : (a b : List ℕ) → is_line a ≡ true → is_line b ≡ true → is_line (a ++ b) ≡ true
is_line-append [] b h k = k
is_line-append (x ∷ a) b h k = let both = and_parts (not (x == 10)) (is_line a) h in ap₂ (λ p q. p && q) both.0 (is_line-append a b both.1 k)

escaped_line : (x : ℕ) → is_line (escape_byte x) ≡ true
unfolding holds_below escape_byte
escaped_line x = elim (cases_lt x 128) [
  | inl low ↦ below_holds (λ b. is_line (escape_byte b)) 128 refl x low
  | inr high ↦ ap is_line (escape_byte_plain x (λ e. omega arith) (λ e. omega arith) (omega arith)) ∙ ap (λ b. not b && true) (ne_eqb x 10 (λ e. omega arith))
]

escape_line : (s : List ℕ) → is_line (escape s) ≡ true
escape_line [] = refl
escape_line (x ∷ s) = is_line-append (escape_byte x) (escape s) (escaped_line x) (escape_line s)

pub quoted_line : (s : List ℕ) → is_line (quoted s) ≡ true
quoted_line s = is_line-append (escape s) (34 ∷ []) (escape_line s) refl

digits_line : (ds : List ℕ) → all_ascii_digits ds ≡ true → is_line ds ≡ true
digits_line [] h = refl
digits_line (d ∷ ds) h =
    let both = and_parts (is_ascii_digit d) (all_ascii_digits ds) h in
    let digit : is_ascii_digit d ≡ true = both.0 in
    let here : not (d == 10) ≡ true = grind (arith, nat_tests) in
    ap₂ (λ p q. p && q) here (digits_line ds both.1)

pub decimal_line : (n : ℕ) → n < 2 ^ 64 → is_line (decimal n) ≡ true
decimal_line n h = digits_line (decimal n) (digits_decimal own n h)

number_line : (n : Num) → IsWhole n → is_line (number_text n) ≡ true
number_line (unsigned n) v = decimal_line n v
number_line (negative (pos n)) v = absurd v
number_line (negative (negsuc n)) v = decimal_line (suc n) (omega arith)
number_line (float x) v = absurd v

comma_line : (later : Bool) (t : List ℕ) → is_line t ≡ true → is_line (comma_if later ++ t) ≡ true
comma_line true t h = h
comma_line false t h = h

mutual
  pub text_line : (d : Data) → IsValid d → is_line (compact_text d) ≡ true
  text_line null v = refl
  text_line (boolean true) v = refl
  text_line (boolean false) v = refl
  text_line (number n) v = number_line n v
  text_line (string s) v = quoted_line s
  text_line (array ds) v = items_line false ds v
  text_line (object ms) v = members_line false ms v

  items_line : (later : Bool) (ds : Items) → AreValid ds → is_line (items_text later ds) ≡ true
  items_line later no_items v = refl
  items_line later (item d ds) v = comma_line later _ (is_line-append (compact_text d) (items_text true ds) (text_line d v.0) (items_line true ds v.1))

  members_line : (later : Bool) (ms : Members) → HaveValid ms → is_line (members_text later ms) ≡ true
  members_line later no_members v = refl
  members_line later (member k d ms) v =
      comma_line later _ (is_line-append (quoted k) (58 ∷ (compact_text d ++ members_text true ms)) (quoted_line k) (is_line-append (compact_text d) (members_text true ms) (text_line d v.1) (members_line true ms v.2)))
