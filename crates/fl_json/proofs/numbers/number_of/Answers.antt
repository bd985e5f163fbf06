use Rattle.std.proofs.Common.{◌≡◌, ◌≢◌, ℕ, ◌<◌, ◌^◌, Bool, true, false, not, ◌&&◌, eqb, ltb, List, [], ◌∷◌, length, get_or, refl, ap, sym, ◌∙◌, lit<, arith}
use Rattle.std.specs.Prelude.{Some, None, Result, Ok, Err}
use Rattle.std.specs.Result.{result_ok, OkIff}
use Rattle.std.specs.Str.{all_ascii_digits}
use Rattle.std.specs.Str.Parse.{digits_value}
use Rattle.std.proofs.lemmas.Bool.{false≢true}
use Rattle.std.proofs.lemmas.Bool.Decides.{nat_tests}
use Rattle.std.proofs.lemmas.Str.Parse.{IsNumeralModel, numerals_by_value, tells_all_ascii_digits, parse_plain}
use Rattle.std.proofs.lemmas.Str.Pattern.{starts_char}
use Rattle.fl_json.specs.Numbers.{natural}
use Rattle.fl_json.proofs.Bytes.{no_test}
use Rattle.fl_json.proofs.numbers.number_of.Goals as goal

own : IsNumeralModel (λ ds. all_ascii_digits ds ≡ true) (digits_value 10)
own = numerals_by_value _ tells_all_ascii_digits

passes : (n v : ℕ) (d : Bool) → d ≡ true → 0 < n → v < 2 ^ 64 → (not (eqb n 0) && d && ltb v (2 ^ 64)) ≡ true
passes n v d digits some small = grind (arith, nat_tests)

fails : (n v : ℕ) (d : Bool) → ¬ ((d ≡ true) × (0 < n) × (v < 2 ^ 64)) → (not (eqb n 0) && d && ltb v (2 ^ 64)) ≡ false
fails n v d h = grind (arith, nat_tests)

-- what `parse` read, by the test of a number
read : {E : Type 0} (word : List ℕ) (r : Result ℕ E) → OkIff r ((all_ascii_digits word ≡ true) × (0 < length word) × (digits_value 10 word < 2 ^ 64)) (digits_value 10 word) → result_ok r ≡ natural word
unfolding natural
read word (Ok x) h = rw (passes (length word) (digits_value 10 word) (all_ascii_digits word) h.0.0 h.0.1 h.0.2) (ap Some h.1)
read word (Err e) h = rw (fails (length word) (digits_value 10 word) (all_ascii_digits word) h) refl

plain : (word : List ℕ) (r : Bool) → r ≡ false → (get_or word 0 0 ≡ 43 → r ≡ true) → get_or word 0 0 ≢ 43
plain word r absent found e = false≢true (sym absent ∙ found e)

-- a plus is no digit
plus_first : (word : List ℕ) → get_or word 0 0 ≡ 43 → natural word ≡ None
unfolding natural
plus_first [] h = absurd (omega arith)
plus_first (b ∷ bs) h = no_test (length (b ∷ bs)) (digits_value 10 (b ∷ bs)) _ (ap (λ x. Rattle.std.specs.Char.is_ascii_digit x && all_ascii_digits bs) h)

pub returns-then-starts_with : goal.returns-then-starts_with
returns-then-starts_with c = sym (plus_first c.args.digits.now ((starts_char 43 c.args.digits.now c.starts_with.result c.starts_with.ensures.cases (lit< tt) (lit< tt)).0 c.if-starts_with.true))

pub returns : goal.returns
returns c =
    let p = plain c.args.digits.now c.starts_with.result c.if-starts_with.false (starts_char 43 c.args.digits.now c.starts_with.result c.starts_with.ensures.cases (lit< tt) (lit< tt)).1 in
    c.ok.ensures.value ∙ read c.args.digits.now c.parse.result (parse_plain own 64 c.args.digits.now c.parse.result c.parse.ensures.value.0 p)
