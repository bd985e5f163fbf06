-- What is printed is read again.
use Rattle.std.proofs.Common.{◌≡◌, ◌≢◌, ℕ, suc, zero, ◌+◌, ◌*◌, ◌/◌, ◌%◌, ◌^◌, ◌<◌, ◌≤◌, Bool, true, false, cond, not, ◌&&◌, eqb, ltb, List, [], ◌∷◌, ◌++◌, length, map, refl, sym, ap, subst, ◌∙◌, arith}
use Rattle.std.specs.Prelude.{None, Ok, slice_index}
use Rattle.std.specs.List.{list_all, list_any, range_with_len}
use Rattle.std.specs.Int.Digits.{digits_of, number_from_digits, number_from_digits_after, AllBelowBase}
use Rattle.std.proofs.lemmas.Bool.Decides.{nat_tests}
use Rattle.std.proofs.lemmas.List.{length-map, append-nil}
use Rattle.std.proofs.lemmas.List.Folds.{list_any_at}
use Rattle.std.proofs.lemmas.Int.Digits.{number_digits_of, all_below_base_digits_of, length-digits_of_step}
use Rattle.fluid_ids.specs.Texts.{base_58, base_10, base_16, value_in, is_digit_in, number_in, read_in, digits_in, after_mark, plain, meaning, printed}
use Rattle.fluid_ids.specs.declared.forms.Form.{Form}
use Rattle.fluid_ids.specs.declared.forms.Form.TheVariants.{F58, Dothex, Decimal}
use Rattle.fluid_ids.proofs.Digits.{reads_ok}

-- what holds of each number below a bound, by a test of all
below : (p : ℕ → Bool) (n m : ℕ) → list_all p (range_with_len m n) ≡ true → (d : ℕ) → m ≤ d → d < m + n → p d ≡ true
below p zero m h d a b = absurd (omega arith)
below p (suc n) m h d a b = elim (eqb m d) as (λ t. eqb m d ≡ t → p d ≡ true) [
  | true ↦ λ e. let same : m ≡ d = grind (arith, nat_tests) in ap p (sym same) ∙ first (p m) (list_all p (range_with_len (m + 1) n)) h
  | false ↦ λ e. let other : m ≢ d = grind (arith, nat_tests) in below p n (m + 1) (second (p m) (list_all p (range_with_len (m + 1) n)) h) d (omega arith) (omega arith)
] refl
  where
    first : (b c : Bool) → (b && c) ≡ true → b ≡ true
    first true c e = refl
    first false c e = e

    second : (b c : Bool) → (b && c) ≡ true → c ≡ true
    second true c e = e
    second false true e = refl
    second false false e = e

-- the digits of a base: each has its place as its value, and none is a dot
record IsBase (base : List ℕ) : Type 0 where
  many : 2 ≤ length base
  values : (d : ℕ) → d < length base → value_in base (slice_index base d) ≡ d
  undotted : (d : ℕ) → d < length base → eqb (slice_index base d) 46 ≡ false

values_test : List ℕ → ℕ → Bool
values_test base d = eqb (value_in base (slice_index base d)) d && not (eqb (slice_index base d) 46)

by_test : (base : List ℕ) (n : ℕ) → length base ≡ n → 2 ≤ n → list_all (values_test base) (range_with_len 0 n) ≡ true → IsBase base
unfolding values_test
by_test base n len many h = record {
  many = omega (arith, len);
  values = λ d small. first (value_in base (slice_index base d)) d (not (eqb (slice_index base d) 46)) (below (values_test base) n 0 h d (omega arith) (omega (arith, len)));
  undotted = λ d small. second (eqb (value_in base (slice_index base d)) d) (eqb (slice_index base d) 46) (below (values_test base) n 0 h d (omega arith) (omega (arith, len)));
}
  where
    first : (v d : ℕ) (b : Bool) → (eqb v d && b) ≡ true → v ≡ d
    first v d true e = grind (arith, nat_tests)
    first v d false e = grind (arith, nat_tests)

    second : (b c : Bool) → (b && not c) ≡ true → c ≡ false
    second true true e = sym e
    second true false e = refl
    second false true e = absurd (grind arith)
    second false false e = refl

is_base_58 : IsBase base_58
unfolding base_58 values_test
is_base_58 = by_test base_58 58 refl (omega arith) refl

is_base_10 : IsBase base_10
unfolding base_10 values_test
is_base_10 = by_test base_10 10 refl (omega arith) refl

is_base_16 : IsBase base_16
unfolding base_16 values_test
is_base_16 = by_test base_16 16 refl (omega arith) refl

values_again : (base : List ℕ) → IsBase base → (ds : List ℕ) → AllBelowBase (length base) ds → map (value_in base) (map (slice_index base) ds) ≡ ds
values_again base b [] a = refl
values_again base b (d ∷ ds) a = rw (b.values d a.0, values_again base b ds a.1) refl

digits_again : (base : List ℕ) → IsBase base → (ds : List ℕ) → AllBelowBase (length base) ds → list_all (is_digit_in base) (map (slice_index base) ds) ≡ true
digits_again base b [] a = refl
digits_again base b (d ∷ ds) a =
    let same : value_in base (slice_index base d) ≡ d = b.values d a.0 in
    let small : d < length base = a.0 in
    let here : is_digit_in base (slice_index base d) ≡ true = rw same (let t : ltb d (length base) ≡ true = grind (arith, nat_tests) in t) in
    rw (here, digits_again base b ds a.1) refl

no_dot : (base : List ℕ) → IsBase base → (ds : List ℕ) → AllBelowBase (length base) ds → list_any (λ c. eqb c 46) (map (slice_index base) ds) ≡ false
no_dot base b [] a = refl
no_dot base b (d ∷ ds) a = rw (b.undotted d a.0, no_dot base b ds a.1) refl

-- a base's digits of a number: of 0 its first digit
abbrev digits_or_zero : ℕ → ℕ → List ℕ
digits_or_zero b n = cond (eqb n 0) (0 ∷ []) (digits_of b n)

written : (base : List ℕ) (n : ℕ) → digits_in base n ≡ map (slice_index base) (digits_or_zero (length base) n)
unfolding digits_in
written base n = elim (eqb n 0) as (λ t. cond t (slice_index base 0 ∷ []) (map (slice_index base) (digits_of (length base) n)) ≡ map (slice_index base) (cond t (0 ∷ []) (digits_of (length base) n))) [ true ↦ refl | false ↦ refl ]

all_below : (b n : ℕ) → 2 ≤ b → AllBelowBase b (digits_or_zero b n)
all_below b n h = elim (eqb n 0) as (λ t. AllBelowBase b (cond t (0 ∷ []) (digits_of b n))) [ true ↦ (omega arith, tt) | false ↦ all_below_base_digits_of b n h ]

number_again : (b n : ℕ) → 2 ≤ b → number_from_digits b (digits_or_zero b n) ≡ n
number_again b n h = elim (eqb n 0) as (λ t. eqb n 0 ≡ t → number_from_digits b (cond t (0 ∷ []) (digits_of b n)) ≡ n) [ true ↦ λ e. grind (arith, nat_tests) | false ↦ λ e. number_digits_of b n h ] refl

some_digits : (b n : ℕ) → 2 ≤ b → 0 < length (digits_or_zero b n)
some_digits b n h = elim (eqb n 0) as (λ t. eqb n 0 ≡ t → 0 < length (cond t (0 ∷ []) (digits_of b n))) [
  | true ↦ λ e. omega arith
  | false ↦ λ e. let some : 0 < n = grind (arith, nat_tests) in omega (arith, length-digits_of_step b n h some)
] refl

number_of : (base : List ℕ) → IsBase base → (ds : List ℕ) → AllBelowBase (length base) ds → number_in base (map (slice_index base) ds) ≡ number_from_digits (length base) ds
unfolding number_in
number_of base b ds a = ap (number_from_digits (length base)) (values_again base b ds a)

-- digits that are printed are read as the same number
read_digits : (base : List ℕ) (n : ℕ) → IsBase base → n < 2 ^ 64 → read_in base (digits_in base n) ≡ Ok n
read_digits base n b small =
    let ds = digits_or_zero (length base) n in
    let all = all_below (length base) n b.many in
    let value : number_in base (map (slice_index base) ds) ≡ n = number_of base b ds all ∙ number_again (length base) n b.many in
    ap (read_in base) (written base n)
    ∙ reads_ok base (map (slice_index base) ds) (omega (arith, length-map ds (slice_index base), some_digits (length base) n b.many)) (digits_again base b ds all) (omega (arith, value))
    ∙ ap Ok value

undotted_digits : (base : List ℕ) (n : ℕ) → IsBase base → list_any (λ c. eqb c 46) (digits_in base n) ≡ false
undotted_digits base n b = ap (list_any (λ c. eqb c 46)) (written base n) ∙ no_dot base b (digits_or_zero (length base) n) (all_below (length base) n b.many)

marked : (ds : List ℕ) → plain (102 ∷ ds) ≡ read_in base_58 ds
unfolding plain
marked [] = refl
marked (d ∷ ds) = refl

f58_again : (n : ℕ) → n < 2 ^ 64 → meaning (102 ∷ digits_in base_58 n) ≡ Ok n
unfolding meaning
f58_again n small = rw (undotted_digits base_58 n is_base_58) (marked (digits_in base_58 n) ∙ read_digits base_58 n is_base_58 small)

-- a text that begins with a digit has no mark
unmarked : (d : ℕ) (ds : List ℕ) → d < 102 → after_mark (d ∷ ds) ≡ None
unmarked d [] h = let t : eqb d 102 ≡ false = grind (arith, nat_tests) in rw t refl
unmarked d (e ∷ ds) h = let t : eqb d 102 ≡ false = grind (arith, nat_tests) in let u : eqb d 198 ≡ false = grind (arith, nat_tests) in rw (t, u) refl

-- each decimal digit is below `f`
low_test : ℕ → Bool
low_test d = ltb (slice_index base_10 d) 102

low_digit : (d : ℕ) → d < 10 → slice_index base_10 d < 102
unfolding base_10 low_test
low_digit d small = tested (slice_index base_10 d) (below low_test 10 0 refl d (omega arith) (omega arith))
  where
    tested : (n : ℕ) → ltb n 102 ≡ true → n < 102
    tested n e = grind (arith, nat_tests)

ten : length base_10 ≡ 10
unfolding base_10
ten = refl

no_mark : (ds : List ℕ) → 0 < length ds → AllBelowBase 10 ds → after_mark (map (slice_index base_10) ds) ≡ None
no_mark [] h a = absurd (omega arith)
no_mark (d ∷ ds) h a = unmarked (slice_index base_10 d) (map (slice_index base_10) ds) (low_digit d a.0)

plain_decimal : (text : List ℕ) → after_mark text ≡ None → plain text ≡ read_in base_10 text
unfolding plain
plain_decimal text e = rw e refl

decimal_again : (n : ℕ) → n < 2 ^ 64 → meaning (digits_in base_10 n) ≡ Ok n
unfolding meaning
decimal_again n small =
    let ds = digits_or_zero (length base_10) n in
    let mark : after_mark (digits_in base_10 n) ≡ None = ap after_mark (written base_10 n) ∙ no_mark ds (some_digits (length base_10) n is_base_10.many) (subst (λ (b : ℕ). AllBelowBase b ds) ten (all_below (length base_10) n is_base_10.many)) in
    rw (undotted_digits base_10 n is_base_10) (plain_decimal (digits_in base_10 n) mark ∙ read_digits base_10 n is_base_10 small)

sixteen : length base_16 ≡ 16
unfolding base_16
sixteen = refl

-- four digits behind a number, and all sixteen
group_value : (n g : ℕ) → g < 65536 → (((n * 16 + g / 16 / 16 / 16) * 16 + g / 16 / 16 % 16) * 16 + g / 16 % 16) * 16 + g % 16 ≡ n * 65536 + g
group_value n g h = omega arith

groups_value : (n : ℕ) → n < 2 ^ 64 → ((((0 * 65536 + n / 65536 / 65536 / 65536) * 65536 + n / 65536 / 65536 % 65536) * 65536 + n / 65536 % 65536) * 65536 + n % 65536) ≡ n
groups_value n h = omega arith

abbrev group_digits : ℕ → List ℕ
group_digits g = g / 16 / 16 / 16 ∷ g / 16 / 16 % 16 ∷ g / 16 % 16 ∷ g % 16 ∷ []

abbrev all_digits : ℕ → List ℕ
all_digits n = group_digits (n / 65536 / 65536 / 65536) ++ (group_digits (n / 65536 / 65536 % 65536) ++ (group_digits (n / 65536 % 65536) ++ group_digits (n % 65536)))

group_below : (g : ℕ) (rest : List ℕ) → g < 65536 → AllBelowBase 16 rest → AllBelowBase 16 (group_digits g ++ rest)
group_below g rest h a = (omega arith, (omega arith, (omega arith, (omega arith, a))))

after_group : (m g : ℕ) (rest : List ℕ) → g < 65536 → number_from_digits_after 16 m (group_digits g ++ rest) ≡ number_from_digits_after 16 (m * 65536 + g) rest
after_group m g rest h = ap (λ n. number_from_digits_after 16 n rest) (group_value m g h)

hex_below : (n : ℕ) → n < 2 ^ 64 → AllBelowBase 16 (all_digits n)
hex_below n h =
    let b = n / 65536 / 65536 % 65536 in
    let c = n / 65536 % 65536 in
    let d = n % 65536 in
    let last : AllBelowBase 16 (group_digits d) = subst (AllBelowBase 16) (append-nil (group_digits d)) (group_below d [] (omega arith) tt) in
    group_below (n / 65536 / 65536 / 65536) (group_digits b ++ (group_digits c ++ group_digits d)) (omega arith)
    (group_below b (group_digits c ++ group_digits d) (omega arith) (group_below c (group_digits d) (omega arith) last))

hex_value : (n : ℕ) → n < 2 ^ 64 → number_from_digits 16 (all_digits n) ≡ n
hex_value n h =
    let a = n / 65536 / 65536 / 65536 in
    let b = n / 65536 / 65536 % 65536 in
    let c = n / 65536 % 65536 in
    let d = n % 65536 in
    after_group 0 a (group_digits b ++ (group_digits c ++ group_digits d)) (omega arith)
    ∙ after_group (0 * 65536 + a) b (group_digits c ++ group_digits d) (omega arith)
    ∙ after_group ((0 * 65536 + a) * 65536 + b) c (group_digits d) (omega arith)
    ∙ group_value (((0 * 65536 + a) * 65536 + b) * 65536 + c) d (omega arith)
    ∙ groups_value n h

dotted_again : (n : ℕ) → n < 2 ^ 64 → read_in base_16 (map (slice_index base_16) (all_digits n)) ≡ Ok n
dotted_again n small =
    let ds = all_digits n in
    let all : AllBelowBase (length base_16) ds = subst (λ (b : ℕ). AllBelowBase b ds) (sym sixteen) (hex_below n small) in
    let value : number_in base_16 (map (slice_index base_16) ds) ≡ n = number_of base_16 is_base_16 ds all ∙ ap (λ b. number_from_digits b ds) sixteen ∙ hex_value n small in
    reads_ok base_16 (map (slice_index base_16) ds) (omega arith) (digits_again base_16 is_base_16 ds all) (omega (arith, value)) ∙ ap Ok value

dothex_again : (n : ℕ) → n < 2 ^ 64 → meaning (printed Dothex n) ≡ Ok n
unfolding meaning printed
dothex_again n small =
    let has : list_any (λ b. eqb b 46) (printed Dothex n) ≡ true = list_any_at (λ b. eqb b 46) (printed Dothex n) 4 0 (omega arith) refl in
    rw has (dotted_again n small)

pub printed_again : (form : Form) (n : ℕ) → n < 2 ^ 64 → meaning (printed form n) ≡ Ok n
unfolding printed
printed_again F58 n small = f58_again n small
printed_again Decimal n small = decimal_again n small
printed_again Dothex n small = dothex_again n small
