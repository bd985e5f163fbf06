-- Numbers that follow one another, in padded digits.
use Rattle.std.proofs.Common.{◌≡◌, ◌≢◌, ℕ, ◌+◌, ◌-◌, ◌^◌, ◌<◌, ◌≤◌, suc, zero, true, false, eqb, List, [], ◌∷◌, ◌++◌, length, replicate, get_or, refl, ap, ap₂, sym, ◌∙◌, subst, arith, length-append}
use Rattle.std.specs.Str.{all_ascii_digits}
use Rattle.std.specs.Str.Parse.{digits_value}
use Rattle.std.specs.Char.{is_ascii_digit}
use Rattle.std.specs.Fmt.{decimal}
use Rattle.std.proofs.lemmas.Bool.Decides.{nat_tests}
use Rattle.std.proofs.lemmas.Str.Parse.{digits_value_short}
use Rattle.std.proofs.lemmas.Fmt.{digits_decimal, digits_value-decimal, decimal-digits_value, decimal_nonempty, length-decimal-le}
use Rattle.std.proofs.lemmas.List.{length-replicate}
use Rattle.hostlist.specs.Names.{padded, value_of}
use Rattle.hostlist.proofs.Numbers.{own, value_small}
use Rattle.hostlist.proofs.NameLemmas.{and_right}

-- the digits of a host's number
pub record IsNumber (digits : List ℕ) : Type 0 where
  pub pass : all_ascii_digits digits ≡ true
  pub some : 0 < length digits
  pub short : length digits ≤ 9

-- zeros in front change no value
value_zeros : (n : ℕ) (ds : List ℕ) → digits_value 10 (replicate n 48 ++ ds) ≡ digits_value 10 ds
value_zeros zero ds = refl
value_zeros (suc n) ds = value_zeros n ds

pub value_of-padded : (width n : ℕ) → n < 2 ^ 64 → value_of (padded width n) ≡ n
unfolding padded
value_of-padded width n small = value_zeros (width - length (decimal n)) (decimal n) ∙ digits_value-decimal own n small

pub length-padded : (width n : ℕ) → length (padded width n) ≡ width - length (decimal n) + length (decimal n)
unfolding padded
length-padded width n = length-append (replicate (width - length (decimal n)) 48) (decimal n) ∙ ap (λ k. k + length (decimal n)) (length-replicate (width - length (decimal n)) 48)

-- a greater number has no fewer digits
longer : (n : ℕ) → n + 1 < 2 ^ 64 → length (decimal n) ≤ length (decimal (n + 1))
longer n small =
    let some : 0 < length (decimal (n + 1)) = decimal_nonempty (n + 1) small in
    let below : digits_value 10 (decimal (n + 1)) < 10 ^ length (decimal (n + 1)) = digits_value_short own (decimal (n + 1)) (length (decimal (n + 1))) (digits_decimal own (n + 1) small) (omega arith) in
    let value : digits_value 10 (decimal (n + 1)) ≡ n + 1 = digits_value-decimal own (n + 1) small in
    length-decimal-le (length (decimal (n + 1))) n some (omega arith) (omega arith)

-- the next number, padded to the digits of this one, is padded to the same width
pub padded_next : (width n : ℕ) → n + 1 < 2 ^ 64 → padded (length (padded width n)) (n + 1) ≡ padded width (n + 1)
unfolding padded
padded_next width n small =
    let long : length (padded width n) ≡ width - length (decimal n) + length (decimal n) = length-padded width n in
    let more = longer n small in
    let count : length (padded width n) - length (decimal (n + 1)) ≡ width - length (decimal (n + 1)) = omega arith in
    ap (λ k. replicate k 48 ++ decimal (n + 1)) count

-- a wider number
wider : (width n : ℕ) → length (decimal n) ≤ width → padded (suc width) n ≡ 48 ∷ padded width n
unfolding padded
wider width n fits =
    let count : suc width - length (decimal n) ≡ suc (width - length (decimal n)) = omega arith in
    ap (λ k. replicate k 48 ++ decimal n) count

-- digits are the padded form of their value
exact : (ds : List ℕ) → IsNumber ds → (get_or ds 0 0 ≡ 48 → length ds ≡ 1) → padded (length ds) (value_of ds) ≡ ds
unfolding padded
exact ds h first =
    let small = value_small ds h.pass h.short in
    let same : decimal (value_of ds) ≡ ds = decimal-digits_value own ds h.pass h.some first (omega arith) in
    let none : length ds - length (decimal (value_of ds)) ≡ 0 = omega (arith, ap length same) in
    ap₂ (λ k x. replicate k 48 ++ x) none same

pub padded_is_digits : (ds : List ℕ) → IsNumber ds → padded (length ds) (value_of ds) ≡ ds
padded_is_digits [] h = absurd (omega (arith, h.some))
padded_is_digits (d ∷ []) h = exact (d ∷ []) h (λ _. refl)
padded_is_digits (d ∷ e ∷ es) h =
    elim (eqb d 48) as (λ t. eqb d 48 ≡ t → padded (length (d ∷ e ∷ es)) (value_of (d ∷ e ∷ es)) ≡ d ∷ e ∷ es) [
      | true ↦ λ q.
          let zero_is : d ≡ 48 = grind (arith, nat_tests) in
          let number : IsNumber (e ∷ es) = record { pass = and_right (is_ascii_digit d) (all_ascii_digits (e ∷ es)) h.pass; some = omega arith; short = omega (arith, h.short) } in
          let small = value_small (e ∷ es) number.pass number.short in
          let short : value_of (e ∷ es) < 10 ^ length (e ∷ es) = digits_value_short own (e ∷ es) (length (e ∷ es)) number.pass (omega arith) in
          let fits : length (decimal (value_of (e ∷ es))) ≤ length (e ∷ es) = length-decimal-le (length (e ∷ es)) (value_of (e ∷ es)) number.some short (omega arith) in
          let P : ℕ → Type 0 = λ c. padded (length (c ∷ e ∷ es)) (value_of (c ∷ e ∷ es)) ≡ c ∷ e ∷ es in
          subst P (sym zero_is) (wider (length (e ∷ es)) (value_of (e ∷ es)) fits ∙ ap (λ x. 48 ∷ x) (padded_is_digits (e ∷ es) number))
      | false ↦ λ q. exact (d ∷ e ∷ es) h (λ z. let other : d ≢ 48 = grind (arith, nat_tests) in absurd (other z))
    ] refl
