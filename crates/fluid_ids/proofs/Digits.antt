-- Digits of a base and the numbers that they write.
use Rattle.std.proofs.Common.{◌≡◌, ◌≢◌, ℕ, suc, zero, ◌+◌, ◌*◌, ◌/◌, ◌%◌, ◌^◌, ◌<◌, ◌≤◌, Bool, true, false, cond, not, ◌&&◌, eqb, ltb, List, [], ◌∷◌, ◌++◌, length, get_or, take, drop, map, reverse, refl, sym, ap, subst, ◌∙◌, append_assoc, arith}
use Rattle.std.specs.Prelude.{Option, Some, None, unwrap_or, Result, Ok, Err, slice_index}
use Rattle.std.specs.List.{position_or_len, list_all}
use Rattle.std.specs.Int.Digits.{digits_of, number_from_digits, number_from_digits_after}
use Rattle.std.proofs.lemmas.Bool.Decides.{nat_tests}
use Rattle.std.proofs.lemmas.List.{take-append-drop, map-append, length-map, reverse-append}
use Rattle.std.proofs.lemmas.List.Sums.{prefix_len-le-length}
use Rattle.std.proofs.lemmas.Int.Digits.{number_more, number_after_append, number_after_ge, digits_of_step}
use Rattle.fluid_ids.specs.declared.faults.FluidFault.{FluidFault}
use Rattle.fluid_ids.specs.declared.faults.FluidFault.TheVariants.{BadText, TooLarge}
use Rattle.fluid_ids.specs.Texts.{value_in, is_digit_in, number_in, read_in, digits_in}

-- the first place, or the length where `position` finds none
pub place_is : (p : ℕ → Bool) (xs : List ℕ) (r : Option ℕ) → r ≡ cond (ltb (position_or_len p xs) (length xs)) (Some (position_or_len p xs)) None → unwrap_or r (length xs) ≡ position_or_len p xs
place_is p xs r e =
    let most : position_or_len p xs ≤ length xs = prefix_len-le-length (λ x. not (p x)) xs in
    rw e (elim (ltb (position_or_len p xs) (length xs)) as (λ b. ltb (position_or_len p xs) (length xs) ≡ b → unwrap_or (cond b (Some (position_or_len p xs)) None) (length xs) ≡ position_or_len p xs)
    [ true ↦ λ h. refl | false ↦ λ h. grind (arith, nat_tests) ] refl)

-- the number of the first digits is at most that of all
pub prefix_least : (b : ℕ) (ds : List ℕ) (i : ℕ) → 0 < b → number_from_digits b (take i ds) ≤ number_from_digits b ds
prefix_least b ds i h =
    let whole : number_from_digits b ds ≡ number_from_digits_after b (number_from_digits b (take i ds)) (drop i ds) = ap (number_from_digits b) (sym (take-append-drop i ds)) ∙ number_after_append b 0 (take i ds) (drop i ds) in
    let more : number_from_digits b (take i ds) ≤ number_from_digits_after b (number_from_digits b (take i ds)) (drop i ds) = number_after_ge b (number_from_digits b (take i ds)) (drop i ds) h in
    omega arith

-- the values of the first digits, with one more
pub values_take : (base : List ℕ) (text : List ℕ) (i : ℕ) → take i (map (value_in base) text) ≡ map (value_in base) (take i text)
values_take base text zero = refl
values_take base [] (suc i) = refl
values_take base (c ∷ text) (suc i) = ap (λ xs. value_in base c ∷ xs) (values_take base text i)

mapped : (base text : List ℕ) (i : ℕ) → i < length text → get_or (map (value_in base) text) i 0 ≡ value_in base (get_or text i 0)
mapped base [] i h = absurd (omega arith)
mapped base (c ∷ text) zero h = refl
mapped base (c ∷ text) (suc i) h = mapped base text i (omega arith)

pub number_next : (base : List ℕ) (text : List ℕ) (i : ℕ) → i < length text → number_in base (take (i + 1) text) ≡ number_in base (take i text) * length base + value_in base (get_or text i 0)
unfolding number_in
number_next base text i h =
    let ds = map (value_in base) text in
    let within : i < length ds = omega (arith, length-map text (value_in base)) in
    ap (number_from_digits (length base)) (sym (values_take base text (i + 1))) ∙ number_more (length base) ds i within
    ∙ ap (λ n. number_from_digits (length base) (take i ds) * length base + n) (mapped base text i h)
    ∙ ap (λ xs. number_from_digits (length base) xs * length base + value_in base (get_or text i 0)) (values_take base text i)

pub number_prefix : (base : List ℕ) (text : List ℕ) (i : ℕ) → 0 < length base → number_in base (take i text) ≤ number_in base text
unfolding number_in
number_prefix base text i h = subst (λ xs. number_from_digits (length base) xs ≤ number_from_digits (length base) (map (value_in base) text)) (values_take base text i) (prefix_least (length base) (map (value_in base) text) i h)

-- what `read_in` is, by its tests
pub reads_ok : (base text : List ℕ) → 0 < length text → list_all (is_digit_in base) text ≡ true → number_in base text < 2 ^ 64 → read_in base text ≡ Ok (number_in base text)
unfolding read_in
reads_ok base text some all small =
    let t : eqb (length text) 0 ≡ false = grind (arith, nat_tests) in
    let s : ltb (number_in base text) (2 ^ 64) ≡ true = grind (arith, nat_tests) in
    rw (t, all, s) refl

pub reads_large : (base text : List ℕ) → 0 < length text → list_all (is_digit_in base) text ≡ true → 2 ^ 64 ≤ number_in base text → read_in base text ≡ Err TooLarge
unfolding read_in
reads_large base text some all large =
    let t : eqb (length text) 0 ≡ false = grind (arith, nat_tests) in
    let s : ltb (number_in base text) (2 ^ 64) ≡ false = grind (arith, nat_tests) in
    rw (t, all, s) refl

pub reads_nothing : (base text : List ℕ) → length text ≡ 0 → read_in base text ≡ Err BadText
unfolding read_in
reads_nothing base text none =
    let t : eqb (length text) 0 ≡ true = grind (arith, nat_tests) in
    rw t refl

pub reads_bad : (base text : List ℕ) → list_all (is_digit_in base) text ≡ false → read_in base text ≡ Err BadText
unfolding read_in
reads_bad base text bad = rw bad (neither (not (eqb (length text) 0)) _)
  where
    neither : (b : Bool) (x : Result ℕ FluidFault) → cond (b && false) x (Err BadText) ≡ Err BadText
    neither true x = refl
    neither false x = refl

pub number_none : (base : List ℕ) → number_in base [] ≡ 0
unfolding number_in
number_none base = refl

-- one digit more at the end of those that are written, the lowest first
pub digits_more : (base done : List ℕ) (n : ℕ) → 2 ≤ length base → 0 < n → map (slice_index base) (digits_of (length base) (n / length base)) ++ reverse (done ++ slice_index base (n % length base) ∷ []) ≡ map (slice_index base) (digits_of (length base) n) ++ reverse done
digits_more base done n b h =
    let last = slice_index base (n % length base) in
    let high = digits_of (length base) (n / length base) in
    ap (λ xs. map (slice_index base) high ++ xs) (reverse-append done (last ∷ []))
    ∙ sym (append_assoc (map (slice_index base) high) (last ∷ []) (reverse done))
    ∙ ap (λ xs. xs ++ reverse done) (sym (map-append (slice_index base) high (n % length base ∷ [])))
    ∙ ap (λ xs. map (slice_index base) xs ++ reverse done) (sym (digits_of_step (length base) n b h))

pub digits_all : (base : List ℕ) (n : ℕ) → 0 < n → map (slice_index base) (digits_of (length base) n) ≡ digits_in base n
unfolding digits_in
digits_all base n h = let t : eqb n 0 ≡ false = grind (arith, nat_tests) in rw t refl

pub digits_zero : (base : List ℕ) (n : ℕ) → n ≡ 0 → slice_index base 0 ∷ [] ≡ digits_in base n
unfolding digits_in
digits_zero base n h = let t : eqb n 0 ≡ true = grind (arith, nat_tests) in rw t refl

-- four appended one after another
pub four : (xs : List ℕ) (a b c d : ℕ) → (((xs ++ a ∷ []) ++ b ∷ []) ++ c ∷ []) ++ d ∷ [] ≡ xs ++ (a ∷ b ∷ c ∷ d ∷ [])
four xs a b c d = append_assoc ((xs ++ a ∷ []) ++ b ∷ []) (c ∷ []) (d ∷ []) ∙ append_assoc (xs ++ a ∷ []) (b ∷ []) (c ∷ d ∷ []) ∙ append_assoc xs (a ∷ []) (b ∷ c ∷ d ∷ [])

-- one byte that is no digit, and one digit more
pub not_all : (p : ℕ → Bool) (xs : List ℕ) (i : ℕ) → i < length xs → p (get_or xs i 0) ≡ false → list_all p xs ≡ false
not_all p [] i h e = absurd (omega arith)
not_all p (x ∷ xs) zero h e = rw e refl
not_all p (x ∷ xs) (suc i) h e = rw (not_all p xs i (omega arith) e) (both (p x))
  where
    both : (b : Bool) → (b && false) ≡ false
    both true = refl
    both false = refl

pub no_digit : (base : List ℕ) (c v : ℕ) → v ≡ value_in base c → v ≡ length base → is_digit_in base c ≡ false
no_digit base c v e h = let same : value_in base c ≡ length base = sym e ∙ h in grind (arith, nat_tests)

pub a_digit : (base : List ℕ) (c v : ℕ) → v ≡ value_in base c → v ≤ length base → v ≢ length base → is_digit_in base c ≡ true
a_digit base c v e h n = rw e at (let t : ltb v (length base) ≡ true = grind (arith, nat_tests) in t)
