use Rattle.std.proofs.Common.{◌≡◌, ℕ, ◌<◌, true, false, ltb, eqb, List, length, refl, sym, ap, ◌∙◌, arith}
use Rattle.std.specs.Str.Parse.{digits_value, AllDigits}
use Rattle.std.specs.Ordering.{is_lt, nat_cmp}
use Rattle.std.specs.Cmp.Lexicographic.{slice_cmp}
use Rattle.std.proofs.lemmas.Bool.Decides.{nat_tests}
use Rattle.idset.specs.Text.{number_value, behind_zeros}
use Rattle.idset.proofs.Numbers.{value-behind_zeros, digits-behind_zeros, lead-behind_zeros, value_of_longer, longer_is_not, text_order}
use Rattle.idset.proofs.reader.is_below.Goals as goal

-- the same test of the digits behind the zeros
trimmed : (xs ys : List ℕ) → ltb (number_value (behind_zeros xs)) (number_value (behind_zeros ys)) ≡ ltb (number_value xs) (number_value ys)
trimmed xs ys = rw (value-behind_zeros xs, value-behind_zeros ys) refl

shorter : (xs ys a b : List ℕ) → a ≡ behind_zeros xs → b ≡ behind_zeros ys → AllDigits 10 xs → AllDigits 10 ys → length a < length b → true ≡ ltb (number_value xs) (number_value ys)
unfolding number_value
shorter xs ys a b e f p q h =
    let less : digits_value 10 (behind_zeros xs) < digits_value 10 (behind_zeros ys) = value_of_longer (behind_zeros xs) (behind_zeros ys) (digits-behind_zeros xs p) (lead-behind_zeros ys q) (rw (e, f) at h) in
    let t : true ≡ ltb (digits_value 10 (behind_zeros xs)) (digits_value 10 (behind_zeros ys)) = grind (arith, nat_tests) in
    t ∙ trimmed xs ys

longer : (xs ys a b : List ℕ) → a ≡ behind_zeros xs → b ≡ behind_zeros ys → AllDigits 10 xs → AllDigits 10 ys → length b < length a → ltb (number_value xs) (number_value ys) ≡ false
unfolding number_value
longer xs ys a b e f p q h = sym (trimmed xs ys) ∙ longer_is_not (behind_zeros xs) (behind_zeros ys) (digits-behind_zeros ys q) (lead-behind_zeros xs p) (rw (e, f) at h)

alike : (xs ys a b : List ℕ) → a ≡ behind_zeros xs → b ≡ behind_zeros ys → AllDigits 10 xs → AllDigits 10 ys → length a ≡ length b → is_lt (slice_cmp nat_cmp a b) ≡ ltb (number_value xs) (number_value ys)
unfolding number_value
alike xs ys a b e f p q h = rw (e, f) (text_order 0 (behind_zeros xs) (behind_zeros ys) (digits-behind_zeros xs p) (digits-behind_zeros ys q) (rw (e, f) at h)) ∙ trimmed xs ys

pub returns-then-digits-others : goal.returns-then-digits-others
returns-then-digits-others c =
    let t : ltb (length c.without_zeros-digits.result.now) (length c.without_zeros-others.result.now) ≡ true = grind (arith, nat_tests) in
    t ∙ shorter c.args.digits.now c.args.others.now _ _ c.without_zeros-digits.ensures c.without_zeros-others.ensures c.requires.digits c.requires.others c.if-digits-others.true

pub returns-then-digits-others-2 : goal.returns-then-digits-others-2
returns-then-digits-others-2 c = c.is_lt.ensures ∙ ap is_lt c.cmp.ensures ∙ alike c.args.digits.now c.args.others.now _ _ c.without_zeros-digits.ensures c.without_zeros-others.ensures c.requires.digits c.requires.others c.if-digits-others-2.true

pub returns-else-digits-others-2 : goal.returns-else-digits-others-2
returns-else-digits-others-2 c =
    let t : eqb (length c.without_zeros-digits.result.now) (length c.without_zeros-others.result.now) ≡ false = grind (arith, nat_tests) in
    t ∙ sym (longer c.args.digits.now c.args.others.now _ _ c.without_zeros-digits.ensures c.without_zeros-others.ensures c.requires.digits c.requires.others (omega arith))
