use Rattle.std.proofs.Common.{◌≡◌, ℕ, ◌+◌, ◌-◌, ◌*◌, ◌<◌, List, length, get_or, take, ap, sym, ◌∙◌, arith}
use Rattle.std.specs.Str.Parse.{digits_value, AllDigits}
use Rattle.std.proofs.lemmas.Int.Digits.{digits_value_more}
use Rattle.std.proofs.lemmas.Str.Parse.{digits_value-take-le}
use Rattle.std.proofs.lemmas.List.{take_all}
use Rattle.idset.specs.Text.{number_value}
use Rattle.idset.proofs.Numbers.{digit_is, digit_of}
use Rattle.idset.proofs.reader.number.Goals as goal

-- the number of one digit more
next : (ds : List ℕ) (i v : ℕ) → AllDigits 10 ds → i < length ds → v ≡ digits_value 10 (take i ds) → v * 10 + (get_or ds i 0 - 48) ≡ digits_value 10 (take (i + 1) ds)
next ds i v a h e = ap (λ n. n * 10 + (get_or ds i 0 - 48)) e ∙ ap (λ n. digits_value 10 (take i ds) * 10 + n) (sym (digit_is (get_or ds i 0) (digit_of ds i a h)).2) ∙ sym (digits_value_more 10 ds i h)

pub overflow_sub-digit : goal.overflow_sub-digit
overflow_sub-digit c = (digit_is (get_or c.args.digits.now c.loop-digit.digit-index 0) (digit_of c.args.digits.now c.loop-digit.digit-index c.requires c.loop-digit-test.true)).0

pub overflow_add-value : goal.overflow_add-value
overflow_add-value c =
    let d = digit_is (get_or c.args.digits.now c.loop-digit.digit-index 0) (digit_of c.args.digits.now c.loop-digit.digit-index c.requires c.loop-digit-test.true) in
    omega (arith, d.1, c.from.ensures, c.loop-digit.invariant.small)

pub returns-then-value-gt-LAST_ID : goal.returns-then-value-gt-LAST_ID
unfolding number_value
returns-then-value-gt-LAST_ID c = λ small.
    let e = next c.args.digits.now c.loop-digit.digit-index c.loop-digit.value c.requires c.loop-digit-test.true c.loop-digit.invariant.read in
    let m = digits_value-take-le 10 c.args.digits.now (c.loop-digit.digit-index + 1) (omega arith) in
    omega (arith, e, m, c.from.ensures, c.if-value-gt-LAST_ID.true)

pub loop-digit-preserved : goal.loop-digit-preserved
loop-digit-preserved c = record {
  read = rw c.from.ensures (next c.args.digits.now c.loop-digit.digit-index c.loop-digit.value c.requires c.loop-digit-test.true c.loop-digit.invariant.read);
  small = omega arith;
}

pub returns : goal.returns
unfolding number_value
returns c =
    let e = c.loop-digit.invariant.read ∙ ap (digits_value 10) (take_all c.loop-digit.digit-index c.args.digits.now (omega arith)) in
    (omega (arith, e, c.loop-digit.invariant.small), e)
