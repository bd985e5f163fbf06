use Rattle.std.proofs.Common.{◌≡◌, ℕ, ◌+◌, ◌*◌, ◌^◌, ◌<◌, ◌≤◌, true, false, List, length, get_or, take, Ok, sym, ap, ◌∙◌, arith}
use Rattle.std.specs.List.{list_all}
use Rattle.std.proofs.lemmas.Bool.Decides.{nat_tests}
use Rattle.std.proofs.lemmas.List.{take_all}
use Rattle.fluid_ids.specs.Texts.{is_digit_in, value_in, number_in}
use Rattle.fluid_ids.proofs.Digits.{number_next, number_prefix, number_none, reads_ok, reads_large, reads_nothing, reads_bad}
use Rattle.fluid_ids.proofs.reader.number.Goals as goal

-- the number of one digit more
next : (base text : List ℕ) (i n v : ℕ) → i < length text → n ≡ number_in base (take i text) → v ≡ value_in base (get_or text i 0) → n * length base + v ≡ number_in base (take (i + 1) text)
next base text i n v h e f = ap (λ m. m * length base + v) e ∙ ap (λ m. number_in base (take i text) * length base + m) f ∙ sym (number_next base text i h)

not_small : (n : ℕ) → (n < 2 ^ 64 → ⊥) → 2 ^ 64 ≤ n
not_small n h = grind arith

pub returns-then-is_empty : goal.returns-then-is_empty
returns-then-is_empty c =
    let none : length c.args.text.now ≡ 0 = grind (arith, nat_tests) in
    sym (reads_nothing c.args.base.now c.args.text.now none)

pub returns-then-not-are_digits : goal.returns-then-not-are_digits
returns-then-not-are_digits c =
    let bad : list_all (is_digit_in c.args.base.now) c.args.text.now ≡ false = cc in
    sym (reads_bad c.args.base.now c.args.text.now bad)

pub loop-byte-init : goal.loop-byte-init
loop-byte-init c = record { read = sym (number_none c.args.base.now); small = omega arith }

pub returns-in_default : goal.returns-in_default
returns-in_default c =
    let base = c.args.base.now in
    let text = c.args.text.now in
    let some : 0 < length text = grind (arith, nat_tests) in
    let all : list_all (is_digit_in base) text ≡ true = cc in
    let e = next base text c.loop-byte.byte-index c.loop-byte.number c.value-digit.result c.loop-byte-test.true c.loop-byte.invariant.read c.value-digit.ensures.value in
    let most : 2 ^ 64 ≤ c.loop-byte.number * length base + c.value-digit.result = not_small _ c.in_default.ensures in
    let least = number_prefix base text (c.loop-byte.byte-index + 1) c.requires in
    sym (reads_large base text some all (omega (arith, e, most, least)))

pub loop-byte-preserved : goal.loop-byte-preserved
loop-byte-preserved c = record {
  read = c.in-Some.ensures.1 ∙ next c.args.base.now c.args.text.now c.loop-byte.byte-index c.loop-byte.number c.value-digit.result c.loop-byte-test.true c.loop-byte.invariant.read c.value-digit.ensures.value;
  small = omega (arith, c.in-Some.ensures.0, c.in-Some.ensures.1);
}

pub returns : goal.returns
returns c =
    let some : 0 < length c.args.text.now = grind (arith, nat_tests) in
    let all : list_all (is_digit_in c.args.base.now) c.args.text.now ≡ true = cc in
    let e : c.loop-byte.number ≡ number_in c.args.base.now c.args.text.now = c.loop-byte.invariant.read ∙ ap (number_in c.args.base.now) (take_all c.loop-byte.byte-index c.args.text.now (omega arith)) in
    let small : number_in c.args.base.now c.args.text.now < 2 ^ 64 = omega (arith, e, c.loop-byte.invariant.small) in
    ap Ok e ∙ sym (reads_ok c.args.base.now c.args.text.now some all small)
