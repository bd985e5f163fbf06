use Rattle.std.proofs.Common.{◌≡◌, ap, arith, ◌∙◌}
use Rattle.std.specs.Str.{all_ascii_digits}
use Rattle.std.specs.Char.{is_ascii_digit}
use Rattle.std.specs.List.{take_while}
use Rattle.std.specs.Prelude.{take}
use Rattle.hostlist.proofs.ReadingLemmas.{digits_pass}
use Rattle.hostlist.proofs.reading.number.Goals as goal

pub returns-clause-digits : goal.returns-clause-digits
returns-clause-digits c =
    let whole : c.split_at.result.0.now ≡ take_while is_ascii_digit c.args.text.now = c.split_at.ensures.front ∙ ap (λ n. take n c.args.text.now) c.digits_count-count.ensures.count in
    (ap all_ascii_digits whole ∙ digits_pass c.args.text.now, omega (arith, c.split_at.ensures.front_len), omega (arith, c.split_at.ensures.front_len))
