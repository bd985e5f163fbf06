use Rattle.std.proofs.Common.{ap, ◌∙◌, length, arith}
use Rattle.std.specs.Str.{all_ascii_digits}
use Rattle.hostlist.proofs.Numbers.{number_digits_pass, length-number_digits}
use Rattle.hostlist.proofs.names.number_of.Goals as goal

pub returns-then-digits-name-clause-digits : goal.returns-then-digits-name-clause-digits
returns-then-digits-name-clause-digits c =
    let name = c.args.name.now in
    (ap all_ascii_digits c.split_digits.ensures.digits ∙ number_digits_pass name, omega (arith, ap length c.split_digits.ensures.digits, length-number_digits name))
