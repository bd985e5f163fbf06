use Rattle.std.proofs.Common.{length, sym}
use Rattle.std.specs.Str.{all_ascii_digits}
use Rattle.std.specs.Str.Parse.{digits_value}
use Rattle.fl_json.specs.Numbers.{natural}
use Rattle.fl_json.proofs.Bytes.{no_digits, no_test}
use Rattle.fl_json.proofs.numbers.natural_of.Goals as goal

pub returns-in-Err : goal.returns-in-Err
unfolding natural
returns-in-Err c = sym (no_test (length c.args.token.now) (digits_value 10 c.args.token.now) (all_ascii_digits c.args.token.now) (no_digits c.args.token.now c.in-Err.ensures.cases.0))
