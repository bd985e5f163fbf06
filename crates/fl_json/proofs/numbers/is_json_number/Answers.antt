use Rattle.std.proofs.Common.{sym}
use Rattle.fl_json.proofs.Bytes.{no_number}
use Rattle.fl_json.proofs.numbers.is_json_number.Goals as goal

pub returns-in-Err : goal.returns-in-Err
returns-in-Err c = sym (no_number c.args.token.now c.in-Err.ensures.cases.0)
