use Rattle.std.proofs.Common.{inr, refl}
use Rattle.flux_commands.proofs.TooLong.{too_long}
use Rattle.flux_commands.proofs.reading.read_work.Goals as goal

pub returns-in-Err-TooLong-clause-cause : goal.returns-in-Err-TooLong-clause-cause
returns-in-Err-TooLong-clause-cause g c =
    let long = (rw c.in-Err-TooLong.field-0-is at c.in-Err-TooLong.ensures.long) refl in
    record {
      text = long.0;
      read = record { read = long.1; whole = inr long.2 };
      first = too_long c.args.size long.0 long.2;
    }
