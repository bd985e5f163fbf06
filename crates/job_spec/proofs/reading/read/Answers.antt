use Rattle.std.proofs.Common.{◌≡◌, length, true, sym, subst, arith}
use Rattle.std.specs.Prelude.{nat_le}
use Rattle.std.proofs.lemmas.Bool.Decides.{nat_tests}
use Rattle.outcomes.specs.Outcomes.{Fails}
use Rattle.job_spec.specs.Fields.{lasting}
use Rattle.job_spec.specs.Specs.{spec_reading}
use Rattle.job_spec.proofs.Unread.{no_value}
use Rattle.job_spec.proofs.reading.read.Goals as goal

pub returns-in-Err-clause-found : goal.returns-in-Err-clause-found
returns-in-Err-clause-found c =
    let short : nat_le (length c.args.text.now) 65536 ≡ true = grind (arith, nat_tests) in
    subst (λ e. Fails lasting e (spec_reading c.args.text.now)) (sym c.fault_of.ensures) (no_value c.args.text.now c.in-Err.fault short c.in-Err.ensures.value)
