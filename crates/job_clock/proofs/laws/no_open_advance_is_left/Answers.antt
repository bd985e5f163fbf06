use Rattle.job_commands.specs.Agrees.{AgreesCommands}
use Rattle.job_clock.proofs.Standing.{at_top, none_open}
use Rattle.job_clock.proofs.laws.no_open_advance_is_left.Goals as goal

pub returns : goal.returns
returns c = λ v inst log l top h none target t.
    at_top l inst log top (λ i g. AgreesCommands v i g → ⊥) (λ k. none_open v l k none target t) h
