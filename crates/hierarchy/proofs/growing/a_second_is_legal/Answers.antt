use Rattle.hierarchy.proofs.Steps.{tick_fits, tick_goes_on}
use Rattle.hierarchy.proofs.growing.a_second_is_legal.Goals as goal

pub returns : goal.returns
returns c = λ set d second on may each. record { legal = tick_fits set d on second may each; on = tick_goes_on set d on second may each }
