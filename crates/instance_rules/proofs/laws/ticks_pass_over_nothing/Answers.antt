use Rattle.instance_rules.proofs.Ends.{end_kept, goes_on, target_kept}
use Rattle.instance_rules.proofs.laws.ticks_pass_over_nothing.Goals as goal

pub returns : goal.returns
returns c = record {
  forward = λ family now left second may. goes_on family now left second may;
  targets = λ family now left second target may is above. target_kept family now left second may target is above;
  ends = λ family now left second end may is above. end_kept family now left second may end is above;
}
