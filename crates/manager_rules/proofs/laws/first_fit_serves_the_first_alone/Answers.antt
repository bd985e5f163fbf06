use Rattle.manager_rules.proofs.Plain.{behind_first, ready_first, takes_first}
use Rattle.manager_rules.proofs.laws.first_fit_serves_the_first_alone.Goals as goal

pub returns : goal.returns
returns c = record {
  takes = λ s j r first. takes_first s j first r;
  ready = λ s j first. ready_first s j first;
  behind = λ s j head first. behind_first s j first head;
}
