use Rattle.hierarchy.proofs.Settling.{nothing_issued, stays_settled}
use Rattle.hierarchy.proofs.growing.a_run_stays_settled.Goals as goal

pub returns : goal.returns
returns c = record {
  issues = λ set d i actor own rest stretch. stays_settled set d i actor own rest stretch;
  others = λ set d more none. nothing_issued set more d none;
}
