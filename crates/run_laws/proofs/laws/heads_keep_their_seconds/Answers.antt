use Rattle.run_laws.proofs.Children.{alone_ends_first}
use Rattle.run_laws.proofs.Reserved.{all_along, all_keep}
use Rattle.run_laws.proofs.laws.heads_keep_their_seconds.Goals as goal

pub returns : goal.returns
returns c = record {
  kept = λ set d valid timely legal named ends. all_along set d (all_keep set valid named d legal timely ends);
  alone = λ set d timely. alone_ends_first set d timely;
}
