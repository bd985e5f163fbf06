use Rattle.std.proofs.Common.{refl}
use Rattle.hierarchy.specs.Closing.{run_closings}
use Rattle.hierarchy.proofs.Finish.{all_fit, is_whole}
use Rattle.hierarchy.proofs.Parts.{closings_of}
use Rattle.hierarchy.proofs.closing.closing_replies_make_a_run_whole.Goals as goal

pub returns : goal.returns
returns c = record {
  legal = λ set d parts m. all_fit set d (run_closings set d parts) (closings_of set d parts m);
  made = λ set d parts m. record { closings = run_closings set d parts; split = refl; closing = (closings_of set d parts m).closing };
  whole = λ set d parts m. is_whole set d (run_closings set d parts) (closings_of set d parts m);
}
