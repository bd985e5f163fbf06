use Rattle.hierarchy.proofs.Throughout.{all_fed, all_follow, all_grow, all_nested, all_sound}
use Rattle.hierarchy.proofs.laws.a_run_stays_sound.Goals as goal

pub returns : goal.returns
returns c = record {
  sound = λ set d fits valid l. all_sound set d fits valid l;
  nested = λ set d fits valid l. all_nested set d fits valid l;
  grows = λ set d fits valid l. all_grow set d fits valid l;
  follows = λ set d fits valid l. all_follow set d fits valid l;
  fed = λ set d fits valid labels l. all_fed set d fits valid l labels;
}
