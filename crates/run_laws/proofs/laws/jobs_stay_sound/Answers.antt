use Rattle.run_laws.proofs.Sounds.{stands_there, stay_sound}
use Rattle.run_laws.proofs.laws.jobs_stay_sound.Goals as goal

pub returns : goal.returns
returns c = record {
  sound = λ set d valid timely legal. stay_sound set valid d legal timely;
  standing = λ set d anew legal. stands_there set d anew legal;
}
