use Rattle.hierarchy.proofs.Sound.{sound_in}
use Rattle.hierarchy.proofs.laws.jobs_stay_sound_in_all.Goals as goal

pub returns : goal.returns
returns c = λ set d i l h k. sound_in set d l i h k
