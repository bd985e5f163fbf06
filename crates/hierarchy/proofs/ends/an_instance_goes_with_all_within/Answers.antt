use Rattle.hierarchy.proofs.Inside.{goes_with_all}
use Rattle.hierarchy.proofs.ends.an_instance_goes_with_all_within.Goals as goal

pub returns : goal.returns
returns c = λ set d b on here is over follows. goes_with_all set d b on.run here is over on follows
