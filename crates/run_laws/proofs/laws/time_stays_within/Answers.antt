use Rattle.run_laws.proofs.Times.{has_time, keeps_time, time_issued, time_within}
use Rattle.run_laws.proofs.laws.time_stays_within.Goals as goal

pub returns : goal.returns
returns c = record {
  issued = λ set d legal timely. time_issued set d legal timely;
  within = λ set d legal timely. time_within set d legal timely;
  kept = λ set d fits legal timely. keeps_time set fits d legal timely;
  fits = λ set first tallies. has_time set first tallies;
}
