use Rattle.hierarchy.proofs.Advances.{next_issued, next_within, time_issued, time_within, timely}
use Rattle.hierarchy.proofs.Seconds.{at_once, born_by}
use Rattle.hierarchy.proofs.laws.time_stays_within_the_run.Goals as goal

pub returns : goal.returns
returns c = record {
  issued = λ set d l. time_issued set d l;
  within = λ set d l. time_within set d l;
  next = λ set d second l may. next_issued set d second l may;
  reaches = λ set d second l may. next_within set d second l may;
  shared = λ set d i l h. at_once set d l i h;
  births = λ set d l. born_by set d l;
  kept = λ set d i fits l h. timely set fits d l i h;
}
