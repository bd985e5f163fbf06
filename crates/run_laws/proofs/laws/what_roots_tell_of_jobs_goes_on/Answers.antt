use Rattle.run_laws.proofs.Views.{jobs_follow, logs_grow}
use Rattle.run_laws.proofs.laws.what_roots_tell_of_jobs_goes_on.Goals as goal

pub returns : goal.returns
returns c = record {
  logs = λ set d valid timely legal. logs_grow set valid d timely legal;
  jobs = λ set d valid timely legal. jobs_follow set valid d timely legal;
}
