use Rattle.run_laws.proofs.Sounds.{only_grow}
use Rattle.run_laws.proofs.laws.logs_only_grow.Goals as goal

pub returns : goal.returns
returns c = λ set d valid timely legal. only_grow set valid d legal timely
