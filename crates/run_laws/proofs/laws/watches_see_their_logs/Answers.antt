use Rattle.run_laws.proofs.Feeds.{sees_logs, tells_log}
use Rattle.run_laws.proofs.laws.watches_see_their_logs.Goals as goal

pub returns : goal.returns
returns c = record {
  fed = λ set d valid labels timely legal. sees_logs set valid labels d legal timely;
  told = λ set d by shown number valid labels timely legal fits. tells_log set valid labels d legal timely by shown number fits;
}
