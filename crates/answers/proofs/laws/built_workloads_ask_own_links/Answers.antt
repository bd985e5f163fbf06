use Rattle.answers.proofs.OwnLinks.{built_asks_own}
use Rattle.answers.proofs.laws.built_workloads_ask_own_links.Goals as goal

pub returns : goal.returns
returns c set built = built_asks_own set built
