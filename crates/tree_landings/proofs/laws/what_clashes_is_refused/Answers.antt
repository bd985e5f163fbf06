use Rattle.tree_landings.proofs.Clashing.{refused-so}
use Rattle.tree_landings.proofs.laws.what_clashes_is_refused.Goals as goal

pub returns : goal.returns
returns c = refused-so
