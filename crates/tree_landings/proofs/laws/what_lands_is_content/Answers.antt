use Rattle.tree_landings.proofs.Growing.{contents-land}
use Rattle.tree_landings.proofs.laws.what_lands_is_content.Goals as goal

pub returns : goal.returns
returns c = contents-land
