use Rattle.resource_set.proofs.Canonical.{other_children}
use Rattle.resource_set.proofs.laws.entries_have_different_children.Goals as goal

pub returns : goal.returns
returns c = other_children
