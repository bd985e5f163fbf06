use Rattle.std.proofs.Common.{sym, ◌∙◌}
use Rattle.plain_store.proofs.Held.{within_is}
use Rattle.tree_store.proofs.opened.is_inside.Goals as goal

pub returns : goal.returns
returns c = c.starts_with.ensures.value ∙ sym (within_is c.args.path.now c.args.place.now)
