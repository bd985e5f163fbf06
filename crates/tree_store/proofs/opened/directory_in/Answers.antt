use Rattle.tree_store.proofs.Entered.{dir_object}
use Rattle.tree_store.proofs.opened.directory_in.Goals as goal

pub unreachable-requires : goal.unreachable-requires
unreachable-requires c = c.in_default.not-Dir c.requires.0 (dir_object c.args.object c.requires.0 c.requires.1)
