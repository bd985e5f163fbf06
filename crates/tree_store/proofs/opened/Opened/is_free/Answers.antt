use Rattle.std.proofs.Common.{is_none, ap, ◌∙◌}
use Rattle.tree_objects.specs.Level.{tree_of}
use Rattle.tree_store.proofs.Found.{free_told, none_tested}
use Rattle.tree_store.proofs.opened.Opened.is_free.Goals as goal

pub returns : goal.returns
returns c =
    free_told c.args.self.now c.args.path.now c.is_none.result (none_tested (λ o. tree_of o.now) c.at.result c.is_none.result c.is_none.ensures ∙ ap is_none c.at.ensures) c.requires
