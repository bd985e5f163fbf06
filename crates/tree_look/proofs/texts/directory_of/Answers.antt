use Rattle.std.proofs.Common.{sym, ap, ◌∙◌}
use Rattle.tree_objects.specs.Level.{tree_of}
use Rattle.tree_store.proofs.Entered.{dir_object, same_entries}
use Rattle.tree_look.proofs.texts.directory_of.Goals as goal

pub returns-in-Dir : goal.returns-in-Dir
returns-in-Dir c = λ es e. same_entries c.in-Dir.directory es (ap tree_of (sym c.in-Dir.is) ∙ e)

pub returns : goal.returns
returns c = λ es e. absurd (c.in_default.not-Dir es (dir_object c.args.object es e))
