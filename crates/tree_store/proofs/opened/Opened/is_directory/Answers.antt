use Rattle.std.proofs.Common.{length, Some, sym, ap, ◌∙◌}
use Rattle.tree_objects.specs.Level.{tree_of}
use Rattle.tree_objects.specs.declared.object.Object.{Object}
use Rattle.tree_store.proofs.Found.{directory_told, is_dir, more_of}
use Rattle.tree_store.proofs.opened.Opened.is_directory.Goals as goal

pub returns-in-Some-Dir : goal.returns-in-Some-Dir
returns-in-Some-Dir c =
    directory_told c.args.self.now c.args.path.now _ (sym (ap (λ (o : Object). is_dir (Some (tree_of o))) c.in-Some-Dir.field-0-is) ∙ ap is_dir c.in-Some-Dir.ensures) (more_of (length c.args.path.now) (sym c.is_empty.ensures ∙ c.if-is_empty.false))

pub returns-in-Some-Dirref : goal.returns-in-Some-Dirref
returns-in-Some-Dirref c =
    directory_told c.args.self.now c.args.path.now _ (sym (ap (λ (o : Object). is_dir (Some (tree_of o))) c.in-Some-Dirref.field-0-is) ∙ ap is_dir c.in-Some-Dirref.ensures) (more_of (length c.args.path.now) (sym c.is_empty.ensures ∙ c.if-is_empty.false))

pub returns-in-Some-Val : goal.returns-in-Some-Val
returns-in-Some-Val c =
    directory_told c.args.self.now c.args.path.now _ (sym (ap (λ (o : Object). is_dir (Some (tree_of o))) c.in-Some-Val.field-0-is) ∙ ap is_dir c.in-Some-Val.ensures) (more_of (length c.args.path.now) (sym c.is_empty.ensures ∙ c.if-is_empty.false))

pub returns-in-Some-Valref : goal.returns-in-Some-Valref
returns-in-Some-Valref c =
    directory_told c.args.self.now c.args.path.now _ (sym (ap (λ (o : Object). is_dir (Some (tree_of o))) c.in-Some-Valref.field-0-is) ∙ ap is_dir c.in-Some-Valref.ensures) (more_of (length c.args.path.now) (sym c.is_empty.ensures ∙ c.if-is_empty.false))

pub returns-in-Some-Symlink : goal.returns-in-Some-Symlink
returns-in-Some-Symlink c =
    directory_told c.args.self.now c.args.path.now _ (sym (ap (λ (o : Object). is_dir (Some (tree_of o))) c.in-Some-Symlink.field-0-is) ∙ ap is_dir c.in-Some-Symlink.ensures) (more_of (length c.args.path.now) (sym c.is_empty.ensures ∙ c.if-is_empty.false))

pub returns-in-None : goal.returns-in-None
returns-in-None c =
    directory_told c.args.self.now c.args.path.now _ (ap is_dir c.in-None.ensures) (more_of (length c.args.path.now) (sym c.is_empty.ensures ∙ c.if-is_empty.false))
