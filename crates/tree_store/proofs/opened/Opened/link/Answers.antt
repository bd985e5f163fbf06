use Rattle.std.proofs.Common.{Some, sym, ap, ◌∙◌}
use Rattle.tree_objects.specs.Level.{tree_of}
use Rattle.tree_objects.specs.declared.object.Object.{Object}
use Rattle.tree_store.proofs.Found.{target_told, link_of}
use Rattle.tree_store.proofs.opened.Opened.link.Goals as goal

pub returns-in-Some-Symlink : goal.returns-in-Some-Symlink
returns-in-Some-Symlink c =
    target_told c.args.self.now c.args.path.now _ (sym (ap (λ (o : Object). link_of (Some (tree_of o))) c.in-Some-Symlink.field-0-is) ∙ ap link_of c.in-Some-Symlink.ensures)

pub returns-in-Some-Val : goal.returns-in-Some-Val
returns-in-Some-Val c =
    target_told c.args.self.now c.args.path.now _ (sym (ap (λ (o : Object). link_of (Some (tree_of o))) c.in-Some-Val.field-0-is) ∙ ap link_of c.in-Some-Val.ensures)

pub returns-in-Some-Valref : goal.returns-in-Some-Valref
returns-in-Some-Valref c =
    target_told c.args.self.now c.args.path.now _ (sym (ap (λ (o : Object). link_of (Some (tree_of o))) c.in-Some-Valref.field-0-is) ∙ ap link_of c.in-Some-Valref.ensures)

pub returns-in-Some-Dir : goal.returns-in-Some-Dir
returns-in-Some-Dir c =
    target_told c.args.self.now c.args.path.now _ (sym (ap (λ (o : Object). link_of (Some (tree_of o))) c.in-Some-Dir.field-0-is) ∙ ap link_of c.in-Some-Dir.ensures)

pub returns-in-Some-Dirref : goal.returns-in-Some-Dirref
returns-in-Some-Dirref c =
    target_told c.args.self.now c.args.path.now _ (sym (ap (λ (o : Object). link_of (Some (tree_of o))) c.in-Some-Dirref.field-0-is) ∙ ap link_of c.in-Some-Dirref.ensures)

pub returns-in-None : goal.returns-in-None
returns-in-None c =
    target_told c.args.self.now c.args.path.now _ (ap link_of c.in-None.ensures)
