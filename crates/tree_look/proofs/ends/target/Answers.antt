use Rattle.std.proofs.Common.{Some, sym, ap, ◌∙◌}
use Rattle.tree_rules.specs.Objects.{val, valref, dir, dirref, symlink}
use Rattle.tree_objects.specs.Level.{tree_of}
use Rattle.tree_objects.specs.declared.object.Object.{Object}
use Rattle.tree_look.proofs.Ending.{target_told}
use Rattle.tree_look.proofs.ends.target.Goals as goal

pub returns-in-Symlink : goal.returns-in-Symlink
returns-in-Symlink c = λ h st p node there stored.
    sym (target_told h st p node (symlink c.in-Symlink.target) (record { there = there; stored = ap (λ (o : Object). Some (tree_of o)) (sym c.in-Symlink.is) ∙ stored }))

pub returns-in-Val : goal.returns-in-Val
returns-in-Val c = λ h st p node there stored.
    sym (target_told h st p node (val c.in-Val.field-0) (record { there = there; stored = ap (λ (o : Object). Some (tree_of o)) (sym c.in-Val.is) ∙ stored }))

pub returns-in-Valref : goal.returns-in-Valref
returns-in-Valref c = λ h st p node there stored.
    sym (target_told h st p node (valref c.in-Valref.field-0) (record { there = there; stored = ap (λ (o : Object). Some (tree_of o)) (sym c.in-Valref.is) ∙ stored }))

pub returns-in-Dir : goal.returns-in-Dir
returns-in-Dir c = λ h st p node there stored.
    sym (target_told h st p node (dir c.in-Dir.field-0) (record { there = there; stored = ap (λ (o : Object). Some (tree_of o)) (sym c.in-Dir.is) ∙ stored }))

pub returns : goal.returns
returns c = λ h st p node there stored.
    sym (target_told h st p node (dirref c.in-Dirref.field-0) (record { there = there; stored = ap (λ (o : Object). Some (tree_of o)) (sym c.in-Dirref.is) ∙ stored }))
