use Rattle.std.proofs.Common.{sym, subst}
use Rattle.tree_objects.specs.Level.{tree_of}
use Rattle.tree_objects.specs.Reading.{IsFlat}
use Rattle.tree_objects.proofs.Flat.{link_shallow}
use Rattle.tree_objects.proofs.scanning.is_flat.Goals as goal

pub returns-in-Symlink : goal.returns-in-Symlink
returns-in-Symlink c = λ _.
    let target = c.in-Symlink.target in
    subst (λ o. IsFlat (tree_of o)) (sym c.in-Symlink.is) (record {
      readable = (c.is_target.ensures.key, c.is_target.ensures.named);
      shallow = link_shallow target.path target.namespace;
    })
