use Rattle.kvs_model.specs.Operation.{effect}
use Rattle.tree_tests.proofs.Roots.{old_root, new_root}
use Rattle.tree_tests.proofs.drawn.land.Goals as goal

pub returns-in_err-next : goal.returns-in_err-next
returns-in_err-next c =
    old_root c.args.hash c.args.blobs.now c.apply.new.store (effect c.requires.0 c.args.txn.now c.args.scope) c.in_err-next.field-0.0 c.args.root.now c.requires.0 (c.in_err-next.ensures c.requires.0 c.requires.1) c.requires.1

pub returns : goal.returns
returns c =
    new_root c.args.hash c.args.blobs.now c.apply.new.store (effect c.requires.0 c.args.txn.now c.args.scope) c.in_ok-next.next (c.in_ok-next.ensures c.requires.0 c.requires.1)
