use Rattle.std.proofs.Common.{List, [], sym, subst}
use Rattle.fl_digest.specs.declared.BlobRef.{BlobRef}
use Rattle.tree_walk.specs.Pins.{AreFresh}
use Rattle.tree_walk.proofs.Pinning.{fresh_none, fresh_next, fresh_all}
use Rattle.tree_walk.proofs.unpinned.Goals as goal

pub loop-reference-init : goal.loop-reference-init
loop-reference-init c = subst (λ (l : List BlobRef). AreFresh c.args.pinned.now [] l) (sym c.new-fresh.ensures.items) (fresh_none c.args.pinned.now)

pub loop-reference-preserved : goal.loop-reference-preserved
loop-reference-preserved c =
    fresh_next c.args.pinned.now c.args.passed.now c.loop-reference.reference-index _ c.loop-reference.fresh.items c.add_once.new.fresh.items c.loop-reference-test.true c.loop-reference.invariant c.in_ok-add_once.ensures

pub returns : goal.returns
returns c = fresh_all c.args.pinned.now c.args.passed.now c.loop-reference.reference-index c.loop-reference.fresh.items c.loop-reference-test.false c.loop-reference.invariant
