use Rattle.std.proofs.Common.{List, sym, subst}
use Rattle.std.specs.Prelude.{Contains}
use Rattle.fl_digest.specs.declared.BlobRef.{BlobRef}
use Rattle.tree_walk.specs.Pins.{AddsOnce}
use Rattle.tree_walk.proofs.Pinning.{adds_pinned, adds_old, adds_new}
use Rattle.tree_walk.proofs.add_once.Goals as goal

pub returns-then-has : goal.returns-then-has
returns-then-has c = adds_pinned c.args.pinned.now c.args.fresh.now.items c.args.reference (c.has.ensures.there c.if-has.true)

pub returns-then-has-2 : goal.returns-then-has-2
returns-then-has-2 c = adds_old c.args.pinned.now c.args.fresh.now.items c.args.reference
    (subst (λ (l : List BlobRef). Contains l c.args.reference) c.as_slice.ensures.value (c.has-2.ensures.there c.if-has-2.true))

pub returns : goal.returns
returns c = subst (λ (l : List BlobRef). AddsOnce c.args.pinned.now c.args.fresh.now.items l c.args.reference) (sym c.in_ok-push.ensures.items) (adds_new c.args.pinned.now c.args.fresh.now.items c.args.reference
    (c.has.ensures.none c.if-has.false)
    (λ h. c.has-2.ensures.none c.if-has-2.false (subst (λ (l : List BlobRef). Contains l c.args.reference) (sym c.as_slice.ensures.value) h)))
