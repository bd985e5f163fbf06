use Rattle.std.proofs.Common.{◌++◌, List, ap, ◌∙◌, subst, sym}
use Rattle.fl_digest.specs.declared.BlobRef.{BlobRef}
use Rattle.tree_walk.specs.Pins.{AreFresh, IsOnce}
use Rattle.tree_walk.specs.Walks.{Walk, with_pins}
use Rattle.tree_walk.proofs.Pinning.{goes_on, advance_tells}
use Rattle.tree_walk.proofs.Cursor.advance.Goals as goal

pub returns-clause-on : goal.returns-clause-on
returns-clause-on c =
    let pinned = c.self.inside.pinned.items in
    goes_on c.self.inside.root c.self.inside.asked c.self.inside.path pinned c.in_ok-fresh.fresh.items c.extend_from_slice.new.self.items c.args.self.now c.args.cache.now c.pin.new.cache c.self.view_is
    (c.in_ok-extend_from_slice.ensures.items ∙ ap (λ (l : List BlobRef). pinned ++ l) c.as_slice-3.ensures.value)
    (c.pin.ensures ∙ ap (λ (l : List BlobRef). with_pins l c.args.cache.now) c.as_slice-4.ensures.value)

pub returns-clause-told : goal.returns-clause-told
returns-clause-told c = λ h st reads.
    let pinned = c.self.inside.pinned.items in
    let passed = c.look_in.new.passed.items in
    let more = c.in_ok-fresh.fresh.items in
    let cache = c.args.cache.now in
    advance_tells h st c.self.inside.root c.self.inside.asked c.self.inside.path c.as_slice-path.result.now pinned passed more c.extend_from_slice.new.self.items c.new-passed.result.items c.args.self.now cache c.pin.new.cache c.in_ok-told.told c.self.view_is
    (record {
      added = c.in_ok-extend_from_slice.ensures.items ∙ ap (λ (l : List BlobRef). pinned ++ l) c.as_slice-3.ensures.value;
      pins = c.pin.ensures ∙ ap (λ (l : List BlobRef). with_pins l cache) c.as_slice-4.ensures.value;
      fresh = subst (λ (l : List BlobRef). AreFresh l passed more) c.as_slice.ensures.value (subst (λ (l : List BlobRef). AreFresh c.as_slice.result.now l more) c.as_slice-2.ensures.value c.in_ok-fresh.ensures);
    })
    c.new-passed.ensures.items c.as_slice-path.ensures (c.in_ok-told.ensures h st) reads

pub returns-clause-once : goal.returns-clause-once
returns-clause-once c = λ h.
    let pinned = c.self.inside.pinned.items in
    let passed = c.look_in.new.passed.items in
    let more = c.in_ok-fresh.fresh.items in
    let fresh : AreFresh pinned passed more = subst (λ (l : List BlobRef). AreFresh l passed more) c.as_slice.ensures.value (subst (λ (l : List BlobRef). AreFresh c.as_slice.result.now l more) c.as_slice-2.ensures.value c.in_ok-fresh.ensures) in
    subst IsOnce (sym (c.in_ok-extend_from_slice.ensures.items ∙ ap (λ (l : List BlobRef). pinned ++ l) c.as_slice-3.ensures.value))
    (fresh.once (subst IsOnce (sym (ap (λ (w : Walk). w.pinned) c.self.view_is)) h))
