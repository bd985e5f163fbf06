use Rattle.std.proofs.Common.{◌≡◌, ℕ, ◌+◌, ◌-◌, ◌≤◌, [], ◌∷◌, ◌++◌, sym, ap, ◌∙◌, append-nil, append_assoc, arith}
use Rattle.std.specs.List.{range_with_len}
use Rattle.idset.proofs.Spans.{range-append}
use Rattle.idset.proofs.ranges.add_ids.Goals as goal

one_more : (first id : ℕ) → first ≤ id → range_with_len first (id + 1 - first) ≡ range_with_len first (id - first) ++ id ∷ []
one_more first id h =
    let count : id + 1 - first ≡ (id - first) + 1 = omega arith in
    let at : first + (id - first) ≡ id = omega arith in
    ap (range_with_len first) count ∙ range-append first (id - first) 1 ∙ ap (λ n. range_with_len first (id - first) ++ n ∷ []) at

pub loop-id-init : goal.loop-id-init
loop-id-init c =
    let none : c.args.range.first - c.args.range.first ≡ 0 = omega arith in
    rw none (sym (append-nil _))

pub loop-id-preserved : goal.loop-id-preserved
loop-id-preserved c = rw (c.in_ok-push.ensures.items, c.loop-id.invariant, one_more c.args.range.first c.loop-id.id c.loop-id.auto.id) (append_assoc c.args.ids.now.items (range_with_len c.args.range.first (c.loop-id.id - c.args.range.first)) (c.loop-id.id ∷ []))

pub returns : goal.returns
returns c =
    let some = c.requires.some in
    let end : c.loop-id.id ≡ c.args.range.last + 1 = omega (arith, c.loop-id.auto.id-end) in
    rw end at c.loop-id.invariant
