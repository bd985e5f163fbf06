use Rattle.std.proofs.Common.{◌≡◌, ◌+◌, ◌<◌, ◌≤◌, [], ◌∷◌, ◌++◌, take, length, get_or, sym, ap, ap₂, ◌∙◌, arith, length-take-le}
use Rattle.std.proofs.lemmas.List.{take_more, take_all}
use Rattle.resource_set.specs.declared.node.Node.{Node}
use Rattle.resource_set.specs.Units.{units_of}
use Rattle.child_grant.specs.Child.{numbered}
use Rattle.child_grant.proofs.Numbered.{numbered_push, units-numbered, few, numbered_valid}
use Rattle.child_grant.proofs.child.Goals as goal

pub overflow_add-rank : goal.overflow_add-rank
overflow_add-rank c =
    let most : length c.args.r.now.nodes ≤ 65536 = few c.args.r.now c.requires in
    let within : c.loop-node.node-index < length c.as_slice-node-items.result.now = omega arith in
    omega (arith, ap length c.as_slice-node-items.ensures, c.loop-node.invariant.counted)

pub loop-node-preserved : goal.loop-node-preserved
loop-node-preserved c =
    let nodes = c.args.r.now.nodes in
    let i = c.loop-node.node-index in
    let same = c.as_slice-node-items.ensures in
    let within : i < length c.as_slice-node-items.result.now = omega arith in
    let inside : i < length nodes = omega (arith, ap length same) in
    let node = c.node-item.result in
    let is : node ≡ get_or nodes i node = c.node-item.is ∙ ap (λ l. get_or l i node) same in
    let rank : c.loop-node.rank ≡ 0 + length (take i nodes) = omega (arith, c.loop-node.invariant.counted, length-take-le i nodes (omega arith)) in
    record {
      granted = c.in_ok-push.ensures.added
          ∙ ap₂ (λ l n. l ++ n ∷ []) c.loop-node.invariant.granted (c.in_ok-at_rank.ensures ∙ ap₂ (λ (n : Node) k. let moved : Node = record n { rank = k } in moved) is rank)
          ∙ sym (numbered_push (take i nodes) 0 (get_or nodes i node))
          ∙ ap (numbered 0) (sym (take_more nodes i node inside));
      counted = omega (arith, c.loop-node.invariant.counted);
    }

pub returns-clause-units : goal.returns-clause-units
returns-clause-units c =
    let nodes = c.args.r.now.nodes in
    let i = c.loop-node.node-index in
    let whole : length nodes ≤ i = omega (arith, ap length c.as_slice-node-items.ensures) in
    ap units_of (c.loop-node.invariant.granted ∙ ap (numbered 0) (take_all i nodes whole)) ∙ units-numbered nodes 0

pub returns-clause-valid : goal.returns-clause-valid
returns-clause-valid c =
    let nodes = c.args.r.now.nodes in
    let i = c.loop-node.node-index in
    let whole : length nodes ≤ i = omega (arith, ap length c.as_slice-node-items.ensures) in
    numbered_valid c.args.r.now _ c.requires (c.loop-node.invariant.granted ∙ ap (numbered 0) (take_all i nodes whole))
