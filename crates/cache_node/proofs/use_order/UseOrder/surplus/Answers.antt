use Rattle.std.proofs.Common.{rules, ◌≡◌, ◌∙◌, ◌++◌, ◌∷◌, [], true, false}
use Rattle.fl_digest.specs.Reference.{same_reference}
use Rattle.cache_node.specs.Order.{is_pinned}
use Rattle.cache_node.specs.declared.TheConstants.{UNPINNED_LIMIT}
use Rattle.cache_node.proofs.Walk.{begun, passed_same, passed_pinned, passed_gone, size_left, all_listed, last_listed}
use Rattle.cache_node.proofs.use_order.UseOrder.surplus.Goals as goal
use Rattle.cache_node.proofs.use_order.UseOrder.surplus.Goals.{else-ne-via-then-ne+else-not-is_pinned, else-ne-via-else-ne}

pub loop-left-init : goal.loop-left-init
loop-left-init c =
    rw c.new-gone.ensures
    (begun UNPINNED_LIMIT c.args.reference.now c.args.held.now c.args.self.now c.self.inside.entries.entries c.iter-walk.result c.args.loose c.self.invariant.0.once c.iter-walk.ensures.rest c.self.view_is c.requires)

pub returns-in_default : goal.returns-in_default
returns-in_default c =
    let end : c.loop-left.walk ≡ [] = search rules in
    let pushed : c.push.new.self ≡ c.loop-left.gone ++ c.args.reference.now ∷ [] = search rules in
    pushed ∙ last_listed UNPINNED_LIMIT c.args.reference.now c.args.held.now c.args.self.now c.self.inside.entries.entries c.loop-left.walk c.loop-left.left c.loop-left.gone c.self.invariant.0.once c.self.view_is c.loop-left.invariant end c.loop-left-test.true

pub overflow_sub-left : goal.overflow_sub-left
overflow_sub-left c =
    let step : c.loop-left.walk ≡ c.next_back.new.self ++ (c.in-Some.key.now, c.in-Some.other.now) ∷ [] = search rules in
    let apart : same_reference c.args.reference.now c.in-Some.key.now ≡ false = search rules in
    let free : is_pinned c.in-Some.other.now ≡ false = search rules in
    rw c.size-left.ensures
    (size_left UNPINNED_LIMIT c.args.reference.now c.args.held.now c.args.self.now c.loop-left.walk c.next_back.new.self c.loop-left.left c.loop-left.gone c.in-Some.key.now c.in-Some.other.now c.loop-left.invariant step apart free)

pub loop-left-preserved-then-not-is_pinned : goal.loop-left-preserved-then-not-is_pinned
loop-left-preserved-then-not-is_pinned c =
    let step : c.loop-left.walk ≡ c.next_back.new.self ++ (c.in-Some.key.now, c.in-Some.other.now) ∷ [] = search rules in
    let apart : same_reference c.args.reference.now c.in-Some.key.now ≡ false = search rules in
    let free : is_pinned c.in-Some.other.now ≡ false = search rules in
    let pushed : c.push-then-not-is_pinned.new.self ≡ c.loop-left.gone ++ c.in-Some.key.now ∷ [] = search rules in
    rw (c.size-left.ensures, pushed)
    (passed_gone UNPINNED_LIMIT c.args.reference.now c.args.held.now c.args.self.now c.loop-left.walk c.next_back.new.self c.loop-left.left c.loop-left.gone c.in-Some.key.now c.in-Some.other.now c.loop-left.invariant step apart free c.loop-left-test.true)

pub loop-left-preserved : goal.loop-left-preserved
loop-left-preserved c =
    let step : c.loop-left.walk ≡ c.next_back.new.self ++ (c.in-Some.key.now, c.in-Some.other.now) ∷ [] = search rules in
    elim c.else-ne.branch [
      | else-ne-via-then-ne+else-not-is_pinned w ↦
          let apart : same_reference c.args.reference.now c.in-Some.key.now ≡ false = search rules in
          let held : is_pinned c.in-Some.other.now ≡ true = search rules in
          passed_pinned UNPINNED_LIMIT c.args.reference.now c.args.held.now c.args.self.now c.loop-left.walk c.next_back.new.self c.loop-left.left c.loop-left.gone c.in-Some.key.now c.in-Some.other.now c.loop-left.invariant step apart held
      | else-ne-via-else-ne w ↦
          let same : same_reference c.args.reference.now c.in-Some.key.now ≡ true = search rules in
          passed_same UNPINNED_LIMIT c.args.reference.now c.args.held.now c.args.self.now c.loop-left.walk c.next_back.new.self c.loop-left.left c.loop-left.gone c.in-Some.key.now c.in-Some.other.now c.loop-left.invariant step same
    ]

pub returns : goal.returns
returns c =
    all_listed UNPINNED_LIMIT c.args.reference.now c.args.held.now c.args.self.now c.self.inside.entries.entries c.loop-left.walk c.loop-left.left c.loop-left.gone c.self.invariant.0.once c.self.view_is c.loop-left.invariant c.loop-left-test.false
