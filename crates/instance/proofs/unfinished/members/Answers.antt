use Rattle.std.proofs.Common.{◌≡◌, ◌≤◌, ◌+◌, ◌∙◌, ℕ, length, filter, cond, sym, ap, arith}
use Rattle.std.specs.List.{range_with_len}
use Rattle.instance.specs.Closings.{waits_in}
use Rattle.instance.proofs.Ranges.{passed_more, passed_low}
use Rattle.instance.proofs.unfinished.members.Goals as goal
use Rattle.instance.proofs.unfinished.members.Goals.{then-waits_in, else-waits_in}

pub overflow_add-count : goal.overflow_add-count
overflow_add-count c =
    let q = waits_in c.args.lines.now c.args.seats.now c.args.space.now c.args.name.now in
    let low : length (filter q (range_with_len 0 c.loop-actor.actor)) ≤ c.loop-actor.actor = passed_low q c.loop-actor.actor in
    let is : c.loop-actor.count ≡ length (filter q (range_with_len 0 c.loop-actor.actor)) = c.loop-actor.invariant in
    omega (arith, low, is, c.requires, c.loop-actor-test.true)

pub loop-actor-preserved : goal.loop-actor-preserved
loop-actor-preserved c =
    let q = waits_in c.args.lines.now c.args.seats.now c.args.space.now c.args.name.now in
    let more : length (filter q (range_with_len 0 (c.loop-actor.actor + 1))) ≡ length (filter q (range_with_len 0 c.loop-actor.actor)) + cond (q c.loop-actor.actor) 1 0 = passed_more q c.loop-actor.actor in
    let is : c.loop-actor.count ≡ length (filter q (range_with_len 0 c.loop-actor.actor)) = c.loop-actor.invariant in
    elim c.if-waits_in.branch [
      | then-waits_in w ↦
          let one : ◌≡◌ {A = ℕ} (cond (q c.loop-actor.actor) 1 0) 1 = ap (λ b. cond {A = ℕ} b 1 0) (sym c.waits_in.ensures ∙ w.if-waits_in.true) in
          let count : c.if-waits_in.count ≡ c.loop-actor.count + 1 = w.count-is in
          omega (arith, more, is, one, count)
      | else-waits_in w ↦
          let none : ◌≡◌ {A = ℕ} (cond (q c.loop-actor.actor) 1 0) 0 = ap (λ b. cond {A = ℕ} b 1 0) (sym c.waits_in.ensures ∙ w.if-waits_in.false) in
          let count : c.if-waits_in.count ≡ c.loop-actor.count = w.count-is in
          omega (arith, more, is, none, count)
    ]
