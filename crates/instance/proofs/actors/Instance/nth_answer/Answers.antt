use Rattle.std.proofs.Common.{◌≡◌, ◌∙◌, suc, ◌+◌, ◌-◌, ◌<◌, ◌≤◌, ◌∷◌, true, false, ap, sym, rules, arith, length}
use Rattle.std.specs.List.{filter, range_with_len}
use Rattle.services.specs.kvs_keys.Walk.{nth}
use Rattle.services.proofs.kvs_keys_proofs.Walking.{peeled, ended, skipped, found, counted}
use Rattle.instance.specs.Order.{answers}
use Rattle.instance.specs.Steps.{can_answer}
use Rattle.instance.proofs.actors.Instance.nth_answer.Goals as goal
use Rattle.instance.proofs.actors.Instance.nth_answer.Goals.{then-is_answered+else-left-eq0, else-is_answered}

pub returns-then-left-eq0-clause-value : goal.returns-then-left-eq0-clause-value
returns-then-left-eq0-clause-value c =
    let v = c.args.self.now in
    let at = c.loop-actor.actor in
    let size = length v.seats in
    let view : length c.self.inside.seats.items ≡ size = ap (λ v. length v.seats) c.self.view_is in
    let rest = range_with_len (at + 1) (size - (at + 1)) in
    let less : at < size = omega (arith, view) in
    let core : c.self.inside.services ≡ v.services = ap (λ v. v.services) c.self.view_is in
    let seats : c.self.inside.seats.items ≡ v.seats = ap (λ v. v.seats) c.self.view_is in
    let has : can_answer v at ≡ true = search rules in
    let zero : c.loop-actor.left ≡ 0 = omega arith in
    let here : nth (filter (can_answer v) (at ∷ rest)) c.loop-actor.left ≡ nth (answers v) c.args.number =
    ap (λ ns. nth (filter (can_answer v) ns) c.loop-actor.left) (sym (peeled at size less)) ∙ c.loop-actor.invariant in
    sym (found (can_answer v) at rest has) ∙ ap (nth (filter (can_answer v) (at ∷ rest))) (sym zero) ∙ here

pub loop-actor-preserved : goal.loop-actor-preserved
loop-actor-preserved c =
    let v = c.args.self.now in
    let at = c.loop-actor.actor in
    let size = length v.seats in
    let view : length c.self.inside.seats.items ≡ size = ap (λ v. length v.seats) c.self.view_is in
    let rest = range_with_len (at + 1) (size - (at + 1)) in
    let less : at < size = omega (arith, view) in
    let core : c.self.inside.services ≡ v.services = ap (λ v. v.services) c.self.view_is in
    let seats : c.self.inside.seats.items ≡ v.seats = ap (λ v. v.seats) c.self.view_is in
    let here : nth (filter (can_answer v) (at ∷ rest)) c.loop-actor.left ≡ nth (answers v) c.args.number =
    ap (λ ns. nth (filter (can_answer v) ns) c.loop-actor.left) (sym (peeled at size less)) ∙ c.loop-actor.invariant in
    elim c.if-is_answered.branch [
      | then-is_answered+else-left-eq0 w ↦
          let has : can_answer v at ≡ true = search rules in
          let one : suc c.if-is_answered.left ≡ c.loop-actor.left = omega (arith, w.left-is, w.if-left-eq0.false) in
          sym (counted (can_answer v) at rest c.if-is_answered.left has) ∙ ap (nth (filter (can_answer v) (at ∷ rest))) one ∙ here
      | else-is_answered w ↦
          let has : can_answer v at ≡ false = search rules in
          let same : c.if-is_answered.left ≡ c.loop-actor.left = w.left-is in
          sym (skipped (can_answer v) at rest c.if-is_answered.left has) ∙ ap (nth (filter (can_answer v) (at ∷ rest))) same ∙ here
    ]

pub returns-clause-value : goal.returns-clause-value
returns-clause-value c =
    let v = c.args.self.now in
    let size = length v.seats in
    let view : length c.self.inside.seats.items ≡ size = ap (λ v. length v.seats) c.self.view_is in
    let all : size ≤ c.loop-actor.actor = omega (arith, view) in
    ap (λ ns. nth (filter (can_answer v) ns) c.loop-actor.left) (sym (ended c.loop-actor.actor size all)) ∙ c.loop-actor.invariant
