use Rattle.std.proofs.Common.{◌≡◌, ◌∙◌, suc, ◌+◌, ◌-◌, ◌<◌, ◌≤◌, ◌∷◌, true, false, ap, sym, map, rules, arith}
use Rattle.std.specs.Prelude.{Ok}
use Rattle.std.specs.List.{filter, range_with_len}
use Rattle.kvs_core.specs.Steps.{can_step}
use Rattle.kvs_keys.specs.Walk.{between, nth}
use Rattle.kvs_core.specs.Walk.{step_of}
use Rattle.kvs_keys.proofs.Walking.{peeled, ended, skipped, found, counted}
use Rattle.kvs_core.proofs.service.Core.nth_along.Goals as goal
use Rattle.kvs_core.proofs.service.Core.nth_along.Goals.{then-can+else-left-eq0, else-can}

pub returns-then-left-eq0-clause-value : goal.returns-then-left-eq0-clause-value
returns-then-left-eq0-clause-value c =
    let can = can_step c.args.self.now in
    let step = step_of c.args.strand in
    let at = c.loop-at.at in
    let rest = map step (range_with_len (at + 1) (c.args.end - (at + 1))) in
    let less : at < c.args.end = omega arith in
    let on : can (step at) ≡ true = search rules in
    let zero : c.loop-at.left ≡ 0 = omega arith in
    let here : nth (filter can (step at ∷ rest)) c.loop-at.left ≡ nth (filter can (map step (between c.args.first c.args.end))) c.args.number =
    ap (λ ns. nth (filter can (map step ns)) c.loop-at.left) (sym (peeled at c.args.end less)) ∙ c.loop-at.invariant in
    ap Ok c.step-step.ensures ∙ sym (found can (step at) rest on) ∙ ap (nth (filter can (step at ∷ rest))) (sym zero) ∙ here

pub loop-at-preserved : goal.loop-at-preserved
loop-at-preserved c =
    let can = can_step c.args.self.now in
    let step = step_of c.args.strand in
    let at = c.loop-at.at in
    let rest = map step (range_with_len (at + 1) (c.args.end - (at + 1))) in
    let less : at < c.args.end = omega arith in
    let here : nth (filter can (step at ∷ rest)) c.loop-at.left ≡ nth (filter can (map step (between c.args.first c.args.end))) c.args.number =
    ap (λ ns. nth (filter can (map step ns)) c.loop-at.left) (sym (peeled at c.args.end less)) ∙ c.loop-at.invariant in
    elim c.if-can.branch [
      | then-can+else-left-eq0 w ↦
          let on : can (step at) ≡ true = search rules in
          let one : suc c.if-can.left ≡ c.loop-at.left = omega (arith, w.left-is, w.if-left-eq0.false) in
          sym (counted can (step at) rest c.if-can.left on) ∙ ap (nth (filter can (step at ∷ rest))) one ∙ here
      | else-can w ↦
          let off : can (step at) ≡ false = search rules in
          let same : c.if-can.left ≡ c.loop-at.left = w.left-is in
          sym (skipped can (step at) rest c.if-can.left off) ∙ ap (nth (filter can (step at ∷ rest))) same ∙ here
    ]

pub returns-clause-value : goal.returns-clause-value
returns-clause-value c =
    let can = can_step c.args.self.now in
    let step = step_of c.args.strand in
    let all : c.args.end ≤ c.loop-at.at = omega arith in
    ap (λ ns. nth (filter can (map step ns)) c.loop-at.left) (sym (ended c.loop-at.at c.args.end all)) ∙ c.loop-at.invariant
