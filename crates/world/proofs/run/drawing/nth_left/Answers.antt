use Rattle.std.proofs.Common.{◌≡◌, ◌∙◌, ℕ, suc, ◌+◌, ◌-◌, ◌<◌, ◌≤◌, ◌&&◌, ◌==◌, List, ◌∷◌, true, false, ap, sym, arith, length, get_or}
use Rattle.std.specs.List.{filter, range_with_len}
use Rattle.std.specs.Option.{option_map_or}
use Rattle.std.proofs.lemmas.Option.{slice_get-get_or}
use Rattle.instance.specs.kvs_keys.Walk.{nth}
use Rattle.instance.proofs.kvs_keys_proofs.Walking.{peeled, ended, skipped, found, counted}
use Rattle.instance.specs.answers.declared.steps.Step.TheVariants as step
use Rattle.world.specs.Order.{left_in, waits_in}
use Rattle.homes.specs.declared.homes.Place.{Place}
use Rattle.world.proofs.Numbering.{mapped, unmapped}
use Rattle.world.proofs.run.drawing.nth_left.Goals as goal
use Rattle.world.proofs.run.drawing.nth_left.Goals.{then-waits_in+else-left-eq0, else-waits_in}

waits_at : (places : List Place) (instance at : ℕ) (d : Place) → at < length places
    → waits_in places instance at ≡ ((get_or places at d).waits && option_map_or (λ home. home == instance) (get_or places at d).home false)
waits_at places instance at d low = ap (λ o. option_map_or (λ p. p.waits && option_map_or (λ home. home == instance) p.home false) o false) (slice_get-get_or places at d low)

pub returns-then-left-eq0 : goal.returns-then-left-eq0
returns-then-left-eq0 c =
    let places = c.args.places.now in
    let at = c.loop-actor.actor in
    let size = length places in
    let test = waits_in places c.args.instance in
    let rest = range_with_len (at + 1) (size - (at + 1)) in
    let less : at < size = c.loop-actor-test.true in
    let has : test at ≡ true = waits_at places c.args.instance at _ less ∙ sym c.waits_in.ensures ∙ c.if-waits_in.true in
    let here : nth (filter test (at ∷ rest)) c.loop-actor.left ≡ nth (left_in places c.args.instance) c.args.number =
    ap (λ ns. nth (filter test ns) c.loop-actor.left) (sym (peeled at size less)) ∙ c.loop-actor.invariant in
    sym (mapped step.Answer (left_in places c.args.instance) c.args.number at
    (sym (sym (found test at rest has) ∙ ap (nth (filter test (at ∷ rest))) (sym c.if-left-eq0.true) ∙ here)))

pub loop-actor-preserved : goal.loop-actor-preserved
loop-actor-preserved c =
    let places = c.args.places.now in
    let at = c.loop-actor.actor in
    let size = length places in
    let test = waits_in places c.args.instance in
    let rest = range_with_len (at + 1) (size - (at + 1)) in
    let less : at < size = c.loop-actor-test.true in
    let here : nth (filter test (at ∷ rest)) c.loop-actor.left ≡ nth (left_in places c.args.instance) c.args.number =
    ap (λ ns. nth (filter test ns) c.loop-actor.left) (sym (peeled at size less)) ∙ c.loop-actor.invariant in
    elim c.if-waits_in.branch [
      | then-waits_in+else-left-eq0 w ↦
          let has : test at ≡ true = waits_at places c.args.instance at _ less ∙ sym c.waits_in.ensures ∙ w.if-waits_in.true in
          let one : suc c.if-waits_in.left ≡ c.loop-actor.left = omega (arith, w.left-is, w.if-left-eq0.false) in
          sym (counted test at rest c.if-waits_in.left has) ∙ ap (nth (filter test (at ∷ rest))) one ∙ here
      | else-waits_in w ↦
          let has : test at ≡ false = waits_at places c.args.instance at _ less ∙ sym c.waits_in.ensures ∙ w.if-waits_in.false in
          let same : c.if-waits_in.left ≡ c.loop-actor.left = w.left-is in
          sym (skipped test at rest c.if-waits_in.left has) ∙ ap (nth (filter test (at ∷ rest))) same ∙ here
    ]

pub returns : goal.returns
returns c =
    let places = c.args.places.now in
    let all : length places ≤ c.loop-actor.actor = c.loop-actor-test.false in
    let test = waits_in places c.args.instance in
    sym (unmapped step.Answer (left_in places c.args.instance) c.args.number c.loop-actor.left
    (sym (ap (λ ns. nth (filter test ns) c.loop-actor.left) (sym (ended c.loop-actor.actor (length places) all)) ∙ c.loop-actor.invariant)))
