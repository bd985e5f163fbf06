use Rattle.std.proofs.Common.{◌≡◌, ◌<◌, ◌∙◌, sym, true, false, ap, length, arith}
use Rattle.std.specs.Str.{bytes_eq}
use Rattle.std.proofs.lemmas.Grind.{common_steps}
use Rattle.resource_set.specs.declared.node.Node.{Node}
use Rattle.resource_set.proofs.Places.{place_reached, place_passed}
use Rattle.resource_set.proofs.units.place_in.Goals as goal

pub returns-then-eq-clause-place : goal.returns-then-eq-clause-place
returns-then-eq-clause-place c =
    let nodes = c.args.nodes.now in
    let i = c.loop-place.place in
    let node = c.index-nodes-place.result in
    let inside : i < length nodes = omega arith in
    let met : bytes_eq node.host c.args.host.now ≡ true = grind (arith, common_steps) in
    sym (place_reached (λ (n : Node). bytes_eq n.host c.args.host.now) nodes i node inside c.loop-place.invariant (ap (λ (n : Node). bytes_eq n.host c.args.host.now) (sym c.index-nodes-place.is) ∙ met))

pub loop-place-preserved : goal.loop-place-preserved
loop-place-preserved c =
    let nodes = c.args.nodes.now in
    let i = c.loop-place.place in
    let node = c.index-nodes-place.result in
    let inside : i < length nodes = omega arith in
    let unmet : bytes_eq node.host c.args.host.now ≡ false = grind (arith, common_steps) in
    place_passed (λ (n : Node). bytes_eq n.host c.args.host.now) nodes i node inside c.loop-place.invariant (ap (λ (n : Node). bytes_eq n.host c.args.host.now) (sym c.index-nodes-place.is) ∙ unmet)
