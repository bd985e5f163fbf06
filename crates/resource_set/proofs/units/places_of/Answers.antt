use Rattle.std.proofs.Common.{◌<◌, Some, cond, length, ap, ap₂, ◌∙◌, arith}
use Rattle.std.specs.Str.{bytes_eq}
use Rattle.std.proofs.lemmas.Map.Text.{is_eq-slice_cmp}
use Rattle.resource_set.proofs.Holdings.{host_placed}
use Rattle.resource_set.proofs.units.places_of.Goals as goal

pub loop-place-preserved : goal.loop-place-preserved
loop-place-preserved c =
    let nodes = c.args.nodes.now in
    let i = c.loop-place.place in
    let inside : i < length nodes = omega arith in
    let node = c.index-nodes-place.result in
    λ name. c.in_ok-insert.ensures.updates.0 name
    ∙ ap₂ (λ b o. cond b (Some i) o) (is_eq-slice_cmp c.in_ok-copy.field-0 name ∙ ap (λ k. bytes_eq k name) c.in_ok-copy.ensures) (c.loop-place.invariant name)
    ∙ host_placed nodes i node name c.requires inside c.index-nodes-place.is
