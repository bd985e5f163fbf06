use Rattle.std.proofs.Common.{[], ap, subst, ◌∙◌, map, refl, arith}
use Rattle.std.proofs.lemmas.List.{length-map}
use Rattle.std.specs.Prelude.{All}
use Rattle.job_rules.specs.Fits.{HasIdSets}
use Rattle.graph_match.specs.Places.{fresh_place, node_of}
use Rattle.graph_match.proofs.Counting.{grant_length}
use Rattle.graph_match.proofs.Fitting.{allot, fresh_kept, fresh_view}
use Rattle.graph_match.proofs.graph.Graph.new.Goals as goal

pub invariant_of-result : goal.invariant_of-result
invariant_of-result c = fresh_kept c.args.grant.now.nodes c.in_ok-new.field-0 c.new-2.result.items c.requires
    (subst (All HasIdSets) c.as_slice.ensures c.in_ok-places.ensures.sets) (c.in_ok-new.ensures ∙ c.in_ok-places.ensures.places ∙ ap (map fresh_place) c.as_slice.ensures) c.new-2.ensures.items

pub returns : goal.returns
returns c =
    ap (λ ns. allot ns c.args.grant.now.expiration c.new-2.result.items) (fresh_view c.args.grant.now.nodes c.as_slice.result.now c.in_ok-new.field-0 (c.in_ok-new.ensures ∙ c.in_ok-places.ensures.places) c.as_slice.ensures)
    ∙ ap (λ hs. allot c.args.grant.now.nodes c.args.grant.now.expiration hs) c.new-2.ensures.items

pub new-requires : goal.new-requires
new-requires c =
    let places = c.in_ok-places.places.items in
    let kept = fresh_kept c.args.grant.now.nodes places [] c.requires (subst (All HasIdSets) c.as_slice.ensures c.in_ok-places.ensures.sets) (c.in_ok-places.ensures.places ∙ ap (map fresh_place) c.as_slice.ensures) refl in
    omega (arith, grant_length (map node_of places) kept.grant, length-map places node_of)
