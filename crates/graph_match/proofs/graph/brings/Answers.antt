use Rattle.std.proofs.Common.{map, ◌∙◌, arith}
use Rattle.std.proofs.lemmas.List.{length-map}
use Rattle.graph_match.specs.Places.{free_node, node_of}
use Rattle.graph_match.specs.Rooms.{room_of, worth_of}
use Rattle.graph_match.proofs.Counting.{grant_length, worth_small}
use Rattle.graph_match.proofs.Hosts.{free_total}
use Rattle.graph_match.proofs.Spots.{free_length}
use Rattle.graph_match.proofs.Turns.{sets_at, sum_done, sum_more}
use Rattle.graph_match.proofs.graph.brings.Goals as goal

pub brings-requires-clause-sets : goal.brings-requires-clause-sets
brings-requires-clause-sets c = sets_at c.args.places.now c.loop-place.place-index c.place-item.result c.requires.grant c.loop-place-test.true c.place-item.is

pub overflow_add-sum : goal.overflow_add-sum
overflow_add-sum c =
    let sets = sets_at c.args.places.now c.loop-place.place-index c.place-item.result c.requires.grant c.loop-place-test.true c.place-item.is in
    let small = worth_small c.args.spec.now (room_of (node_of c.place-item.result)) (room_of (free_node c.place-item.result)) (free_length c.place-item.result.cores sets.0) in
    omega (arith, small, c.brings.ensures, c.from-sum.ensures, c.loop-place.invariant.1, grant_length (map node_of c.args.places.now) c.requires.grant, length-map c.args.places.now node_of, c.loop-place-test.true)

pub loop-place-preserved : goal.loop-place-preserved
loop-place-preserved c =
    let sets = sets_at c.args.places.now c.loop-place.place-index c.place-item.result c.requires.grant c.loop-place-test.true c.place-item.is in
    let small = worth_small c.args.spec.now (room_of (node_of c.place-item.result)) (room_of (free_node c.place-item.result)) (free_length c.place-item.result.cores sets.0) in (
      sum_more (λ p. worth_of c.args.spec.now (room_of (node_of p)) (room_of (free_node p))) c.args.places.now c.loop-place.place-index c.loop-place.sum c.from-sum.result c.place-item.result c.loop-place-test.true c.place-item.is (c.from-sum.ensures ∙ c.brings.ensures) c.loop-place.invariant.0,
      omega (arith, small, c.brings.ensures, c.from-sum.ensures, c.loop-place.invariant.1),
    )

pub returns : goal.returns
returns c =
    sum_done (λ p. worth_of c.args.spec.now (room_of (node_of p)) (room_of (free_node p))) c.args.places.now c.loop-place.place-index c.loop-place.sum c.loop-place-test.false c.loop-place.invariant.0
    ∙ free_total c.args.spec.now c.args.places.now c.requires.grant c.args.places.now (λ p i. i)
