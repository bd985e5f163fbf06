use Rattle.std.proofs.Common.{ltb, ap, sym, ◌∙◌, arith}
use Rattle.job_rules.specs.Worths.{wanted}
use Rattle.graph_match.specs.declared.place.Place.{Place}
use Rattle.graph_match.specs.Places.{node_of}
use Rattle.graph_match.specs.Rooms.{room_of, worth_of}
use Rattle.graph_match.proofs.Hosts.{whole_total}
use Rattle.graph_match.proofs.Skips.{lack_stop}
use Rattle.graph_match.proofs.Turns.{lack_done, sets_at}
use Rattle.graph_match.proofs.graph.is_small.Goals as goal

pub could_bring-requires-clause-sets : goal.could_bring-requires-clause-sets
could_bring-requires-clause-sets c = sets_at c.args.places.now c.loop-place.place-index c.place-item.result c.requires.grant c.loop-place-test.true c.place-item.is

pub returns : goal.returns
returns c =
    lack_done (λ p. worth_of c.args.spec.now (room_of (node_of p)) (room_of (node_of p))) c.args.places.now c.loop-place.place-index c.loop-place.lacking (wanted c.args.spec.now) c.loop-place-test.false c.loop-place.invariant
    ∙ ap (λ n. ltb n (wanted c.args.spec.now)) (whole_total c.args.spec.now c.args.places.now c.requires.grant c.args.places.now (λ p i. i))

pub returns-then-lacking-eq0 : goal.returns-then-lacking-eq0
returns-then-lacking-eq0 c =
    let w = λ (p : Place). worth_of c.args.spec.now (room_of (node_of p)) (room_of (node_of p)) in
    sym (ap (λ n. ltb n (wanted c.args.spec.now)) (sym (whole_total c.args.spec.now c.args.places.now c.requires.grant c.args.places.now (λ p i. i)))
    ∙ lack_stop w c.args.places.now c.loop-place.place-index c.loop-place.lacking (wanted c.args.spec.now) (omega (arith, c.if-lacking-eq0.true)) c.loop-place.invariant)
