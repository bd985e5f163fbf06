use Rattle.std.proofs.Common.{◌<◌, ◌≤◌, ◌++◌, List, map, sym, subst, ◌∙◌}
use Rattle.std.proofs.lemmas.Bool.{leb-false, leb-true}
use Rattle.resource_set.specs.declared.node.Node.{Node}
use Rattle.job_rules.specs.Fits.{AreApart}
use Rattle.job_rules.specs.Worths.{wanted}
use Rattle.graph_match.specs.Places.{node_of}
use Rattle.graph_match.specs.Rooms.{AreRooms}
use Rattle.graph_match.proofs.Blocking.{apart_others, blocking_begun, blocking_done, left_out, ready, rest_of, stays}
use Rattle.graph_match.proofs.graph.sift.Goals.{After-as_slice-nodes, then-is_enough+in_ok-push, else-is_enough}
use Rattle.graph_match.proofs.graph.sift.Goals as goal

-- what the others hold, apart from the job, and the rooms that all of them leave
others : After-as_slice-nodes → List Node
others c = rest_of c.loop-hold.list c.loop-hold.hold-index c.args.live.now

apart : (c : After-as_slice-nodes) → AreApart c.as_slice-nodes.result.now (others c)
unfolding others
apart c = subst (λ ns. AreApart ns (others c)) (sym c.as_slice-nodes.ensures) (apart_others c.loop-hold.list c.args.live.now c.loop-hold.hold-index c.hold-item.result c.requires.kept.live.apart c.loop-hold-test.true c.hold-item.is)

held : (c : After-as_slice-nodes) → AreRooms c.args.spec.now (map node_of c.args.places.now) (c.as_slice-nodes.result.now ++ others c) c.loop-hold.rooms c.loop-hold.sum
unfolding others
held c = subst (λ ns. AreRooms c.args.spec.now (map node_of c.args.places.now) (ns ++ others c) c.loop-hold.rooms c.loop-hold.sum) (sym c.as_slice-nodes.ensures)
    (ready c.loop-hold.invariant c.requires.spec c.requires.kept.grant c.requires.kept.live.rising c.hold-item.result c.loop-hold-test.true c.hold-item.is)

pub loop-hold-init : goal.loop-hold-init
loop-hold-init c = blocking_begun c.args.spec.now (map node_of c.args.places.now) c.args.live.now c.args.rooms.now c.args.sum c.new-list.result c.requires.rooms c.requires.few c.new-list.ensures

pub add-sum-requires-clause-taken : goal.add-sum-requires-clause-taken
add-sum-requires-clause-taken c = let s = (goal.at.add-sum-requires-clause-taken c).After-as_slice-nodes in (others s, apart s, held s)

pub take_back-sum-requires-clause-left : goal.take_back-sum-requires-clause-left
take_back-sum-requires-clause-left c =
    let s = (goal.at.take_back-sum-requires-clause-left c).After-as_slice-nodes in
    (others s, apart s, c.add-sum.ensures (others s) (apart s) (held s))

pub loop-hold-preserved : goal.loop-hold-preserved
unfolding others
loop-hold-preserved c =
    let s = (goal.at.loop-hold-preserved c).After-as_slice-nodes in
    let gone = c.add-sum.ensures (others s) (apart s) (held s) in
    let kept = c.requires.kept in
    elim c.if-is_enough.branch [
      | then-is_enough+in_ok-push w ↦
          let many : wanted c.args.spec.now ≤ c.add-sum.result = leb-true (wanted c.args.spec.now) c.add-sum.result (sym c.is_enough.ensures ∙ w.if-is_enough.true) in
          let back = subst (λ ns. AreRooms c.args.spec.now (map node_of c.args.places.now) (ns ++ others s) w.take_back-sum.new.rooms w.take_back-sum.result) c.as_slice-nodes.ensures (w.take_back-sum.ensures (others s) (apart s) gone) in
          rw w.sum-is (rw w.rooms-is (stays c.loop-hold.invariant c.requires.spec kept.grant kept.live.rising c.hold-item.result c.loop-hold-test.true c.hold-item.is gone many back (w.list-is ∙ w.in_ok-push.ensures.added)))
      | else-is_enough w ↦
          let few : c.add-sum.result < wanted c.args.spec.now = leb-false (wanted c.args.spec.now) c.add-sum.result (sym c.is_enough.ensures ∙ w.if-is_enough.false) in
          rw w.list-is (rw w.sum-is (rw w.rooms-is (left_out c.loop-hold.invariant c.requires.spec kept.grant kept.live.rising c.hold-item.result c.loop-hold-test.true c.hold-item.is gone few)))
    ]

pub returns : goal.returns
returns c = blocking_done c.requires.spec c.requires.kept.grant c.loop-hold-test.false c.loop-hold.invariant
