use Rattle.std.proofs.Common.{map, subst, ap, ◌∙◌}
use Rattle.job_rules.specs.Fits.{nodes_of}
use Rattle.job_rules.specs.Worths.{total, worth}
use Rattle.graph_match.specs.Places.{free_node, node_of}
use Rattle.graph_match.specs.Rooms.{AreRooms, room_of}
use Rattle.graph_match.proofs.Blocking.{rooms_begun}
use Rattle.graph_match.proofs.graph.Graph.spare.Goals as goal

pub returns : goal.returns
returns c =
    let spec = c.args.spec.now in
    let rooms = c.in_ok-rooms.rooms.items in
    let sum = c.brings-sum.result in
    subst (λ v. AreRooms spec v.grant (nodes_of v.live) rooms sum) c.self.view_is
    (rooms_begun spec c.self.inside.places c.self.inside.live.items rooms sum c.self.invariant
    (c.in_ok-rooms.ensures ∙ ap (λ ps. map room_of (map free_node ps)) c.hosts-hosts.ensures)
    (c.brings-sum.ensures ∙ ap (λ ps. total (worth spec (map node_of ps)) (map free_node ps)) c.hosts-hosts.ensures))
