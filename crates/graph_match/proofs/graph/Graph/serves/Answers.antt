use Rattle.std.proofs.Common.{◌≡◌, true, map, sym, subst, ◌∙◌}
use Rattle.std.specs.Prelude.{◌↔◌}
use Rattle.std.proofs.lemmas.Bool.{le-leb, leb-true}
use Rattle.job_rules.specs.Fits.{CanFit, without_nodes}
use Rattle.job_rules.specs.Worths.{wanted}
use Rattle.graph_match.specs.Places.{node_of}
use Rattle.graph_match.specs.Rooms.{AreRooms}
use Rattle.graph_match.proofs.Blocking.{room_for}
use Rattle.graph_match.proofs.graph.Graph.serves.Goals as goal

pub returns : goal.returns
returns c = λ taken.
    let spec = c.args.spec.now in
    let spare = c.args.spare.now in
    let b = c.is_enough.result in
    subst (λ v. AreRooms spec v.grant taken spare.rooms.items spare.sum → (b ≡ true) ↔ CanFit spec v.grant (map (without_nodes taken) v.grant)) c.self.view_is
    (λ a.
    let room = room_for spec (map node_of c.self.inside.places) taken spare.rooms.items spare.sum c.requires c.self.invariant.grant a in (
      λ t. room.1 (leb-true (wanted spec) spare.sum (sym c.is_enough.ensures ∙ t)),
      λ can. c.is_enough.ensures ∙ le-leb (wanted spec) spare.sum (room.0 can),
    ))
