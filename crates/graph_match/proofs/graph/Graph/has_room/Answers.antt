use Rattle.std.proofs.Common.{◌≡◌, subst, not, true}
use Rattle.std.specs.Prelude.{◌↔◌}
use Rattle.job_rules.specs.Fits.{CanFit, free_of}
use Rattle.graph_match.proofs.Fitting.{room_is}
use Rattle.graph_match.proofs.graph.Graph.has_room.Goals as goal

pub returns : goal.returns
returns c = subst (λ v. (not c.is_busy.result ≡ true) ↔ CanFit c.args.spec.now v.grant (free_of v.grant v.live)) c.self.view_is
    (room_is c.args.spec.now c.self.inside.places c.self.inside.live.items c.is_busy.result c.requires c.self.invariant
    c.is_busy.ensures)
