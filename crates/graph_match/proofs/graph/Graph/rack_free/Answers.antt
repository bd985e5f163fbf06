use Rattle.std.proofs.Common.{ap, ◌∙◌}
use Rattle.job_rules.specs.Fits.{free_of, nodes_of}
use Rattle.graph_match.specs.Racks.{rack_of}
use Rattle.graph_match.proofs.Hosts.{free_places}
use Rattle.graph_match.proofs.graph.Graph.rack_free.Goals as goal

pub returns : goal.returns
returns c = c.rack_free.ensures ∙ ap (λ ns. rack_of ns c.args.rack) (free_places (nodes_of c.self.inside.live.items) c.self.inside.places c.self.invariant.marks)
    ∙ ap (λ v. rack_of (free_of v.grant v.live) c.args.rack) c.self.view_is
