use Rattle.std.proofs.Common.{ap, map, sym, subst, ◌∙◌}
use Rattle.std.proofs.lemmas.Bool.{ltb-false, ltb-true}
use Rattle.graph_match.specs.Places.{free_node}
use Rattle.graph_match.specs.Racks.{AreCounts, rack_of}
use Rattle.graph_match.proofs.Blocks.{rack_none, rack_some}
use Rattle.graph_match.proofs.racks.Cluster.rack_free.Goals as goal

pub returns-in-None : goal.returns-in-None
returns-in-None c = rack_none c.self.inside.places.items c.deref.result.now c.args.rack (subst (AreCounts 32 c.self.inside.places.items) (sym c.deref.ensures.value) c.self.invariant.0) (ltb-false _ _ (sym c.in-None.ensures.lookup.0)) ∙ ap (λ ps. rack_of (map free_node ps) c.args.rack) c.self.view_is

pub returns-in-Some : goal.returns-in-Some
returns-in-Some c = rack_some c.self.inside.places.items c.deref.result.now c.args.rack c.in-Some.free.now (subst (AreCounts 32 c.self.inside.places.items) (sym c.deref.ensures.value) c.self.invariant.0) (ltb-true _ _ (sym c.in-Some.ensures.lookup.0)) c.in-Some.ensures.lookup.1 ∙ ap (λ ps. rack_of (map free_node ps) c.args.rack) c.self.view_is
