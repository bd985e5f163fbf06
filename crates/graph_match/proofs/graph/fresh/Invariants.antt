use Rattle.std.proofs.Common.{◌≡◌, map, take}
use Rattle.std.specs.Prelude.{All}
use Rattle.job_rules.specs.Fits.{HasIdSets}
use Rattle.graph_match.specs.Places.{fresh_place}
use Rattle.graph_match.proofs.graph.fresh.Given as goal

abbrev pub invariant-loop-node : goal.invariant-loop-node
invariant-loop-node l = (l.places.items ≡ map fresh_place (take l.node-index l.nodes)) × All HasIdSets (take l.node-index l.nodes)
