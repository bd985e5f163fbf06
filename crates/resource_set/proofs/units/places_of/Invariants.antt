use Rattle.std.proofs.Common.{take}
use Rattle.resource_set.specs.Places.{IsHostIndex}
use Rattle.resource_set.proofs.units.places_of.Given as goal

abbrev pub invariant-loop-place : goal.invariant-loop-place
invariant-loop-place l = IsHostIndex l.places (take l.place l.nodes)
