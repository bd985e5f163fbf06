use Rattle.std.proofs.Common.{◌≡◌, None, take}
use Rattle.resource_set.specs.Places.{place_of}
use Rattle.resource_set.specs.Units.{is_named}
use Rattle.resource_set.proofs.units.place_in.Given as goal

abbrev pub invariant-loop-place : goal.invariant-loop-place
invariant-loop-place l = place_of (is_named l.host) (take l.place l.nodes) ≡ None
