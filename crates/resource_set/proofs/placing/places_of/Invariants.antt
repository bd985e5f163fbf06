use Rattle.std.proofs.Common.{◌≡◌, [], take, drop}
use Rattle.resource_set.specs.Places.{IsRankIndex}
use Rattle.resource_set.specs.Reading.{twice_behind}
use Rattle.resource_set.proofs.placing.places_of.Given as goal

abbrev pub invariant-loop-place : goal.invariant-loop-place
invariant-loop-place l = record {
  placed : IsRankIndex l.places (take l.place l.entries);
  once : twice_behind [] l.entries ≡ twice_behind (take l.place l.entries) (drop l.place l.entries);
}
