use Rattle.std.proofs.Common.{◌≡◌, map, take}
use Rattle.hierarchy.specs.Own.{placed}
use Rattle.homes.proofs.homes.work_for.Given as goal

abbrev pub invariant-loop-actor : goal.invariant-loop-actor
invariant-loop-actor l = l.actors ≡ map (placed l.size) (take l.actor-index l.work.actors)
