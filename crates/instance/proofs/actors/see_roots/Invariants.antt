use Rattle.std.proofs.Common.{◌≡◌, max, take}
use Rattle.services.specs.answers.Floors.{number_in}
use Rattle.services.specs.kvs_model.Store.{Name}
use Rattle.instance.specs.Floors.{floor_in}
use Rattle.instance.proofs.actors.see_roots.Given as goal

abbrev pub invariant-loop-root : goal.invariant-loop-root
invariant-loop-root l = (space : Name) → floor_in l.floors space ≡ max (floor_in l.initial.floors space) (number_in space (take l.root-index l.roots))
