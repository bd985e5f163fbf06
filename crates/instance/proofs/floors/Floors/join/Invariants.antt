use Rattle.std.proofs.Common.{◌≡◌, ◌⊎◌, max, true}
use Rattle.std.specs.List.{list_any}
use Rattle.std.specs.Str.{bytes_eq}
use Rattle.services.specs.kvs_model.Store.{Name}
use Rattle.instance.specs.Floors.{floor_in}
use Rattle.instance.proofs.floors.Floors.join.Given as goal

abbrev pub invariant-loop-space : goal.invariant-loop-space
invariant-loop-space l = (space : Name) →
    (floor_in l.self space ≡ max (floor_in l.initial.self space) (floor_in l.other space))
    ⊎ (list_any (bytes_eq space) l.space-iterator ≡ true) × (floor_in l.self space ≡ floor_in l.initial.self space)
