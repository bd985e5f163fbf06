use Rattle.std.proofs.Common.{◌≡◌, ◌++◌, take, map}
use Rattle.run_picture.specs.Shown.{place_of_id}
use Rattle.run_picture.proofs.drawing.add_units.Given as goal

abbrev pub invariant-loop-id : goal.invariant-loop-id
invariant-loop-id l = l.places ≡ l.fn.places ++ map (place_of_id l.host l.is_gpu) (take l.id-index l.ids)
