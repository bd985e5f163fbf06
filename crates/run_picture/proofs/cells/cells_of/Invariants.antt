use Rattle.std.proofs.Common.{◌≡◌, take, map}
use Rattle.run_picture.specs.Rows.{cell_of}
use Rattle.run_picture.proofs.cells.cells_of.Given as goal

abbrev pub invariant-loop-place : goal.invariant-loop-place
invariant-loop-place l = l.cells ≡ map (cell_of l.rows) (take l.place-index l.places)
