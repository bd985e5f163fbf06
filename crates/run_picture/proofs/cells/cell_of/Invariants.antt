use Rattle.std.proofs.Common.{◌≡◌, take}
use Rattle.run_picture.specs.Rows.{cell_of}
use Rattle.run_picture.proofs.cells.cell_of.Given as goal

abbrev pub invariant-loop-row : goal.invariant-loop-row
invariant-loop-row l = l.cell ≡ cell_of (take l.row-index l.rows) l.place
