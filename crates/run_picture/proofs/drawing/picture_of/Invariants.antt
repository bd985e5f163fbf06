use Rattle.std.proofs.Common.{◌≡◌, take}
use Rattle.answers.specs.Chronicle.{Setup}
use Rattle.hierarchy.specs.Births.{numbers}
use Rattle.run_picture.specs.Columns.{AreScenes}
use Rattle.run_picture.specs.Shown.{IsShownRun}
use Rattle.run_picture.proofs.drawing.picture_of.Given as goal

abbrev pub invariant-loop-entry : goal.invariant-loop-entry
invariant-loop-entry l = (set : Setup) → IsShownRun set l.chronicle → set.size ≡ l.size → set.resources ≡ l.grant
    → AreScenes set l.chronicle l.rows (numbers (take l.entry-index l.chronicle)) l.picture
