-- What a step leaves of a world.
use Rattle.std.specs.Prelude.{◌≡◌, List, [], ◌∷◌, ◌++◌, false, length}
use Rattle.instance.specs.answers.declared.chronicle.Entry.{Entry}
use Rattle.instance.specs.answers.declared.steps.Step.{Step}
use Rattle.hierarchy.specs.Legal.{HasRunRest, IsSettledRun}
use Rattle.hierarchy.specs.Stretches.{IsRunStretch}
use Rattle.instance.specs.Steps.{IsStart}
use Rattle.world.specs.Value.{WorldValue}

-- the step is kept with the entries that it made, which stand behind all that had happened;
-- a settled chronicle stays settled, if the run has come to rest where the step issues a command or
-- lets time go on
pub record Advances (old : WorldValue) (s : Step) (new : WorldValue) : Type 0 where
  pub ready : new.spent ≡ false
  pub set : new.set ≡ old.set
  pub steps : new.steps ≡ old.steps ++ s ∷ []
  pub made : List Entry
  pub told : new.chronicle ≡ old.chronicle ++ made
  pub stretch : IsRunStretch old.set old.chronicle s made
  pub ends : new.ends ≡ old.ends ++ length new.chronicle ∷ []
  pub settled : IsSettledRun old.set old.chronicle
      → (IsStart s → HasRunRest old.set old.chronicle) → IsSettledRun new.set new.chronicle
