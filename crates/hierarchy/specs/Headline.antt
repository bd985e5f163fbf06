-- What a run that ends well comes to, and what it writes.
use Rattle.std.specs.Prelude.{◌≡◌, ℕ, List, Bool, IsTrue}
use Rattle.answers.specs.Chronicle.{Setup}
use Rattle.answers.specs.Headline.{output_text}
use Rattle.answers.specs.declared.chronicle.Entry.{Entry}
use Rattle.hierarchy.specs.Legal.{IsLegalRun, IsSettledRun}
use Rattle.hierarchy.specs.Whole.{IsWholeRun}

-- the chronicle of the run is legal and whole, settled where the run is, and what was written
-- prints it
pub record IsTrueRun (set : Setup) (settled journal : Bool)
    (c : List Entry) (written : List ℕ) : Type 0 where
  pub legal : IsLegalRun set c
  pub whole : IsWholeRun set c
  pub at_rest : IsTrue settled → IsSettledRun set c
  pub printed : written ≡ output_text journal set c
