-- What a source or a sink tells before and after a call.
use Rattle.std.specs.Prelude.{◌≡◌, ◌≢◌, ℕ, ◌⊎◌, ◌+◌, List, Option, length}
use Rattle.std.specs.Io.KnownBytes.{Consumes, Appends, IsAtEnd}
use Rattle.outside.specs.Causes.{Rose}
use Rattle.run_limits.specs.Limits.{most_text}

-- the bytes that a source has left or a sink holds, where they are told, and the count of its
-- faults
pub record Side : Type 0 where
  pub before : Option (List ℕ)
  pub after : Option (List ℕ)
  pub faults : ℕ
  pub faults_after : ℕ

-- the side of a source or a sink, by what it tells of its bytes and its faults
abbrev pub side : {S : Type 0} → (S → Option (List ℕ)) → (S → ℕ) → S → S → Side
side bytes faults old new = record {
  before = bytes old;
  after = bytes new;
  faults = faults old;
  faults_after = faults new;
}

-- its count of faults rose
abbrev pub HasFailed : Side → Type 0
HasFailed s = Rose s.faults s.faults_after

-- its count of faults stayed
abbrev pub IsSteady : Side → Type 0
IsSteady s = s.faults_after ≡ s.faults

-- it failed where this is the status that a run ended with, and it is steady at each other
pub record FailsAt (status : ℕ) (s : Side) (ended : ℕ) : Type 0 where
  pub failed : ended ≡ status → HasFailed s
  pub steady : ended ≢ status → IsSteady s

-- the text was read: to the source's end, or to the first byte past the most
pub record IsRead (input : Side) (text : List ℕ) : Type 0 where
  pub read : Consumes input.before input.after text
  pub whole : IsAtEnd input.after ⊎ (length text ≡ most_text + 1)

-- the sink took the text whole, and never failed
pub record IsWritten (output : Side) (text : List ℕ) : Type 0 where
  pub written : Appends output.before output.after text
  pub steady : IsSteady output
