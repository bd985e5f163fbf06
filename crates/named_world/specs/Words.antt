-- The words of the brokers of the top, and what they have heard.
use Rattle.std.specs.Prelude.{◌≡◌, ℕ, ◌<◌, ◌≤◌, List, Some, length, slice_get, unwrap_or}
use Rattle.root_feed.specs.Values.{HeraldValue}
use Rattle.world.specs.hierarchy.Heard.{heard_at, heard_by}
use Rattle.world.specs.answers.declared.chronicle.Entry.{Entry}

-- each herald's number is what its broker has heard
abbrev pub AreWords : List Entry → List HeraldValue → Type 0
AreWords c heralds = (broker : ℕ) (h : HeraldValue) → slice_get heralds broker ≡ Some h
    → (h.broker ≡ broker) × (h.number ≡ heard_at c broker)

-- there is one for each of so many brokers
abbrev pub TellsHeard : ℕ → List Entry → List HeraldValue → Type 0
TellsHeard size c heralds = (length heralds ≡ size) × AreWords c heralds

-- there is a herald for the broker, whose number isn't above this one
abbrev pub IsAbove : List HeraldValue → ℕ → ℕ → Type 0
IsAbove heralds broker number = (broker < length heralds)
    × ((h : HeraldValue) → slice_get heralds broker ≡ Some h → h.number ≤ number)

-- the herald of a broker that was in the list has this number now, in the place of its own
abbrev pub WasAt : List HeraldValue → ℕ → HeraldValue → (ℕ → ℕ) → Type 0
WasAt old broker new number = (h : HeraldValue) × (slice_get old broker ≡ Some h)
    × (new.broker ≡ h.broker) × (new.number ≡ number h.number)

-- the heralds of the brokers that hear a root by the entry have its number, and the others theirs
pub record AreRaisedBy (e : Entry) (old new : List HeraldValue) : Type 0 where
  pub all : length new ≡ length old
  pub each : (broker : ℕ) (k : HeraldValue) → slice_get new broker ≡ Some k
      → WasAt old broker k (unwrap_or (heard_by broker e))

-- all have the numbers that they had
pub record AreSameWords (old new : List HeraldValue) : Type 0 where
  pub all : length new ≡ length old
  pub each : (broker : ℕ) (k : HeraldValue) → slice_get new broker ≡ Some k
      → WasAt old broker k (λ number. number)
