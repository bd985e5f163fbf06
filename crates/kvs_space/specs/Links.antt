-- Announcements on their way down the tree.
use Rattle.std.specs.Prelude.{◌≡◌, ◌≢◌, ℕ, ◌<◌, ◌≤◌, ◌==◌, ◌&&◌, nat_lt, if◌then◌else◌, List, [], ◌∷◌, ◌++◌, length, max, slice_index}
use Rattle.kvs_rules.specs.Brokers.{parent}
use Rattle.kvs_space.specs.Space.{link_at}
use Rattle.kvs_space.specs.declared.links.Loss.{Loss}
use Rattle.kvs_space.specs.declared.links.Loss.TheVariants as loss

-- the greatest of the number that was heard and those on the way
abbrev pub greatest : ℕ → List ℕ → ℕ
greatest heard [] = heard
greatest heard (n ∷ ns) = greatest (max heard n) ns

-- the link to a broker, after a broker has told its children a number
abbrev pub told : ℕ → ℕ → ℕ → ℕ → List ℕ → List ℕ
told fanout from number child link =
    if nat_lt 0 child && (parent fanout child == from) then link ++ number ∷ [] else link

-- each child of a broker is told a number
pub record AreTold (fanout from number : ℕ) (old new : List (List ℕ)) : Type 0 where
  pub same_len : length new ≡ length old
  pub each : (k : ℕ) → k < length old → link_at new k ≡ told fanout from number k (link_at old k)

-- no number that a broker has heard or will hear is higher than its parent's; it may be lower, since
-- announcements can be lost
pub record IsAnnounced (fanout : ℕ) (heard : List ℕ) (links : List (List ℕ)) : Type 0 where
  pub same_len : length links ≡ length heard
  pub under : (b : ℕ) → 0 < b → b < length heard
      → greatest (slice_index heard b) (link_at links b) ≤ slice_index heard (parent fanout b)

-- the same, where one broker is about to hear a number
pub record IsAnnouncedBut (broker number fanout : ℕ)
    (heard : List ℕ) (links : List (List ℕ)) : Type 0 where
  pub same_len : length links ≡ length heard
  pub within : broker < length heard
  pub higher : slice_index heard broker < number
  pub others : (b : ℕ) → 0 < b → b < length heard → b ≢ broker
      → greatest (slice_index heard b) (link_at links b) ≤ slice_index heard (parent fanout b)
  pub here : 0 < broker
      → greatest number (link_at links broker) ≤ slice_index heard (parent fanout broker)

-- the numbers from the old one up to that of the parent
pub record IsNext (fanout : ℕ) (heard : List ℕ) (broker number : ℕ) : Type 0 where
  pub rises : slice_index heard broker ≤ number
  pub below : number ≤ slice_index heard (parent fanout broker)

-- what is on the way to a broker after a loss: the oldest number is gone, a copy of it comes last, or
-- it comes last itself
abbrev pub after_loss : Loss → List ℕ → List ℕ
after_loss _ [] = []
after_loss loss.Lost (n ∷ ns) = ns
after_loss loss.Repeated (n ∷ ns) = n ∷ (ns ++ n ∷ [])
after_loss loss.Swapped (n ∷ ns) = ns ++ n ∷ []
