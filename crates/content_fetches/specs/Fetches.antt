-- What brokers ask for that their walks need.
use Rattle.std.specs.Prelude.{◌≡◌, ℕ, ◌<◌, ◌==◌, ◌&&◌, Bool, true, false, List, length, slice_index_or}
use Rattle.std.specs.List.{list_any}
use Rattle.fl_digest.specs.declared.BlobRef.{BlobRef}
use Rattle.fl_digest.specs.Reference.{same_reference}
use Rattle.kvs_rules.specs.Brokers.{parent}
use Rattle.content_fetches.specs.declared.fetches.Fetch.{Fetch}
use Rattle.content_fetches.specs.declared.fetches.FetchStage.{FetchStage}
use Rattle.content_fetches.specs.declared.fetches.FetchStage.TheVariants as fetched

-- a fetch of a broker
abbrev pub fetch_of : ℕ → BlobRef → FetchStage → Fetch
fetch_of child reference stage = record { child = child; reference = reference; stage = stage }

-- whether a fetch at this stage is on the link between two brokers
abbrev pub is_fetched_so : ℕ → ℕ → ℕ → ℕ → FetchStage → Bool
is_fetched_so fanout from to child fetched.Rising = (from == child) && (to == parent fanout child)
is_fetched_so fanout from to child fetched.Waiting = false
is_fetched_so fanout from to child (fetched.Falling bytes) =
    (to == child) && (from == parent fanout child)

-- whether a fetch is on the link
abbrev pub is_fetch_on : ℕ → ℕ → ℕ → Fetch → Bool
is_fetch_on fanout from to fetch = is_fetched_so fanout from to fetch.child fetch.stage

-- whether the broker asks for the reference by this fetch
abbrev pub is_fetch_of : ℕ → BlobRef → Fetch → Bool
is_fetch_of broker reference fetch =
    (fetch.child == broker) && same_reference fetch.reference reference

-- whether a fetch at this stage waits at the broker above
abbrev pub is_waiting_stage : FetchStage → Bool
is_waiting_stage fetched.Waiting = true
is_waiting_stage _ = false

-- whether a fetch waits at a broker for a content
abbrev pub waits_at : ℕ → ℕ → BlobRef → Fetch → Bool
waits_at fanout broker reference fetch = is_waiting_stage fetch.stage
    && (parent fanout fetch.child == broker) && same_reference fetch.reference reference

-- a fetch that waits at the broker for this content is sent down with the bytes, and every other
-- one stays
pub record IsHanded (fanout broker : ℕ) (reference : BlobRef)
    (bytes : List ℕ) (old new : Fetch) : Type 0 where
  pub sent : waits_at fanout broker reference old ≡ true
      → new ≡ fetch_of old.child old.reference (fetched.Falling bytes)
  pub others : waits_at fanout broker reference old ≡ false → new ≡ old

-- so it is of all
pub record AreHanded (fanout broker : ℕ) (reference : BlobRef)
    (bytes : List ℕ) (old new : List Fetch) : Type 0 where
  pub same_len : length new ≡ length old
  pub each : (k : ℕ) (d : Fetch) → k < length old
      → IsHanded fanout broker reference bytes (slice_index_or old k d) (slice_index_or new k d)

-- a fetch is of a broker below rank 0; where it waits, the broker above stands below rank 0 too,
-- and asks for the same
pub record IsCarried (fanout : ℕ) (fetches : List Fetch) (fetch : Fetch) : Type 0 where
  pub below : 0 < fetch.child
  pub above : is_waiting_stage fetch.stage ≡ true → 0 < parent fanout fetch.child
  pub asked : is_waiting_stage fetch.stage ≡ true
      → list_any (is_fetch_of (parent fanout fetch.child) fetch.reference) fetches ≡ true

-- so it is of all
abbrev pub AreCarried : ℕ → List Fetch → Type 0
AreCarried fanout fetches = (k : ℕ) (d : Fetch) → k < length fetches
    → IsCarried fanout fetches (slice_index_or fetches k d)
