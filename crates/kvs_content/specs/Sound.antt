-- What holds of the contents between the calls.
use Rattle.std.specs.Prelude.{◌≡◌, ◌⊎◌, ℕ, ◌<◌, List, [], true, IsSome, Option, Some, None, length, slice_index_or}
use Rattle.std.specs.List.{AllByRecursion as Each, list_any}
use Rattle.fl_digest.specs.declared.BlobRef.{BlobRef}
use Rattle.blob_store.specs.Blobs.{blob_at}
use Rattle.cache_node.specs.Cache.{clean_at, dirty_at}
use Rattle.cache_node.specs.Order.{Names}
use Rattle.kvs_rules.specs.Brokers.{parent}
use Rattle.kvs_content.specs.declared.offers.Offer.{Offer}
use Rattle.kvs_content.specs.declared.offers.OfferStage.{OfferStage}
use Rattle.kvs_content.specs.declared.offers.OfferStage.TheVariants as offered
use Rattle.kvs_content.specs.declared.wants.Gift.{Gift}
use Rattle.kvs_content.specs.declared.wants.Want.{Want}
use Rattle.kvs_content.specs.declared.wants.WantStage.{WantStage}
use Rattle.kvs_content.specs.declared.wants.WantStage.TheVariants as wanted
use Rattle.kvs_content.specs.Messages.{IsAbove, is_offer_of, is_waiting_stage}
use Rattle.kvs_content.specs.Value.{ContentValue, node_at, size_of}

-- a content is dirty at the broker
abbrev pub IsDirty : ContentValue → ℕ → BlobRef → Type 0
IsDirty v broker reference = IsSome (dirty_at reference (node_at v broker).cache)

-- the bytes of an offer that is accepted are those of rank 0's store
abbrev pub IsOfferSame : List (BlobRef × List ℕ) → BlobRef → List ℕ → OfferStage → Type 0
IsOfferSame store reference bytes offered.Accepted = blob_at reference store ≡ Some bytes
IsOfferSame store reference bytes _ = Unit {0}

-- the bytes that come down to a load have its reference
abbrev pub IsGiftNamed : BlobRef → Option Gift → Type 0
IsGiftNamed reference (Some gift) = Names reference gift.bytes
IsGiftNamed reference None = Unit {0}

abbrev pub IsWantNamed : BlobRef → WantStage → Type 0
IsWantNamed reference wanted.Rising = Unit {0}
IsWantNamed reference (wanted.Falling gift) = IsGiftNamed reference gift

-- and where they are clean, they are those of rank 0's store
abbrev pub IsGiftSame : List (BlobRef × List ℕ) → BlobRef → Option Gift → Type 0
IsGiftSame store reference (Some gift) =
    gift.clean ≡ true → blob_at reference store ≡ Some gift.bytes
IsGiftSame store reference None = Unit {0}

abbrev pub IsWantSame : List (BlobRef × List ℕ) → BlobRef → WantStage → Type 0
IsWantSame store reference wanted.Rising = Unit {0}
IsWantSame store reference (wanted.Falling gift) = IsGiftSame store reference gift

-- an offer is of a broker below rank 0, and where it waits, a content is dirty at the broker above
pub record IsOfferPlaced (v : ContentValue) (offer : Offer) : Type 0 where
  pub below : 0 < offer.child
  pub within : offer.child < size_of v
  pub waits : is_waiting_stage offer.stage ≡ true
      → IsDirty v (parent v.fanout offer.child) offer.reference
  pub named : Names offer.reference offer.bytes
  pub same : IsOfferSame v.store offer.reference offer.bytes offer.stage

-- a want is on the way between its broker and rank 0
pub record IsWantPlaced (v : ContentValue) (want : Want) : Type 0 where
  pub below : 0 < want.child
  pub within : want.broker < size_of v
  pub way : IsAbove v.fanout want.child want.broker
  pub named : IsWantNamed want.reference want.stage
  pub same : IsWantSame v.store want.reference want.stage

-- each offer and each want is where it can be, rank 0 has nothing dirty, its store has bytes under
-- their references, and what is clean at a broker is what it has
pub record ArePlaced (v : ContentValue) : Type 0 where
  pub fanout : 0 < v.fanout
  pub some : 0 < size_of v
  pub root : (node_at v 0).cache.dirty ≡ []
  pub store : Each (λ e. Names e.0 e.1) v.store
  pub same : (broker : ℕ) (reference : BlobRef) (bytes : List ℕ) → broker < size_of v
      → clean_at reference (node_at v broker).cache ≡ Some bytes
      → blob_at reference v.store ≡ Some bytes
  pub offers : (k : ℕ) (d : Offer) → k < length v.offers
      → IsOfferPlaced v (slice_index_or v.offers k d)
  pub wants : (k : ℕ) (d : Want) → k < length v.wants → IsWantPlaced v (slice_index_or v.wants k d)

-- where the broker has these bytes dirty, it offers them to the one above
abbrev pub IsCarried : ContentValue → ℕ → BlobRef → List ℕ → Type 0
IsCarried v broker reference bytes = dirty_at reference (node_at v broker).cache ≡ Some bytes
    → list_any (is_offer_of broker reference bytes) v.offers ≡ true

-- contents whose calls went well: what is dirty is offered
pub record IsSoundContent (v : ContentValue) : Type 0 where
  pub placed : ArePlaced v
  pub carried : (broker : ℕ) (reference : BlobRef) (bytes : List ℕ)
      → broker < size_of v → IsCarried v broker reference bytes

-- the same but for one content at one broker, whose offer is being delivered
pub record IsSoundBut (at : ℕ) (name : BlobRef)
    (taken : List ℕ) (v : ContentValue) : Type 0 where
  pub placed : ArePlaced v
  pub carried : (broker : ℕ) (reference : BlobRef) (bytes : List ℕ) → broker < size_of v
      → ((broker ≡ at) × (reference ≡ name) × (bytes ≡ taken)) ⊎ IsCarried v broker reference bytes
