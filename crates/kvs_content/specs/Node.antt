-- What one broker keeps of contents, and what it makes.
use Rattle.std.specs.Prelude.{◌≡◌, ◌≢◌, ℕ, Bool, List, [], ◌∷◌, ◌++◌, None, not, filter, is_some, map, if◌then◌else◌}
use Rattle.std.specs.Map.{remove_entry}
use Rattle.fl_digest.specs.declared.BlobRef.{BlobRef}
use Rattle.fl_digest.specs.Reference.{same_reference}
use Rattle.cache_node.specs.Order.{filled, is_pinned}
use Rattle.cache_node.specs.Cache.{Cache, HasDropped, empty_cache, clean_at, dirty_at, refused, with_clean}
use Rattle.kvs_rules.specs.declared.events.KvsEvent.{KvsEvent}
use Rattle.kvs_rules.specs.declared.events.KvsEvent.TheVariants as event
use Rattle.kvs_content.specs.declared.node.Flush.{Flush}
use Rattle.kvs_content.specs.declared.node.Flush.TheVariants as flush

-- a broker's cache, and the references that were refused it and no flush has told yet, the oldest
-- first
pub record NodeValue : Type 0 where
  pub cache : Cache
  pub refused : List BlobRef

-- a broker that keeps nothing
abbrev pub empty_node : NodeValue
empty_node = record { cache = empty_cache; refused = [] }

-- a broker with another cache
abbrev pub with_cache : Cache → NodeValue → NodeValue
with_cache cache node = record { cache = cache; refused = node.refused }

-- a broker that was refused a dirty content, which the next flush tells
abbrev pub rejected : BlobRef → NodeValue → NodeValue
rejected reference node = record {
  cache = refused reference node.cache;
  refused = if is_some (dirty_at reference node.cache)
      then node.refused ++ reference ∷ [] else node.refused;
}

-- the event of a broker that gets a reference, where it does
abbrev pub getting : ℕ → BlobRef → Bool → List KvsEvent
getting broker reference gets = if gets then event.Got broker reference ∷ [] else []

-- the events of a broker that drops these references
abbrev pub dropping : ℕ → List BlobRef → List KvsEvent
dropping broker gone = map (event.Dropped broker) gone

-- the broker gets or drops a content
abbrev pub GetsOrDrops : ℕ → KvsEvent → Type 0
GetsOrDrops broker (event.Got b reference) = b ≡ broker
GetsOrDrops broker (event.Dropped b reference) = b ≡ broker
GetsOrDrops broker _ = ⊥

-- a broker keeps a content as clean, and drops what goes for it
pub record IsGetting (broker : ℕ) (reference : BlobRef)
    (bytes : List ℕ) (old new : NodeValue) (events : List KvsEvent) : Type 0 where
  pub gone : List BlobRef
  pub told : events ≡ getting broker reference (not (is_some (clean_at reference old.cache)))
      ++ dropping broker gone
  pub rest : HasDropped (filled reference bytes old.cache.clean) new.cache.clean gone
  pub dirty : new.cache.dirty ≡ remove_entry (same_reference reference) old.cache.dirty
  pub out : dirty_at reference new.cache ≡ None
  pub refused : new.refused ≡ old.refused

-- a broker drops the clean contents that aren't pinned
pub record IsDropping (broker : ℕ) (old new : NodeValue) (events : List KvsEvent) : Type 0 where
  pub gone : List BlobRef
  pub told : events ≡ dropping broker gone
  pub rest : HasDropped old.cache.clean new.cache.clean gone
  pub pinned : new.cache ≡ with_clean (filter (λ e. is_pinned e.1) old.cache.clean) old.cache
  pub refused : new.refused ≡ old.refused

-- what a flush is told: nothing while a content is dirty, then the first reference that was
-- refused, or that there is none
abbrev pub IsFlush : NodeValue → NodeValue → Flush → Type 0
IsFlush old new flush.Waits = (old.cache.dirty ≢ []) × (new ≡ old)
IsFlush old new (flush.Clashed reference) =
    (old.cache.dirty ≡ []) × (old.refused ≡ reference ∷ new.refused) × (new.cache ≡ old.cache)
IsFlush old new flush.Flushed = (old.cache.dirty ≡ []) × (old.refused ≡ []) × (new ≡ old)
