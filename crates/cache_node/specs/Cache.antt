-- What a broker keeps of contents.
use Rattle.std.specs.Prelude.{ℕ, ◌≡◌, true, List, [], ◌∷◌, Option, Some, None, option_map, IsSome, if◌then◌else◌}
use Rattle.std.specs.Option.{option_map_or}
use Rattle.std.specs.List.{AllByRecursion, IsDistinct, list_any}
use Rattle.std.specs.Map.{keys_of, lookup, remove_entry, set_value}
use Rattle.fl_digest.specs.declared.BlobRef.{BlobRef}
use Rattle.fl_digest.specs.Reference.{same_reference}
use Rattle.cache_node.specs.declared.content.Held.{Held}
use Rattle.cache_node.specs.Order.{Names, unpinned, pinned, released, used}

-- contents by their references: the dirty ones, the last put first, and the clean ones, the most
-- recently used first
pub record Cache : Type 0 where
  pub dirty : List (BlobRef × List ℕ)
  pub clean : List (BlobRef × Held)

-- a cache of nothing
abbrev pub empty_cache : Cache
empty_cache = record { dirty = []; clean = [] }

-- the dirty content under a reference
abbrev pub dirty_at : BlobRef → Cache → Option (List ℕ)
dirty_at reference cache = lookup (same_reference reference) cache.dirty

-- the clean content under a reference, with its pins
abbrev pub held_at : BlobRef → Cache → Option Held
held_at reference cache = lookup (same_reference reference) cache.clean

-- the clean content under a reference
abbrev pub clean_at : BlobRef → Cache → Option (List ℕ)
clean_at reference cache = option_map (λ held. held.bytes) (held_at reference cache)

-- the content under a reference
abbrev pub any_at : BlobRef → Cache → Option (List ℕ)
any_at reference cache =
    option_map_or (λ bytes. Some bytes) (clean_at reference cache) (dirty_at reference cache)

-- a cache with this dirty content: one that is there stays
abbrev pub stored : BlobRef → List ℕ → Cache → Cache
stored reference bytes cache = option_map_or (λ kept. cache) (any_at reference cache)
    (record { dirty = (reference, bytes) ∷ cache.dirty; clean = cache.clean })

-- a cache without a dirty content
abbrev pub refused : BlobRef → Cache → Cache
refused reference cache =
    record { dirty = remove_entry (same_reference reference) cache.dirty; clean = cache.clean }

-- a cache whose dirty content became clean, which is a use
abbrev pub acknowledged : BlobRef → Cache → Cache
acknowledged reference cache = option_map_or
    (λ bytes. record {
      dirty = remove_entry (same_reference reference) cache.dirty;
      clean = (reference, unpinned bytes) ∷ cache.clean;
    })
    (dirty_at reference cache) cache

-- a cache whose clean contents were changed
abbrev pub with_clean : List (BlobRef × Held) → Cache → Cache
with_clean clean cache = record { dirty = cache.dirty; clean = clean }

-- a cache with one pin more of a clean content, which is a use
abbrev pub with_pin : BlobRef → Cache → Cache
with_pin reference cache = option_map_or (λ held.
    with_clean (used reference (pinned held) cache.clean) cache) (held_at reference cache) cache

-- a cache with one pin less, which is no use
abbrev pub without_pin : BlobRef → Cache → Cache
without_pin reference cache = option_map_or (λ held. with_clean (set_value
    (same_reference reference) cache.clean (released held)) cache) (held_at reference cache) cache

-- clean contents without those under these references, each of which was there and stands once
pub record HasDropped (before after : List (BlobRef × Held)) (gone : List BlobRef) : Type 0 where
  pub once : IsDistinct same_reference gone
  pub there : (reference : BlobRef) → list_any (same_reference reference) gone ≡ true
      → IsSome (lookup (same_reference reference) before)
  pub left : (reference : BlobRef) → lookup (same_reference reference) after ≡ (if list_any
      (same_reference reference) gone then None else lookup (same_reference reference) before)

-- dirty contents beside clean ones: each is there once, none is clean too, and its reference is the
-- digest of its bytes
pub record IsSound (dirty : List (BlobRef × List ℕ)) (clean : List (BlobRef × Held)) : Type 0 where
  pub once : IsDistinct same_reference (keys_of dirty)
  pub named : AllByRecursion (λ e. Names e.0 e.1) dirty
  pub apart : (reference : BlobRef) → IsSome (lookup (same_reference reference) dirty)
      → lookup (same_reference reference) clean ≡ None
