-- Walks over the clean contents of a cache.
use Rattle.std.specs.Prelude.{◌≡◌, ◌⊎◌, ◌++◌, ◌∷◌, ℕ, List, fold, Some, None, Contains, IsSome}
use Rattle.fl_digest.specs.declared.BlobRef.{BlobRef}
use Rattle.fl_digest.specs.declared.Hash.{Hash}
use Rattle.kvs_txn.specs.declared.answers.Query.{Query}
use Rattle.kvs_model.specs.Store.{Path, Store}
use Rattle.kvs_model.specs.OneStore.{own_walk}
use Rattle.cache_node.specs.Cache.{Cache, clean_at, with_pin, without_pin}
use Rattle.tree_rules.specs.Held.{Table, IsRootOf}
use Rattle.tree_rules.specs.OneStore.{own_needs}
use Rattle.tree_look.specs.declared.Advance.{Advance}
use Rattle.tree_look.specs.declared.Advance.TheVariants.{Done, Needs}

-- a walk from a root, and what it has pinned
pub record Walk : Type 0 where
  pub root : BlobRef
  pub asked : Query
  pub path : Path
  pub pinned : List BlobRef

-- each clean content of the cache is that of the table
abbrev pub Agrees : Table → Cache → Type 0
Agrees table cache = (reference : BlobRef) (bytes : List ℕ)
    → clean_at reference cache ≡ Some bytes → table reference ≡ Some bytes

-- the walk's root is that of this store, which a table holds that agrees with the cache
pub record Reads (hash : Hash) (st : Store) (root : BlobRef) (cache : Cache) : Type 0 where
  pub table : Table
  pub holds : IsRootOf hash table root st
  pub agrees : Agrees table cache

-- the contents are pinned and unpinned, one after another
abbrev pub with_pins : List BlobRef → Cache → Cache
with_pins references cache = fold (λ c r. with_pin r c) cache references

abbrev pub without_pins : List BlobRef → Cache → Cache
without_pins references cache = fold (λ c r. without_pin r c) cache references

-- the walk goes on: it has pinned more, and no other clean content is changed
pub record GoesOn (before after : Walk) (old new : Cache) : Type 0 where
  pub more : List BlobRef
  pub root : after.root ≡ before.root
  pub asked : after.asked ≡ before.asked
  pub path : after.path ≡ before.path
  pub pinned : after.pinned ≡ before.pinned ++ more
  pub cache : new ≡ with_pins more old

-- the content is clean in this cache, and the walk has pinned it
abbrev pub IsPassed : Walk → Cache → BlobRef → Type 0
IsPassed w cache reference = IsSome (clean_at reference cache) × Contains w.pinned reference

-- what an advance of a walk in this store tells: at the end what is found, all needs being passed;
-- before, the first need that isn't clean, those before it being passed
abbrev pub TellsNext : Hash → Store → Walk → Cache → Advance → Type 0
TellsNext hash st w cache (Done found) = (found ≡ own_walk st w.asked w.path)
    × ((reference : BlobRef) → Contains (own_needs hash st w.asked w.path) reference
    → IsPassed w cache reference)
TellsNext hash st w cache (Needs reference) =
    (before : List BlobRef) × (behind : List BlobRef)
    × (own_needs hash st w.asked w.path ≡ before ++ reference ∷ behind)
    × ((passed : BlobRef) → Contains before passed → IsPassed w cache passed)
    × (clean_at reference cache ≡ None)

-- and all that it pins more are needs that are clean
pub record Tells (hash : Hash) (st : Store) (old new : Walk)
    (cache : Cache) (told : Advance) : Type 0 where
  pub next : TellsNext hash st new cache told
  pub pins : (reference : BlobRef) → Contains new.pinned reference
      → Contains old.pinned reference
      ⊎ (Contains (own_needs hash st old.asked old.path) reference
      × IsSome (clean_at reference cache))
