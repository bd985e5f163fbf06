-- What the blobs of an instance and the caches of its brokers hold at the end of a log.
use Rattle.std.specs.Prelude.{◌≡◌, ℕ, ◌<◌, ◌↔◌, List, IsTrue, IsSome, Option, Some}
use Rattle.fl_digest.specs.declared.BlobRef.{BlobRef}
use Rattle.fl_digest.specs.Reference.{reference_of}
use Rattle.kvs_model.specs.Store.{Name, Store}
use Rattle.tree_rules.specs.Held.{Holds, Table}
use Rattle.kvs_rules.specs.Brokers.{holds}
use Rattle.kvs_rules.specs.Log.{Log}
use Rattle.kvs_rules.specs.Namespaces.{Setting, store_after}

-- the table has the texts and the long values of the store after each landing in each namespace,
-- and what a broker has clean is exactly what it holds, each with bytes of its reference
pub record AreContentsOf (set : Setting) (log : Log) (table : Table)
    (clean : ℕ → BlobRef → Option (List ℕ)) : Type 0 where
  pub stores : (space : Name) (number : ℕ) (st : Store)
      → store_after set log space number ≡ Some st → Holds set.hash table st
  pub caches : (broker : ℕ) (reference : BlobRef) → broker < set.size
      → IsSome (clean broker reference) ↔ IsTrue (holds log broker reference)
  pub bytes : (broker : ℕ) (reference : BlobRef) (bytes : List ℕ) → broker < set.size
      → clean broker reference ≡ Some bytes → reference ≡ reference_of set.hash bytes
