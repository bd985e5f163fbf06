-- Transactions that are applied to the blobs of a store, one behind another.
use Rattle.std.specs.Prelude.{◌≡◌, ◌⊎◌, ℕ, List, [], ◌∷◌, ◌++◌, Some, Ok, IsTrue, Contains, length}
use Rattle.fl_digest.specs.declared.BlobRef.{BlobRef}
use Rattle.fl_digest.specs.declared.Hash.{Hash}
use Rattle.fl_digest.specs.Reference.{reference_of}
use Rattle.kvs_txn.specs.declared.txn.Group.{Group}
use Rattle.kvs_txn.specs.declared.txn.Scope.{Scope}
use Rattle.kvs_model.specs.Store.{Name, Store}
use Rattle.kvs_model.specs.History.{after, after_groups}
use Rattle.kvs_model.specs.Operation.{effect}
use Rattle.tree_rules.specs.Held.{IsRootOf, Keeps}
use Rattle.tree_rules.specs.Texts.{blobs}
use Rattle.tree_store.specs.Landing.{Leaves, table}
use Rattle.kvs_rules.specs.Brokers.{IsContent}
use Rattle.kvs_rules.specs.Log.{Log}
use Rattle.kvs_rules.specs.Namespaces.{Setting, begun_at, is_opened, landings, scope_of}

-- byte strings under their references
abbrev pub Blobs : Type 0
Blobs = List (BlobRef × List ℕ)

-- each of the transactions was applied behind those before it, from this root on
abbrev pub AreApplied : Hash → Scope → Blobs → BlobRef → List Group → Blobs → BlobRef → Type 0
AreApplied hash space before root [] after new = (before ≡ after) × (root ≡ new)
AreApplied hash space before root (group ∷ groups) after new = (between : Blobs) × (next : BlobRef)
    × ((st : Store) → IsRootOf hash (table before) root st
    → Leaves hash before between (effect st group.txn space) (Ok next))
    × AreApplied hash space between next groups after new

-- the bytes are a blob of the store behind the first ones of the transactions, under its reference
pub record IsOfStep (hash : Hash) (space : Scope) (groups : List Group)
    (st : Store) (reference : BlobRef) (bytes : List ℕ) : Type 0 where
  pub first : List Group
  pub rest : List Group
  pub split : groups ≡ first ++ rest
  pub store : Store
  pub made : after_groups space first st ≡ Some store
  pub among : Contains (blobs hash store) bytes
  pub named : reference ≡ reference_of hash bytes

-- the transactions take effect on the store, whose blobs are there besides those that were, and
-- nothing else but blobs of the stores between
pub record HasGrown (hash : Hash) (space : Scope) (before : Blobs)
    (groups : List Group) (after : Blobs) (new : BlobRef) (st : Store) : Type 0 where
  pub store : Store
  pub made : after_groups space groups st ≡ Some store
  pub rooted : IsRootOf hash (table after) new store
  pub kept : Keeps (table before) (table after)
  pub only : (reference : BlobRef) (bytes : List ℕ) → table after reference ≡ Some bytes
      → (table before reference ≡ Some bytes) ⊎ IsOfStep hash space groups st reference bytes

-- the store is the one behind all landings of a namespace in the log
pub record StandsLast (set : Setting) (log : Log) (space : Name) (st : Store) : Type 0 where
  pub opened : IsTrue (is_opened log space)
  pub made : after (scope_of space) (landings log space) (length (landings log space))
      (begun_at set space) ≡ Some st

-- each of the byte strings is a content of the instance, under its own reference
abbrev pub AreContents : Setting → Log → Blobs → Type 0
AreContents set log kept = (reference : BlobRef) (bytes : List ℕ)
    → table kept reference ≡ Some bytes
    → (reference ≡ reference_of set.hash bytes) × IsContent set log bytes
