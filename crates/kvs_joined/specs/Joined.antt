-- What joins the requests of a key-value service and its contents.
use Rattle.std.specs.Prelude.{◌≡◌, ◌≢◌, ℕ, suc, ◌<◌, ◌==◌, ◌^◌, IsTrue, List, Some, true, length, slice_get, slice_index_or, sum_by, if◌then◌else◌}
use Rattle.std.specs.List.{All, list_any}
use Rattle.fl_digest.specs.declared.BlobRef.{BlobRef}
use Rattle.fl_digest.specs.declared.Hash.{Hash}
use Rattle.kvs_txn.specs.declared.txn.By.{By}
use Rattle.kvs_txn.specs.declared.txn.Group.{Group}
use Rattle.kvs_txn.specs.declared.txn.Scope.{Scope}
use Rattle.kvs_model.specs.Store.{Name, Store}
use Rattle.kvs_model.specs.History.{after}
use Rattle.cache_node.specs.Cache.{Cache}
use Rattle.content_fetches.specs.Fetches.{is_fetch_of}
use Rattle.content_fetches.specs.declared.fetches.Fetch.{Fetch}
use Rattle.kvs_rules.specs.Log.{Log}
use Rattle.kvs_rules.specs.Namespaces.{Setting, begun_at, first_number, is_opened, landings, scope_of}
use Rattle.tree_rules.specs.Held.{IsRootOf, Table}
use Rattle.tree_walk.specs.Pins.{IsOnce}
use Rattle.tree_walk.specs.Walks.{Walk}
use Rattle.walk_pins.specs.Pins.{pins_at, times}

-- what rank 0 keeps of a namespace: its first store, its landings, and the root after so many of
-- them, by number
pub record RootedSpace : Type 0 where
  pub scope : Scope
  pub first : Store
  pub history : List (List Group)
  pub roots : List BlobRef

-- there is a root of each number, and the table holds under it the store after so many landings
pub record AreRooted (hash : Hash) (table : Table) (s : RootedSpace) : Type 0 where
  pub same_len : length s.roots ≡ suc (length s.history)
  pub each : (number : ℕ) (d : BlobRef) → number < length s.roots
      → (st : Store) × (after s.scope s.history number s.first ≡ Some st)
      × IsRootOf hash table (slice_index_or s.roots number d) st

-- it is the namespace of this name, as the log has it, whose numbers begin at 0
pub record IsSpaceOf (set : Setting) (log : Log) (name : Name) (s : RootedSpace) : Type 0 where
  pub opened : IsTrue (is_opened log name)
  pub begins : first_number set name ≡ 0
  pub scope : s.scope ≡ scope_of name
  pub first : s.first ≡ begun_at set name
  pub history : s.history ≡ landings log name

-- an open walk of a command at its broker, in the store of this number of the namespace of this
-- place in the table, and the content that it waits for
pub record OpenWalk : Type 0 where
  pub by : By
  pub broker : ℕ
  pub space : ℕ
  pub number : ℕ
  pub walk : Walk
  pub waits : BlobRef

-- a walk is open at a broker below rank 0, from the root of its number; it has pinned each content
-- once, and its broker asks for the one that it waits for
pub record IsFit (size : ℕ) (spaces : List RootedSpace) (fetches : List Fetch)
    (w : OpenWalk) : Type 0 where
  pub below : 0 < w.broker
  pub within : w.broker < size
  pub placed : w.space < length spaces
  pub root : (d : RootedSpace)
      → slice_get (slice_index_or spaces w.space d).roots w.number ≡ Some w.walk.root
  pub once : IsOnce w.walk.pinned
  pub asked : list_any (is_fetch_of w.broker w.waits) fetches ≡ true

-- so it is of all
abbrev pub AreFit : ℕ → List RootedSpace → List Fetch → List OpenWalk → Type 0
AreFit size spaces fetches walks = (k : ℕ) (d : OpenWalk) → k < length walks
    → IsFit size spaces fetches (slice_index_or walks k d)

-- how often a walk has pinned a content at a broker
abbrev pub pinned_by : ℕ → BlobRef → OpenWalk → ℕ
pinned_by broker reference w =
    if w.broker == broker then times reference w.walk.pinned else 0

-- the pins of each content at each broker are those of the open walks there, and these are few
pub record ArePinned (nodes : ℕ → Cache) (size : ℕ) (walks : List OpenWalk) : Type 0 where
  pub counts : (broker : ℕ) (reference : BlobRef) → broker < size
      → pins_at reference (nodes broker) ≡ sum_by (pinned_by broker reference) walks
  pub few : length walks < 2 ^ 32

-- each walk has pinned each content once
abbrev pub ArePinnedOnce : List OpenWalk → Type 0
ArePinnedOnce walks = All (λ w. IsOnce w.walk.pinned) walks

-- no cache is changed but that of this broker
abbrev pub OthersStay : ℕ → (ℕ → Cache) → (ℕ → Cache) → Type 0
OthersStay broker before later = (other : ℕ) → other ≢ broker → later other ≡ before other
