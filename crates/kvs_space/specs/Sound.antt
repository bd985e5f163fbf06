-- What holds of a namespace between the calls.
use Rattle.std.specs.Prelude.{◌≡◌, ℕ, ◌<◌, ◌⊎◌, IsTrue, List, [], Some, false, length, slice_index, slice_index_or}
use Rattle.std.specs.List.{AllByRecursion as Each}
use Rattle.fence_merge.specs.Fences.{AreFences}
use Rattle.fence_merge.specs.Merging.{MergerValue}
use Rattle.kvs_rules.specs.Landings.{IsUser}
use Rattle.kvs_txn.specs.declared.txn.Group.{Group}
use Rattle.kvs_txn.specs.declared.txn.Scope.{Scope}
use Rattle.kvs_model.specs.Store.{Name, Store}
use Rattle.kvs_model.specs.History.{after}
use Rattle.kvs_rules.specs.Namespaces.{is_primary, scope_of}
use Rattle.store_laws.specs.Posts.{AreTaken, posts_in}
use Rattle.kvs_space.specs.Links.{IsAnnounced}
use Rattle.kvs_space.specs.Space.{SpaceValue, seen, begun, roots_of, members_in}

-- each broker has the store after the landings that it has heard
pub record AreReplicas (scope : Scope) (first : Store)
    (history : List (List Group)) (known : List ℕ) (stores : List Store) : Type 0 where
  pub same_len : length stores ≡ length known
  pub each : (b : ℕ) → b < length known → after scope history
      (seen (slice_index known b) (length history)) first ≡ Some (slice_index_or stores b [])

-- the manager's transactions wait in `primary` alone, where each takes effect on rank 0's store,
-- whatever users' come between
abbrev pub ArePosted : Name → List Group → Store → Type 0
ArePosted name ready st = (IsTrue (is_primary name) × AreTaken (posts_in ready) st)
    ⊎ ((is_primary name ≡ false) × (posts_in ready ≡ []))

-- a namespace that nothing waits to land in
abbrev pub idle : MergerValue
idle = record { fences = []; ready = [] }

-- the namespace is live, or it is another than `primary` and nothing waits in it
abbrev pub IsLiveOrGone : SpaceValue → Type 0
IsLiveOrGone s = (s.removed ≡ false) ⊎ (is_primary s.name ≡ false) × (s.merger ≡ idle)

-- a namespace of a core that isn't spent
pub record IsSoundSpace (fanout : ℕ) (grant : List ℕ) (s : SpaceValue) : Type 0 where
  pub some : 0 < length s.known
  pub announced : IsAnnounced fanout s.known s.links
  pub newest : slice_index s.known 0 ≡ roots_of s
  pub replicas : AreReplicas (scope_of s.name) (begun grant s.name) s.history s.known s.stores
  pub living : IsLiveOrGone s
  pub fences : AreFences s.merger.fences
  pub members : Each (λ m. IsUser m.txn.author) (members_in s.merger.fences)
  pub posts : ArePosted s.name s.merger.ready (slice_index_or s.stores 0 [])
