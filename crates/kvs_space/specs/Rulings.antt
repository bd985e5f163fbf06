-- What rank 0 makes of what is ready in a namespace, and what a broker hears of it.
use Rattle.std.specs.Prelude.{◌≡◌, ◌≢◌, ℕ, ◌+◌, List, [], ◌∷◌, ◌++◌, true, false, Option, Some, None, Ok, Err, slice_index, slice_index_or, slice_set}
use Rattle.kvs_txn.specs.declared.txn.Group.{Group}
use Rattle.kvs_txn.specs.declared.txn.Scope.{Scope}
use Rattle.kvs_txn.specs.declared.answers.Refusal.{Refusal}
use Rattle.kvs_model.specs.Store.{Store}
use Rattle.kvs_model.specs.History.{after_groups}
use Rattle.kvs_model.specs.Operation.{effect}
use Rattle.fence_merge.specs.Merging.{MergerValue}
use Rattle.kvs_rules.specs.Namespaces.{scope_of}
use Rattle.kvs_rules.specs.Landings.{IsUser}
use Rattle.kvs_space.specs.Links.{IsNext}
use Rattle.kvs_space.specs.Space.{SpaceValue}
use Rattle.kvs_space.specs.Sound.{idle}
use Rattle.kvs_space.specs.declared.space.Ruling.{Ruling}
use Rattle.kvs_space.specs.declared.space.Ruling.TheVariants as ruling

-- the first of these groups made this store of that one, or was refused and left it
abbrev pub IsOfFirst : Scope → List Group → Store → Store → Option Refusal → Type 0
IsOfFirst scope [] old new refusal = ⊥
IsOfFirst scope (group ∷ rest) old new None = effect old group.txn scope ≡ Ok new
IsOfFirst scope (group ∷ rest) old new (Some refusal) =
    (effect old group.txn scope ≡ Err refusal) × (new ≡ old)

-- the first of these groups is refused
abbrev pub IsFirstRefused : Scope → List Group → Store → Refusal → Type 0
IsFirstRefused scope [] st refusal = ⊥
IsFirstRefused scope (group ∷ rest) st refusal = effect st group.txn scope ≡ Err refusal

-- why no more groups were taken: no more are ready, or the next is refused
abbrev pub IsStopped : Scope → List Group → Store → Option Refusal → Type 0
IsStopped scope rest st None = rest ≡ []
IsStopped scope rest st (Some refusal) = IsFirstRefused scope rest st refusal

-- these groups were taken from the front of those that were ready, and took effect
pub record HasTaken (scope : Scope) (old new : MergerValue)
    (before after : Store) (groups : List Group) (refusal : Option Refusal) : Type 0 where
  pub queue : old.ready ≡ groups ++ new.ready
  pub fences : new.fences ≡ old.fences
  pub made : after_groups scope groups before ≡ Some after
  pub stopped : IsStopped scope new.ready after refusal

-- the groups landed under the next number, and rank 0 has heard it
pub record IsLanding (number : ℕ) (groups : List Group) (old new : SpaceValue) : Type 0 where
  pub name : new.name ≡ old.name
  pub removed : new.removed ≡ old.removed
  pub some : groups ≢ []
  pub next : number ≡ slice_index old.known 0
  pub queue : old.merger.ready ≡ groups ++ new.merger.ready
  pub fences : new.merger.fences ≡ old.merger.fences
  pub made : (st : Store)
      × (after_groups (scope_of old.name) groups (slice_index_or old.stores 0 []) ≡ Some st)
  pub history : new.history ≡ old.history ++ groups ∷ []
  pub known : new.known ≡ slice_set old.known 0 (number + 1)

-- the namespace is removed under the next number, nothing waits in it any more, and rank 0 has
-- heard it
pub record IsRemoving (number : ℕ) (old new : SpaceValue) : Type 0 where
  pub name : new.name ≡ old.name
  pub was : old.removed ≡ false
  pub removed : new.removed ≡ true
  pub next : number ≡ slice_index old.known 0
  pub merger : new.merger ≡ idle
  pub history : new.history ≡ old.history
  pub known : new.known ≡ slice_set old.known 0 (number + 1)

-- the first group was refused, and is taken out
pub record IsRefusing (group : Group) (refusal : Refusal) (old new : SpaceValue) : Type 0 where
  pub name : new.name ≡ old.name
  pub removed : new.removed ≡ old.removed
  pub queue : old.merger.ready ≡ group ∷ new.merger.ready
  pub fences : new.merger.fences ≡ old.merger.fences
  pub user : IsUser group.txn.author
  pub refused : effect (slice_index_or old.stores 0 []) group.txn (scope_of old.name) ≡ Err refusal
  pub history : new.history ≡ old.history
  pub known : new.known ≡ old.known
  pub links : new.links ≡ old.links

-- rank 0 ruled so in the namespace
abbrev pub IsRuled : Ruling → SpaceValue → SpaceValue → Type 0
IsRuled (ruling.Landed number groups) old new = IsLanding number groups old new
IsRuled (ruling.Denied group refusal) old new = IsRefusing group refusal old new

-- the broker knew of so many roots, and knows of so many now
pub record IsHearing (fanout broker before after : ℕ) (old new : SpaceValue) : Type 0 where
  pub name : new.name ≡ old.name
  pub removed : new.removed ≡ old.removed
  pub was : before ≡ slice_index old.known broker
  pub next : IsNext fanout old.known broker after
  pub history : new.history ≡ old.history
  pub known : new.known ≡ slice_set old.known broker after
  pub merger : new.merger ≡ old.merger
