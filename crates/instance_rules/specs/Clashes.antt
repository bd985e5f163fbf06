-- The clashes that an instance meets at a store that it needs next.
use Rattle.std.specs.Prelude.{◌≡◌, ◌⊎◌, [], List, ℕ, Ok, Some}
use Rattle.fl_digest.specs.declared.BlobRef.{BlobRef}
use Rattle.kvs_txn.specs.declared.txn.Author.TheVariants as author
use Rattle.kvs_txn.specs.declared.txn.Group.{Group}
use Rattle.kvs_txn.specs.declared.txn.Scope.TheVariants as scope
use Rattle.kvs_model.specs.Operation.{effect}
use Rattle.kvs_model.specs.Store.{Store}
use Rattle.kvs_rules.specs.Clashes.{IsClashWith, IsOpenedNext}
use Rattle.kvs_rules.specs.Namespaces.{newest_store, primary}
use Rattle.instance_rules.specs.Desks.{IsDueAt}
use Rattle.instance_rules.specs.Log.{Instance, Log, service_of}

-- the store that a transaction of the manager's makes which is due
pub record IsPostedNext (inst : Instance) (log : Log) (st : Store) : Type 0 where
  pub now : Store
  pub standing : newest_store inst.service (service_of log) primary ≡ Some now
  pub group : Group
  pub manager : group.txn.author ≡ author.Manager
  pub due : IsDueAt inst log now group
  pub made : effect now group.txn scope.Primary ≡ Ok st

-- a store that is needed next: of a post, of a namespace that is to be opened, or the first of all
abbrev pub IsNeededNext : Instance → Log → Store → Type 0
IsNeededNext inst log st = IsPostedNext inst log st ⊎ IsOpenedNext inst.service (service_of log) st
    ⊎ ((log ≡ []) × (st ≡ inst.service.base.store))

-- a store that is needed next meets a clash
pub record IsClashIn (inst : Instance) (log : Log)
    (reference : BlobRef) (kept offered : List ℕ) : Type 0 where
  pub st : Store
  pub needed : IsNeededNext inst log st
  pub clash : IsClashWith inst.service (service_of log) st reference kept offered
