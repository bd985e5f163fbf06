-- Where a store keeps a job, no link stands on the way.
use Rattle.std.proofs.Common.{◌≡◌, ◌∙◌, ℕ, [], ◌∷◌, ◌++◌, false, refl, sym, ap, ap₂, subst}
use Rattle.std.specs.Prelude.{codes}
use Rattle.job_deeds.specs.kvs_model.Operation.{is_link}
use Rattle.job_deeds.specs.kvs_model.Store.{Name, Path, Store, IsStore, node_at}
use Rattle.job_deeds.specs.manager_rules.Keys.{job_path, value_at}
use Rattle.job_deeds.specs.store_laws.Reserved.{HasNoLink}
use Rattle.job_commands.specs.declared.ask.Key.{Key}
use Rattle.job_commands.specs.declared.ask.Key.TheVariants as key
use Rattle.job_replies.specs.Jobs.{key_by}
use Rattle.job_manager.specs.Managed.{IsManaged}
use Rattle.job_manager.specs.Value.{ManagerValue}
use Rattle.kvs_core.specs.Posted.{newest_of}
use Rattle.job_deeds.specs.kvs_model.OneStore.{own_walk}
use Rattle.job_deeds.specs.kvs_txn.declared.answers.Found.{Found}
use Rattle.job_deeds.specs.kvs_txn.declared.answers.Query.TheVariants as query
use Rattle.job_replies.proofs.Reading.{AreUnlinked, read-there, text_in}

below-job : (st : Store) → IsStore st → HasNoLink st (codes "job" ∷ []) → (rest : Path) → AreUnlinked st [] (codes "job" ∷ rest)
below-job st s plain rest [] behind e = ap is_link s.rooted
below-job st s plain rest (name ∷ before) behind e = subst (λ n. is_link (node_at st (n ∷ before)) ≡ false) (first_same e) (plain (codes "job" ∷ before) refl)
  where
    first_same : {x y : Name} {xs ys : Path} → x ∷ xs ≡ y ∷ ys → x ≡ y
    first_same e = cc

-- a key of a job lies below `job`
key-unlinked : (st : Store) → IsStore st → HasNoLink st (codes "job" ∷ []) → (id : ℕ) (name : Name) → AreUnlinked st [] (job_path id ++ name ∷ [])
unfolding job_path
key-unlinked st s plain id name = below-job st s plain _

pub keys-unlinked : (st : Store) → IsStore st → HasNoLink st (codes "job" ∷ []) → (k : Key) (id : ℕ) → AreUnlinked st [] (key_by k id)
keys-unlinked st s plain key.Jobspec id = key-unlinked st s plain id (codes "jobspec")
keys-unlinked st s plain key.R id = key-unlinked st s plain id (codes "R")
keys-unlinked st s plain key.Eventlog id = key-unlinked st s plain id (codes "eventlog")

-- what a reader finds in the newest store under a key of a job is what stands there
pub newest-text : (manager : ManagerValue) → IsManaged manager → (k : Key) (id : ℕ) (path : Path) (st : Store) (found : Found) → path ≡ key_by k id → st ≡ newest_of manager.core → own_walk st query.Get path ≡ found →
    value_at (newest_of manager.core) (key_by k id) ≡ text_in found
newest-text manager m k id path st found at is read =
    sym (read-there (newest_of manager.core) m.store (key_by k id) (keys-unlinked (newest_of manager.core) m.store m.jobs.plain k id))
    ∙ ap text_in (ap₂ (λ s p. own_walk s query.Get p) (sym is) (sym at) ∙ read)
