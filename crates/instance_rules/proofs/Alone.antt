-- Landings whose transactions are due leave nothing but jobs below `job`.
use Rattle.std.proofs.Common.{◌≡◌, ◌<◌, ◌^◌, List, [], ◌∷◌, Some, Result, Ok, Err, refl, sym, subst}
use Rattle.std.specs.Prelude.{IfSome, option_and_then}
use Rattle.job_rules.specs.Fits.{IsGrant}
use Rattle.kvs_model.specs.History.{after_groups, landed_on}
use Rattle.kvs_model.specs.Operation.{effect}
use Rattle.kvs_model.specs.Store.{IsStore, Store}
use Rattle.kvs_txn.specs.declared.answers.Refusal.{Refusal}
use Rattle.kvs_txn.specs.declared.txn.Author.{Author}
use Rattle.kvs_txn.specs.declared.txn.Author.TheVariants as author
use Rattle.kvs_txn.specs.declared.txn.Group.{Group}
use Rattle.kvs_txn.specs.declared.txn.Scope.TheVariants as scope
use Rattle.resource_set.specs.declared.node.Resources.{Resources}
use Rattle.store_laws.specs.Reserved.{IsUserAuthor}
use Rattle.manager_rules.specs.Jobs.{HasOnlyJobs, ids_of}
use Rattle.manager_rules.specs.Sound.{IsSoundStore}
use Rattle.manager_rules.proofs.Posting.{posts_keep_alone, users_keep_alone}
use Rattle.instance_rules.specs.Desks.{AreDueFrom, IsDueAt, IsDueFor}
use Rattle.instance_rules.specs.Log.{Instance, IsInstance, Log, now_of}
use Rattle.instance_rules.proofs.Sounds.{desk_kept, store_after_group}

record HasAlone (grant : Resources) (st : Store) : Type 0 where
  sound : IsSoundStore grant.nodes st
  only : HasOnlyJobs st (ids_of sound.jobs)

module _ (inst : Instance) (valid : IsInstance inst) (log : Log) (timed : now_of inst log < 2 ^ 64) where
  due_keeps : (st new : Store) (group : Group) → IsStore st → HasAlone inst.grant st → IsDueAt inst log st group → effect st group.txn scope.Primary ≡ Ok new → HasAlone inst.grant new
  due_keeps st new group is h due e =
      let here = subst (λ g. HasAlone g st) (sym due.is.grant) h in
      let k = posts_keep_alone due.desk (desk_kept inst valid log timed st due.desk due.is) (subst (λ g. IsGrant g.nodes) (sym due.is.grant) valid.grant) st new is due.is.jobs here.sound here.only
      due.post due.due (subst (λ t. effect st t scope.Primary ≡ Ok new) due.txn e) in
      subst (λ g. HasAlone g new) due.is.grant (record { sound = k.0; only = k.1 })

  group_keeps : (st new : Store) (group : Group) (who : Author) → group.txn.author ≡ who → IsStore st → HasAlone inst.grant st → IsDueFor inst log st group who → effect st group.txn scope.Primary ≡ Ok new → HasAlone inst.grant new
  group_keeps st new group author.Manager by is h due e = due_keeps st new group is h due e
  group_keeps st new group (author.User id) by is h due e =
      let k = users_keep_alone inst.grant.nodes st new group.txn (subst IsUserAuthor (sym by) tt) e h.sound h.only in
      record { sound = k.0; only = k.1 }

  groups_keep : (groups : List Group) (st new : Store) → IsStore st → HasAlone inst.grant st → AreDueFrom inst log groups st → after_groups scope.Primary groups st ≡ Some new → HasAlone inst.grant new
  groups_keep [] st new is h due e = let same : st ≡ new = cc in subst (HasAlone inst.grant) same h
  groups_keep (group ∷ groups) st new is h due e = by (effect st group.txn scope.Primary) refl (λ mid is2 h2 due2 e2. groups_keep groups mid new is2 h2 due2 e2) due.1 e
    where
      by : (r : Result Store Refusal) → effect st group.txn scope.Primary ≡ r
          → ((mid : Store) → IsStore mid → HasAlone inst.grant mid → AreDueFrom inst log groups mid → after_groups scope.Primary groups mid ≡ Some new → HasAlone inst.grant new)
          → IfSome (landed_on r) (AreDueFrom inst log groups) → option_and_then (λ mid. after_groups scope.Primary groups mid) (landed_on r) ≡ Some new → HasAlone inst.grant new
      by (Ok mid) made more later e = more mid (store_after_group inst valid log timed st mid group is made) (group_keeps st mid group group.txn.author refl is h due.0 made) later e
      by (Err why) made more later e = cc

  pub groups_keep_alone : (groups : List Group) (st new : Store) → IsStore st → (h : IsSoundStore inst.grant.nodes st) → HasOnlyJobs st (ids_of h.jobs) → AreDueFrom inst log groups st → after_groups scope.Primary groups st ≡ Some new
      → (k : IsSoundStore inst.grant.nodes new) × HasOnlyJobs new (ids_of k.jobs)
  groups_keep_alone groups st new is h only due e = let k = groups_keep groups st new is (record { sound = h; only = only }) due e in (k.sound, k.only)
