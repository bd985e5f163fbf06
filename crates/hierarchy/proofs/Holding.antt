-- Along a legal chronicle of its own an instance leaves a job its resources while the job's child lives.
use Rattle.std.proofs.Common.{◌≡◌, ℕ, ◌<◌, ◌^◌, inl, inr, List, [], ◌∷◌, ◌++◌, Bool, true, ◌&&◌, Some, Result, Ok, Err, refl, sym, ap, ◌∙◌, subst}
use Rattle.std.specs.Prelude.{IfSome, option_and_then}
use Rattle.std.proofs.lemmas.Bool.{eq-eqb}
use Rattle.job_rules.proofs.Among.{among_from, any_at}
use Rattle.job_rules.specs.Fits.{IsGrant}
use Rattle.kvs_model.specs.History.{after_groups, landed_on}
use Rattle.kvs_model.specs.Operation.{effect}
use Rattle.kvs_model.specs.Store.{IsStore, Store}
use Rattle.kvs_rules.proofs.Sequences.{each_push}
use Rattle.kvs_txn.specs.declared.answers.Refusal.{Refusal}
use Rattle.kvs_txn.specs.declared.txn.Author.{Author}
use Rattle.kvs_txn.specs.declared.txn.Author.TheVariants as author
use Rattle.kvs_txn.specs.declared.txn.Group.{Group}
use Rattle.kvs_txn.specs.declared.txn.Scope.TheVariants as scope
use Rattle.resource_set.specs.declared.node.Resources.{Resources}
use Rattle.store_laws.specs.Reserved.{IsUserAuthor}
use Rattle.manager_rules.specs.declared.asked.Asked.TheVariants as asked
use Rattle.manager_rules.specs.Posts.{Desk}
use Rattle.manager_rules.specs.Scene.{has_child, has_living_child, is_child_of, is_living}
use Rattle.manager_rules.specs.Sound.{IsSoundStore}
use Rattle.instance_rules.specs.Desks.{AreDueFrom, IsDeskOf, IsDueFor}
use Rattle.instance_rules.specs.Legal.{IsSound}
use Rattle.instance_rules.specs.Log.{Instance, IsInstance, Log, child_of, now_of}
use Rattle.instance_rules.proofs.Sounds.{desk_kept, groups_keep, store_after_group}
use Rattle.answers.specs.Chronicle.{Setup}
use Rattle.answers.specs.Jobs.{instance_of, log_in, second_of}
use Rattle.answers.specs.Legal.{IsLegal, IsLegalEntry}
use Rattle.answers.specs.declared.chronicle.Entry.{Entry}
use Rattle.run_laws.specs.Jobs.{store_of}
use Rattle.resource_set.specs.Writing.{r_text}
use Rattle.run_laws.proofs.Moves.{entry_moves, stands}
use Rattle.run_laws.proofs.Newest.{same_one}
use Rattle.hierarchy.proofs.Units.{HoldsFor, post_holds, user_holds}

module _ (inst : Instance) (log : Log) (st : Store) (d : Desk) (is : IsDeskOf inst log st d) (id : ℕ) where
  -- what the log says of a child is on the desk
  pub child_asked : (living shut : Bool) → child_of log id ≡ Some (living, shut) → has_child d.scene.asked id ≡ true
  child_asked living shut child =
      any_at (is_child_of id) d.scene.asked (asked.Child id living shut) (among_from d.scene.asked (asked.Child id living shut) ((is.asked (asked.Child id living shut)).1 child)) (eq-eqb id id refl)

  pub living_asked : (shut : Bool) → child_of log id ≡ Some (true, shut) → has_living_child d.scene.asked id ≡ true
  living_asked shut child =
      any_at (λ a. is_child_of id a && is_living a) d.scene.asked (asked.Child id true shut) (among_from d.scene.asked (asked.Child id true shut) ((is.asked (asked.Child id true shut)).1 child)) (ap (λ b. b && true) (eq-eqb id id refl))

module _ (inst : Instance) (valid : IsInstance inst) (log : Log) (timed : now_of inst log < 2 ^ 64) (id : ℕ) (r : Resources) (shut : Bool) (child : child_of log id ≡ Some (true, shut)) where
  group_holds : (st new : Store) (group : Group) (who : Author) → group.txn.author ≡ who → IsStore st → IsSoundStore inst.grant.nodes st → IsDueFor inst log st group who
      → effect st group.txn scope.Primary ≡ Ok new → HoldsFor st id r → HoldsFor new id r
  group_holds st new group author.Manager by is h due e hold =
      let same = due.is.grant in
      post_holds due.desk (desk_kept inst valid log timed st due.desk due.is) (subst (λ g. IsGrant g.nodes) (sym same) valid.grant) st new is due.is.jobs
      (subst (λ g. IsSoundStore g.nodes st) (sym same) h) id r (living_asked inst log st due.desk due.is id shut child) hold
      due.post due.due (subst (λ t. effect st t scope.Primary ≡ Ok new) due.txn e)
  group_holds st new group (author.User user) by is h due e hold = user_holds st new group.txn id r (subst IsUserAuthor (sym by) tt) e hold

  -- a lone transaction that is due
  alone : (st mid : Store) (group : Group) → IsDueFor inst log st group group.txn.author → effect st group.txn scope.Primary ≡ Ok mid
      → AreDueFrom inst log (group ∷ []) st × (after_groups scope.Primary (group ∷ []) st ≡ Some mid)
  alone st mid group due e = ((due, subst (λ r. IfSome (landed_on r) (AreDueFrom inst log [])) (sym e) tt), ap (λ r. option_and_then (λ x. Some x) (landed_on r)) e)

  pub groups_hold : (groups : List Group) (st new : Store) → IsStore st → IsSoundStore inst.grant.nodes st → AreDueFrom inst log groups st → after_groups scope.Primary groups st ≡ Some new
      → HoldsFor st id r → HoldsFor new id r
  groups_hold [] st new is h due e hold = let same : st ≡ new = cc in subst (λ x. HoldsFor x id r) same hold
  groups_hold (group ∷ groups) st new is h due e hold = by (effect st group.txn scope.Primary) refl (λ mid is2 h2 due2 e2 hold2. groups_hold groups mid new is2 h2 due2 e2 hold2) due.1 e
    where
      by : (x : Result Store Refusal) → effect st group.txn scope.Primary ≡ x
          → ((mid : Store) → IsStore mid → IsSoundStore inst.grant.nodes mid → AreDueFrom inst log groups mid → after_groups scope.Primary groups mid ≡ Some new → HoldsFor mid id r → HoldsFor new id r)
          → IfSome (landed_on x) (AreDueFrom inst log groups) → option_and_then (λ mid. after_groups scope.Primary groups mid) (landed_on x) ≡ Some new → HoldsFor new id r
      by (Ok mid) made again later e =
          let one = group_holds st mid group group.txn.author refl is h due.0 made hold in
          let lone = alone st mid group due.0 made in
          let is2 = store_after_group inst valid log timed st mid group is made in
          let h2 = groups_keep inst valid log timed (group ∷ []) st mid is h lone.0 lone.1 in
          again mid is2 h2 later e one
      by (Err why) made again later e = cc

-- the job holds these resources in the newest store of the instance
pub record HoldsAt (set : Setup) (own : List Entry) (id : ℕ) (r : Resources) : Type 0 where
  pub store : Store
  pub standing : store_of set own ≡ Some store
  pub holds : HoldsFor store id r

module _ (set : Setup) (valid : IsInstance (instance_of set)) (own : List Entry) (e : Entry) (legal : IsLegal set own) (fits : IsLegalEntry set own e)
    (timed : second_of set own < 2 ^ 64) (sound : IsSound (instance_of set) (log_in set.work own))
    (id : ℕ) (r : Resources) (shut : Bool) (child : child_of (log_in set.work own) id ≡ Some (true, shut)) where
  -- it does so after one more entry
  pub entry_holds : HoldsAt set own id r → HoldsAt set (own ++ e ∷ []) id r
  entry_holds h =
      let s = stands set (r_text set.resources) valid.text own legal in
      let next = stands set (r_text set.resources) valid.text (own ++ e ∷ []) (each_push (IsLegalEntry set) own e legal fits) in
      let same : h.store ≡ s.store = same_one h.store s.store (sym h.standing ∙ s.standing) in
      let held : HoldsFor s.store id r = subst (λ x. HoldsFor x id r) same h.holds in
      record {
        store = next.store;
        standing = next.standing;
        holds = elim (entry_moves set (r_text set.resources) valid.text own legal e fits s.store next.store s.standing next.standing) [
          | inl one ↦ subst (λ x. HoldsFor x id r) (sym one) held
          | inr d ↦ groups_hold (instance_of set) valid (log_in set.work own) timed id r shut child d.groups s.store next.store s.is (sound s.store s.standing) d.due d.made held
        ];
      }
