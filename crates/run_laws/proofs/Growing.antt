-- A landing whose transactions of the manager are due only adds to the logs of jobs, at their end.
use Rattle.std.proofs.Common.{◌≡◌, ℕ, ◌<◌, ◌^◌, List, [], ◌∷◌, ◌++◌, Option, Some, None, Result, Ok, Err, refl, sym, ap, subst, append-nil, append_assoc}
use Rattle.std.specs.Prelude.{Contains, IfSome, option_and_then}
use Rattle.event_log.specs.declared.event.Event.{Event}
use Rattle.job_rules.proofs.Among.{among_from, each_at}
use Rattle.job_rules.specs.Fits.{AreWithin}
use Rattle.kvs_model.specs.History.{after_groups, landed_on}
use Rattle.kvs_model.specs.Operation.{effect}
use Rattle.kvs_model.specs.Store.{IsStore, Store}
use Rattle.kvs_txn.specs.declared.answers.Refusal.{Refusal}
use Rattle.kvs_txn.specs.declared.txn.Author.{Author}
use Rattle.kvs_txn.specs.declared.txn.Author.TheVariants as author
use Rattle.kvs_txn.specs.declared.txn.Group.{Group}
use Rattle.kvs_txn.specs.declared.txn.Scope.TheVariants as scope
use Rattle.resource_set.specs.Units.{AreHosts}
use Rattle.resource_set.specs.declared.node.Resources.{Resources}
use Rattle.store_laws.specs.Reserved.{IsUserAuthor}
use Rattle.manager_rules.specs.Jobs.{AreJobsOf, IsLogged, StoredJob}
use Rattle.manager_rules.specs.Posts.{Desk, Does, IsDesk, IsDuePost, Post, Submits, txn_of}
use Rattle.manager_rules.specs.Sound.{IsSound, IsSoundStore}
use Rattle.manager_rules.proofs.Others.{events_add, submissions_leave_logs, users_leave_logs}
use Rattle.manager_rules.proofs.Soundness.{jobs_within}
use Rattle.manager_rules.proofs.Unique.{jobs_are_one}
use Rattle.instance_rules.specs.Desks.{AreDueFrom, IsDueFor}
use Rattle.instance_rules.specs.Log.{Instance, IsInstance, Log, now_of}
use Rattle.instance_rules.proofs.Sounds.{desk_kept, groups_keep, store_after_group}

-- the new store keeps the log of the job, with further events behind it
abbrev pub Grows : Store → ℕ → List Event → Type 0
Grows new id log = (further : List Event) × IsLogged new id (log ++ further)

pub unchanged : (new : Store) (id : ℕ) (log : List Event) → IsLogged new id log → Grows new id log
unchanged new id log l = ([], subst (IsLogged new id) (sym (append-nil log)) l)

module _ (inst : Instance) (valid : IsInstance inst) (log : Log) (timed : now_of inst log < 2 ^ 64) (id : ℕ) (small : id < 2 ^ 64) where
  hosts : (d : Desk) (st : Store) → IsSound inst.grant.nodes d.scene.jobs → (j : StoredJob) → Contains d.scene.jobs j → IfSome j.r (λ r. AreHosts r.nodes)
  hosts d st sound j known = of j.r (each_at (λ k. IfSome k.r (λ r. AreWithin r.nodes inst.grant.nodes)) d.scene.jobs j (jobs_within inst.grant.nodes d.scene.jobs sound.apart.within) (among_from d.scene.jobs j known))
    where
      of : (o : Option Resources) → IfSome o (λ r. AreWithin r.nodes inst.grant.nodes) → IfSome o (λ r. AreHosts r.nodes)
      of None h = tt
      of (Some r) h = h.hosts

  post_grows : (st new : Store) (d : Desk) → IsStore st → IsSoundStore inst.grant.nodes st → IsDesk d → AreJobsOf st d.scene.jobs → (post : Post) → IsDuePost d post
      → effect st (txn_of post) scope.Primary ≡ Ok new → (events : List Event) → IsLogged st id events → Grows new id events
  post_grows st new d is h desk are (Submits x) due e events l = unchanged new id events (submissions_leave_logs d.scene d.birth d.submits x due st new is are e id events small l)
  post_grows st new d is h desk are (Does y) due e events l =
      let sound : IsSound inst.grant.nodes d.scene.jobs = subst (IsSound inst.grant.nodes) (jobs_are_one st h.jobs d.scene.jobs h.are are) h.sound in
      events_add d.scene desk.scene st new is are due.j due.known due.deed due.may (hosts d st sound due.j due.known) (subst (λ z. effect st (txn_of (Does z)) scope.Primary ≡ Ok new) due.is e) id events small l

  group_grows : (st new : Store) (group : Group) (who : Author) → group.txn.author ≡ who → IsStore st → IsSoundStore inst.grant.nodes st → IsDueFor inst log st group who
      → effect st group.txn scope.Primary ≡ Ok new → (events : List Event) → IsLogged st id events → Grows new id events
  group_grows st new group author.Manager by is h due e events l =
      post_grows st new due.desk is h (desk_kept inst valid log timed st due.desk due.is) due.is.jobs due.post due.due (subst (λ t. effect st t scope.Primary ≡ Ok new) due.txn e) events l
  group_grows st new group (author.User user) by is h due e events l = unchanged new id events (users_leave_logs st new group.txn id events (subst IsUserAuthor (sym by) tt) e l)

  -- a lone transaction that is due
  alone : (st mid : Store) (group : Group) → IsDueFor inst log st group group.txn.author → effect st group.txn scope.Primary ≡ Ok mid
      → AreDueFrom inst log (group ∷ []) st × (after_groups scope.Primary (group ∷ []) st ≡ Some mid)
  alone st mid group due e = ((due, subst (λ r. IfSome (landed_on r) (AreDueFrom inst log [])) (sym e) tt), ap (λ r. option_and_then (λ x. Some x) (landed_on r)) e)

  pub groups_grow : (groups : List Group) (st new : Store) → IsStore st → IsSoundStore inst.grant.nodes st → AreDueFrom inst log groups st → after_groups scope.Primary groups st ≡ Some new
      → (events : List Event) → IsLogged st id events → Grows new id events
  groups_grow [] st new is h due e events l = let same : st ≡ new = cc in unchanged new id events (subst (λ x. IsLogged x id events) same l)
  groups_grow (group ∷ groups) st new is h due e events l = by (effect st group.txn scope.Primary) refl (λ mid is2 h2 due2 e2 more l2. groups_grow groups mid new is2 h2 due2 e2 more l2) due.1 e
    where
      joined : (mid : Store) (one : Grows mid id events) → Grows new id (events ++ one.0) → Grows new id events
      joined mid one two = (one.0 ++ two.0, subst (IsLogged new id) (append_assoc events one.0 two.0) two.1)

      by : (r : Result Store Refusal) → effect st group.txn scope.Primary ≡ r
          → ((mid : Store) → IsStore mid → IsSoundStore inst.grant.nodes mid → AreDueFrom inst log groups mid → after_groups scope.Primary groups mid ≡ Some new → (more : List Event) → IsLogged mid id more → Grows new id more)
          → IfSome (landed_on r) (AreDueFrom inst log groups) → option_and_then (λ mid. after_groups scope.Primary groups mid) (landed_on r) ≡ Some new → Grows new id events
      by (Ok mid) made again later e =
          let one = group_grows st mid group group.txn.author refl is h due.0 made events l in
          let lone = alone st mid group due.0 made in
          let is2 = store_after_group inst valid log timed st mid group is made in
          let h2 = groups_keep inst valid log timed (group ∷ []) st mid is h lone.0 lone.1 in
          joined mid one (again mid is2 h2 later e (events ++ one.0) one.1)
      by (Err why) made again later e = cc
