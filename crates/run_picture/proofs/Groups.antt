-- What transactions that land make of the rows.
use Rattle.std.proofs.Common.{◌≡◌, ℕ, ◌<◌, ◌^◌, List, [], ◌∷◌, Option, Some, None, Result, Ok, Err, refl, sym, ap, subst}
use Rattle.std.specs.Prelude.{Contains, IfSome, option_and_then}
use Rattle.event_log.specs.Events.{IsEvent}
use Rattle.job_rules.proofs.Among.{among_from, each_at}
use Rattle.job_rules.specs.Fits.{AreWithin}
use Rattle.kvs_model.specs.History.{after_groups, landed_on}
use Rattle.kvs_model.specs.Operation.{effect}
use Rattle.kvs_model.specs.Store.{Store}
use Rattle.kvs_txn.specs.declared.answers.Refusal.{Refusal}
use Rattle.kvs_txn.specs.declared.txn.Author.TheVariants as author
use Rattle.kvs_txn.specs.declared.txn.Group.{Group}
use Rattle.kvs_txn.specs.declared.txn.Scope.TheVariants as scope
use Rattle.resource_set.specs.Units.{AreHosts}
use Rattle.resource_set.specs.declared.node.Resources.{Resources}
use Rattle.store_laws.specs.Reserved.{IsUserAuthor}
use Rattle.manager_rules.specs.Jobs.{AreJobsOf, IsStored, StoredJob}
use Rattle.manager_rules.specs.Posts.{Desk, Does, IsDesk, IsDuePost, IsOpenSubmit, Post, Submits, jobs_after, ops_of, txn_of}
use Rattle.manager_rules.specs.Sound.{IsSound, IsSoundStore}
use Rattle.manager_rules.proofs.Allowed.{writes}
use Rattle.manager_rules.proofs.Posting.{posts_land}
use Rattle.manager_rules.proofs.Soundness.{jobs_within}
use Rattle.manager_rules.proofs.Stores.{users_leave_jobs}
use Rattle.manager_rules.proofs.Submitting.{submit_writes}
use Rattle.manager_rules.proofs.Unique.{jobs_are_one}
use Rattle.instance_rules.specs.Desks.{AreDueFrom, IsDueAt, IsDueFor}
use Rattle.instance_rules.specs.Log.{Instance, Log}
use Rattle.instance_rules.proofs.Sounds.{desk_kept, groups_keep, store_after_group}
use Rattle.run_picture.specs.Follows.{IsReady, KeepGroup, KeepGroups, KeepStore}
use Rattle.run_picture.specs.Rows.{AreRowsOf, IsReadable}
use Rattle.run_picture.specs.declared.jobs.JobRow.{JobRow}

-- what a due post writes is read again
module _ (d : Desk) (st : Store) (are : AreJobsOf st d.scene.jobs) (desk : IsDesk d) (sound : IsSound d.scene.grant.nodes d.scene.jobs) where
  hosts : (j : StoredJob) → Contains d.scene.jobs j → IfSome j.r (λ r. AreHosts r.nodes)
  hosts j known = of j.r (each_at (λ k. IfSome k.r (λ r. AreWithin r.nodes d.scene.grant.nodes)) d.scene.jobs j (jobs_within d.scene.grant.nodes d.scene.jobs sound.apart.within) (among_from d.scene.jobs j known))
    where
      of : (o : Option Resources) → IfSome o (λ r. AreWithin r.nodes d.scene.grant.nodes) → IfSome o (λ r. AreHosts r.nodes)
      of None h = tt
      of (Some r) h = h.hosts

  readable : (post : Post) → IsDuePost d post → IsReadable post d.scene.jobs
  readable (Submits x) due =
      let open_ = each_at IsOpenSubmit d.submits due.from desk.submits (among_from d.submits due.from due.waits) in
      (are.rising, due.small, subst IsEvent (sym due.event) (submit_writes due.from open_ d.scene.now desk.scene.now).event_is, due.new)
  readable (Does due) is =
      let stored = each_at (IsStored st) d.scene.jobs is.j are.stored (among_from d.scene.jobs is.j is.known) in (
        are.rising,
        subst (λ x. x.job < 2 ^ 64) (sym is.is) stored.small,
        subst (λ x. IsEvent x.event) (sym is.is) (writes d.scene is.j is.deed desk.scene (hosts is.j is.known) is.may).event_is,
      )

module _ (inst : Instance) (log : Log) (st next : Store) (ready : IsReady inst log st) where
  -- a user's transaction leaves the jobs
  pub users_keep : (rows : List JobRow) (group : Group) (id : ℕ) → group.txn.author ≡ author.User id → effect st group.txn scope.Primary ≡ Ok next → KeepStore rows st → KeepStore rows next
  users_keep rows group id by made keeps jobs are =
      let before = ready.sound in
      let left = users_leave_jobs st next group.txn before.jobs (subst IsUserAuthor (sym by) tt) made before.are in
      subst (AreRowsOf rows) (jobs_are_one next before.jobs jobs left are) (keeps before.jobs before.are)

  due_keeps : (old new : List JobRow) (group : Group) → IsDueAt inst log st group → effect st group.txn scope.Primary ≡ Ok next
      → ((post : Post) (jobs : List StoredJob) → group.txn.ops ≡ ops_of post → IsReadable post jobs → AreRowsOf old jobs → AreRowsOf new (jobs_after post jobs))
      → KeepStore old st → KeepStore new next
  unfolding txn_of
  due_keeps old new group due made lands keeps jobs are =
      let d = due.desk in
      let same = due.is.grant in
      let desk = desk_kept inst ready.valid log ready.timed st d due.is in
      let all : IsSoundStore d.scene.grant.nodes st = subst (λ g. IsSoundStore g.nodes st) (sym same) ready.sound in
      let sound : IsSound d.scene.grant.nodes d.scene.jobs = subst (IsSound d.scene.grant.nodes) (jobs_are_one st all.jobs d.scene.jobs all.are due.is.jobs) all.sound in
      let grant = subst (λ g. Rattle.job_rules.specs.Fits.IsGrant g.nodes) (sym same) ready.valid.grant in
      let landed = posts_land d desk grant st next ready.store due.is.jobs all due.post due.due (subst (λ t. effect st t scope.Primary ≡ Ok next) due.txn made) in
      subst (AreRowsOf new) (jobs_are_one next (jobs_after due.post d.scene.jobs) jobs landed are)
      (lands due.post d.scene.jobs (ap (λ t. t.ops) due.txn) (readable d st due.is.jobs desk sound due.post due.due) (keeps d.scene.jobs due.is.jobs))

pub managers_keep : (old new : List JobRow) (group : Group) → group.txn.author ≡ author.Manager
    → ((post : Post) (jobs : List StoredJob) → group.txn.ops ≡ ops_of post → IsReadable post jobs → AreRowsOf old jobs → AreRowsOf new (jobs_after post jobs))
    → KeepGroup old group new
managers_keep old new group by lands inst log st next ready due made keeps =
    due_keeps inst log st next ready old new group (subst (IsDueFor inst log st group) by due) made lands keeps

pub others_keep : (rows : List JobRow) (group : Group) (id : ℕ) → group.txn.author ≡ author.User id → KeepGroup rows group rows
others_keep rows group id by inst log st next ready due made keeps = users_keep inst log st next ready rows group id by made keeps

pub none_keep : (rows : List JobRow) → KeepGroups rows [] rows
none_keep rows inst log st next ready due made keeps = let same : st ≡ next = cc in subst (KeepStore rows) same keeps

pub one_more : (old mid new : List JobRow) (group : Group) (groups : List Group) → KeepGroup old group mid → KeepGroups mid groups new → KeepGroups old (group ∷ groups) new
one_more old mid new group groups one more inst log st next ready due made keeps = by (effect st group.txn scope.Primary) refl due.1 made
  where
    by : (r : Result Store Refusal) → effect st group.txn scope.Primary ≡ r → IfSome (landed_on r) (AreDueFrom inst log groups) → option_and_then (λ x. after_groups scope.Primary groups x) (landed_on r) ≡ Some next → KeepStore new next
    by (Ok x) is later rest =
        let alone : AreDueFrom inst log (group ∷ []) st = (due.0, subst (λ r. IfSome (landed_on r) (AreDueFrom inst log [])) (sym is) tt) in
        let step : after_groups scope.Primary (group ∷ []) st ≡ Some x = ap (λ r. option_and_then (λ y. Some y) (landed_on r)) is in
        let then_ : IsReady inst log x = record {
          valid = ready.valid;
          timed = ready.timed;
          store = store_after_group inst ready.valid log ready.timed st x group ready.store is;
          sound = groups_keep inst ready.valid log ready.timed (group ∷ []) st x ready.store ready.sound alone step;
        } in
        more inst log x next then_ later rest (one inst log st x ready due.0 is keeps)
    by (Err why) is later rest = cc
