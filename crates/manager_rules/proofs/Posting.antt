-- What is due leaves a sound store sound.
use Rattle.std.proofs.Common.{◌≡◌, ℕ, List, Option, Some, None, Result, Ok, Err, refl, sym, ap, ◌∙◌, subst}
use Rattle.std.specs.Prelude.{Contains, IfSome, option_and_then}
use Rattle.std.specs.List.{AllByRecursion as Each}
use Rattle.std.specs.Result.{result_ok}
use Rattle.job_rules.proofs.Among.{among_from, each_at}
use Rattle.job_rules.specs.Fits.{AreWithin, IsGrant, IsSpec}
use Rattle.job_spec.specs.declared.faults.SpecFault.{SpecFault}
use Rattle.job_spec.specs.declared.spec.JobSpec.{JobSpec}
use Rattle.job_spec.specs.Sound as read
use Rattle.job_spec.specs.Sound.{IsCount}
use Rattle.job_spec.specs.Specs.{spec_reading}
use Rattle.job_spec.proofs.Accepted.{accepted_tells}
use Rattle.kvs_model.specs.Operation.{effect}
use Rattle.kvs_model.specs.Store.{Store, IsStore}
use Rattle.kvs_txn.specs.declared.txn.Scope.TheVariants as scope
use Rattle.kvs_txn.specs.declared.txn.Txn.{Txn}
use Rattle.resource_set.specs.declared.node.Node.{Node}
use Rattle.resource_set.specs.declared.node.Resources.{Resources}
use Rattle.resource_set.specs.Units.{AreHosts}
use Rattle.store_laws.specs.Reserved.{IsUsers}
use Rattle.manager_rules.specs.declared.due.Due.{Due}
use Rattle.manager_rules.specs.Due.{IsDue}
use Rattle.manager_rules.specs.Deeds.{due_of}
use Rattle.manager_rules.specs.Jobs.{AreJobsOf, HasOnlyJobs, IsStored, StoredJob, ids_of}
use Rattle.manager_rules.specs.Keys.{spec_path, value_at}
use Rattle.manager_rules.specs.Posts.{Desk, Post, Submits, Does, IsDesk, IsDuePost, IsOpenSubmit, begun_with, job_of, jobs_after, txn_of, with_event, with_job}
use Rattle.manager_rules.specs.Sound.{IsSound, IsSoundStore, holds_of}
use Rattle.manager_rules.proofs.Landing.{event_lands}
use Rattle.manager_rules.proofs.Others.{new_jobs_sound}
use Rattle.manager_rules.proofs.Soundness.{in_time, jobs_within, stays_sound}
use Rattle.manager_rules.proofs.Stores.{users_leave_jobs}
use Rattle.manager_rules.proofs.Submitting.{submission_lands}
use Rattle.manager_rules.proofs.Taking.{post_keeps, users_keep_only}
use Rattle.manager_rules.proofs.Telling.{asks}
use Rattle.manager_rules.proofs.Unique.{jobs_are_one}

pub users_keep_sound : (grant : List Node) (st new : Store) (txn : Txn) → IsUsers txn → effect st txn scope.Primary ≡ Ok new → IsSoundStore grant st → IsSoundStore grant new
users_keep_sound grant st new txn user e h = record { jobs = h.jobs; are = users_leave_jobs st new txn h.jobs user e h.are; sound = h.sound }

as_rules : (spec : JobSpec) → read.IsSpec spec → IsSpec spec
as_rules spec h = record { slots = h.slots; cores = h.cores; gpus = h.gpus; nodes = λ count e. (subst (λ o. IfSome o IsCount) e h.nodes).0 }

-- a jobspec that stands in the store was read
pub read_from : (r : Option (List ℕ)) (spec : JobSpec) → option_and_then (λ text. result_ok (spec_reading text)) r ≡ Some spec → IsSpec spec
read_from None spec e = cc
read_from (Some text) spec e = by (spec_reading text) refl e
  where
    by : (r : Result JobSpec SpecFault) → spec_reading text ≡ r → result_ok r ≡ Some spec → IsSpec spec
    by (Ok x) is e = let same : x ≡ spec = cc in as_rules spec (accepted_tells text spec (is ∙ ap Ok same))
    by (Err fault) is e = cc

module _ (d : Desk) (desk : IsDesk d) (grant : IsGrant d.scene.grant.nodes) (st new : Store) (is : IsStore st) (are : AreJobsOf st d.scene.jobs) (h : IsSoundStore d.scene.grant.nodes st) where
  sound : IsSound d.scene.grant.nodes d.scene.jobs
  sound = subst (IsSound d.scene.grant.nodes) (jobs_are_one st h.jobs d.scene.jobs h.are are) h.sound

  hosts : (j : StoredJob) → Contains d.scene.jobs j → IfSome j.r (λ r. AreHosts r.nodes)
  hosts j known = of j.r (each_at (λ k. IfSome k.r (λ r. AreWithin r.nodes d.scene.grant.nodes)) d.scene.jobs j (lies_of d.scene.jobs sound.apart.within) (among_from d.scene.jobs j known))
    where
      of : (o : Option Resources) → IfSome o (λ r. AreWithin r.nodes d.scene.grant.nodes) → IfSome o (λ r. AreHosts r.nodes)
      of None h = tt
      of (Some r) h = h.hosts

      lies_of : (jobs : List StoredJob) → Each (λ h. AreWithin h.nodes d.scene.grant.nodes) (holds_of jobs) → Each (λ k. IfSome k.r (λ r. AreWithin r.nodes d.scene.grant.nodes)) jobs
      lies_of jobs h = jobs_within d.scene.grant.nodes jobs h

  event_keeps : (due : Due) → IsDue d.scene due → effect st (txn_of (Does due)) scope.Primary ≡ Ok new → IsSoundStore d.scene.grant.nodes new
  event_keeps due x e =
      let stored = each_at (IsStored st) d.scene.jobs x.j are.stored (among_from d.scene.jobs x.j x.known) in
      record {
        jobs = with_event (due_of d.scene.now x.j x.deed) d.scene.jobs;
        are = event_lands d.scene desk.scene st new is are x.j x.known x.deed x.may (hosts x.j x.known) (subst (λ y. effect st (txn_of (Does y)) scope.Primary ≡ Ok new) x.is e);
        sound = stays_sound d.scene desk.scene (in_time st d.scene.jobs are) sound grant x.j x.known x.deed x.may (read_from (value_at st (spec_path x.j.id)) x.j.spec stored.spec_is);
      }

  pub posts_keep_sound : (post : Post) → IsDuePost d post → effect st (txn_of post) scope.Primary ≡ Ok new → IsSoundStore d.scene.grant.nodes new
  posts_keep_sound (Does due) x e = event_keeps due x e
  posts_keep_sound (Submits x) due e =
      let from = each_at IsOpenSubmit d.submits due.from desk.submits (among_from d.submits due.from due.waits) in
      record {
        jobs = with_job (job_of x due.from.by.actor due.from.urgency) d.scene.jobs;
        are = submission_lands d.scene desk.scene d.birth d.submits x due from st new is are e;
        sound = new_jobs_sound d.scene.grant.nodes x due.from.by.actor due.from.urgency d.scene.jobs sound;
      }

  -- the jobs of the store are those after the post, and nothing else stands below `job`
  pub posts_land : (post : Post) → IsDuePost d post → effect st (txn_of post) scope.Primary ≡ Ok new → AreJobsOf new (jobs_after post d.scene.jobs)
  posts_land (Does due) x e = subst (λ y. AreJobsOf new (with_event y d.scene.jobs)) (sym x.is)
      (event_lands d.scene desk.scene st new is are x.j x.known x.deed x.may (hosts x.j x.known) (subst (λ y. effect st (txn_of (Does y)) scope.Primary ≡ Ok new) x.is e))
  posts_land (Submits x) due e =
      let from = each_at IsOpenSubmit d.submits due.from desk.submits (among_from d.submits due.from due.waits) in
      subst (λ o. AreJobsOf new (begun_with o x d.scene.jobs)) (sym (asks d.scene desk.scene d.birth d.submits x due from)) (submission_lands d.scene desk.scene d.birth d.submits x due from st new is are e)

  pub posts_keep_alone : HasOnlyJobs st (ids_of h.jobs) → (post : Post) → IsDuePost d post → effect st (txn_of post) scope.Primary ≡ Ok new → (k : IsSoundStore d.scene.grant.nodes new) × HasOnlyJobs new (ids_of k.jobs)
  posts_keep_alone only post due e =
      let k = posts_keep_sound post due e in
      let here : HasOnlyJobs st (ids_of d.scene.jobs) = subst (λ js. HasOnlyJobs st (ids_of js)) (jobs_are_one st h.jobs d.scene.jobs h.are are) only in
      let same : k.jobs ≡ jobs_after post d.scene.jobs = jobs_are_one new k.jobs (jobs_after post d.scene.jobs) k.are (posts_land post due e) in
      (k, subst (λ js. HasOnlyJobs new (ids_of js)) (sym same) (post_keeps d desk st is are here post new due e))

pub users_keep_alone : (grant : List Node) (st new : Store) (txn : Txn) → IsUsers txn → effect st txn scope.Primary ≡ Ok new → (h : IsSoundStore grant st) → HasOnlyJobs st (ids_of h.jobs)
    → (k : IsSoundStore grant new) × HasOnlyJobs new (ids_of k.jobs)
users_keep_alone grant st new txn user e h only =
    (record { jobs = h.jobs; are = users_leave_jobs st new txn h.jobs user e h.are; sound = h.sound }, users_keep_only st new txn (ids_of h.jobs) user e only)
