-- What is due leaves live jobs well served and apart.
use Rattle.std.proofs.Common.{◌≡◌, ◌≢◌, ℕ, ◌+◌, ◌≤◌, Bool, true, false, List, [], ◌∷◌, map, Option, Some, None, refl, sym, ap, ◌∙◌, subst, true≢false, arith, inl, inr}
use Rattle.std.specs.Prelude.{◌==◌, ◌⊎◌, Contains, IfSome, IsSome, option_map, if◌then◌else◌}
use Rattle.std.specs.List.{cons_option, AllByRecursion as Each}
use Rattle.std.specs.List.Sorted.{IsStrictlyIncreasing}
use Rattle.std.specs.Result.{result_ok}
use Rattle.std.proofs.lemmas.Bool.{eq-eqb, eqb-true}
use Rattle.job_rules.specs.declared.hold.Hold.{Hold}
use Rattle.job_rules.specs.Fits as fits
use Rattle.job_rules.specs.Fits.{AllApart, AreLive, AreWithin, IsGrant, IsUnitSet, Satisfies, free_of, nodes_of}
use Rattle.job_rules.proofs.Sets.{free_is, sound as fit_is_sound}
use Rattle.job_rules.proofs.Among.{Among, among_from, distinct_rising, each_at, each_from, same_image}
use Rattle.job_states.specs.declared.job.State.TheVariants as state
use Rattle.job_states.specs.declared.job.Job.{Job}
use Rattle.job_states.specs.Changes.{change_of}
use Rattle.job_states.specs.Table.{made}
use Rattle.resource_set.specs.declared.node.Node.{Node}
use Rattle.resource_set.specs.declared.node.Resources.{Resources}
use Rattle.resource_set.specs.Reading.{told}
use Rattle.resource_set.specs.Units.{AreHosts}
use Rattle.resource_set.specs.Writing.{r_text}
use Rattle.kvs_model.specs.Store.{Store}
use Rattle.manager_rules.specs.Jobs.{AreJobsOf, IsStored, StoredJob, ids_of, is_live}
use Rattle.manager_rules.specs.Scene.{Scene, IsScene}
use Rattle.manager_rules.specs.Sound.{IsServed, IsSound, holds_of, AreInTime, HoldsInTime, IsUnserved, is_early}
use Rattle.manager_rules.specs.Deeds.{Deed, Validates, Adds, Removes, Loses, Depends, Restarts, Prioritizes, NeverFits, Takes, Starts, Finishes, Expires, Stops, Releases, Frees, Cleans, Carries, change_by, due_of, event_of, r_given}
use Rattle.manager_rules.specs.Due.{IsFirstFit, MayDo}
use Rattle.manager_rules.specs.Posts.{event_done, job_after, r_after, with_event}
use Rattle.manager_rules.proofs.Allowed.{writes, stands}
use Rattle.manager_rules.proofs.Apart.{Grows, Shrinks, free_apart, grown, nodes_held, shrunk, within_grant}
use Rattle.manager_rules.proofs.Landing.{step_of, still_live, with_event_ids}
use Rattle.manager_rules.proofs.Submitting.{RiseFrom, rise_of, rises}
use Rattle.manager_rules.proofs.Waiting.{made_early, replayed_early}

-- ---- holds by id

rise_earlier : (m n : ℕ) (xs : List ℕ) → m ≤ n → RiseFrom n xs → RiseFrom m xs
unfolding RiseFrom
rise_earlier m n [] h r = tt
rise_earlier m n (x ∷ xs) h r = (omega (arith, r.0), r.1)

hold_ids : List Hold → List ℕ
hold_ids holds = map (λ h. h.id) holds

head_rises : (n id : ℕ) (o : Option Resources) (holds : List Hold) → n ≤ id → RiseFrom (id + 1) (hold_ids holds) → RiseFrom n (hold_ids (cons_option (option_map (λ r. record { id = id; nodes = r.nodes }) o) holds))
unfolding RiseFrom hold_ids
head_rises n id None holds h r = rise_earlier n (id + 1) (hold_ids holds) (omega (arith, h)) r
head_rises n id (Some r) holds h more = (h, more)

holds_rise : (n : ℕ) (jobs : List StoredJob) → RiseFrom n (ids_of jobs) → RiseFrom n (hold_ids (holds_of jobs))
unfolding RiseFrom hold_ids
holds_rise n [] r = tt
holds_rise n (k ∷ jobs) r = head_rises n k.id k.r (holds_of jobs) r.0 (holds_rise (k.id + 1) jobs r.1)

-- ---- each job's resources within the grant

abbrev pub LiesWithin : List Node → StoredJob → Type 0
LiesWithin grant k = IfSome k.r (λ r. AreWithin r.nodes grant)

module _ (grant : List Node) where
  head_within : (id : ℕ) (o : Option Resources) (holds : List Hold) → Each (λ h. AreWithin h.nodes grant) (cons_option (option_map (λ r. record { id = id; nodes = r.nodes }) o) holds) → IfSome o (λ r. AreWithin r.nodes grant) × Each (λ h. AreWithin h.nodes grant) holds
  head_within id None holds h = (tt, h)
  head_within id (Some r) holds h = h

  pub jobs_within : (jobs : List StoredJob) → Each (λ h. AreWithin h.nodes grant) (holds_of jobs) → Each (LiesWithin grant) jobs
  jobs_within [] h = tt
  jobs_within (k ∷ jobs) h = let two = head_within k.id k.r (holds_of jobs) h in (two.0, jobs_within jobs two.1)

  with_head : (id : ℕ) (o : Option Resources) (holds : List Hold) → IfSome o (λ r. AreWithin r.nodes grant) → Each (λ h. AreWithin h.nodes grant) holds → Each (λ h. AreWithin h.nodes grant) (cons_option (option_map (λ r. record { id = id; nodes = r.nodes }) o) holds)
  with_head id None holds o h = h
  with_head id (Some r) holds o h = (o, h)

  holds_within : (jobs : List StoredJob) → Each (LiesWithin grant) jobs → Each (λ h. AreWithin h.nodes grant) (holds_of jobs)
  holds_within [] h = tt
  holds_within (k ∷ jobs) h = with_head k.id k.r (holds_of jobs) h.0 (holds_within jobs h.1)

mapped : (P : StoredJob → Type 0) (f : StoredJob → StoredJob) (jobs : List StoredJob) → Each (λ k. P (f k)) jobs → Each P (map f jobs)
mapped P f [] h = tt
mapped P f (k ∷ jobs) h = (h.0, mapped P f jobs h.1)

-- ---- the job of the event

-- what it holds afterwards: what it held, nothing, or what it was given
pub data Holding (s : Scene) (j : StoredJob) (deed : Deed) (later : StoredJob) : Type 0 where
  keeps : later.r ≡ j.r → (is_live later.job ≡ true → is_live j.job ≡ true) → Holding s j deed later
  drops : later.r ≡ None → is_live later.job ≡ false → Holding s j deed later
  takes : (r : Resources) → IsFirstFit s j r → later.r ≡ Some r → j.r ≡ None → Holding s j deed later

module _ (s : Scene) (scene : IsScene s) (j : StoredJob) (own : HoldsInTime j) (deed : Deed) (m : MayDo s j deed) (sound : IfSome j.r (λ r. AreHosts r.nodes)) where
  job_is : job_after (change_of (event_of s.now j deed)) j.job ≡ made (change_by deed) j.job
  job_is = ap (λ o. job_after o j.job) (writes s j deed scene sound m).asks

  later_live : r_given deed ≡ None → is_live (job_after (change_of (event_of s.now j deed)) j.job) ≡ true → is_live j.job ≡ true
  later_live n e = still_live s j deed m n (subst (λ job. is_live job ≡ true) job_is e)

  -- no resources are given
  plain_holding : r_given deed ≡ None → Holding s j deed (event_done (due_of s.now j deed) j)
  plain_holding n = by (is_live (job_after (change_of (event_of s.now j deed)) j.job)) refl
    where
      kept : (given : Option (List ℕ)) → given ≡ None → r_after given j.r ≡ j.r
      kept None e = refl
      kept (Some text) e = cc

      by : (b : Bool) → is_live (job_after (change_of (event_of s.now j deed)) j.job) ≡ b → Holding s j deed (event_done (due_of s.now j deed) j)
      by true is = keeps (ap (λ b. if b then r_after (r_given deed) j.r else None) is ∙ kept (r_given deed) n) (later_live n)
      by false is = drops (ap (λ b. if b then r_after (r_given deed) j.r else None) is) is

-- a job that waits for resources has had none
unserved : (j : StoredJob) → HoldsInTime j → j.job.state ≡ state.Sched → IsUnserved j.job
unserved j h e = h.early (rw e refl)

holds_none : (j : StoredJob) → HoldsInTime j → IsUnserved j.job → j.r ≡ None
holds_none j h u = h.none (rw u.allocated refl)

takes_live : (job : Job) → IsUnserved job → is_live (made (change_by (Takes (record { nodes = []; starttime = 0; expiration = 0 }))) job) ≡ true
takes_live job u = rw u.freed refl

-- the job that takes resources holds them, and held none
pub given_r : (s : Scene) → IsScene s → (j : StoredJob) → HoldsInTime j → (r : Resources) → MayDo s j (Takes r) → ((event_done (due_of s.now j (Takes r)) j).r ≡ Some r) × (j.r ≡ None)
given_r s scene j h r m =
    let u = unserved j h m.0 in
    let none = holds_none j h u in
    let sound : IfSome j.r (λ r. AreHosts r.nodes) = subst (λ o. IfSome o (λ r. AreHosts r.nodes)) (sym none) tt in
    let live : is_live (job_after (change_of (event_of s.now j (Takes r))) j.job) ≡ true = ap is_live (job_is s scene j h (Takes r) m sound) ∙ takes_live j.job u in
    (ap (λ b. if b then result_ok (told (r_text r)) else None) live ∙ ap result_ok m.2.written, none)

holding : (s : Scene) → IsScene s → (j : StoredJob) → HoldsInTime j → (deed : Deed) → MayDo s j deed → IfSome j.r (λ r. AreHosts r.nodes) → Holding s j deed (event_done (due_of s.now j deed) j)
holding s scene j h (Takes r) m sound = let given = given_r s scene j h r m in takes r m.2 given.0 given.1
holding s scene j h Validates m sound = plain_holding s scene j h Validates m sound refl
holding s scene j h (Adds need) m sound = plain_holding s scene j h (Adds need) m sound refl
holding s scene j h (Removes need) m sound = plain_holding s scene j h (Removes need) m sound refl
holding s scene j h (Loses need) m sound = plain_holding s scene j h (Loses need) m sound refl
holding s scene j h Depends m sound = plain_holding s scene j h Depends m sound refl
holding s scene j h (Prioritizes priority) m sound = plain_holding s scene j h (Prioritizes priority) m sound refl
holding s scene j h Restarts m sound = plain_holding s scene j h Restarts m sound refl
holding s scene j h NeverFits m sound = plain_holding s scene j h NeverFits m sound refl
holding s scene j h Starts m sound = plain_holding s scene j h Starts m sound refl
holding s scene j h (Finishes status) m sound = plain_holding s scene j h (Finishes status) m sound refl
holding s scene j h Expires m sound = plain_holding s scene j h Expires m sound refl
holding s scene j h Stops m sound = plain_holding s scene j h Stops m sound refl
holding s scene j h Releases m sound = plain_holding s scene j h Releases m sound refl
holding s scene j h Frees m sound = plain_holding s scene j h Frees m sound refl
holding s scene j h Cleans m sound = plain_holding s scene j h Cleans m sound refl
holding s scene j h (Carries asked) m sound = plain_holding s scene j h (Carries asked) m sound refl

-- ---- all jobs

module _ (s : Scene) (scene : IsScene s) (are : AreInTime s.jobs) (sound : IsSound s.grant.nodes s.jobs) (grant : IsGrant s.grant.nodes) (j : StoredJob) (known : Contains s.jobs j) (deed : Deed) (m : MayDo s j deed) (spec : fits.IsSpec j.spec) where
  here : Among j s.jobs
  here = among_from s.jobs j known

  own : HoldsInTime j
  own = each_at HoldsInTime s.jobs j are.each here

  lying : Each (LiesWithin s.grant.nodes) s.jobs
  lying = jobs_within s.grant.nodes s.jobs sound.apart.within

  hosts : IfSome j.r (λ r. AreHosts r.nodes)
  hosts = of j.r (each_at (LiesWithin s.grant.nodes) s.jobs j lying here)
    where
      of : (o : Option Resources) → IfSome o (λ r. AreWithin r.nodes s.grant.nodes) → IfSome o (λ r. AreHosts r.nodes)
      of None h = tt
      of (Some r) h = h.hosts

  held : Holding s j deed (event_done (due_of s.now j deed) j)
  held = holding s scene j own deed m hosts

  served_before : IsServed s.grant.nodes j
  served_before = each_at (IsServed s.grant.nodes) s.jobs j sound.served here

  served_later : Holding s j deed (event_done (due_of s.now j deed) j) → IsServed s.grant.nodes (event_done (due_of s.now j deed) j)
  served_later (keeps e up) = record {
    has = λ live. subst IsSome (sym e) (served_before.has (up live));
    satisfied = subst (λ o. IfSome o (λ r. IsUnitSet r.nodes × Satisfies j.spec s.grant.nodes r.nodes)) (sym e) served_before.satisfied;
  }
  served_later (drops e off) = record {
    has = λ live. absurd (true≢false (sym live ∙ off));
    satisfied = subst (λ o. IfSome o (λ r. IsUnitSet r.nodes × Satisfies j.spec s.grant.nodes r.nodes)) (sym e) tt;
  }
  served_later (takes r fit e none) =
      let good = fit_is_sound j.spec s.grant.nodes (free_of s.grant.nodes (holds_of s.jobs)) (free_is s.grant.nodes (nodes_of (holds_of s.jobs)) grant) spec r.nodes fit.nodes in
      record {
        has = λ live. subst IsSome (sym e) refl;
        satisfied = subst (λ o. IfSome o (λ r. IsUnitSet r.nodes × Satisfies j.spec s.grant.nodes r.nodes)) (sym e) (good.0, good.2);
      }

  lies_later : Holding s j deed (event_done (due_of s.now j deed) j) → LiesWithin s.grant.nodes (event_done (due_of s.now j deed) j)
  lies_later (keeps e up) = subst (λ o. IfSome o (λ r. AreWithin r.nodes s.grant.nodes)) (sym e) (each_at (LiesWithin s.grant.nodes) s.jobs j lying here)
  lies_later (drops e off) = subst (λ o. IfSome o (λ r. AreWithin r.nodes s.grant.nodes)) (sym e) tt
  lies_later (takes r fit e none) = subst (λ o. IfSome o (λ r. AreWithin r.nodes s.grant.nodes)) (sym e) (within_grant s.grant.nodes (holds_of s.jobs) r.nodes fit.free)

  -- what holds of the job of the event, and of each other one, holds of each after the step
  each_step : (P : StoredJob → Type 0) → P (event_done (due_of s.now j deed) j) → Each P s.jobs → Each (λ k. P (step_of (due_of s.now j deed) k)) s.jobs
  unfolding step_of
  each_step P here_holds all = each_from (λ k. P (step_of (due_of s.now j deed) k)) s.jobs (λ k i.
      elim (k.id == j.id) as (λ b. (k.id == j.id) ≡ b → P (if b then event_done (due_of s.now j deed) k else k)) [
        | true ↦ λ t.
            let same : j ≡ k = same_image (λ x. x.id) s.jobs j k (distinct_rising (ids_of s.jobs) are.rising) here i (sym (eqb-true k.id j.id t)) in
            subst (λ x. P (event_done (due_of s.now j deed) x)) same here_holds
        | false ↦ λ t. each_at P s.jobs k all i
      ] refl)

  -- the same of pairs of a job and what it becomes
  each_pair : (P : StoredJob → StoredJob → Type 0) → P j (event_done (due_of s.now j deed) j) → ((k : StoredJob) → k.id ≢ j.id → P k k) → Each (λ k. P k (step_of (due_of s.now j deed) k)) s.jobs
  unfolding step_of
  each_pair P one others = each_from (λ k. P k (step_of (due_of s.now j deed) k)) s.jobs (λ k i.
      elim (k.id == j.id) as (λ b. (k.id == j.id) ≡ b → P k (if b then event_done (due_of s.now j deed) k else k)) [
        | true ↦ λ t.
            let same : j ≡ k = same_image (λ x. x.id) s.jobs j k (distinct_rising (ids_of s.jobs) are.rising) here i (sym (eqb-true k.id j.id t)) in
            subst (λ x. P x (event_done (due_of s.now j deed) x)) same one
        | false ↦ λ t. others k (λ e. absurd (true≢false (sym (eq-eqb k.id j.id e) ∙ t)))
      ] refl)

  shrinks : nodes_held (event_done (due_of s.now j deed) j).r ≡ nodes_held j.r ⊎ (nodes_held (event_done (due_of s.now j deed) j).r ≡ []) → AllApart (holds_of (map (step_of (due_of s.now j deed)) s.jobs))
  unfolding Shrinks
  shrinks one = shrunk (step_of (due_of s.now j deed)) s.jobs (each_pair (λ k x. (nodes_held x.r ≡ nodes_held k.r) ⊎ (nodes_held x.r ≡ [])) one (λ k d. inl refl)) sound.apart.apart

  apart_later : Holding s j deed (event_done (due_of s.now j deed) j) → AllApart (holds_of (map (step_of (due_of s.now j deed)) s.jobs))
  unfolding nodes_held
  apart_later (keeps e up) = shrinks (inl (ap nodes_held e))
  apart_later (drops e off) = shrinks (inr (ap nodes_held e))
  apart_later (takes r fit e none) =
      grown (step_of (due_of s.now j deed)) r.nodes j.id s.jobs
      (each_from (Grows (step_of (due_of s.now j deed)) r.nodes j.id) s.jobs (λ k i. record {
        before = λ same. subst (λ x. nodes_held x.r ≡ []) (same_image (λ x. x.id) s.jobs j k (distinct_rising (ids_of s.jobs) are.rising) here i (sym same)) (ap nodes_held none);
        after = λ same. each_at (λ k. k.id ≡ j.id → nodes_held (step_of (due_of s.now j deed) k).r ≡ r.nodes) s.jobs k (each_pair (λ k x. k.id ≡ j.id → nodes_held x.r ≡ r.nodes) (λ t. ap nodes_held e) (λ k d t. absurd (d t))) i same;
        other = λ d. each_at (λ k. k.id ≢ j.id → nodes_held (step_of (due_of s.now j deed) k).r ≡ nodes_held k.r) s.jobs k (each_pair (λ k x. k.id ≢ j.id → nodes_held x.r ≡ nodes_held k.r) (λ t. absurd (t refl)) (λ k q t. refl)) i d;
      }))
      (distinct_rising (ids_of s.jobs) are.rising)
      (free_apart s.grant.nodes (holds_of s.jobs) r.nodes fit.free)
      sound.apart.apart

  pub stays_sound : IsSound s.grant.nodes (with_event (due_of s.now j deed) s.jobs)
  unfolding step_of hold_ids
  stays_sound = record {
    served = mapped (IsServed s.grant.nodes) (step_of (due_of s.now j deed)) s.jobs (each_step (IsServed s.grant.nodes) (served_later held) sound.served);
    apart = record {
      rising = rises 0 _ (holds_rise 0 (map (step_of (due_of s.now j deed)) s.jobs) (rise_of 0 (ids_of (map (step_of (due_of s.now j deed)) s.jobs)) (λ w. omega arith) (subst IsStrictlyIncreasing (sym (with_event_ids (due_of s.now j deed) s.jobs)) are.rising)));
      within = holds_within s.grant.nodes (map (step_of (due_of s.now j deed)) s.jobs) (mapped (LiesWithin s.grant.nodes) (step_of (due_of s.now j deed)) s.jobs (each_step (LiesWithin s.grant.nodes) (lies_later held) lying));
      apart = apart_later held;
    };
  }

  -- the job of the event has resources in time, as it had before
  own_later : HoldsInTime (event_done (due_of s.now j deed) j)
  own_later = record {
    early = subst (λ job. is_early job.state ≡ true → IsUnserved job) (sym (job_is s scene j own deed m hosts)) (made_early (change_by deed) j.job own.early (stands s j deed m));
    none = λ off. ap (λ b. if b then r_after (r_given deed) j.r else None) off;
  }

  pub stays_in_time : AreInTime (with_event (due_of s.now j deed) s.jobs)
  unfolding step_of
  stays_in_time = record {
    rising = subst IsStrictlyIncreasing (sym (with_event_ids (due_of s.now j deed) s.jobs)) are.rising;
    each = mapped HoldsInTime (step_of (due_of s.now j deed)) s.jobs (each_step HoldsInTime own_later are.each);
  }

held_in_time : (st : Store) (j : StoredJob) → IsStored st j → HoldsInTime j
held_in_time st j h = record {
  early = replayed_early (h.first ∷ h.more) j.job h.replays;
  none = λ off. h.r_is ∙ rw off refl;
}

pub in_time : (st : Store) (jobs : List StoredJob) → AreJobsOf st jobs → AreInTime jobs
in_time st jobs are = record {
  rising = are.rising;
  each = each_from HoldsInTime jobs (λ j i. held_in_time st j (each_at (IsStored st) jobs j are.stored i));
}
