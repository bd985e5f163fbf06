-- What each due post keeps of each job: what is INACTIVE holds nothing, since it was cleaned once it
-- had no resources, or no more; and what jobs hold ends within 64 bits.
use Rattle.std.proofs.Common.{◌≡◌, ℕ, ◌+◌, ◌<◌, ◌^◌, min, arith, Bool, true, false, ◌&&◌, List, [], ◌∷◌, Option, Some, None, inl, inr, refl, sym, ap, ◌∙◌, subst, true≢false}
use Rattle.std.specs.Prelude.{◌==◌, nat_lt, not, Contains, IfSome, if◌then◌else◌}
use Rattle.std.specs.List.{list_any, AllByRecursion as Each}
use Rattle.std.proofs.lemmas.Bool.{eqb-true}
use Rattle.std.specs.Result.{result_ok}
use Rattle.job_rules.specs.Fits.{end_of, sooner}
use Rattle.job_spec.specs.declared.spec.JobSpec.{JobSpec}
use Rattle.job_states.specs.Changes.{change_of}
use Rattle.job_states.specs.Table.{is_state, made, stands_in}
use Rattle.job_states.specs.declared.job.Change.{Change}
use Rattle.job_states.specs.declared.job.Change.TheVariants as change
use Rattle.job_states.specs.declared.job.Job.{Job}
use Rattle.job_states.specs.declared.job.State.{State}
use Rattle.job_states.specs.declared.job.State.TheVariants as state
use Rattle.resource_set.specs.Units.{AreHosts}
use Rattle.resource_set.specs.declared.node.Resources.{Resources}
use Rattle.manager_rules.specs.declared.asked.Asked.TheVariants.{Cancel, Raise, Urgency, Child}
use Rattle.manager_rules.specs.declared.due.Due.{Due}
use Rattle.manager_rules.specs.Deeds.{Deed, r_given, Validates, Adds, Removes, Loses, Depends, Restarts, Prioritizes, NeverFits, Takes, Starts, Finishes, Expires, Stops, Releases, Frees, Cleans, Carries, change_by, due_of, event_of}
use Rattle.manager_rules.specs.Due.{MayDo}
use Rattle.manager_rules.specs.Jobs.{StoredJob, is_live}
use Rattle.manager_rules.specs.Posts.{Does, Submission, Submits, begun_with, event_done, job_after, job_of, r_after, with_event, with_job}
use Rattle.manager_rules.specs.Scene.{IsScene, Scene}
use Rattle.manager_rules.specs.Sound.{AreInTime}
use Rattle.manager_rules.proofs.Allowed.{writes}
use Rattle.manager_rules.proofs.Reserving.{gives, of_its_job}
use Rattle.run_laws.proofs.Landings.{KeptByPosts, hosts_of}

-- a job that is INACTIVE isn't live
abbrev pub IsOverJob : Job → Type 0
IsOverJob job = job.state ≡ state.Inactive → is_live job ≡ false

abbrev pub IsOver : StoredJob → Type 0
IsOver j = IsOverJob j.job

-- ---- what is due

no_more : (b c : Bool) → (b ≡ false) → (b && c) ≡ false
no_more b c e = rw e refl

freed_none : (b c : Bool) → c ≡ true → (b && not c) ≡ false
freed_none true c e = rw e refl
freed_none false c e = refl

module _ (j : StoredJob) (P : Type 0) where
  -- in another state it isn't over
  not_there : (where_ : State) → j.job.state ≡ where_ → (where_ ≡ state.Inactive → ⊥) → j.job.state ≡ state.Inactive → P
  not_there where_ is other e = absurd (other (sym is ∙ e))

  -- nor where a command may be carried out
  ends_none : (severity : ℕ) (b : Bool) → list_any (is_state j.job.state) (stands_in (change.Except severity) j.job) ≡ true → (if b then state.Cleanup else j.job.state) ≡ state.Inactive → P
  ends_none severity true may e = cc
  ends_none severity false may e = let no : list_any (is_state state.Inactive) (stands_in (change.Except severity) j.job) ≡ true = subst (λ st. list_any (is_state st) (stands_in (change.Except severity) j.job) ≡ true) e may in absurd (true≢false (sym no))

  urges_none : (urgency : ℕ) → list_any (is_state j.job.state) (stands_in (change.Urge urgency) j.job) ≡ true → j.job.state ≡ state.Inactive → P
  urges_none urgency may e = let no : list_any (is_state state.Inactive) (stands_in (change.Urge urgency) j.job) ≡ true = subst (λ st. list_any (is_state st) (stands_in (change.Urge urgency) j.job) ≡ true) e may in absurd (true≢false (sym no))

  takes_none : (st : State) → st ≡ state.Sched → (if is_state st state.Sched then state.Run else st) ≡ state.Inactive → P
  takes_none st is e = let no : state.Run ≡ state.Inactive = subst (λ x. (if is_state x state.Sched then state.Run else x) ≡ state.Inactive) is e in cc

pub deed_over : (s : Scene) (j : StoredJob) (deed : Deed) → MayDo s j deed → IsOverJob (made (change_by deed) j.job)
deed_over s j Validates m = λ e. cc
deed_over s j (Adds need) m = λ e. not_there j _ state.Depend m.0 (λ x. cc) e
deed_over s j (Removes need) m = λ e. not_there j _ state.Depend m.0 (λ x. cc) e
deed_over s j (Loses need) m = λ e. cc
deed_over s j Depends m = λ e. cc
deed_over s j Restarts m = λ e. cc
deed_over s j (Prioritizes priority) m = λ e. cc
deed_over s j NeverFits m = λ e. cc
deed_over s j (Takes r) m = λ e. takes_none j _ j.job.state m.0 e
deed_over s j Starts m = λ e. not_there j _ state.Run m.0 (λ x. cc) e
deed_over s j (Finishes status) m = λ e. cc
deed_over s j Expires m = λ e. cc
deed_over s j Stops m = λ e. cc
deed_over s j Releases m = λ e. not_there j _ state.Cleanup m.0 (λ x. cc) e
deed_over s j Frees m = λ e. not_there j _ state.Cleanup m.0 (λ x. cc) e
deed_over s j Cleans m = λ e. elim m.1 [ inl none ↦ no_more _ _ none | inr freed ↦ freed_none j.job.allocated j.job.freed freed ]
deed_over s j (Carries (Cancel by job)) m = λ e. cc
deed_over s j (Carries (Raise by job kind severity note)) m = λ e. ends_none j _ severity (severity == 0) m.1.1 e
deed_over s j (Carries (Urgency by job urgency)) m = λ e. urges_none j _ urgency m.1.1 e
deed_over s j (Carries (Child job living shut)) m = absurd m.1

-- ---- all jobs

events_keep : (P : StoredJob → Type 0) (due : Due) (jobs : List StoredJob) → Each (λ k. k.id ≡ due.job → P (event_done due k)) jobs → Each P jobs → Each P (with_event due jobs)
events_keep P due [] one h = tt
events_keep P due (k ∷ jobs) one h = (
  elim (k.id == due.job) as (λ b. (k.id == due.job) ≡ b → P (if b then event_done due k else k)) [
    | true ↦ λ t. one.0 (eqb-true k.id due.job t)
    | false ↦ λ t. h.0
  ] refl,
  events_keep P due jobs one.1 h.1,
)

job_more : (P : StoredJob → Type 0) (x : StoredJob) (jobs : List StoredJob) → P x → Each P jobs → Each P (with_job x jobs)
job_more P x [] p h = (p, tt)
job_more P x (k ∷ jobs) p h = elim (nat_lt x.id k.id) as (λ b. Each P (if b then x ∷ k ∷ jobs else k ∷ with_job x jobs)) [
  | true ↦ (p, h)
  | false ↦ (h.0, job_more P x jobs p h.1)
]

submission_keeps : (P : StoredJob → Type 0) (o : Option Change) (x : Submission) (jobs : List StoredJob) → ((userid urgency : ℕ) → P (job_of x userid urgency)) → Each P jobs → Each P (begun_with o x jobs)
submission_keeps P (Some (change.Submit userid urgency)) x jobs new h = job_more P (job_of x userid urgency) jobs (new userid urgency) h
submission_keeps P _ x jobs new h = h

-- ---- no job that is INACTIVE is live

event_over : (s : Scene) → IsScene s → AreInTime s.jobs → (j : StoredJob) → Contains s.jobs j → IfSome j.r (λ r. AreHosts r.nodes) → (deed : Deed) → MayDo s j deed
    → Each IsOver s.jobs → Each IsOver (with_event (due_of s.now j deed) s.jobs)
event_over s scene are j known hosts deed m h =
    let job_is : job_after (change_of (event_of s.now j deed)) j.job ≡ made (change_by deed) j.job = ap (λ o. job_after o j.job) (writes s j deed scene hosts m).asks in
    let own : IsOver (event_done (due_of s.now j deed) j) = subst IsOverJob (sym job_is) (deed_over s j deed m) in
    events_keep IsOver (due_of s.now j deed) s.jobs (of_its_job s are j known (λ k. IsOver (event_done (due_of s.now j deed) k)) own) h

pub posts_over : (grant : Resources) → KeptByPosts grant IsOver
posts_over grant d desk same times sound (Submits x) due over = submission_keeps IsOver (change_of x.event) x d.scene.jobs (λ userid urgency e. cc) over
posts_over grant d desk same times sound (Does x) due over =
    subst (λ y. Each IsOver (with_event y d.scene.jobs)) (sym due.is)
    (event_over d.scene desk.scene times due.j due.known (hosts_of d.scene.grant.nodes d.scene.jobs sound due.j due.known) due.deed due.may over)

-- ---- what jobs hold ends within 64 bits

abbrev pub IsShort : StoredJob → Type 0
IsShort j = IfSome j.r (λ r. r.expiration < 2 ^ 64)

sooner_small : (a b : ℕ) → a < 2 ^ 64 → b < 2 ^ 64 → sooner a b < 2 ^ 64
sooner_small a b h k = at (a == 0) (b == 0)
  where
    at : (p q : Bool) → (if p then b else if q then a else min a b) < 2 ^ 64
    at true q = k
    at false true = h
    at false false = omega (arith, h, k)

end_small : (spec : JobSpec) (now : ℕ) → end_of spec now < 2 ^ 64
end_small spec now = at (spec.duration == 0)
  where
    at : (b : Bool) → (if b then 0 else min (now + spec.duration) 18446744073709551615) < 2 ^ 64
    at true = omega arith
    at false = omega arith

pub ends_small : (spec : JobSpec) (now end : ℕ) → end < 2 ^ 64 → sooner (end_of spec now) end < 2 ^ 64
ends_small spec now end h = sooner_small (end_of spec now) end (end_small spec now) h

module _ (s : Scene) (low : s.grant.expiration < 2 ^ 64) (j : StoredJob) (deed : Deed) (m : MayDo s j deed) where
  given_short : (k : StoredJob) → IsShort k → IfSome (r_after (r_given deed) k.r) (λ r. r.expiration < 2 ^ 64)
  given_short k h = elim (gives deed) [
    | inl none ↦ subst (λ o. IfSome (r_after o k.r) (λ r. r.expiration < 2 ^ 64)) (sym none) h
    | inr (r, is) ↦
        let fit = (subst (MayDo s j) is m).2 in
        subst (λ d. IfSome (r_after (r_given d) k.r) (λ r. r.expiration < 2 ^ 64)) (sym is)
        (subst (λ o. IfSome o (λ r. r.expiration < 2 ^ 64)) (sym (ap result_ok fit.written)) (subst (λ n. n < 2 ^ 64) (sym fit.end) (ends_small j.spec s.now s.grant.expiration low)))
  ]

  done_short : (k : StoredJob) → IsShort k → IsShort (event_done (due_of s.now j deed) k)
  done_short k h = at (is_live (job_after (change_of (event_of s.now j deed)) k.job)) (given_short k h)
    where
      at : (b : Bool) → IfSome (r_after (r_given deed) k.r) (λ r. r.expiration < 2 ^ 64) → IfSome (if b then r_after (r_given deed) k.r else None) (λ r. r.expiration < 2 ^ 64)
      at true h = h
      at false h = tt

each_done : (due : Due) (jobs : List StoredJob) → ((k : StoredJob) → IsShort k → IsShort (event_done due k)) → Each IsShort jobs → Each (λ k. k.id ≡ due.job → IsShort (event_done due k)) jobs
each_done due [] f h = tt
each_done due (k ∷ jobs) f h = ((λ e. f k h.0), each_done due jobs f h.1)

pub posts_short : (grant : Resources) → grant.expiration < 2 ^ 64 → KeptByPosts grant IsShort
posts_short grant low d desk same times sound (Submits x) due short = submission_keeps IsShort (change_of x.event) x d.scene.jobs (λ userid urgency. tt) short
posts_short grant low d desk same times sound (Does x) due short =
    let here : d.scene.grant.expiration < 2 ^ 64 = subst (λ (g : Resources). g.expiration < 2 ^ 64) (sym same) low in
    subst (λ y. Each IsShort (with_event y d.scene.jobs)) (sym due.is)
    (events_keep IsShort (due_of d.scene.now due.j due.deed) d.scene.jobs (each_done (due_of d.scene.now due.j due.deed) d.scene.jobs (done_short d.scene here due.j due.deed due.may) short) short)
