-- The queue beside the jobs.
use Rattle.std.proofs.Common.{◌≡◌, ◌≢◌, ℕ, ◌+◌, ◌==◌, Bool, true, false, cond, List, [], ◌∷◌, Option, Some, None, refl, sym, ap, ◌∙◌, subst, inl, inr, arith}
use Rattle.std.specs.Prelude.{◌↔◌, Contains, IfSome, IsNone, if◌then◌else◌, nat_lt, option_map}
use Rattle.std.specs.List.Sorted.{IsStrictlyIncreasing}
use Rattle.std.proofs.lemmas.Bool.{eq-eqb, eqb-true, ne_eqb}
use Rattle.job_deeds.proofs.graph_match_proofs.Holds.{RiseFrom, rise_of}
use Rattle.job_deeds.specs.job_queue.Queue as queues
use Rattle.job_deeds.proofs.job_rules_proofs.Among.{Among, among_from, contains_from, among_mapped}
use Rattle.job_deeds.specs.manager_rules.declared.due.Due.{Due}
use Rattle.job_deeds.specs.manager_rules.Dependencies.{IsHead, job_at}
use Rattle.job_deeds.specs.manager_rules.Jobs.{StoredJob, ids_of}
use Rattle.job_deeds.specs.manager_rules.Posts.{event_done, with_event, with_job}
use Rattle.job_deeds.specs.Waiting.{IsFirstOf, IsQueueOf, waits_with}
use Rattle.job_deeds.proofs.Heads.{head_some}
use Rattle.job_deeds.proofs.Finding.{none_of}
use Rattle.job_deeds.proofs.Places.{rise_among}
use Rattle.job_deeds.proofs.Whys.{found_job}

-- ---- look-ups

pub job_among : (n : ℕ) (jobs : List StoredJob) → RiseFrom n (ids_of jobs) → (k : StoredJob) → Among k jobs → job_at jobs k.id ≡ Some k
job_among n [] r k i = absurd i
job_among n (x ∷ xs) r k i = elim i [
  | inl e ↦ subst (λ y. job_at (x ∷ xs) y.id ≡ Some y) e (ap (λ t. cond t (Some x) (job_at xs x.id)) (eq-eqb x.id x.id refl))
  | inr more ↦
      let above = rise_among (x.id + 1) xs r.1 k more in
      let other : x.id ≢ k.id = λ same. omega (arith, same, above) in
      ap (λ t. cond t (Some x) (job_at xs k.id)) (ne_eqb x.id k.id other) ∙ job_among (x.id + 1) xs r.1 k more
]

pub none_there : (jobs : List StoredJob) (id : ℕ) → (Contains (ids_of jobs) id → ⊥) → job_at jobs id ≡ None
none_there jobs id new = none_of (job_at jobs id) (λ j e.
    let found = found_job jobs id j e in
    new (contains_from (ids_of jobs) id (subst (λ n. Among n (ids_of jobs)) found.1 (among_mapped (λ k. k.id) jobs j found.0))))

-- ---- the head

named_with : (jobs : List StoredJob) (id p : ℕ) → option_map waits_with (job_at jobs id) ≡ Some p → (j : StoredJob) × Among j jobs × (j.id ≡ id) × (waits_with j ≡ p)
named_with jobs id p e = by (job_at jobs id) refl e
  where
    by : (o : Option StoredJob) → job_at jobs id ≡ o → option_map waits_with o ≡ Some p → (j : StoredJob) × Among j jobs × (j.id ≡ id) × (waits_with j ≡ p)
    by None f e = cc
    by (Some j) f e = let found = found_job jobs id j f in let same : waits_with j ≡ p = cc in (j, found.0, found.1, same)

module _ (jobs : List StoredJob) (queue : List (ℕ × ℕ)) (rising : IsStrictlyIncreasing (ids_of jobs)) (is : IsQueueOf jobs queue) where
  ranked : (k : StoredJob) → Among k jobs → queues.priority_of queue k.id ≡ Some (waits_with k)
  ranked k i = is k.id ∙ ap (option_map waits_with) (job_among 0 jobs (rise_of 0 (ids_of jobs) (λ w. omega arith) rising) k i)

  first_is : (id : ℕ) → queues.IsHead queue id → IsHead jobs id
  first_is id h =
      let hit = named_with jobs id h.0 (sym (is id) ∙ h.1) in
      head_some jobs id h.0 rising (record {
        j = hit.0;
        known = hit.1;
        named = hit.2;
        ranked = hit.3;
        above = h.2;
        most = λ k i. h.3 k.id (waits_with k) (ranked k i);
      })

  pub first_of : (o : Option ℕ) → IfSome o (queues.IsHead queue) → IsNone o ↔ queues.AreHeld queue → IsFirstOf jobs o
  first_of None some none = λ k known. none.0 refl k.id (waits_with k) (ranked k (among_from jobs k known))
  first_of (Some id) some none = first_is id some

-- ---- after an event

abbrev done_at : Due → StoredJob → StoredJob
done_at due j = if j.id == due.job then event_done due j else j

same_id : (due : Due) (x : StoredJob) → (done_at due x).id ≡ x.id
same_id due x = by (x.id == due.job)
  where
    by : (b : Bool) → (if b then event_done due x else x).id ≡ x.id
    by true = refl
    by false = refl

mapped_at : (due : Due) (jobs : List StoredJob) (id : ℕ) → job_at (with_event due jobs) id ≡ option_map (done_at due) (job_at jobs id)
mapped_at due [] id = refl
mapped_at due (x ∷ xs) id = ap (λ n. cond (n == id) (Some (done_at due x)) (job_at (with_event due xs) id)) (same_id due x) ∙ by (x.id == id) (mapped_at due xs id)
  where
    by : (b : Bool) → job_at (with_event due xs) id ≡ option_map (done_at due) (job_at xs id) → cond b (Some (done_at due x)) (job_at (with_event due xs) id) ≡ option_map (done_at due) (cond b (Some x) (job_at xs id))
    by true more = refl
    by false more = more

pub queue_after : (due : Due) (jobs : List StoredJob) (old new : List (ℕ × ℕ)) (j : StoredJob) (p : ℕ) → IsQueueOf jobs old → job_at jobs due.job ≡ Some j → waits_with (event_done due j) ≡ p → queues.Changes old new due.job (Some p) → IsQueueOf (with_event due jobs) new
queue_after due jobs old new j p is at rank change = λ other. by other (due.job == other) refl
  where
    left : (other : ℕ) (b : Bool) → (due.job == other) ≡ b → queues.priority_of new other ≡ cond b (Some p) (queues.priority_of old other)
    left other b t = change other ∙ ap (λ c. cond c (Some p) (queues.priority_of old other)) t

    right : (other : ℕ) (o : Option StoredJob) → job_at jobs other ≡ o → option_map waits_with (job_at (with_event due jobs) other) ≡ option_map waits_with (option_map (done_at due) o)
    right other o e = ap (option_map waits_with) (mapped_at due jobs other ∙ ap (option_map (done_at due)) e)

    kept : (other : ℕ) → due.job ≢ other → (o : Option StoredJob) → job_at jobs other ≡ o → option_map waits_with o ≡ option_map waits_with (option_map (done_at due) o)
    kept other differ None e = refl
    kept other differ (Some k) e =
        let named = (found_job jobs other k e).1 in
        let apart : k.id ≢ due.job = λ same. differ (sym same ∙ named) in
        sym (ap (λ b. Some (waits_with (if b then event_done due k else k))) (ne_eqb k.id due.job apart))

    by : (other : ℕ) (b : Bool) → (due.job == other) ≡ b → queues.priority_of new other ≡ option_map waits_with (job_at (with_event due jobs) other)
    by other true t =
        let same : due.job ≡ other = eqb-true due.job other t in
        let here = subst (λ n. job_at jobs n ≡ Some j) same at in
        let named = (found_job jobs due.job j at).1 in
        left other true t
        ∙ sym (right other (Some j) here ∙ ap (λ b. Some (waits_with (if b then event_done due j else j))) (eq-eqb j.id due.job named) ∙ ap Some rank)
    by other false t =
        let differ : due.job ≢ other = λ same. let no : true ≡ false = sym (eq-eqb due.job other same) ∙ t in cc in
        left other false t ∙ is other ∙ kept other differ (job_at jobs other) refl ∙ sym (right other (job_at jobs other) refl)

-- ---- with one job more

added_at : (j : StoredJob) (jobs : List StoredJob) → ((k : StoredJob) → Among k jobs → k.id ≢ j.id) → (other : ℕ) → job_at (with_job j jobs) other ≡ cond (j.id == other) (Some j) (job_at jobs other)
added_at j [] new other = refl
added_at j (x ∷ xs) new other = at (nat_lt j.id x.id) (added_at j xs (λ k i. new k (inr i)) other)
  where
    both : (b c : Bool) → (x.id == other) ≡ b → (j.id == other) ≡ c → cond b (Some x) (cond c (Some j) (job_at xs other)) ≡ cond c (Some j) (cond b (Some x) (job_at xs other))
    both true true s t = absurd (new x (inl refl) (eqb-true x.id other s ∙ sym (eqb-true j.id other t)))
    both true false s t = refl
    both false c s t = refl

    at : (b : Bool) → job_at (with_job j xs) other ≡ cond (j.id == other) (Some j) (job_at xs other) → job_at (cond b (j ∷ x ∷ xs) (x ∷ with_job j xs)) other ≡ cond (j.id == other) (Some j) (job_at (x ∷ xs) other)
    at true more = refl
    at false more = ap (λ o. cond (x.id == other) (Some x) o) more ∙ both (x.id == other) (j.id == other) refl refl

pub queue_with : (j : StoredJob) (jobs : List StoredJob) (old new : List (ℕ × ℕ)) → IsQueueOf jobs old → ((k : StoredJob) → Among k jobs → k.id ≢ j.id) → waits_with j ≡ 0 → queues.Changes old new j.id (Some 0) → IsQueueOf (with_job j jobs) new
queue_with j jobs old new is other rank change = λ id. change id ∙ sym (ap (option_map waits_with) (added_at j jobs other id) ∙ by id (j.id == id))
  where
    by : (id : ℕ) (b : Bool) → option_map waits_with (cond b (Some j) (job_at jobs id)) ≡ cond b (Some 0) (queues.priority_of old id)
    by id true = ap Some rank
    by id false = sym (is id)
