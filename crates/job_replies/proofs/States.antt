-- The jobs of a book with their states.
use Rattle.std.proofs.Common.{◌≡◌, ◌∙◌, ℕ, zero, suc, ◌+◌, ◌<◌, ◌≤◌, List, [], ◌∷◌, ◌++◌, Some, None, length, take, get_or, refl, sym, ap, ap₂, subst, arith}
use Rattle.std.specs.Prelude.{option_map}
use Rattle.std.specs.List.Sorted.{IsStrictlyIncreasing}
use Rattle.std.proofs.lemmas.List.{take_more}
use Rattle.std.proofs.lemmas.List.Kept.{AllPairs-from_increasing}
use Rattle.answers.specs.declared.chronicle.JobState.{JobState}
use Rattle.job_deeds.proofs.Places.{each_before, found_at}
use Rattle.job_deeds.specs.job_states.declared.job.Job.{Job}
use Rattle.job_deeds.specs.manager_rules.Dependencies.{job_at}
use Rattle.job_deeds.specs.manager_rules.Jobs.{StoredJob, ids_of}
use Rattle.job_replies.specs.Jobs.{states_of}

length-ids : (jobs : List StoredJob) → length (ids_of jobs) ≡ length jobs
length-ids [] = refl
length-ids (j ∷ jobs) = ap suc (length-ids jobs)

id-at : (jobs : List StoredJob) (k : ℕ) (d : StoredJob) → k < length jobs → get_or (ids_of jobs) k 0 ≡ (get_or jobs k d).id
id-at [] k d low = absurd (omega arith)
id-at (j ∷ jobs) zero d low = refl
id-at (j ∷ jobs) (suc k) d low = id-at jobs k d (omega arith)

-- the job at a place is found by its id
found-there : (jobs : List StoredJob) → IsStrictlyIncreasing (ids_of jobs) → (at : ℕ) (d : StoredJob) → at < length jobs → job_at jobs (get_or (ids_of jobs) at 0) ≡ Some (get_or jobs at d)
found-there jobs rising at d low =
    found_at jobs (get_or (ids_of jobs) at 0) at d
    (each_before (λ j. j.id < get_or (ids_of jobs) at 0) at jobs (omega arith) (λ k e below.
    let less : get_or (ids_of jobs) k 0 < get_or (ids_of jobs) at 0 = AllPairs-from_increasing (ids_of jobs) rising k at 0 below (omega (arith, length-ids jobs)) in
    subst (λ id. id < get_or (ids_of jobs) at 0) (id-at jobs k e (omega arith)) less))
    low (sym (id-at jobs at d low))

some-job : (jobs : List StoredJob) (at : ℕ) → at < length jobs → StoredJob
some-job [] at low = absurd (omega arith)
some-job (j ∷ jobs) at low = j

states-more : (jobs : List StoredJob) (j : StoredJob) → states_of (jobs ++ j ∷ []) ≡ states_of jobs ++ record { id = j.id; state = j.job.state } ∷ []
states-more [] j = refl
states-more (x ∷ jobs) j = ap (λ ss. record { id = x.id; state = x.job.state } ∷ ss) (states-more jobs j)

-- each id is that of a job
pub stands : (jobs : List StoredJob) → IsStrictlyIncreasing (ids_of jobs) → (at : ℕ) → at < length (ids_of jobs) → option_map (λ j. j.job) (job_at jobs (get_or (ids_of jobs) at 0)) ≡ None → ⊥
stands jobs rising at low none =
    let within : at < length jobs = omega (arith, length-ids jobs, low) in
    let d = some-job jobs at within in
    no (sym (ap (option_map (λ j. j.job)) (found-there jobs rising at d within)) ∙ none)
  where
    no : {A : Type 0} {x : A} → Some x ≡ None → ⊥
    no e = cc

-- one job more is told
pub one-more : (jobs : List StoredJob) → IsStrictlyIncreasing (ids_of jobs) → (at : ℕ) → at < length (ids_of jobs) → (list : List JobState) → list ≡ states_of (take at jobs) →
    (job : Job) → Some job ≡ option_map (λ j. j.job) (job_at jobs (get_or (ids_of jobs) at 0)) → list ++ record { id = get_or (ids_of jobs) at 0; state = job.state } ∷ [] ≡ states_of (take (at + 1) jobs)
one-more jobs rising at low list told job is =
    let within : at < length jobs = omega (arith, length-ids jobs, low) in
    let d = some-job jobs at within in
    let same : job ≡ (get_or jobs at d).job = some_same (is ∙ ap (option_map (λ j. j.job)) (found-there jobs rising at d within)) in
    ap₂ (λ l (s : JobState). l ++ s ∷ []) told (ap₂ (λ id (j : Job). (let told : JobState = record { id = id; state = j.state } in told)) (id-at jobs at d within) same)
    ∙ sym (states-more (take at jobs) (get_or jobs at d))
    ∙ ap states_of (sym (take_more jobs at d within))
  where
    some_same : {x y : Job} → Some x ≡ Some y → x ≡ y
    some_same e = cc

-- all of them are told
pub all-told : (jobs : List StoredJob) (at : ℕ) → length (ids_of jobs) ≤ at → states_of (take at jobs) ≡ states_of jobs
all-told jobs at all = ap states_of (take-all jobs at (omega (arith, all, length-ids jobs)))
  where
    take-all : (jobs : List StoredJob) (at : ℕ) → length jobs ≤ at → take at jobs ≡ jobs
    take-all [] zero h = refl
    take-all [] (suc at) h = refl
    take-all (j ∷ jobs) zero h = absurd (omega arith)
    take-all (j ∷ jobs) (suc at) h = ap (λ js. j ∷ js) (take-all jobs at (omega arith))
