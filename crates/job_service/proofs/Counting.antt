-- How many jobs there are with the submissions that wait, after what happens to them.
use Rattle.std.proofs.Common.{◌≡◌, ℕ, ◌+◌, ◌<◌, ◌≤◌, ◌⊎◌, inl, inr, List, [], ◌∷◌, ◌++◌, length, map, Bool, true, false, cond, Option, Some, Contains, refl, sym, ap, ◌∙◌, subst, count_by, arith}
use Rattle.std.specs.Prelude.{filter, nat_lt, if◌then◌else◌}
use Rattle.std.proofs.lemmas.Bool.{cond-true}
use Rattle.std.proofs.lemmas.List.{get_or-map, length-map, same_lists}
use Rattle.std.proofs.lemmas.List.Sums.{sum_by-cons, sum_by_push}
use Rattle.job_deeds.proofs.job_rules_proofs.Among.{Among, among_from, contains_from}
use Rattle.job_commands.proofs.Tables.{carried_at, carried_past, is_its}
use Rattle.job_commands.specs.Rows.{AreCarried, carried, is_of, is_submit}
use Rattle.job_commands.specs.declared.row.Row.{Row}
use Rattle.job_deeds.specs.job_states.Changes.{change_of}
use Rattle.job_deeds.specs.job_states.declared.job.Change.{Change}
use Rattle.job_deeds.specs.job_states.declared.job.Change.TheVariants as change
use Rattle.job_deeds.specs.kvs_txn.declared.txn.By.{By}
use Rattle.job_deeds.proofs.manager_rules_proofs.Landing.{with_event_ids}
use Rattle.job_deeds.specs.manager_rules.Jobs.{StoredJob, ids_of}
use Rattle.job_deeds.specs.manager_rules.Posts.{Does, Post, Submission, Submits, begun_with, job_of, jobs_after, with_job}
use Rattle.job_deeds.specs.manager_rules.declared.due.Due.{Due}
use Rattle.job_service.specs.Posted.{id_posted}

-- ---- counts

abbrev one : {A : Type 0} → (A → Bool) → A → ℕ
one p x = cond (p x) 1 0

count_cons : {A : Type 0} (p : A → Bool) (x : A) (xs : List A) → count_by p (x ∷ xs) ≡ one p x + count_by p xs
count_cons p x xs = sum_by-cons (one p) x xs

pub count_more : {A : Type 0} (p : A → Bool) (xs : List A) (x : A) → count_by p (xs ++ x ∷ []) ≡ count_by p xs + cond (p x) 1 0
count_more p xs x = sum_by_push (one p) xs x

pub count_filter : {A : Type 0} (p q : A → Bool) (xs : List A) → count_by p (filter q xs) ≤ count_by p xs
count_filter p q [] = omega arith
count_filter p q (x ∷ xs) = at (q x) (count_filter p q xs)
  where
    at : (b : Bool) → count_by p (filter q xs) ≤ count_by p xs → count_by p (cond b (x ∷ filter q xs) (filter q xs)) ≤ count_by p (x ∷ xs)
    at true h = omega (arith, h, count_cons p x (filter q xs), count_cons p x xs)
    at false h = omega (arith, h, count_cons p x xs)

-- ---- rows that a landing carries out

carried_all : (by : By) (number : ℕ) (old new : List Row) → AreCarried by number old new → new ≡ map (carried by number) old
carried_all by number old new h =
    same_lists new (map (carried by number) old) (h.same_len ∙ sym (length-map old (carried by number)))
    (λ k d w. let within : k < length old = subst (λ n. k < n) h.same_len w in h.each k d within ∙ sym (get_or-map (carried by number) old k d d within))

carried_not : (by : By) (number : ℕ) (row : Row) → one is_submit (carried by number row) ≤ one is_submit row
carried_not by number row = at (is_of by row) refl
  where
    at : (b : Bool) → is_of by row ≡ b → one is_submit (carried by number row) ≤ one is_submit row
    at true t = subst (λ r. one is_submit r ≤ one is_submit row) (sym (carried_at by number row t)) (omega arith)
    at false t = subst (λ r. one is_submit r ≤ one is_submit row) (sym (carried_past by number row t)) (omega arith)

carried_fewer : (by : By) (number : ℕ) (rows : List Row) → count_by is_submit (map (carried by number) rows) ≤ count_by is_submit rows
carried_fewer by number [] = omega arith
carried_fewer by number (row ∷ rows) =
    omega (arith, count_cons is_submit (carried by number row) (map (carried by number) rows), count_cons is_submit row rows, carried_not by number row, carried_fewer by number rows)

carried_one : (by : By) (number : ℕ) (row : Row) (rows : List Row) → Among row rows → row.by ≡ by → is_submit row ≡ true → count_by is_submit (map (carried by number) rows) + 1 ≤ count_by is_submit rows
carried_one by number row [] i named waits = absurd i
carried_one by number row (x ∷ rows) (inl e) named waits =
    let its : is_of by x ≡ true = is_its by x (ap (λ r. r.by) e ∙ named) in
    let after : one is_submit (carried by number x) ≡ 0 = ap (one is_submit) (carried_at by number x its) in
    let before : one is_submit x ≡ 1 = cond-true (is_submit x) 1 0 (ap is_submit e ∙ waits) in
    omega (arith, count_cons is_submit (carried by number x) (map (carried by number) rows), count_cons is_submit x rows, carried_fewer by number rows, after, before)
carried_one by number row (x ∷ rows) (inr i) named waits =
    omega (arith, count_cons is_submit (carried by number x) (map (carried by number) rows), count_cons is_submit x rows, carried_not by number x, carried_one by number row rows i named waits)

pub count_carried : (by : By) (number : ℕ) (old new : List Row) → AreCarried by number old new → count_by is_submit new ≤ count_by is_submit old
count_carried by number old new h = subst (λ rows. count_by is_submit rows ≤ count_by is_submit old) (sym (carried_all by number old new h)) (carried_fewer by number old)

pub count_submitted : (by : By) (number : ℕ) (old new : List Row) → AreCarried by number old new → (row : Row) → Contains old row → row.by ≡ by → is_submit row ≡ true → count_by is_submit new + 1 ≤ count_by is_submit old
count_submitted by number old new h row c named waits =
    subst (λ rows. count_by is_submit rows + 1 ≤ count_by is_submit old) (sym (carried_all by number old new h)) (carried_one by number row old (among_from old row c) named waits)

-- ---- the jobs after a post

length_with : (j : StoredJob) (jobs : List StoredJob) → length (with_job j jobs) ≡ length jobs + 1
length_with j [] = omega arith
length_with j (x ∷ jobs) = elim (nat_lt j.id x.id) as (λ b. length (if b then j ∷ x ∷ jobs else x ∷ with_job j jobs) ≡ length (x ∷ jobs) + 1) [
  | true ↦ omega arith
  | false ↦ let more = length_with j jobs in omega (arith, more)
]

length_begun : (o : Option Change) (x : Submission) (jobs : List StoredJob) → length (begun_with o x jobs) ≤ length jobs + 1
length_begun (Some (change.Submit userid urgency)) x jobs = let more = length_with (job_of x userid urgency) jobs in omega (arith, more)
length_begun _ x jobs = omega arith

pub length_submitted : (x : Submission) (jobs : List StoredJob) → length (jobs_after (Submits x) jobs) ≤ length jobs + 1
length_submitted x jobs = length_begun (change_of x.event) x jobs

pub length_done : (due : Due) (jobs : List StoredJob) → length (jobs_after (Does due) jobs) ≡ length jobs
length_done due jobs = length-map jobs _

ids_with : (j : StoredJob) (jobs : List StoredJob) (id : ℕ) → Among id (ids_of (with_job j jobs)) → Among id (ids_of jobs) ⊎ (j.id ≡ id)
ids_with j [] id (inl e) = inr e
ids_with j [] id (inr i) = absurd i
ids_with j (x ∷ jobs) id i = at (nat_lt j.id x.id) i (ids_with j jobs id)
  where
    at : (b : Bool) → Among id (ids_of (if b then j ∷ x ∷ jobs else x ∷ with_job j jobs)) → (Among id (ids_of (with_job j jobs)) → Among id (ids_of jobs) ⊎ (j.id ≡ id)) → Among id (ids_of (x ∷ jobs)) ⊎ (j.id ≡ id)
    at true (inl e) more = inr e
    at true (inr there) more = inl there
    at false (inl e) more = inl (inl e)
    at false (inr there) more = elim (more there) [ inl old ↦ inl (inr old) | inr e ↦ inr e ]

ids_begun : (o : Option Change) (x : Submission) (jobs : List StoredJob) (id : ℕ) → Among id (ids_of (begun_with o x jobs)) → Among id (ids_of jobs) ⊎ (x.id ≡ id)
ids_begun (Some (change.Submit userid urgency)) x jobs id i = ids_with (job_of x userid urgency) jobs id i
ids_begun _ x jobs id i = inl i

-- a job after a post stood there before, or is the one that it submits
pub ids_after : (post : Post) (jobs : List StoredJob) (id : ℕ) → Contains (ids_of (jobs_after post jobs)) id → Contains (ids_of jobs) id ⊎ (id_posted (Some post) ≡ Some id)
ids_after (Submits x) jobs id c = elim (ids_begun (change_of x.event) x jobs id (among_from _ id c)) [
  | inl old ↦ inl (contains_from (ids_of jobs) id old)
  | inr e ↦ inr (ap Some e)
]
ids_after (Does due) jobs id c = inl (subst (λ ids. Contains ids id) (with_event_ids due jobs) c)
