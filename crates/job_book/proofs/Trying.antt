-- What the tests' submissions and callback meet.
use Rattle.std.proofs.Common.{◌≡◌, ℕ, ◌+◌, ◌<◌, ◌^◌, true, false, not, List, [], ◌∷◌, ◌++◌, Option, Some, None, refl, sym, subst, append-nil, arith}
use Rattle.std.specs.Prelude.{All, Contains, filter, is_some, min}
use Rattle.std.specs.List.{list_all, AllByRecursion as Each}
use Rattle.std.proofs.lemmas.Bool.{and_parts}
use Rattle.job_deeds.specs.event_log.declared.event.Event.{Event}
use Rattle.job_deeds.proofs.job_rules_proofs.Among.{Among, among_filter, among_mapped, contains_from, each_at, each_from}
use Rattle.job_deeds.specs.job_spec.declared.spec.Depend.{Depend}
use Rattle.job_deeds.specs.job_spec.declared.spec.JobSpec.{JobSpec}
use Rattle.job_deeds.specs.tap.declared.Ask.{Ask}
use Rattle.job_deeds.specs.manager_rules.declared.asked.Asked.{Asked}
use Rattle.job_deeds.specs.manager_rules.declared.due.Due.{Due}
use Rattle.job_deeds.specs.manager_rules.Dependencies.{job_at}
use Rattle.job_deeds.specs.manager_rules.Limits.{no_limits}
use Rattle.job_deeds.specs.manager_rules.Jobs.{StoredJob, distinct, ids_of, listed_in, same_need}
use Rattle.job_deeds.specs.manager_rules.Scene.{IsAsked}
use Rattle.job_book.specs.Contract.{IsDueIn, KnowsNeeds, WasDue}
use Rattle.job_book.specs.Value.{BookValue}
use Rattle.job_deeds.proofs.Whys.{found_job, no_job}

-- ---- submissions

pub not_had : (jobs : List StoredJob) (id : ℕ) → is_some (job_at jobs id) ≡ false → Contains (ids_of jobs) id → ⊥
not_had jobs id e = by (job_at jobs id) refl e
  where
    by : (o : Option StoredJob) → job_at jobs id ≡ o → is_some o ≡ false → Contains (ids_of jobs) id → ⊥
    by None f e = no_job jobs id f
    by (Some j) f e = cc

had : (jobs : List StoredJob) (id : ℕ) → is_some (job_at jobs id) ≡ true → Contains (ids_of jobs) id
had jobs id e = by (job_at jobs id) refl e
  where
    by : (o : Option StoredJob) → job_at jobs id ≡ o → is_some o ≡ true → Contains (ids_of jobs) id
    by None f e = cc
    by (Some j) f e = let found = found_job jobs id j f in contains_from (ids_of jobs) id (subst (λ n. Among n (ids_of jobs)) found.1 (among_mapped (λ k. k.id) jobs j found.0))

all_had : (jobs : List StoredJob) (needs : List Depend) → list_all (λ need. is_some (job_at jobs need.on)) needs ≡ true → Each (λ need. Contains (ids_of jobs) need.on) needs
all_had jobs [] e = tt
all_had jobs (need ∷ needs) e =
    let parts = and_parts (is_some (job_at jobs need.on)) (list_all (λ need. is_some (job_at jobs need.on)) needs) e in
    (had jobs need.on parts.0, all_had jobs needs parts.1)

each_distinct : (P : Depend → Type 0) (needs : List Depend) → Each P needs → Each P (distinct needs)
each_distinct P [] h = tt
each_distinct P (need ∷ needs) h =
    let rest = each_distinct P needs h.1 in
    (h.0, each_from P (filter (λ other. not (same_need need other)) (distinct needs)) (λ x i. each_at P (distinct needs) x rest (among_filter (λ other. not (same_need need other)) (distinct needs) x i).0))

-- a submission that lists nothing, where the jobspec waits for jobs of the book
pub knows_needs : (book : BookValue) (spec : JobSpec) (event : Event) → listed_in event ≡ Some [] → list_all (λ need. is_some (job_at book.jobs need.on)) spec.depends ≡ true → KnowsNeeds book spec event
knows_needs book spec event lists all = (
  distinct (spec.depends ++ []),
  record { listed = []; small = tt; described = lists; all = refl },
  each_distinct (λ need. Contains (ids_of book.jobs) need.on) (spec.depends ++ []) (subst (Each (λ need. Contains (ids_of book.jobs) need.on)) (sym (append-nil spec.depends)) (all_had book.jobs spec.depends all)),
)

-- ---- the callback

pub was_due : (book : BookValue) (now : ℕ) (asked : List Asked) (says : Ask → ℕ → Type 0) (due : Due) → now < 2 ^ 64 → All IsAsked asked → ((ask : Ask) (n : ℕ) → says ask n → n ≡ min ask.urgency 100 + 4) → IsDueIn book now asked says due → WasDue book due
was_due book now asked says due small are said is = record {
  now = now;
  asked = asked;
  answer = λ ask. min ask.urgency 100 + 4;
  limits = no_limits;
  scene = record { now = small; asked = are; answers = λ ask. (omega arith, omega arith) };
  is = is (λ ask. min ask.urgency 100 + 4) no_limits said;
}
