-- A submission that is due tells its user, its urgency and its dependencies.
use Rattle.std.proofs.Common.{◌≡◌, ℕ, ◌<◌, ◌^◌, List, [], ◌∷◌, ◌++◌, Bool, Some, sym, ap, ◌∙◌, subst, inl, inr}
use Rattle.std.specs.Prelude.{Contains, filter, not}
use Rattle.std.specs.List.{AllByRecursion as Each}
use Rattle.job_rules.proofs.Among.{Among, among_filter, among_from, each_at, each_from}
use Rattle.job_spec.specs.declared.spec.Depend.{Depend}
use Rattle.job_states.specs.declared.job.Change.TheVariants as change
use Rattle.job_states.specs.Changes.{change_of}
use Rattle.manager_rules.specs.Jobs.{AreNeeds, StoredJob, distinct, ids_of, listed_in, same_need}
use Rattle.manager_rules.specs.Posts.{IsOpenSubmit, IsSubmission, Submission, Submit}
use Rattle.manager_rules.specs.Scene.{IsScene, Scene}
use Rattle.manager_rules.proofs.Stores.{each_map}
use Rattle.manager_rules.proofs.Submitting.{submit_lists, submit_writes}

each_right : {A : Type 0} (P : A → Type 0) (xs ys : List A) → Each P (xs ++ ys) → Each P ys
each_right P [] ys h = h
each_right P (x ∷ xs) ys h = each_right P xs ys h.1

each_filter : {A : Type 0} (P : A → Type 0) (p : A → Bool) (xs : List A) → Each P xs → Each P (filter p xs)
each_filter P p xs h = each_from P (filter p xs) (λ x i. each_at P xs x h (among_filter p xs x i).0)

each_distinct : (P : Depend → Type 0) (xs : List Depend) → Each P xs → Each P (distinct xs)
each_distinct P [] h = tt
each_distinct P (x ∷ xs) h = (h.0, each_filter P (λ other. not (same_need x other)) (distinct xs) (each_distinct P xs h.1))

id_small : (jobs : List StoredJob) → Each (λ j. j.id < 2 ^ 64) jobs → (id : ℕ) → Among id (ids_of jobs) → id < 2 ^ 64
id_small [] h id i = absurd i
id_small (k ∷ jobs) h id i = elim i [ inl e ↦ subst (λ n. n < 2 ^ 64) e h.0 | inr more ↦ id_small jobs h.1 id more ]

pub known : (s : Scene) (x : Submission) (birth : ℕ) (submits : List Submit) → IsSubmission s birth submits x → Each (λ need. Contains (ids_of s.jobs) need.on) x.needs
known s x birth submits due = subst (Each (λ need. Contains (ids_of s.jobs) need.on)) (sym due.needs) (each_distinct (λ need. Contains (ids_of s.jobs) need.on) (x.spec.depends ++ due.from.needs) due.known)

module _ (s : Scene) (scene : IsScene s) (birth : ℕ) (submits : List Submit) (x : Submission) (due : IsSubmission s birth submits x) (from : IsOpenSubmit due.from) where
  pub asks : change_of x.event ≡ Some (change.Submit due.from.by.actor due.from.urgency)
  asks = ap change_of due.event ∙ (submit_writes due.from from s.now scene.now).asks

  pub needs : Each (λ j. j.id < 2 ^ 64) s.jobs → AreNeeds x.spec x.event x.needs
  needs small = record {
    listed = due.from.needs;
    small = each_map (λ need. Contains (ids_of s.jobs) need.on) (λ need. need.on < 2 ^ 64) (λ need c. id_small s.jobs small need.on (among_from (ids_of s.jobs) need.on c)) due.from.needs (each_right _ x.spec.depends due.from.needs due.known);
    described = ap listed_in due.event ∙ submit_lists due.from from s.now;
    all = due.needs;
  }
