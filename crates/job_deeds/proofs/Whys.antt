-- Why a job doesn't run.
use Rattle.std.proofs.Common.{◌≡◌, ◌≢◌, ℕ, ◌==◌, Bool, true, false, cond, List, [], ◌∷◌, Option, Some, None, refl, sym, ap, ◌∙◌, subst, inl, inr}
use Rattle.std.specs.Prelude.{Contains, IsSome}
use Rattle.std.proofs.lemmas.Bool.{eq-eqb, eqb-true}
use Rattle.job_rules.proofs.Among.{Among, among_from, contains_from}
use Rattle.job_states.specs.Table.{is_state}
use Rattle.job_states.specs.declared.job.State.TheVariants as state
use Rattle.resource_set.specs.declared.node.Node.{Node}
use Rattle.resource_set.specs.declared.node.Resources.{Resources}
use Rattle.graph_match.specs.Answers.{AreFirstFit, IsBlocked}
use Rattle.job_rules.proofs.Lying.{never_first, read_is}
use Rattle.job_rules.specs.Fits.{IsGrant, NeverFits}
use Rattle.job_spec.specs.Sound.{IsSpec}
use Rattle.manager_rules.specs.Dependencies.{job_at}
use Rattle.manager_rules.specs.Scene.{Scene}
use Rattle.manager_rules.specs.Sound.{holds_of}
use Rattle.manager_rules.specs.declared.why.Why.{Why}
use Rattle.manager_rules.specs.declared.why.Why.TheVariants.{Busy, Behind, Held, Ready, NotWaiting, NoJob}
use Rattle.manager_rules.specs.Jobs.{StoredJob, ids_of}
use Rattle.manager_rules.specs.Whys.{IsFirst, IsSaidOf, IsWhy}
use Rattle.job_deeds.specs.Choices.{IsSeen}
use Rattle.job_deeds.specs.Waiting.{IsRanked, waits_with}
use Rattle.job_deeds.specs.declared.decisions.Desk.{Desk}

-- ---- the queue

-- a job that waits with another priority than 0
pub waits_above : (j : StoredJob) → IsRanked j → j.job.state ≡ state.Sched → j.job.priority ≢ Some 0 → waits_with j ≡ 0 → ⊥
waits_above j ranked waits other none = by j.job.priority refl
  where
    by : (o : Option ℕ) → j.job.priority ≡ o → ⊥
    by None e = let no = subst IsSome e (ranked waits) in cc
    by (Some p) e =
        let at : is_state j.job.state state.Sched ≡ true = rw waits refl in
        let is : waits_with j ≡ p = rw (at, e) refl in
        other (e ∙ ap Some (sym is ∙ none))

-- ---- the job of an id

found_case : (x j : StoredJob) (xs : List StoredJob) (id : ℕ) (b : Bool) → (x.id == id) ≡ b → (job_at xs id ≡ Some j → Among j xs × (j.id ≡ id)) → ((x.id == id) ≡ true → x.id ≡ id) → cond b (Some x) (job_at xs id) ≡ Some j → Among j (x ∷ xs) × (j.id ≡ id)
found_case x j xs id true t more named e = let same : x ≡ j = cc in (inl same, ap (λ y. y.id) (sym same) ∙ named t)
found_case x j xs id false t more named e = let m = more e in (inr m.0, m.1)

pub found_job : (jobs : List StoredJob) (id : ℕ) (j : StoredJob) → job_at jobs id ≡ Some j → Among j jobs × (j.id ≡ id)
found_job [] id j e = cc
found_job (x ∷ xs) id j e = found_case x j xs id (x.id == id) refl (λ f. found_job xs id j f) (λ t. eqb-true x.id id t) e

none_case : (x : StoredJob) (xs : List StoredJob) (id : ℕ) (b : Bool) → (x.id == id) ≡ b → (x.id ≡ id → (x.id == id) ≡ true) → (job_at xs id ≡ None → Among id (ids_of xs) → ⊥) → cond b (Some x) (job_at xs id) ≡ None → Among id (ids_of (x ∷ xs)) → ⊥
none_case x xs id true t test more e i = cc
none_case x xs id false t test more e i = elim i [
  | inl same ↦ let f : false ≡ true = sym t ∙ test same in cc
  | inr later ↦ more e later
]

no_job_among : (jobs : List StoredJob) (id : ℕ) → job_at jobs id ≡ None → Among id (ids_of jobs) → ⊥
no_job_among [] id e i = absurd i
no_job_among (x ∷ xs) id e i = none_case x xs id (x.id == id) refl (λ same. eq-eqb x.id id same) (λ f. no_job_among xs id f) e i

pub no_job : (jobs : List StoredJob) (id : ℕ) → job_at jobs id ≡ None → Contains (ids_of jobs) id → ⊥
no_job jobs id e c = no_job_among jobs id e (among_from (ids_of jobs) id c)

-- ---- what is said of it

said_is_why : (s : Scene) (j : StoredJob) (id : ℕ) → Contains s.jobs j → j.id ≡ id → (why : Why) → IsSaidOf s j why → IsWhy s id why
said_is_why s j id c e (Busy ids) said = (j, c, e, said)
said_is_why s j id c e (Behind head) said = (j, c, e, said)
said_is_why s j id c e Held said = (j, c, e, said)
said_is_why s j id c e Ready said = (j, c, e, said)
said_is_why s j id c e (NotWaiting where_) said = (j, c, e, said)
said_is_why s j id c e NoJob said = absurd said

pub said_why : (s : Scene) (j : StoredJob) (id : ℕ) → job_at s.jobs id ≡ Some j → (why : Why) → IsSaidOf s j why → IsWhy s id why
said_why s j id e why said = let found = found_job s.jobs id j e in said_is_why s j id (contains_from s.jobs j found.0) found.1 why said

-- ---- of the first in the queue

module _ (desk : Desk) (s : Scene) (seen : IsSeen desk s) (j : StoredJob) where
  pub said_ready : (r : Resources) → IsFirst s.jobs j → AreFirstFit desk.graph.now j.spec desk.second r → IsSaidOf s j Ready
  said_ready r first fit = inl (first, λ none. no_some _ r.nodes none (subst (λ g. AreFirstFit g j.spec desk.second r) seen.graph fit).nodes)
    where
      no_some : (o : Option (List Node)) (x : List Node) → o ≡ None → o ≡ Some x → ⊥
      no_some None x e f = cc
      no_some (Some y) x e f = cc

  pub said_busy : (ids : List ℕ) → IsFirst s.jobs j → IsBlocked desk.graph.now j.spec ids → IsSaidOf s j (Busy ids)
  said_busy ids first blocked = let here = subst (λ g. IsBlocked g j.spec ids) seen.graph blocked in (first, here.none, inr (here.some, here.blockers))

  pub said_never : IsSpec j.spec → IsGrant desk.graph.now.grant → IsFirst s.jobs j → NeverFits j.spec desk.graph.now.grant → IsSaidOf s j (Busy [])
  said_never spec grant first never =
      let here = subst (λ g. NeverFits j.spec g.grant) seen.graph never in
      let sets = subst (λ g. IsGrant g.grant) seen.graph grant in
      (first, never_first j.spec s.grant.nodes (holds_of s.jobs) (read_is j.spec spec) sets here, inl (here, refl))
