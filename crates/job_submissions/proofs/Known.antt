-- Dependencies on jobs, and what a submission lacks.
use Rattle.std.proofs.Common.{◌≡◌, ℕ, ◌==◌, ◌⊎◌, inl, inr, List, [], ◌∷◌, Bool, true, false, cond, ◌&&◌, Option, Some, None, Contains, map, refl, sym, ap, ◌∙◌, subst, true≢false}
use Rattle.std.specs.Prelude.{is_some, not, option_and_then, option_map}
use Rattle.std.specs.List.{list_all}
use Rattle.std.proofs.lemmas.Bool.{and_parts, and_cases, eqb-true, eq-eqb}
use Rattle.job_rules.proofs.Among.{Among, among_from, among_mapped, contains_from}
use Rattle.job_spec.specs.declared.spec.Depend.{Depend}
use Rattle.manager_rules.specs.Dependencies.{job_at as job_with}
use Rattle.manager_rules.specs.Jobs.{StoredJob, ids_of}
use Rattle.job_commands.specs.Desks.{needs_of}
use Rattle.instance_rules.specs.Log.{Instance, Log}
use Rattle.job_commands.specs.Agrees.{AgreesCommands}
use Rattle.job_commands.specs.Asks.{named_of}
use Rattle.job_commands.specs.Rows.{CommandsValue, Labels, job_at}
use Rattle.job_commands.specs.declared.ask.Named.{Named}
use Rattle.job_submissions.specs.Faults.{AreKnown, IsKnown, Lacks, LacksLabel, LacksSome, is_on_job}

has_id : (jobs : List StoredJob) (id : ℕ) → is_some (job_with jobs id) ≡ true → Among id (ids_of jobs)
has_id [] id e = absurd (true≢false (sym e))
has_id (j ∷ jobs) id e = at (j.id == id) refl (has_id jobs id) e
  where
    at : (b : Bool) → (j.id == id) ≡ b → (is_some (job_with jobs id) ≡ true → Among id (ids_of jobs)) → is_some (cond b (Some j) (job_with jobs id)) ≡ true → (j.id ≡ id) ⊎ Among id (ids_of jobs)
    at true t more e = inl (eqb-true j.id id t)
    at false t more e = inr (more e)

id_has : (jobs : List StoredJob) (id : ℕ) → Among id (ids_of jobs) → is_some (job_with jobs id) ≡ true
id_has [] id i = absurd i
id_has (j ∷ jobs) id i = at (j.id == id) refl (id_has jobs id) i
  where
    at : (b : Bool) → (j.id == id) ≡ b → (Among id (ids_of jobs) → is_some (job_with jobs id) ≡ true) → (j.id ≡ id) ⊎ Among id (ids_of jobs) → is_some (cond b (Some j) (job_with jobs id)) ≡ true
    at true t more i = refl
    at false t more (inl e) = absurd (true≢false (sym (eq-eqb j.id id e) ∙ t))
    at false t more (inr i) = more i

known : (jobs : List StoredJob) (need : Depend) → is_on_job jobs need ≡ true → IsKnown jobs need
known jobs need e = contains_from (ids_of jobs) need.on (has_id jobs need.on e)

unknown : (jobs : List StoredJob) (need : Depend) → is_on_job jobs need ≡ false → IsKnown jobs need → ⊥
unknown jobs need e k = true≢false (sym (id_has jobs need.on (among_from (ids_of jobs) need.on k)) ∙ e)

pub all_known : (jobs : List StoredJob) (needs : List Depend) → list_all (is_on_job jobs) needs ≡ true → AreKnown jobs needs
all_known jobs [] e = tt
all_known jobs (need ∷ needs) e = let both = and_parts (is_on_job jobs need) _ e in (known jobs need both.0, all_known jobs needs both.1)

-- not all are on jobs where one isn't
pub not_known : (jobs : List StoredJob) (needs : List Depend) → list_all (is_on_job jobs) needs ≡ false → AreKnown jobs needs → ⊥
not_known jobs [] e k = true≢false e
not_known jobs (need ∷ needs) e k = at (is_on_job jobs need) refl (λ f. not_known jobs needs f k.1) e
  where
    at : (b : Bool) → is_on_job jobs need ≡ b → (list_all (is_on_job jobs) needs ≡ false → ⊥) → (b && list_all (is_on_job jobs) needs) ≡ false → ⊥
    at true t more e = more e
    at false t more e = unknown jobs need t k.0

some_unknown : (jobs : List StoredJob) (needs : List Depend) → list_all (is_on_job jobs) needs ≡ false → (need : Depend) × Among need needs × (IsKnown jobs need → ⊥)
some_unknown jobs [] e = absurd (true≢false e)
some_unknown jobs (need ∷ needs) e = elim (and_cases (is_on_job jobs need) _ e) [
  | inl here ↦ (need, inl refl, unknown jobs need here)
  | inr later ↦ let more = some_unknown jobs needs later in (more.0, inr more.1, more.2)
]

pub lacks_need : (labels : Labels) (jobs : List StoredJob) (depends : List Depend) (named : List Named) → list_all (is_on_job jobs) depends ≡ false → Lacks labels jobs depends named true
lacks_need labels jobs depends named e = let one = some_unknown jobs depends e in inl (one.0, contains_from depends one.0 one.1, one.2)

-- a label of the list names none of the jobs
abbrev LacksOne : Labels → List StoredJob → List Named → Type 0
LacksOne labels jobs named = (n : Named) × Among n named × LacksLabel labels jobs n

-- where a label names no job
nameless : (labels : Labels) (jobs : List StoredJob) (named : List Named) → needs_of labels named ≡ None → LacksOne labels jobs named
nameless labels jobs [] e = absurd (true≢false (ap is_some e))
nameless labels jobs (n ∷ named) e = at (job_at n.label labels) refl (nameless labels jobs named) e
  where
    at : (o : Option ℕ) → job_at n.label labels ≡ o → (needs_of labels named ≡ None → LacksOne labels jobs named)
        → option_and_then (λ job. option_map (λ needs. (let d : Depend = record { scheme = n.scheme; on = job } in d) ∷ needs) (needs_of labels named)) o ≡ None → LacksOne labels jobs (n ∷ named)
    at None t more e = (n, inl refl, λ id f k. true≢false (sym (ap is_some (sym t ∙ f))))
    at (Some job) t more e = later (needs_of labels named) refl e
      where
        later : (o : Option (List Depend)) → needs_of labels named ≡ o → option_map (λ needs. (let d : Depend = record { scheme = n.scheme; on = job } in d) ∷ needs) o ≡ None → LacksOne labels jobs (n ∷ named)
        later None f e = let m = more f in (m.0, inr m.1, m.2)
        later (Some needs) f e = absurd (true≢false (ap is_some e))

-- where a label names a job that isn't there
jobless : (labels : Labels) (jobs : List StoredJob) (named : List Named) (needs : List Depend) → needs_of labels named ≡ Some needs → list_all (is_on_job jobs) needs ≡ false → LacksOne labels jobs named
jobless labels jobs [] needs e f = (let same : [] ≡ needs = cc in absurd (true≢false (ap (list_all (is_on_job jobs)) same ∙ f)))
jobless labels jobs (n ∷ named) needs e f = at (job_at n.label labels) refl (jobless labels jobs named) e
  where
    at : (o : Option ℕ) → job_at n.label labels ≡ o → ((rest : List Depend) → needs_of labels named ≡ Some rest → list_all (is_on_job jobs) rest ≡ false → LacksOne labels jobs named)
        → option_and_then (λ job. option_map (λ rest. (let d : Depend = record { scheme = n.scheme; on = job } in d) ∷ rest) (needs_of labels named)) o ≡ Some needs → LacksOne labels jobs (n ∷ named)
    at None t more e = cc
    at (Some job) t more e = later (needs_of labels named) refl e
      where
        later : (o : Option (List Depend)) → needs_of labels named ≡ o → option_map (λ rest. (let d : Depend = record { scheme = n.scheme; on = job } in d) ∷ rest) o ≡ Some needs → LacksOne labels jobs (n ∷ named)
        later None g e = cc
        later (Some rest) g e =
            let d : Depend = record { scheme = n.scheme; on = job } in
            let is : d ∷ rest ≡ needs = cc in
            elim (and_cases (is_on_job jobs d) (list_all (is_on_job jobs) rest) (ap (list_all (is_on_job jobs)) is ∙ f)) [
              | inl here ↦ (n, inl refl, λ id h k. (let both : Some job ≡ Some id = sym t ∙ h in let same : job ≡ id = cc in unknown jobs d here (subst (Contains (ids_of jobs)) (sym same) k)))
              | inr there ↦ let m = more rest g there in (m.0, inr m.1, m.2)
            ]

pub lacks_label : (labels : Labels) (jobs : List StoredJob) (depends : List Depend) (named : List Named) → needs_of labels named ≡ None → Lacks labels jobs depends named true
lacks_label labels jobs depends named e = let one = nameless labels jobs named e in inr (one.0, contains_from named one.0 one.1, one.2)

pub lacks_named : (labels : Labels) (jobs : List StoredJob) (depends : List Depend) (named : List Named) (needs : List Depend) → needs_of labels named ≡ Some needs → list_all (is_on_job jobs) needs ≡ false → Lacks labels jobs depends named true
lacks_named labels jobs depends named needs e f = let one = jobless labels jobs named needs e f in inr (one.0, contains_from named one.0 one.1, one.2)

pub verdict : (labels : Labels) (jobs : List StoredJob) (depends : List Depend) (named : List Named) (needs : List Depend) (b : Bool) → b ≡ list_all (is_on_job jobs) needs → AreKnown jobs depends → needs_of labels named ≡ Some needs → Lacks labels jobs depends named (not b)
verdict labels jobs depends named needs true e k is = (k, (needs, is, all_known jobs needs (sym e)))
verdict labels jobs depends named needs false e k is = lacks_named labels jobs depends named needs is (sym e)

pub grounds : (v : CommandsValue) (inst : Instance) (log : Log) (jobs : List StoredJob) (depends : List Depend) (named : List Named) → AgreesCommands v inst log → Lacks v.labels jobs depends named true → LacksSome inst log jobs depends (map named_of named)
grounds v inst log jobs depends named h (inl one) = inl one
grounds v inst log jobs depends named h (inr one) =
    inr (named_of one.0, contains_from (map named_of named) (named_of one.0) (among_mapped named_of named one.0 (among_from named one.0 one.1)), λ id n k. one.2 id ((h.labels one.0.label id).1 n) k)
