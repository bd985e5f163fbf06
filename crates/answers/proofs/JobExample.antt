-- What no chronicle with jobs can hold: a submission that is told before it lands, a post of the
-- manager with nothing due, a tick without an advance.
use Rattle.std.proofs.Common.{◌≡◌, ℕ, ◌<◌, inl, inr, List, [], ◌∷◌, Bool, true, false, Some, None, refl, sym, subst, arith, true≢false, codes}
use Rattle.std.specs.Prelude.{Contains, Option}
use Rattle.std.specs.List.{AllByRecursion as Each}
use Rattle.fl_digest.specs.declared.Hash.TheVariants as hash
use Rattle.kvs_txn.specs.declared.txn.Author.TheVariants as author
use Rattle.kvs_txn.specs.declared.txn.By.{By}
use Rattle.kvs_txn.specs.declared.txn.Group.{Group}
use Rattle.kvs_model.specs.History.{first_store}
use Rattle.kvs_model.specs.Store.{Store}
use Rattle.kvs_rules.specs.Log.{same_command}
use Rattle.kvs_rules.specs.Namespaces.{primary}
use Rattle.kvs_rules.proofs.Asking.{command_is}
use Rattle.manager_rules.specs.Jobs.{IsStored, StoredJob}
use Rattle.manager_rules.specs.Keys.{job_path}
use Rattle.manager_rules.specs.Posts.{Desk, Post, Submits, Does, IsDuePost}
use Rattle.instance_rules.specs.Desks.{IsDeskOf, IsDueAt}
use Rattle.instance_rules.specs.Family.{HasTarget}
use Rattle.instance_rules.specs.Legal.{IsLegalMoment}
use Rattle.instance_rules.specs.Log as rules
use Rattle.resource_set.specs.declared.node.Resources.{Resources}
use Rattle.workload.specs.declared.work.Command.TheVariants as command
use Rattle.workload.specs.declared.work.Workload.{Workload}
use Rattle.answers.specs.declared.chronicle.Entry.{Entry}
use Rattle.answers.specs.declared.chronicle.Entry.TheVariants as entry
use Rattle.answers.specs.declared.chronicle.Reply.TheVariants as reply
use Rattle.answers.specs.Chronicle.{Setup}
use Rattle.answers.specs.Jobs.{instance_of, job_ask_at, living_of, log_in}
use Rattle.answers.specs.Legal.{IsLegalEntry}
use Rattle.answers.specs.Runs.{ComesInTime}
use Rattle.answers.proofs.JobLogs.{only}
use Rattle.answers.proofs.Services.{or_cases}
use Rattle.answers.proofs.Plain.{plain_terms}

abbrev work : Workload
work = record {
  actors = record { name = codes "a"; rank = 0; of = None } ∷ [];
  lines =
      record { actor = 0; command = command.Submit (codes "j") 16 [] (codes "{}") }
      ∷ record { actor = 0; command = command.Advance 10 }
      ∷ [];
  grant = None;
}

abbrev no_resources : Resources
no_resources = record { nodes = []; starttime = 0; expiration = 0 }

abbrev setup : Setup
setup = record { settled = true; size = 1; fanout = 2; hash = hash.Sha1; grant = codes "grant"; resources = no_resources; base = None; terms = plain_terms; birth = 0; work = work }

abbrev e1 : Entry
e1 = entry.Issued 0 0

-- a submission is not told before its landing
no_forged_submission : (id number : ℕ) → IsLegalEntry setup (e1 ∷ []) (entry.Replied 0 0 (reply.Submitted id) (Some number)) → ⊥
no_forged_submission id number h =
    let there = h.grounds.grounds.1.0.landing in
    let none : there.0 < 0 = there.1 in
    absurd (omega (arith, none))

-- in the first store there is no job
no_job : (jobs : List StoredJob) → Each (IsStored (first_store (codes "grant"))) jobs → (j : StoredJob) → Contains jobs j → ⊥
unfolding job_path
no_job [] h j there = absurd (omega (arith, there.1))
no_job (x ∷ jobs) h j there = let text = h.0.logged.text in cc

same_store : (st : Store) → Some (first_store (codes "grant")) ≡ Some st → st ≡ first_store (codes "grant")
same_store st e = cc

no_open : (by : By) → rules.is_issued by (log_in work []) ≡ true → ⊥
no_open by h = absurd (true≢false (sym h))

nothing_due : (desk : Desk) → IsDeskOf (instance_of setup) (log_in work []) (first_store (codes "grant")) desk → (post : Post) → IsDuePost desk post → ⊥
nothing_due desk is (Submits x) due = no_open due.from.by ((is.submits due.from).0 due.waits).pending.waits.issued
nothing_due desk is (Does d) due = no_job desk.scene.jobs is.jobs.stored due.j due.known

-- where nothing is due the manager posts nothing
abbrev post : Group
post = record { txn = record { author = author.Manager; ops = [] }; authors = [] }

no_idle_post : (number : ℕ) (authors : List (Option By)) → IsLegalEntry setup [] (entry.Landed 0 primary number authors (post ∷ [])) → ⊥
no_idle_post number authors h =
    let due : IsDueAt (instance_of setup) (log_in work []) (first_store (codes "grant")) post = (h.grounds.2 refl (first_store (codes "grant")) refl).0 in
    nothing_due due.desk due.is due.post due.due

-- time stands where no advance is open
same_ask : (seconds : ℕ) → job_ask_at work (record { actor = 0; command = 0 }) ≡ Some (rules.Advance seconds) → ⊥
same_ask seconds e = cc

no_target : (target : ℕ) → HasTarget (living_of setup (e1 ∷ [])) target → ⊥
no_target target h = elim (or_cases (same_command h.by (record { actor = 0; command = 0 })) false h.waits.issued) [
  | inl own ↦ same_ask h.seconds (subst (λ b. job_ask_at work b ≡ Some (rules.Advance h.seconds)) (command_is h.by (record { actor = 0; command = 0 }) own) h.asks)
  | inr none ↦ absurd (true≢false (sym none))
]

no_idle_tick : (second : ℕ) → ComesInTime setup (e1 ∷ []) (entry.Ticked second) → ⊥
no_idle_tick second h = elim h.wanted [
  | inl t ↦ no_target h.target (subst (λ l. HasTarget l h.target) (only (living_of setup (e1 ∷ [])) t.0 t.1) t.2)
  | inr left ↦ absurd (omega (arith, left.1))
]

-- no second comes twice
no_second_again : IsLegalEntry setup [] (entry.Ticked 0) → ⊥
no_second_again h = let above : 0 < 0 = h.grounds.0 in absurd (omega arith)

-- a child of another instance is none of this one's
no_birth_of_another : (child job second : ℕ) → IsLegalEntry setup (e1 ∷ []) (entry.Born child 1 job (codes "j") second no_resources) → ⊥
no_birth_of_another child job second h = let own : ◌≡◌ {A = ℕ} 1 0 = h.grounds.0 in absurd (omega arith)

-- nothing is born where no job runs, and nothing ends where no child lives
no_idle_birth : (child job second : ℕ) → IsLegalEntry setup [] (entry.Born child 0 job (codes "j") second no_resources) → ⊥
no_idle_birth child job second h = on h.grounds.1
  where
    on : IsLegalMoment (instance_of setup) [] (rules.Born job) → ⊥
    on (st, standing, (desk, is, due)) = no_job desk.scene.jobs (subst (λ s. Each (IsStored s) desk.scene.jobs) (same_store st standing) is.jobs.stored) due.j due.known

no_idle_end : (child job : ℕ) (shut : Bool) → IsLegalEntry setup [] (entry.Gone child 0 job shut) → ⊥
no_idle_end child job shut h = on h.grounds.1
  where
    on : IsLegalMoment (instance_of setup) [] (rules.Gone job shut) → ⊥
    on (st, standing, (desk, is, due)) = no_job desk.scene.jobs (subst (λ s. Each (IsStored s) desk.scene.jobs) (same_store st standing) is.jobs.stored) due.j due.known
