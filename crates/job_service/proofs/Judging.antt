-- Submissions that wait stay refused or accepted.
use Rattle.std.proofs.Common.{◌≡◌, ◌≢◌, ℕ, ◌⊎◌, inl, inr, List, [], ◌∷◌, ◌++◌, Bool, true, false, Option, Some, None, Contains, refl, sym, ap, ◌∙◌, subst, append_assoc, append-nil}
use Rattle.std.specs.Prelude.{filter, nat_lt, not, option_and_then, option_map, if◌then◌else◌}
use Rattle.std.proofs.lemmas.Bool.{false_from_ne_true, not_from_false}
use Rattle.instance_rules.specs.Desks.{Names}
use Rattle.instance_rules.specs.Log.{Instance, Log}
use Rattle.job_commands.proofs.Steps.{names_kept}
use Rattle.job_commands.proofs.Tables.{carried_at, carried_past, from_carried, from_forgotten, of_other}
use Rattle.job_commands.specs.Agrees.{AgreesCommands}
use Rattle.job_commands.specs.Desks.{needs_of}
use Rattle.job_commands.specs.Rows.{AreCarried, CommandsValue, Labels, carried, is_of, issued_row, job_at}
use Rattle.job_commands.specs.declared.ask.JobAsk.{JobAsk}
use Rattle.job_commands.specs.declared.ask.JobAsk.TheVariants as ask
use Rattle.job_commands.specs.declared.ask.Named.{Named}
use Rattle.job_commands.specs.declared.row.Row.{Row}
use Rattle.job_commands.specs.declared.row.Stage.TheVariants as stage
use Rattle.job_deeds.proofs.job_rules_proofs.Among.{Among, among_append, among_from, among_kept, among_left, among_right, contains_from}
use Rattle.job_deeds.specs.job_spec.declared.spec.Depend.{Depend}
use Rattle.job_deeds.specs.job_states.Changes.{change_of}
use Rattle.job_deeds.specs.job_states.declared.job.Change.{Change}
use Rattle.job_deeds.specs.job_states.declared.job.Change.TheVariants as change
use Rattle.job_submissions.specs.Faults.{AreKnown}
use Rattle.job_submissions.specs.Made.{Submits as Asks}
use Rattle.job_submissions.specs.declared.faults.Fault.{Fault}
use Rattle.kvs_rules.proofs.Asking.{command_is}
use Rattle.job_deeds.specs.kvs_txn.declared.txn.By.{By}
use Rattle.job_deeds.proofs.manager_rules_proofs.Landing.{with_event_ids}
use Rattle.job_deeds.specs.manager_rules.declared.terms.Limits.{Limits}
use Rattle.job_deeds.specs.manager_rules.Jobs.{StoredJob, ids_of}
use Rattle.job_deeds.specs.manager_rules.Posts.{Does, Post, Submission, Submits, begun_with, job_of, jobs_after, with_job}
use Rattle.job_service.specs.declared.refusals.Refused.{Refused}
use Rattle.job_service.specs.Judged.{AreJudged, CanBeMade, WasRefused}
use Rattle.job_service.specs.Landed.{IsLanded}
use Rattle.job_service.specs.Refusals.{IsFaultOf, is_refusal_of, refusals_of}

-- ---- labels and jobs only grow

-- each label that names a job still names it
abbrev pub KeepLabels : Labels → Labels → Type 0
KeepLabels old new = (label : List ℕ) (id : ℕ) → job_at label old ≡ Some id → job_at label new ≡ Some id

-- each job still stands there
abbrev pub KeepJobs : List StoredJob → List StoredJob → Type 0
KeepJobs old new = (id : ℕ) → Contains (ids_of old) id → Contains (ids_of new) id

names_along : (inst : Instance) (label : List ℕ) (id : ℕ) (more log : Log) → Names inst log label id → Names inst (log ++ more) label id
names_along inst label id [] log n = subst (λ l. Names inst l label id) (sym (append-nil log)) n
names_along inst label id (m ∷ more) log n = subst (λ l. Names inst l label id) (append_assoc log (m ∷ []) more) (names_along inst label id more (log ++ m ∷ []) (names_kept inst log m label id n))

pub labels_kept : (v new : CommandsValue) (inst : Instance) (log more : Log) → AgreesCommands v inst log → AgreesCommands new inst (log ++ more) → KeepLabels v.labels new.labels
labels_kept v new inst log more old later = λ label id e. (later.labels label id).1 (names_along inst label id more log ((old.labels label id).0 e))

ids_with : (j : StoredJob) (jobs : List StoredJob) (id : ℕ) → Among id (ids_of jobs) → Among id (ids_of (with_job j jobs))
ids_with j [] id i = absurd i
ids_with j (x ∷ jobs) id i = at (nat_lt j.id x.id) i (ids_with j jobs id)
  where
    at : (b : Bool) → Among id (ids_of (x ∷ jobs)) → (Among id (ids_of jobs) → Among id (ids_of (with_job j jobs))) → Among id (ids_of (if b then j ∷ x ∷ jobs else x ∷ with_job j jobs))
    at true i more = inr i
    at false (inl e) more = inl e
    at false (inr i) more = inr (more i)

ids_begun : (o : Option Change) (x : Submission) (jobs : List StoredJob) (id : ℕ) → Among id (ids_of jobs) → Among id (ids_of (begun_with o x jobs))
ids_begun (Some (change.Submit userid urgency)) x jobs id i = ids_with (job_of x userid urgency) jobs id i
ids_begun _ x jobs id i = i

pub jobs_kept : (post : Post) (jobs : List StoredJob) → KeepJobs jobs (jobs_after post jobs)
jobs_kept (Submits x) jobs = λ id c. contains_from _ id (ids_begun (change_of x.event) x jobs id (among_from _ id c))
jobs_kept (Does due) jobs = λ id c. subst (λ ids. Contains ids id) (sym (with_event_ids due jobs)) c

-- ---- what is accepted stays so

abbrev with_need : Named → ℕ → List Depend → List Depend
with_need n job tail = record { scheme = n.scheme; on = job } ∷ tail

needs_kept : (old new : Labels) → KeepLabels old new → (named : List Named) (needs : List Depend) → needs_of old named ≡ Some needs → needs_of new named ≡ Some needs
needs_kept old new keep [] needs e = e
needs_kept old new keep (n ∷ named) needs e = at (job_at n.label old) refl (needs_of old named) refl (needs_kept old new keep named) e
  where
    at : (o : Option ℕ) → job_at n.label old ≡ o → (r : Option (List Depend)) → needs_of old named ≡ r → ((tail : List Depend) → needs_of old named ≡ Some tail → needs_of new named ≡ Some tail)
        → option_and_then (λ job. option_map (with_need n job) r) o ≡ Some needs → needs_of new (n ∷ named) ≡ Some needs
    at None is r rest again e = cc
    at (Some id) is None rest again e = cc
    at (Some id) is (Some tail) rest again e =
        ap (option_and_then (λ job. option_map (with_need n job) (needs_of new named))) (keep n.label id is)
        ∙ ap (option_map (with_need n id)) (again tail rest)
        ∙ e

known_kept : (old new : List StoredJob) → KeepJobs old new → (needs : List Depend) → AreKnown old needs → AreKnown new needs
known_kept old new keep [] h = tt
known_kept old new keep (need ∷ needs) h = (keep need.on h.0, known_kept old new keep needs h.1)

-- ---- refusals stay

refused_left : (list more : List Refused) (by : By) → WasRefused list by → WasRefused (list ++ more) by
refused_left list more by r = record { one = r.one; known = contains_from _ r.one (among_left list more r.one (among_from list r.one r.known)); named = r.named }

-- the refusals of other commands
refused_other : (by : By) (list : List Refused) (other : By) → other ≢ by → WasRefused list other → WasRefused (filter (λ r. not (is_refusal_of by r)) list) other
refused_other by list other ne r = record {
  one = r.one;
  known = contains_from _ r.one (among_kept (λ x. not (is_refusal_of by x)) list r.one (among_from list r.one r.known)
      (not_from_false (is_refusal_of by r.one) (false_from_ne_true (is_refusal_of by r.one) (λ t. ne (sym r.named ∙ sym (command_is by r.one.by t))))));
  named = r.named;
}

-- a row that waits is none of those that are carried out
waits_still : (by : By) (number : ℕ) (old new : List Row) → AreCarried by number old new → (row : Row) → Contains new row → row.stage ≡ stage.Waits → Contains old row × (row.by ≢ by)
waits_still by number old new rows row c waits = at (from_carried by number old new rows row c)
  where
    at : (y : Row) × Contains old y × (row ≡ carried by number y) → Contains old row × (row.by ≢ by)
    at (y, known, is) = by_test (is_of by y) refl
      where
        by_test : (b : Bool) → is_of by y ≡ b → Contains old row × (row.by ≢ by)
        by_test true t = absurd (let wrong : stage.Landed number ≡ stage.Waits = sym (ap (λ x. x.stage) (is ∙ carried_at by number y t)) ∙ waits in cc)
        by_test false t =
            let same : row ≡ y = is ∙ carried_past by number y t in
            (subst (Contains old) (sym same) known, subst (λ r. r.by ≢ by) (sym same) (of_other by y t))

module _ {limits : Limits} where
  made_kept : (old new : Labels) (jobs later : List StoredJob) → KeepLabels old new → KeepJobs jobs later → (named : List Named) (text : List ℕ) → CanBeMade limits old jobs named text → CanBeMade limits new later named text
  made_kept old new jobs later labels keep named text m = record {
    spec = m.spec;
    needs = m.needs;
    accepted = record {
      reads = m.accepted.reads;
      passed = m.accepted.passed;
      names = needs_kept old new labels named m.needs m.accepted.names;
      depends = known_kept jobs later keep m.spec.depends m.accepted.depends;
      known = known_kept jobs later keep m.needs m.accepted.known;
    };
  }

  -- ---- through the calls

  pub judged_begun : (v : CommandsValue) (jobs : List StoredJob) (list : List Refused) → ((row : Row) → Contains v.rows row → ⊥) → AreJudged limits v jobs list
  judged_begun v jobs list none = λ row urgency named text c asks. absurd (none row c)

  -- of what is asked, a submission is refused or accepted
  judged_asked : (v : CommandsValue) (jobs : List StoredJob) (list : List Refused) (by : By) (asked : JobAsk) (fault : Option Fault) → IsFaultOf limits v jobs asked fault → (label : List ℕ) (urgency : ℕ) (named : List Named) (text : List ℕ) → asked ≡ ask.Submit label urgency named text
      → WasRefused (list ++ refusals_of by fault) by ⊎ CanBeMade limits v.labels jobs named text
  judged_asked v jobs list by asked (Some f) is label urgency named text e =
      let new : Refused = record { by = by; fault = f } in
      inl (record { one = new; known = contains_from _ new (among_right list (new ∷ []) new (inl refl)); named = refl })
  judged_asked v jobs list by asked None is label urgency named text e =
      let h = subst (λ x. IsFaultOf limits v jobs x None) e is in
      inr (record { spec = h.0; needs = h.3.1.0; accepted = record { reads = h.1; passed = h.2; names = h.3.1.1; depends = h.3.0; known = h.3.1.2 } })

  pub judged_issued : (v new : CommandsValue) (jobs : List StoredJob) (list : List Refused) (by : By) (rank now : ℕ) (asked : JobAsk) (fault : Option Fault) → new.rows ≡ v.rows ++ issued_row v by rank now asked ∷ [] → new.labels ≡ v.labels → IsFaultOf limits v jobs asked fault → AreJudged limits v jobs list → AreJudged limits new jobs (list ++ refusals_of by fault)
  judged_issued v new jobs list by rank now asked fault rows labels is h = λ row urgency named text c asks.
      subst (λ l. WasRefused (list ++ refusals_of by fault) row.by ⊎ CanBeMade limits l jobs named text) (sym labels)
      (at row urgency named text asks (among_append v.rows (issued_row v by rank now asked ∷ []) row (among_from _ row (subst (λ l. Contains l row) rows c))))
    where
      old : (row : Row) (named : List Named) (text : List ℕ) → WasRefused list row.by ⊎ CanBeMade limits v.labels jobs named text → WasRefused (list ++ refusals_of by fault) row.by ⊎ CanBeMade limits v.labels jobs named text
      old row named text (inl r) = inl (refused_left list (refusals_of by fault) row.by r)
      old row named text (inr m) = inr m

      at : (row : Row) (urgency : ℕ) (named : List Named) (text : List ℕ) → Asks row urgency named text → Among row v.rows ⊎ Among row (issued_row v by rank now asked ∷ []) → WasRefused (list ++ refusals_of by fault) row.by ⊎ CanBeMade limits v.labels jobs named text
      at row urgency named text asks (inl i) = old row named text (h row urgency named text (contains_from v.rows row i) asks)
      at row urgency named text asks (inr (inl same)) =
          subst (λ b. WasRefused (list ++ refusals_of by fault) b ⊎ CanBeMade limits v.labels jobs named text) (ap (λ r. r.by) same)
          (judged_asked v jobs list by asked fault is asks.label urgency named text (ap (λ r. r.ask) same ∙ asks.asks))
      at row urgency named text asks (inr (inr none)) = absurd none

  pub judged_told : (v new : CommandsValue) (jobs : List StoredJob) (list : List Refused) (by : By) → new.rows ≡ filter (λ r. not (is_of by r)) v.rows → new.labels ≡ v.labels → AreJudged limits v jobs list → AreJudged limits new jobs (filter (λ r. not (is_refusal_of by r)) list)
  judged_told v new jobs list by rows labels h = λ row urgency named text c asks.
      let k = from_forgotten by v.rows row (subst (λ l. Contains l row) rows c) in
      subst (λ l. WasRefused (filter (λ r. not (is_refusal_of by r)) list) row.by ⊎ CanBeMade limits l jobs named text) (sym labels)
      (at row named text k.1 (h row urgency named text k.0 asks))
    where
      at : (row : Row) (named : List Named) (text : List ℕ) → row.by ≢ by → WasRefused list row.by ⊎ CanBeMade limits v.labels jobs named text → WasRefused (filter (λ r. not (is_refusal_of by r)) list) row.by ⊎ CanBeMade limits v.labels jobs named text
      at row named text ne (inl r) = inl (refused_other by list row.by ne r)
      at row named text ne (inr m) = inr m

  carried_judged : (v new : CommandsValue) (jobs later : List StoredJob) (list : List Refused) (by : By) (number : ℕ) → AreCarried by number v.rows new.rows → KeepLabels v.labels new.labels → KeepJobs jobs later → AreJudged limits v jobs list → AreJudged limits new later (filter (λ r. not (is_refusal_of by r)) list)
  carried_judged v new jobs later list by number rows labels keep h = λ row urgency named text c asks.
      let k = waits_still by number v.rows new.rows rows row c asks.waits in
      at row named text k.1 (h row urgency named text k.0 asks)
    where
      at : (row : Row) (named : List Named) (text : List ℕ) → row.by ≢ by → WasRefused list row.by ⊎ CanBeMade limits v.labels jobs named text → WasRefused (filter (λ r. not (is_refusal_of by r)) list) row.by ⊎ CanBeMade limits new.labels later named text
      at row named text ne (inl r) = inl (refused_other by list row.by ne r)
      at row named text ne (inr m) = inr (made_kept v.labels new.labels jobs later labels keep named text m)

  pub judged_landed : (v new : CommandsValue) (jobs later : List StoredJob) (list left : List Refused) (id : Option ℕ) (number : ℕ) (o : Option By) → IsLanded o id number v new list left → KeepLabels v.labels new.labels → KeepJobs jobs later → AreJudged limits v jobs list → AreJudged limits new later left
  judged_landed v new jobs later list left id number None l labels keep h =
      subst (λ c. AreJudged limits c later left) (sym l.0) (subst (AreJudged limits v later) (sym l.1) (λ row urgency named text c asks. at row named text (h row urgency named text c asks)))
    where
      at : (row : Row) (named : List Named) (text : List ℕ) → WasRefused list row.by ⊎ CanBeMade limits v.labels jobs named text → WasRefused list row.by ⊎ CanBeMade limits v.labels later named text
      at row named text (inl r) = inl r
      at row named text (inr m) = inr (made_kept v.labels v.labels jobs later (λ label id e. e) keep named text m)
  judged_landed v new jobs later list left (Some id) number (Some by) l labels keep h = subst (AreJudged limits new later) (sym l.1) (carried_judged v new jobs later list by number l.0.rows labels keep h)
  judged_landed v new jobs later list left None number (Some by) l labels keep h = subst (AreJudged limits new later) (sym l.1) (carried_judged v new jobs later list by number l.0.rows labels keep h)
