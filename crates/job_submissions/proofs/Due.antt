-- A submission that is made of the open commands is due, and where none is made none is due.
use Rattle.std.proofs.Common.{◌≡◌, ◌≢◌, ◌∙◌, ◌⊎◌, inl, inr, ℕ, ◌+◌, ◌-◌, ◌*◌, ◌^◌, ◌<◌, ◌≤◌, List, [], ◌∷◌, ◌++◌, Option, Some, None, Ok, Contains, true, length, refl, sym, ap, subst, arith}
use Rattle.std.specs.Prelude.{option_map, filter_map, slice_index}
use Rattle.std.specs.List.{AllByRecursion as Each, cons_option}
use Rattle.instance_rules.specs.Log.{Instance, IsInstance, IsOpen, Log, before_issue, now_of, seconds_open}
use Rattle.kvs_txn.specs.declared.txn.By.{By}
use Rattle.job_commands.specs.Agrees.{AgreesCommands, IsIdOf, RowAgrees}
use Rattle.job_commands.specs.Asks.{told}
use Rattle.job_commands.specs.Desks.{desk_of, needs_of, submit_at, submit_by, submits_of}
use Rattle.job_commands.specs.Rows.{CommandsValue, is_submit, job_at}
use Rattle.job_commands.specs.declared.ask.JobAsk.{JobAsk}
use Rattle.job_commands.specs.declared.ask.JobAsk.TheVariants as ask
use Rattle.job_commands.specs.declared.ask.Named.{Named}
use Rattle.job_commands.specs.declared.row.Row.{Row}
use Rattle.job_commands.specs.declared.row.Stage.{Stage}
use Rattle.job_commands.specs.declared.row.Stage.TheVariants as stage
use Rattle.job_rules.proofs.Among.{Among, among_from, contains_from}
use Rattle.job_spec.specs.Specs.{spec_reading}
use Rattle.job_spec.specs.declared.spec.Depend.{Depend}
use Rattle.job_spec.specs.declared.spec.JobSpec.{JobSpec}
use Rattle.manager_rules.proofs.Submitting.{submit_lists}
use Rattle.manager_rules.specs.Jobs.{AreNeeds, StoredJob, distinct, ids_of, listed_in}
use Rattle.manager_rules.specs.Limits.{verdict_of}
use Rattle.manager_rules.specs.Posts as posts
use Rattle.manager_rules.specs.Posts.{IsNewId, IsOpenSubmit, IsSubmission, Submission, submit_event}
use Rattle.job_submissions.specs.Faults.{AreKnown}
use Rattle.job_submissions.specs.Made.{AreLabelled, IsMade, IsMadeOf, MakesNone, Submits}
use Rattle.job_submissions.proofs.Drawn.{rank-small, sequence-small, submits-now}

-- ---- lists

kept : {A B : Type 0} (f : A → Option B) (xs : List A) (x : A) (y : B) → Among x xs → f x ≡ Some y → Among y (filter_map f xs)
kept f [] x y i e = absurd i
kept {A = A} {B = B} f (z ∷ zs) x y i e = at (f z) refl (λ j. kept f zs x y j e) i
  where
    at : (o : Option B) → f z ≡ o → (Among x zs → Among y (filter_map f zs)) → (z ≡ x) ⊎ Among x zs → Among y (cons_option o (filter_map f zs))
    at None is more (inl same) = (let none : None ≡ Some y = sym is ∙ ap f same ∙ e in cc)
    at None is more (inr j) = more j
    at (Some w) is more (inl same) = inl (some_same (sym is ∙ ap f same ∙ e))
      where
        some_same : {u v : B} → Some u ≡ Some v → u ≡ v
        some_same e = cc
    at (Some w) is more (inr j) = inr (more j)

made-from : {A B : Type 0} (f : A → Option B) (xs : List A) (y : B) → Among y (filter_map f xs) → (x : A) × Among x xs × (f x ≡ Some y)
made-from f [] y i = absurd i
made-from {A = A} {B = B} f (x ∷ xs) y i = at (f x) refl (made-from f xs y) i
  where
    at : (o : Option B) → f x ≡ o → (Among y (filter_map f xs) → (z : A) × Among z xs × (f z ≡ Some y)) → Among y (cons_option o (filter_map f xs)) → (z : A) × Among z (x ∷ xs) × (f z ≡ Some y)
    at None is more i = let m = more i in (m.0, inr m.1, m.2)
    at (Some w) is more (inl same) = (x, inl refl, is ∙ ap Some same)
    at (Some w) is more (inr i) = let m = more i in (m.0, inr m.1, m.2)

mapped : {A B : Type 0} (f : A → B) (o : Option A) (y : B) → option_map f o ≡ Some y → (x : A) × (o ≡ Some x) × (f x ≡ y)
mapped f None y e = cc
mapped {B = B} f (Some x) y e = (x, refl, same e)
  where
    same : {u v : B} → Some u ≡ Some v → u ≡ v
    same e = cc

both : {A : Type 0} (P : A → Type 0) (xs ys : List A) → Each P xs → Each P ys → Each P (xs ++ ys)
both P [] ys h k = k
both P (x ∷ xs) ys h k = (h.0, both P xs ys h.1 k)

front : {A : Type 0} (P : A → Type 0) (xs ys : List A) → Each P (xs ++ ys) → Each P xs
front P [] ys h = tt
front P (x ∷ xs) ys h = (h.0, front P xs ys h.1)

back : {A : Type 0} (P : A → Type 0) (xs ys : List A) → Each P (xs ++ ys) → Each P ys
back P [] ys h = h
back P (x ∷ xs) ys h = back P xs ys h.1

-- the ids of jobs are small, and so are those on which dependencies are
small-id : (jobs : List StoredJob) → Each (λ j. j.id < 2 ^ 64) jobs → (id : ℕ) → Among id (ids_of jobs) → id < 2 ^ 64
small-id [] h id i = absurd i
small-id (j ∷ jobs) h id (inl same) = subst (λ n. n < 2 ^ 64) same h.0
small-id (j ∷ jobs) h id (inr later) = small-id jobs h.1 id later

small-needs : (jobs : List StoredJob) → Each (λ j. j.id < 2 ^ 64) jobs → (needs : List Depend) → AreKnown jobs needs → Each (λ need. need.on < 2 ^ 64) needs
small-needs jobs h [] k = tt
small-needs jobs h (need ∷ needs) k = (small-id jobs h need.on (among_from (ids_of jobs) need.on k.0), small-needs jobs h needs k.1)

-- what the row of a submission asks of the manager
abbrev asked-by : Instance → Log → CommandsValue → Row → ℕ → List ℕ → List Depend → posts.Submit
asked-by inst log v row urgency text needs = record {
  by = row.by;
  rank = row.rank;
  urgency = urgency;
  needs = needs;
  text = text;
  seconds = seconds_open inst log row.by;
  issued = slice_index v.issued row.rank;
}

submit-is : (inst : Instance) (log : Log) (v : CommandsValue) (row : Row) (urgency : ℕ) (named : List Named) (text : List ℕ) (needs : List Depend) → Submits row urgency named text → needs_of v.labels named ≡ Some needs →
    submit_at v inst log row row.stage ≡ Some (asked-by inst log v row urgency text needs)
submit-is inst log v row urgency named text needs s names =
    ap (submit_at v inst log row) s.waits ∙ ap (submit_by v inst log row) s.asks ∙ ap (option_map (asked-by inst log v row urgency text)) names

-- ---- what is made is due

module _ (v : CommandsValue) (inst : Instance) (log : Log) (jobs : List StoredJob) (x : Submission)
    (h : AgreesCommands v inst log) (kind : IsInstance inst) (short : length v.issued ≤ 2 ^ 14) (labelled : AreLabelled v.labels jobs)
    (smalls : Each (λ j. j.id < 2 ^ 64) jobs) (soon : 1000 * (now_of inst log - inst.birth) < 2 ^ 40) (made : IsMade inst.limits v jobs (now_of inst log) inst.birth x)
    (open-then : (by : By) → IsOpen by log → Contains (seconds_open inst log by) (now_of inst (before_issue by log)))
    (new-id : (by : By) (id : ℕ) → IsIdOf v inst.birth by id → (label : List ℕ) → job_at label v.labels ≢ Some id) where
  abbrev row : Row
  row = made.row

  abbrev m : IsMadeOf inst.limits v.labels jobs (now_of inst log) inst.birth row x
  m = made.made

  agrees : RowAgrees inst log row
  agrees = h.rows row made.stands

  submits : is_submit row ≡ true
  submits = submits-now row m.submits.label m.urgency m.named m.text m.submits.waits m.submits.asks

  asked : inst.asks row.by ≡ Some (told (ask.Submit m.submits.label m.urgency m.named m.text))
  asked = agrees.asks ∙ ap (λ a. Some (told a)) m.submits.asks

  ranges : IsOpenSubmit (asked-by inst log v row m.urgency m.text m.needs)
  ranges = let range = kind.asks row.by (told (ask.Submit m.submits.label m.urgency m.named m.text)) asked in record { urgency = range.1; user = range.0 }

  every : AreNeeds m.spec x.event (distinct (m.spec.depends ++ m.needs))
  every = record {
    listed = m.needs;
    small = small-needs jobs smalls m.needs m.accepted.known;
    described = ap listed_in m.built.event ∙ submit_lists (asked-by inst log v row m.urgency m.text m.needs) ranges (now_of inst log);
    all = refl;
  }

  known-all : Each (λ need. Contains (ids_of jobs) need.on) (x.spec.depends ++ m.needs)
  known-all = both (λ need. Contains (ids_of jobs) need.on) x.spec.depends m.needs (subst (λ (s : JobSpec). AreKnown jobs s.depends) (sym m.built.read) m.accepted.depends) m.accepted.known

  fits-id : x.id < 2 ^ 64
  fits-id =
      let rank = rank-small v inst.birth h.drawn row made.stands submits short in
      let sequence = sequence-small v inst.birth h.drawn row made.stands submits in
      let id : x.id ≡ ((1000 * (row.issued - inst.birth)) * 2 ^ 14 + row.rank) * 2 ^ 10 + row.sequence = m.built.id in
      let early = m.built.early in
      omega (arith, id, rank, sequence, soon, early)

  unused : Contains (ids_of jobs) x.id → ⊥
  unused stands =
      let label = labelled x.id stands in
      new-id row.by x.id (record { row = row; known = made.stands; named = refl; waits = submits; made = m.built.id }) label.0 label.1

  pub is-due : IsSubmission (desk_of v inst log jobs).scene inst.birth (submits_of v inst log) x
  is-due = record {
    from = asked-by inst log v row m.urgency m.text m.needs;
    waits = contains_from (submits_of v inst log) (asked-by inst log v row m.urgency m.text m.needs)
        (kept (λ (r : Row). submit_at v inst log r r.stage) v.rows row (asked-by inst log v row m.urgency m.text m.needs) (among_from v.rows row made.stands)
        (submit-is inst log v row m.urgency m.named m.text m.needs m.submits m.accepted.names));
    text = m.built.told;
    accepted = m.accepted.reads ∙ ap Ok (sym m.built.read);
    passed = ap (verdict_of inst.limits) m.built.read ∙ m.accepted.passed;
    known = known-all;
    id = record {
      second = row.issued;
      sequence = row.sequence;
      since = subst (Contains (seconds_open inst log row.by)) (sym agrees.issued) (open-then row.by agrees.waits);
      drawn = (h.drawn.rows row made.stands submits).below;
      is = m.built.id;
    };
    small = fits-id;
    new = unused;
    event = m.built.event;
    needs = m.built.all (distinct (m.spec.depends ++ m.needs)) every ∙ ap (λ (s : JobSpec). distinct (s.depends ++ m.needs)) (sym m.built.read);
    command = m.built.command;
  }

-- ---- where none is made none is due

pub none-due : (v : CommandsValue) (inst : Instance) (log : Log) (jobs : List StoredJob) (x : Submission) → ((row : Row) → Contains v.rows row → MakesNone inst.limits v.labels jobs row) →
    IsSubmission (desk_of v inst log jobs).scene inst.birth (submits_of v inst log) x → ⊥
none-due v inst log jobs x none due =
    let k = made-from (λ (r : Row). submit_at v inst log r r.stage) v.rows due.from (among_from (submits_of v inst log) due.from due.waits) in
    by k.0 (contains_from v.rows k.0 k.1) k.0.stage refl k.0.ask refl k.2
  where
    by : (row : Row) → Contains v.rows row → (s : Stage) → row.stage ≡ s → (a : JobAsk) → row.ask ≡ a → submit_at v inst log row s ≡ Some due.from → ⊥
    by row stands (stage.Landed number) is a asks e = cc
    by row stands stage.Waits is (ask.Submit label urgency named text) asks e =
        let given : option_map (asked-by inst log v row urgency text) (needs_of v.labels named) ≡ Some due.from = sym (ap (submit_by v inst log row) asks) ∙ e in
        let needs = mapped (asked-by inst log v row urgency text) (needs_of v.labels named) due.from given in
        let text-is : text ≡ due.from.text = ap (λ (f : posts.Submit). f.text) needs.2 in
        let needs-are : needs.0 ≡ due.from.needs = ap (λ (f : posts.Submit). f.needs) needs.2 in
        none row stands urgency named text x.spec needs.0 (record { waits = is; label = label; asks = asks }) (record {
          reads = ap spec_reading text-is ∙ due.accepted;
          passed = due.passed;
          names = needs.1;
          depends = front (λ need. Contains (ids_of jobs) need.on) x.spec.depends due.from.needs due.known;
          known = subst (AreKnown jobs) (sym needs-are) (back (λ need. Contains (ids_of jobs) need.on) x.spec.depends due.from.needs due.known);
        })
    by row stands stage.Waits is _ asks e = (let nothing : None ≡ Some due.from = sym (ap (submit_by v inst log row) asks) ∙ e in cc)
