-- What a command is told, once it can be told, its rules allow.
use Rattle.std.proofs.Common.{◌≡◌, ◌≢◌, ◌∙◌, ◌⊎◌, inl, inr, ℕ, ◌+◌, ◌-◌, ◌≤◌, ◌&&◌, Bool, true, false, cond, List, [], ◌∷◌, ◌++◌, Option, Some, None, map, refl, sym, ap, subst, arith, eqb-true}
use Rattle.std.specs.Prelude.{Contains, IsSomeAnd, is_some, nat_le, option_and_then, option_map}
use Rattle.std.specs.List.{cons_option}
use Rattle.std.specs.Option.{option_map_or}
use Rattle.std.proofs.lemmas.Bool.Decides.{nat_tests}
use Rattle.answers.specs.Jobs.{job_reply_of, state_by}
use Rattle.answers.specs.declared.chronicle.Reply.{Reply}
use Rattle.answers.specs.declared.chronicle.Reply.TheVariants as reply
use Rattle.instance_rules.specs.Desks.{HasBegun, Names}
use Rattle.instance_rules.specs.Log as rules
use Rattle.instance_rules.specs.Log.{Instance, Log, before_issue, is_decided, issues_now, now_of, served, service_of}
use Rattle.instance_rules.specs.Replies.{AsksForEvent, AtLanding, ComesLate, DoesNotWait, HasGrounds, IsCarriedOut, NamesNone, OfJob, TellsEnd, key_path, scene_with, state_of}
use Rattle.job_deeds.proofs.Whys.{found_job, no_job}
use Rattle.job_commands.specs.Agrees.{HasLanded, RowAgrees, StageAgrees}
use Rattle.job_commands.specs.Asks.{key_of, named_of, told}
use Rattle.job_commands.specs.Rows.{CommandsValue, job_at}
use Rattle.job_commands.specs.declared.ask.JobAsk.{JobAsk}
use Rattle.job_commands.specs.declared.ask.JobAsk.TheVariants as ask
use Rattle.job_commands.specs.declared.row.Row.{Row}
use Rattle.job_commands.specs.declared.row.Stage.{Stage}
use Rattle.job_commands.specs.declared.row.Stage.TheVariants as stage
use Rattle.job_book.specs.Contract.{Explains}
use Rattle.job_book.specs.Value.{scene_of}
use Rattle.job_manager.specs.Managed.{IsManaged}
use Rattle.job_manager.specs.Value.{ManagerValue}
use Rattle.job_deeds.proofs.job_rules_proofs.Among.{Among, among_from, contains_from}
use Rattle.job_deeds.specs.job_states.declared.job.State.{State}
use Rattle.job_deeds.specs.job_states.declared.job.State.TheVariants as state
use Rattle.kvs_core.specs.Posted.{newest_of}
use Rattle.kvs_core.specs.Seen.{primary_heard}
use Rattle.job_deeds.specs.kvs_model.Store.{Store}
use Rattle.kvs_rules.proofs.Logs.{landed_rises}
use Rattle.kvs_rules.specs.Answers as service_rules
use Rattle.kvs_rules.specs.Brokers.{HasHeard}
use Rattle.kvs_rules.specs.Log as service
use Rattle.kvs_rules.specs.Namespaces.{landed, primary, store_after}
use Rattle.kvs_rules.specs.Sequence.{until}
use Rattle.job_deeds.specs.manager_rules.Dependencies.{job_at as stored_at}
use Rattle.job_deeds.specs.manager_rules.Jobs.{StoredJob, ids_of}
use Rattle.job_deeds.specs.manager_rules.Keys.{value_at}
use Rattle.job_deeds.specs.manager_rules.Scene.{Scene}
use Rattle.job_deeds.specs.manager_rules.Whys.{IsSaidOf, IsWhy}
use Rattle.job_deeds.specs.manager_rules.declared.why.Why.{Why}
use Rattle.job_deeds.specs.manager_rules.declared.why.Why.TheVariants as why
use Rattle.job_replies.specs.Jobs.{IsSaidIf, IsSaidOf as IsSaidOfLabel, IsSaidOfJob, IsTold, IsToldAt, IsToldLanded, IsToldOpen, KnowsNewest, late_urge, reply_of_why, states_of}
use Rattle.job_replies.specs.Ready.{fits, has_run, is_carried_out, is_ending, is_inactive, is_late_raise, is_open_ready, is_ready, is_ready_at, job_in, label_of, state_in}
use Rattle.job_replies.specs.Told.{MayTell, Stands}

-- ---- logs

service-of-append : (log more : Log) → service_of (log ++ more) ≡ service_of log ++ service_of more
service-of-append [] more = refl
service-of-append (m ∷ log) more = at (served m) (service-of-append log more)
  where
    at : (o : Option service.Moment) → service_of (log ++ more) ≡ service_of log ++ service_of more →
        cons_option o (service_of (log ++ more)) ≡ cons_option o (service_of log) ++ service_of more
    at None e = e
    at (Some x) e = ap (λ xs. x ∷ xs) e

-- what stands before the first that passes stands at the beginning
rest-of : {A : Type 0} (test : A → Bool) (xs : List A) → (more : List A) × (xs ≡ until test xs ++ more)
rest-of test [] = ([], refl)
rest-of {A = A} test (x ∷ xs) = at (test x) (rest-of test xs)
  where
    at : (b : Bool) → (more : List A) × (xs ≡ until test xs ++ more) → (more : List A) × (x ∷ xs ≡ cond b [] (x ∷ until test xs) ++ more)
    at true r = (x ∷ xs, refl)
    at false r = (r.0, ap (λ ys. x ∷ ys) r.1)

states-same : (jobs : List StoredJob) → map state_by (states_of jobs) ≡ map state_of jobs
states-same [] = refl
states-same (j ∷ jobs) = ap (λ ss. state_of j ∷ ss) (states-same jobs)

among-ids : (jobs : List StoredJob) (j : StoredJob) → Among j jobs → Among j.id (ids_of jobs)
among-ids [] j m = absurd m
among-ids (x ∷ xs) j (inl same) = inl (ap (λ (y : StoredJob). y.id) same)
among-ids (x ∷ xs) j (inr later) = inr (among-ids xs j later)

-- the id of a job is one of the ids
id-among : (jobs : List StoredJob) (j : StoredJob) → Contains jobs j → Contains (ids_of jobs) j.id
id-among jobs j stands = contains_from (ids_of jobs) j.id (among-ids jobs j (among_from jobs j stands))

-- the states in which a command comes too late
ends : (where_ : State) → is_ending where_ ≡ true → (where_ ≡ state.Cleanup) ⊎ (where_ ≡ state.Inactive)
ends state.Cleanup e = inl refl
ends state.Inactive e = inr refl
ends state.New e = cc
ends state.Depend e = cc
ends state.Priority e = cc
ends state.Sched e = cc
ends state.Run e = cc

inactive : (where_ : State) → is_inactive where_ ≡ true → where_ ≡ state.Inactive
inactive state.Inactive e = refl
inactive state.New e = cc
inactive state.Depend e = cc
inactive state.Priority e = cc
inactive state.Sched e = cc
inactive state.Run e = cc
inactive state.Cleanup e = cc

late-raise : (severity : ℕ) (where_ : State) → is_late_raise severity where_ ≡ true → (where_ ≡ state.Inactive) ⊎ ((severity ≡ 0) × (where_ ≡ state.Cleanup))
late-raise severity state.Inactive e = inl refl
late-raise severity state.Cleanup e = inr (eqb-true severity 0 e, refl)
late-raise severity state.New e = cc
late-raise severity state.Depend e = cc
late-raise severity state.Priority e = cc
late-raise severity state.Sched e = cc
late-raise severity state.Run e = cc

-- ---- an open command

module _ (v : CommandsValue) (manager : ManagerValue) (now : ℕ) (inst : Instance) (log : Log) (row : Row)
    (m : IsManaged manager) (k : KnowsNewest manager.core row.rank inst log) (s : Stands v manager now inst log) (known : Contains v.rows row) where
  abbrev last : ℕ
  last = primary_heard manager.core 0

  abbrev jobs : List StoredJob
  jobs = manager.book.jobs

  row-agrees : RowAgrees inst log row
  row-agrees = s.commands.rows row known

  -- what holds of the newest store holds at the last landing
  at-last : (P : Store → List StoredJob → Type 0) → P (newest_of manager.core) jobs → AtLanding inst log row.by P last
  at-last P held =
      let rest = rest-of (issues_now row.by) log in
      let parts : service_of log ≡ service_of (before_issue row.by log) ++ service_of rest.0 = ap service_of rest.1 ∙ service-of-append (before_issue row.by log) rest.0 in
      let legal = subst (service_rules.IsLegalLog inst.service) parts s.legal in
      let rises = landed_rises inst.service primary (service_of (before_issue row.by log)) (service_of rest.0) legal in
      record {
        fresh = subst (λ n. landed (service_of (before_issue row.by log)) primary ≤ n) (ap (λ l. landed l primary) (sym parts) ∙ k.last) rises;
        old = omega (arith, k.last);
        store = newest_of manager.core;
        standing = subst (λ n. store_after inst.service (service_of log) primary n ≡ Some (newest_of manager.core)) k.last k.newest;
        jobs = jobs;
        are = m.jobs;
        held = held;
      }

  -- the job that a label names, where it names one
  record IsJobOf (label : List ℕ) (j : StoredJob) : Type 0 where
    stands : Contains jobs j
    names : Names inst log label j.id

  job-of : (label : List ℕ) (j : StoredJob) → job_in v.labels jobs label ≡ Some j → IsJobOf label j
  job-of label j e = at (job_at label v.labels) refl e
    where
      at : (o : Option ℕ) → job_at label v.labels ≡ o → option_and_then (stored_at jobs) o ≡ Some j → IsJobOf label j
      at None named found = cc
      at (Some id) named found =
          let there = found_job jobs id j found in
          record {
            stands = contains_from jobs j there.0;
            names = subst (Names inst log label) (sym there.1) ((s.commands.labels label id).0 named);
          }

  -- a label that names no job of the book names none of the jobs
  no-job-of : (label : List ℕ) → job_in v.labels jobs label ≡ None → NamesNone inst log label jobs
  no-job-of label e id names stands = at (job_at label v.labels) refl e
    where
      at : (o : Option ℕ) → job_at label v.labels ≡ o → option_and_then (stored_at jobs) o ≡ None → ⊥
      at None named lost = let is = (s.commands.labels label id).1 names in cc
      at (Some other) named lost =
          let is = (s.commands.labels label id).1 names in
          let same : other ≡ id = some_same (sym named ∙ is) in
          no_job jobs other lost (subst (Contains (ids_of jobs)) (sym same) stands)
        where
          some_same : {x y : ℕ} → Some x ≡ Some y → x ≡ y
          some_same e = cc

  -- P of the job of a label, at the last landing
  at-job : (label : List ℕ) (j : StoredJob) → IsJobOf label j → (P : Store → StoredJob → Type 0) → P (newest_of manager.core) j → AtLanding inst log row.by (λ st jobs. OfJob inst log label (P st) jobs) last
  at-job label j is P held = at-last (λ st jobs. OfJob inst log label (P st) jobs) (record { j = j; known = is.stands; names = is.names; held = held })

  -- the reply of a command that no landing has carried out
  open-told : (asks : rules.JobAsk) → inst.asks row.by ≡ Some asks → is_decided row.by log ≡ false → (given : Reply) (number : Option ℕ) (r : rules.JobReply) → job_reply_of given ≡ Some r →
      HasGrounds inst log row.by asks r number → MayTell inst log row.by given number
  open-told asks made undecided given number r hands grounds = record {
    reply = r;
    hands = hands;
    legal = record { ask = asks; made = made; waits = row-agrees.waits; tells = tells_any r; grounds = grounds };
  }
    where
      tells_any : (r : rules.JobReply) → TellsEnd r log row.by
      tells_any (rules.Submitted id) = tt
      tells_any rules.Raised = tt
      tells_any (rules.BadSpec n) = undecided
      tells_any (rules.Checked reason) = undecided
      tells_any rules.NoJob = undecided
      tells_any rules.Ended = undecided
      tells_any (rules.NotWaiting where_) = undecided
      tells_any (rules.StateIs where_) = undecided
      tells_any (rules.Shown text) = undecided
      tells_any (rules.Listed states) = undecided
      tells_any (rules.Busy ids) = undecided
      tells_any (rules.Behind head) = undecided
      tells_any rules.Held = undecided
      tells_any rules.Ready = undecided
      tells_any (rules.EndedWith status) = undecided
      tells_any (rules.Watched shown) = undecided
      tells_any (rules.Advanced second) = undecided
      tells_any rules.Shut = undecided

  -- there is no job for a command about a label
  none-told : (asks : rules.JobAsk) (label : List ℕ) → inst.asks row.by ≡ Some asks → is_decided row.by log ≡ false →
      (AtLanding inst log row.by (λ st jobs. NamesNone inst log label jobs) last → HasGrounds inst log row.by asks rules.NoJob (Some last)) →
      job_in v.labels jobs label ≡ None → (given : Reply) (number : Option ℕ) → given ≡ reply.NoJob → number ≡ Some last → MayTell inst log row.by given number
  none-told asks label made undecided grounds lost given number is at =
      open-told asks made undecided given number rules.NoJob (ap job_reply_of is)
      (subst (HasGrounds inst log row.by asks rules.NoJob) (sym at) (grounds (at-last (λ st jobs. NamesNone inst log label jobs) (no-job-of label lost))))

  -- the job of a label is told of
  job-told : (asks : rules.JobAsk) → inst.asks row.by ≡ Some asks → is_decided row.by log ≡ false → (r : rules.JobReply) → HasGrounds inst log row.by asks r (Some last) →
      (given : Reply) (number : Option ℕ) → job_reply_of given ≡ Some r → number ≡ Some last → MayTell inst log row.by given number
  job-told asks made undecided r grounds given number hands at = open-told asks made undecided given number r hands (subst (HasGrounds inst log row.by asks r) (sym at) grounds)

  -- what decides why a job waits, as the book has it and as the rules do
  same-scene : scene_of manager.book now [] inst.answer inst.limits ≡ scene_with inst log jobs
  same-scene = λ i. let scene : Scene = record { now = sym s.second i; grant = s.grant i; jobs = jobs; asked = []; answer = inst.answer; policy = s.policy i; limits = inst.limits; old = λ id. false } in scene

  -- why a job waits
  why-told : (label : List ℕ) → inst.asks row.by ≡ Some (rules.Why label) → is_decided row.by log ≡ false → (j : StoredJob) → IsJobOf label j → (said : Why) → Explains manager.book now j.id said →
      (given : Reply) (number : Option ℕ) → given ≡ reply_of_why said → number ≡ Some last → MayTell inst log row.by given number
  why-told label made undecided j is said holds given number e at = by said (subst (λ scene. IsWhy scene j.id said) same-scene (holds inst.answer inst.limits)) e
    where
      -- P of the job of which it is said
      says : (said : Why) (other : StoredJob) → Contains jobs other → other.id ≡ j.id → IsSaidOf (scene_with inst log jobs) other said → AtLanding inst log row.by (λ st jobs. OfJob inst log label (λ j. IsSaidOf (scene_with inst log jobs) j said) jobs) last
      says said other stands same held = at-last (λ st jobs. OfJob inst log label (λ j. IsSaidOf (scene_with inst log jobs) j said) jobs) (record {
        j = other;
        known = stands;
        names = subst (Names inst log label) (sym same) is.names;
        held = held;
      })

      by : (said : Why) → IsWhy (scene_with inst log jobs) j.id said → given ≡ reply_of_why said → MayTell inst log row.by given number
      by (why.Busy ids) (other, stands, same, held) e = job-told (rules.Why label) made undecided (rules.Busy ids) (says (why.Busy ids) other stands same held) given number (ap job_reply_of e) at
      by (why.Behind head) (other, stands, same, held) e = job-told (rules.Why label) made undecided (rules.Behind head) (says (why.Behind head) other stands same held) given number (ap job_reply_of e) at
      by why.Held (other, stands, same, held) e = job-told (rules.Why label) made undecided rules.Held (says why.Held other stands same held) given number (ap job_reply_of e) at
      by why.Ready (other, stands, same, held) e = job-told (rules.Why label) made undecided rules.Ready (says why.Ready other stands same held) given number (ap job_reply_of e) at
      by (why.NotWaiting where_) (other, stands, same, held) e =
          let there : IsJobOf label other = record { stands = stands; names = subst (Names inst log label) (sym same) is.names } in
          job-told (rules.Why label) made undecided (rules.NotWaiting where_)
          (label, refl, at-job label other there (λ st j. (j.job.state ≡ where_) × (where_ ≢ state.Sched)) held) given number (ap job_reply_of e) at
      by why.NoJob none e = absurd (none (id-among jobs j is.stands))

  some_same : {A : Type 0} {x y : A} → Some x ≡ Some y → x ≡ y
  some_same e = cc

  -- what the command asks
  made : {asks : JobAsk} → row.ask ≡ asks → inst.asks row.by ≡ Some (told asks)
  made e = row-agrees.asks ∙ ap (λ asks. Some (told asks)) e

  -- a command that asked for an event is told that it was carried out
  raised : (asks : rules.JobAsk) → inst.asks row.by ≡ Some asks → AsksForEvent asks → (landing : ℕ) → IsCarriedOut log row.by landing → (given : Reply) (number : Option ℕ) → given ≡ reply.Raised → number ≡ Some landing → MayTell inst log row.by given number
  raised asks made event landing carried given number said at = record {
    reply = rules.Raised;
    hands = ap job_reply_of said;
    legal = record {
      ask = asks;
      made = made;
      waits = row-agrees.waits;
      tells = tt;
      grounds = (event, subst (λ o. IsSomeAnd o (IsCarriedOut log row.by)) (sym at) carried);
    };
  }

  -- what is told of the job of a label, whose state answers the command
  of-job : (asks : JobAsk) (label : List ℕ) → inst.asks row.by ≡ Some (told asks) → is_decided row.by log ≡ false → label_of asks ≡ Some label → (j : StoredJob) → IsJobOf label j → fits asks j.job.state ≡ true →
      (given : Reply) (number : Option ℕ) → IsSaidOfJob manager now asks j.id j.job given → number ≡ Some last → MayTell inst log row.by given number
  of-job (ask.Submit l urgency needs text) label made undecided named j is fit given number said at = cc
  of-job (ask.Cancel l) label made undecided named j is fit given number said at =
      let there = subst (λ x. IsJobOf x j) (some_same (sym named)) is in
      job-told (rules.Cancel l) made undecided rules.Ended (l, refl, at-job l j there (λ st j. ComesLate (rules.Cancel l) j.job.state) (ends j.job.state fit)) given number (ap job_reply_of said) at
  of-job (ask.Raise l kind severity note) label made undecided named j is fit given number said at =
      let there = subst (λ x. IsJobOf x j) (some_same (sym named)) is in
      job-told (rules.Raise l kind severity note) made undecided rules.Ended
      (l, refl, at-job l j there (λ st j. ComesLate (rules.Raise l kind severity note) j.job.state) (late-raise severity j.job.state fit)) given number (ap job_reply_of said) at
  of-job (ask.Urge l urgency) label made undecided named j is fit given number said at =
      let there = subst (λ x. IsJobOf x j) (some_same (sym named)) is in
      by there j.job.state refl fit said
    where
      by : IsJobOf l j → (where_ : State) → j.job.state ≡ where_ → has_run where_ ≡ true → given ≡ late_urge where_ → MayTell inst log row.by given number
      by there state.Run e f g = job-told (rules.Urge l urgency) made undecided (rules.NotWaiting state.Run)
          (l, refl, at-job l j there (λ st j. (j.job.state ≡ state.Run) × DoesNotWait (rules.Urge l urgency) state.Run) (e, inl refl)) given number (ap job_reply_of g) at
      by there state.Cleanup e f g = job-told (rules.Urge l urgency) made undecided (rules.NotWaiting state.Cleanup)
          (l, refl, at-job l j there (λ st j. (j.job.state ≡ state.Cleanup) × DoesNotWait (rules.Urge l urgency) state.Cleanup) (e, inr refl)) given number (ap job_reply_of g) at
      by there state.Inactive e f g = job-told (rules.Urge l urgency) made undecided rules.Ended
          (l, refl, at-job l j there (λ st j. ComesLate (rules.Urge l urgency) j.job.state) e) given number (ap job_reply_of g) at
      by there state.New e f g = cc
      by there state.Depend e f g = cc
      by there state.Priority e f g = cc
      by there state.Sched e f g = cc
  of-job (ask.StateOf l) label made undecided named j is fit given number said at =
      let there = subst (λ x. IsJobOf x j) (some_same (sym named)) is in
      job-told (rules.StateOf l) made undecided (rules.StateIs j.job.state) (l, refl, at-job l j there (λ st k. k.job.state ≡ j.job.state) refl) given number (ap job_reply_of said) at
  of-job (ask.Info l key) label made undecided named j is fit given number (text, said, stands) at =
      let there = subst (λ x. IsJobOf x j) (some_same (sym named)) is in
      job-told (rules.Info l (key_of key)) made undecided (rules.Shown text)
      (l, key_of key, refl, at-job l j there (λ st k. value_at st (key_path (key_of key) k.id) ≡ text) (stands inst.service (service_of log) s.service)) given number (ap job_reply_of said) at
  of-job ask.Jobs label made undecided named j is fit given number said at = cc
  of-job (ask.Why l) label made undecided named j is fit given number (reason, said, holds) at =
      why-told l made undecided j (subst (λ x. IsJobOf x j) (some_same (sym named)) is) reason holds given number said at
  of-job (ask.ResultOf l) label made undecided named j is fit given number said at =
      let there = subst (λ x. IsJobOf x j) (some_same (sym named)) is in
      job-told (rules.ResultOf l) made undecided (rules.EndedWith j.job.status)
      (l, refl, at-job l j there (λ st k. (k.job.state ≡ state.Inactive) × (k.job.status ≡ j.job.status)) (inactive j.job.state fit, refl)) given number (ap job_reply_of said) at
  of-job (ask.Watch l) label made undecided named j is fit given number said at = cc
  of-job (ask.Advance seconds) label made undecided named j is fit given number said at = cc

  -- what is told of a label
  of-label : (asks : JobAsk) (label : List ℕ) → inst.asks row.by ≡ Some (told asks) → is_decided row.by log ≡ false → label_of asks ≡ Some label →
      (AtLanding inst log row.by (λ st jobs. NamesNone inst log label jobs) last → HasGrounds inst log row.by (told asks) rules.NoJob (Some last)) →
      option_map_or (fits asks) (state_in v.labels jobs label) true ≡ true →
      (given : Reply) (number : Option ℕ) → IsSaidOfLabel v.labels manager now asks label given → number ≡ Some last → MayTell inst log row.by given number
  of-label asks label made undecided named grounds fit given number said at = by (job_in v.labels jobs label) refl fit said
    where
      by : (o : Option StoredJob) → job_in v.labels jobs label ≡ o → option_map_or (fits asks) (option_map (λ j. j.job.state) o) true ≡ true → IsSaidIf manager now asks o given → MayTell inst log row.by given number
      by None e f g = none-told (told asks) label made undecided grounds e given number g at
      by (Some j) e f g = of-job asks label made undecided named j (job-of label j e) f given number g at

  open-legal : (asks : JobAsk) → row.ask ≡ asks → is_decided row.by log ≡ false → is_open_ready v.labels jobs now row.issued asks ≡ true → (given : Reply) (number : Option ℕ) → IsToldOpen v.labels manager now row.issued asks given number → MayTell inst log row.by given number
  open-legal (ask.Submit l urgency needs text) e undecided ready given number said = absurd said
  open-legal (ask.Cancel l) e undecided ready given number (said, at) = of-label (ask.Cancel l) l (made e) undecided refl (λ h. (l, refl, h)) ready given number said at
  open-legal (ask.Raise l kind severity note) e undecided ready given number (said, at) = of-label (ask.Raise l kind severity note) l (made e) undecided refl (λ h. (l, refl, h)) ready given number said at
  open-legal (ask.Urge l urgency) e undecided ready given number (said, at) = of-label (ask.Urge l urgency) l (made e) undecided refl (λ h. (l, refl, h)) ready given number said at
  open-legal (ask.StateOf l) e undecided ready given number (said, at) = of-label (ask.StateOf l) l (made e) undecided refl (λ h. (l, refl, h)) ready given number said at
  open-legal (ask.Info l key) e undecided ready given number (said, at) = of-label (ask.Info l key) l (made e) undecided refl (λ h. (l, refl, h)) ready given number said at
  open-legal ask.Jobs e undecided ready given number (said, at) =
      job-told rules.Jobs (made e) undecided (rules.Listed (map state_by (states_of jobs)))
      (refl, at-last (λ st all. map state_by (states_of jobs) ≡ map state_of all) (states-same jobs)) given number (ap job_reply_of said) at
  open-legal (ask.Why l) e undecided ready given number (said, at) = of-label (ask.Why l) l (made e) undecided refl (λ h. (l, refl, h)) ready given number said at
  open-legal (ask.ResultOf l) e undecided ready given number (said, at) = of-label (ask.ResultOf l) l (made e) undecided refl (λ h. (l, refl, h)) ready given number said at
  open-legal (ask.Watch l) e undecided ready given number (said, at) = of-label (ask.Watch l) l (made e) undecided refl (λ h. (l, refl, h)) ready given number said at
  open-legal (ask.Advance seconds) e undecided ready given number (said, at) =
      let begun : row.issued ≡ now_of inst (before_issue row.by log) = row-agrees.issued in
      let over : (row.issued ≤ now) × (seconds ≤ now - row.issued) = both ready in
      let late : row.issued + seconds ≤ now_of inst log = omega (arith, over.0, over.1, s.second) in
      open-told (rules.Advance seconds) (made e) undecided given number (rules.Advanced (row.issued + seconds)) (ap job_reply_of said)
      (at, seconds, refl, ap (λ n. n + seconds) begun, late)
    where
      both : nat_le row.issued now && nat_le seconds (now - row.issued) ≡ true → (row.issued ≤ now) × (seconds ≤ now - row.issued)
      both t = grind (arith, nat_tests)

  -- a command that a landing carried out
  landed-legal : (asks : JobAsk) (landing : ℕ) → row.ask ≡ asks → HasLanded log row.by landing asks → is_carried_out v.labels manager.core row.rank landing asks ≡ true → (given : Reply) (number : Option ℕ) → IsToldLanded v.labels asks landing given number → MayTell inst log row.by given number
  landed-legal (ask.Submit l urgency needs text) landing e (other, begun) ready given number (id, named, said, at) =
      let asked : inst.asks row.by ≡ Some (rules.Submit l urgency (map named_of needs) text) = made e in
      let is = (s.commands.labels l other).1 (record { by = row.by; urgency = urgency; needs = map named_of needs; text = text; asks = asked; landed = (landing, begun) }) in
      let same : other ≡ id = some_same (sym is ∙ named) in
      let heard_it : landing ≤ primary_heard manager.core row.rank = heard-so ready in
      record {
        reply = rules.Submitted id;
        hands = ap job_reply_of said;
        legal = record {
          ask = rules.Submit l urgency (map named_of needs) text;
          made = asked;
          waits = row-agrees.waits;
          tells = tt;
          grounds = (
            refl,
            subst (λ o. IsSomeAnd o (λ n. HasBegun log row.by id n × HasHeard (service_of log) (inst.rank row.by) primary n)) (sym at)
                (subst (λ n. HasBegun log row.by n landing) same begun, told-there heard_it),
          );
        };
      }
    where
      heard-so : is_some (job_at l v.labels) && nat_le landing (primary_heard manager.core row.rank) ≡ true → landing ≤ primary_heard manager.core row.rank
      heard-so t = grind (arith, nat_tests)

      told-there : landing ≤ primary_heard manager.core row.rank → HasHeard (service_of log) (inst.rank row.by) primary landing
      told-there low = subst (λ rank. HasHeard (service_of log) rank primary landing) row-agrees.rank (subst (λ o. IsSomeAnd o (λ h. landing ≤ h)) (sym k.told) low)
  landed-legal (ask.Cancel l) landing e carried ready given number (said, at) = raised (rules.Cancel l) (made e) tt landing carried given number said at
  landed-legal (ask.Raise l kind severity note) landing e carried ready given number (said, at) = raised (rules.Raise l kind severity note) (made e) tt landing carried given number said at
  landed-legal (ask.Urge l urgency) landing e carried ready given number (said, at) = raised (rules.Urge l urgency) (made e) tt landing carried given number said at
  landed-legal (ask.StateOf l) landing e carried ready given number said = cc
  landed-legal (ask.Info l key) landing e carried ready given number said = cc
  landed-legal ask.Jobs landing e carried ready given number said = cc
  landed-legal (ask.Why l) landing e carried ready given number said = cc
  landed-legal (ask.ResultOf l) landing e carried ready given number said = cc
  landed-legal (ask.Watch l) landing e carried ready given number said = cc
  landed-legal (ask.Advance seconds) landing e carried ready given number said = cc

  pub told-legal : is_ready v.labels manager now row ≡ true → (given : Reply) (number : Option ℕ) → IsTold v.labels manager now row given number → MayTell inst log row.by given number
  told-legal ready given number said = by row.stage refl row-agrees.staged ready said
    where
      by : (st : Stage) → row.stage ≡ st → StageAgrees log row.by row.ask st → is_ready_at v.labels manager now row st ≡ true → IsToldAt v.labels manager now row st given number → MayTell inst log row.by given number
      by stage.Waits e undecided ready said = open-legal row.ask refl undecided ready given number said
      by (stage.Landed landing) e (decided, carried) ready said = landed-legal row.ask landing refl carried ready given number said
