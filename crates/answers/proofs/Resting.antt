-- Where a workload has no command on jobs or time, no job stands in the store, the manager has
-- nothing to do, and nothing keeps a run from its end.
use Rattle.std.proofs.Common.{◌≡◌, ◌⊎◌, inl, inr, ℕ, ◌==◌, suc, List, [], ◌∷◌, ◌++◌, Bool, true, false, cond, length, Option, Some, None, option_map, unwrap_or, Result, Ok, Err, refl, sym, ap, ap₂, ◌∙◌, subst, arith, append-nil}
use Rattle.std.specs.Prelude.{Contains, IfSome, is_some, option_and_then}
use Rattle.std.specs.Option.{option_map_or}
use Rattle.std.specs.List.{AllByRecursion as Each, cons_option}
use Rattle.std.proofs.lemmas.List.{length-append}
use Rattle.kvs_txn.specs.declared.answers.Refusal.{Refusal}
use Rattle.kvs_txn.specs.declared.txn.Author.{Author}
use Rattle.kvs_txn.specs.declared.txn.Author.TheVariants as author
use Rattle.kvs_txn.specs.declared.txn.By.{By}
use Rattle.kvs_txn.specs.declared.txn.Group.{Group}
use Rattle.kvs_txn.specs.declared.txn.Scope.TheVariants as scope
use Rattle.kvs_model.specs.History.{after, after_groups, first_store, landed_on}
use Rattle.kvs_model.specs.Operation.{effect}
use Rattle.kvs_model.specs.Store.{Store}
use Rattle.kvs_rules.specs.declared.events.KvsEvent.TheVariants as event
use Rattle.kvs_rules.specs.Landings.{IsAdvance, IsLegalLanding, IsManagers, IsUser, IsUsers}
use Rattle.kvs_rules.specs.Log as service
use Rattle.kvs_rules.specs.Log.{Asked, Happened, Resumed}
use Rattle.kvs_rules.specs.Namespaces.{groups_landed, landed, landings, newest_store, number_landed, primary}
use Rattle.kvs_rules.proofs.Logs.{landed_push, number_or_not, own_number}
use Rattle.kvs_rules.proofs.Sequences.{each_along, latest_push}
use Rattle.kvs_rules.proofs.Stores.{after_push, landings_push}
use Rattle.store_laws.specs.Reserved.{IsUserAuthor}
use Rattle.manager_rules.specs.declared.asked.Asked.{Asked as Want}
use Rattle.manager_rules.specs.declared.asked.Asked.TheVariants as asked
use Rattle.manager_rules.specs.Jobs.{AreJobsOf, StoredJob}
use Rattle.manager_rules.specs.Posts.{Desk, Post, Submits, Does, IsDuePost}
use Rattle.manager_rules.specs.Times.{IsIdle}
use Rattle.manager_rules.proofs.Others.{first_jobs}
use Rattle.manager_rules.proofs.Stores.{users_leave_jobs}
use Rattle.manager_rules.proofs.Unique.{jobs_are_one}
use Rattle.instance_rules.specs.Desks.{AreDueFrom, IsDeskOf, IsDueFor, StandsAsked, is_old}
use Rattle.instance_rules.specs.Family.{MayClose}
use Rattle.instance_rules.specs.Legal.{IsDueEvent, IsLegalMoment, OfDesk}
use Rattle.instance_rules.specs.Log.{JobAsk, JobReply, Log, Moment, Born, Gone, Issued, Replied, Served, child_of, child_told, now_of, service_of}
use Rattle.tap.specs.Factors.{priority_by}
use Rattle.workload.specs.declared.work.Workload.{Workload}
use Rattle.answers.specs.declared.chronicle.Entry.{Entry}
use Rattle.answers.specs.declared.chronicle.Entry.TheVariants as entry
use Rattle.answers.specs.Chronicle.{Setup, top}
use Rattle.answers.specs.Jobs.{IsWithoutJobs, happening_of, instance_of, job_ask_at, job_reply_of, log_in}
use Rattle.answers.specs.Legal.{IsLegal, IsLegalEntry}
use Rattle.answers.specs.Runs.{family_of}
use Rattle.answers.specs.Services.{log_of, moment_of, setting_of}
use Rattle.answers.specs.Whole.{HasComeToRest, HasToldAll}
use Rattle.answers.proofs.Carried.{lands_so, legal_in}
use Rattle.answers.proofs.Alone.{family_closes}
use Rattle.answers.proofs.JobLogs.{asks_nothing, happenings_after-append, no_advance, service_kept}
use Rattle.answers.proofs.Services.{log_push, never_resumes}

none_in : {A P : Type 0} (x : A) → Contains [] x → P
none_in x h = absurd (omega (arith, h.1))

as_user : (who : Author) → IsUser who → IsUserAuthor who
as_user (author.User id) h = tt
as_user author.Manager h = h

-- ---- what an entry says of a child

-- neither a birth nor an end
abbrev IsOfNoChild : Entry → Type 0
IsOfNoChild (entry.Born child parent job label second grant) = ⊥
IsOfNoChild (entry.Gone child parent job shut) = ⊥
IsOfNoChild _ = Unit {0}

module _ (id : ℕ) where
  abbrev told_of : Option Moment → Option (Option (Bool × Bool))
  told_of None = None
  told_of (Some m) = child_told id m

  served_tells : (o : Option service.Moment) → told_of (option_map Served o) ≡ None
  served_tells None = refl
  served_tells (Some m) = refl

  issued_tells : (by : By) (b : Bool) (o : Option service.Moment) → told_of (cond b (Some (Issued by)) (option_map Served o)) ≡ None
  issued_tells by true o = refl
  issued_tells by false o = served_tells o

  replied_tells : (by : By) (number : Option ℕ) (r : Option JobReply) (o : Option service.Moment) → told_of (option_map_or (λ x. Some (Replied by x number)) r (option_map Served o)) ≡ None
  replied_tells by number None o = served_tells o
  replied_tells by number (Some x) o = refl

  entry_tells : (work : Workload) (c : List Entry) (e : Entry) → IsOfNoChild e → told_of (happening_of work c e) ≡ None
  entry_tells work c (entry.Issued actor number) h = issued_tells (record { actor = actor; command = number }) (is_some (job_ask_at work (record { actor = actor; command = number }))) (moment_of work top c (entry.Issued actor number))
  entry_tells work c (entry.Replied actor number given at_) h = replied_tells (record { actor = actor; command = number }) at_ (job_reply_of given) (moment_of work top c (entry.Replied actor number given at_))
  entry_tells work c (entry.Ticked second) h = refl
  entry_tells work c (entry.Born child parent job label second grant) h = absurd h
  entry_tells work c (entry.Gone child parent job shut) h = absurd h
  entry_tells work c (entry.Watched actor command number first count) h = refl
  entry_tells work c e h = served_tells (moment_of work top c e)

  still_none : (o : Option Moment) (log : Log) → told_of o ≡ None → child_of log id ≡ None → child_of (log ++ cons_option o []) id ≡ None
  still_none None log e h = ap (λ l. child_of l id) (append-nil log) ∙ h
  still_none (Some m) log e h = latest_push (child_told id) None log m ∙ ap (λ o. unwrap_or o (child_of log id)) e ∙ h

  child_push : (work : Workload) (c : List Entry) (e : Entry) → IsOfNoChild e → child_of (log_in work c) id ≡ None → child_of (log_in work (c ++ e ∷ [])) id ≡ None
  child_push work c e none h =
      ap (λ l. child_of l id) (happenings_after-append work [] c (e ∷ [])) ∙ still_none (happening_of work c e) (log_in work c) (entry_tells work c e none) h

-- ---- the moments that land nothing in `primary`

no_groups : (m : service.Moment) → number_landed primary m ≡ None → groups_landed primary m ≡ None
no_groups (Asked by floors) e = refl
no_groups (Resumed number) e = refl
no_groups (Happened (event.Landed other number authors [])) e = refl
no_groups (Happened (event.Landed other number authors (g ∷ gs))) e = apart (Rattle.std.specs.Str.bytes_eq primary other) e
  where
    apart : (b : Bool) → cond b (Some number) None ≡ None → cond b (Some (g ∷ gs)) None ≡ None
    apart true e = cc
    apart false e = refl
no_groups (Happened (event.Denied space authors group refusal)) e = refl
no_groups (Happened (event.Heard broker space number)) e = refl
no_groups (Happened (event.Got broker reference)) e = refl
no_groups (Happened (event.Dropped broker reference)) e = refl
no_groups (Happened (event.Answered by number given)) e = refl

same_one : (x y : Store) → Some x ≡ Some y → x ≡ y
same_one x y e = cc

-- of what begins anew
module _ (given : Setup) (without : IsWithoutJobs given.work) where
  abbrev set : Setup
  set = record given { base = None }

  none_asked : (by : By) (ask : JobAsk) → job_ask_at set.work by ≡ Some ask → ⊥
  none_asked by ask e = let never : ◌≡◌ {A = Option JobAsk} None (Some ask) = sym (asks_nothing set.work without by) ∙ e in cc

  -- ---- a store without jobs

  post_none : (log : Log) (st : Store) → AreJobsOf st [] → (desk : Desk) → IsDeskOf (instance_of set) log st desk → (post : Post) → IsDuePost desk post → ⊥
  post_none log st are desk is (Submits x) due = none_asked due.from.by _ ((is.submits due.from).0 due.waits).asks
  post_none log st are desk is (Does d) due = none_in due.j (subst (λ js. Contains js due.j) (jobs_are_one st desk.scene.jobs [] is.jobs are) due.known)

  due_none : (log : Log) (st : Store) → AreJobsOf st [] → (group : Group) (who : Author) → who ≡ author.Manager → IsDueFor (instance_of set) log st group who → ⊥
  due_none log st are group author.Manager e due = post_none log st are due.desk due.is due.post due.due
  due_none log st are group (author.User id) e due = cc

  abbrev Kinds : List Group → Type 0
  Kinds groups = Each (λ group. IsUsers (setting_of set) primary group ⊎ IsManagers (setting_of set) primary group) groups

  groups_leave : (log : Log) (groups : List Group) (st new : Store) → AreJobsOf st [] → Kinds groups → AreDueFrom (instance_of set) log groups st → after_groups scope.Primary groups st ≡ Some new → AreJobsOf new []
  groups_leave log [] st new are kinds due made = subst (λ s. AreJobsOf s []) (same_one st new made) are
  groups_leave log (group ∷ groups) st new are kinds due made = on (effect st group.txn scope.Primary) refl (λ mid are2 due2 made2. groups_leave log groups mid new are2 kinds.1 due2 made2) due.1 made
    where
      leaves : (mid : Store) → effect st group.txn scope.Primary ≡ Ok mid → IsUsers (setting_of set) primary group ⊎ IsManagers (setting_of set) primary group → AreJobsOf mid []
      leaves mid e (inl u) = users_leave_jobs st mid group.txn [] (as_user group.txn.author u.0) e are
      leaves mid e (inr m) = absurd (due_none log st are group group.txn.author m.author due.0)

      on : (r : Result Store Refusal) → effect st group.txn scope.Primary ≡ r
          → ((mid : Store) → AreJobsOf mid [] → AreDueFrom (instance_of set) log groups mid → after_groups scope.Primary groups mid ≡ Some new → AreJobsOf new [])
          → IfSome (landed_on r) (AreDueFrom (instance_of set) log groups) → option_and_then (λ mid. after_groups scope.Primary groups mid) (landed_on r) ≡ Some new → AreJobsOf new []
      on (Ok mid) e more later m = more mid (leaves mid e kinds.0) later m
      on (Err why) e more later m = cc

  -- the newest store of `primary` is one without jobs
  pub record HasNoJobs (log : service.Log) : Type 0 where
    pub counted : landed log primary ≡ length (landings log primary)
    pub store : Store
    pub stands : newest_store (setting_of set) log primary ≡ Some store
    pub are : AreJobsOf store []

  begins : HasNoJobs []
  begins = record { counted = refl; store = first_store set.grant; stands = refl; are = first_jobs set.grant }

  passes : (log : service.Log) (m : service.Moment) → number_landed primary m ≡ None → HasNoJobs log → HasNoJobs (log ++ m ∷ [])
  passes log m e h =
      let number : landed (log ++ m ∷ []) primary ≡ landed log primary = landed_push log m primary ∙ ap (λ o. unwrap_or o (landed log primary)) e in
      let same : landings (log ++ m ∷ []) primary ≡ landings log primary = landings_push log m primary ∙ ap (λ o. landings log primary ++ cons_option o []) (no_groups m e) ∙ append-nil _ in
      record {
        counted = number ∙ h.counted ∙ ap length (sym same);
        store = h.store;
        stands = ap₂ (λ ls k. after scope.Primary ls k (first_store set.grant)) same number ∙ h.stands;
        are = h.are;
      }

  advances : (c : List Entry) (log : service.Log) (number : ℕ) (authors : List (Option By)) (groups : List Group) → log ≡ service_of (log_in set.work c) → HasNoJobs log → IsAdvance (setting_of set) log primary number authors groups
      → IsDueEvent (instance_of set) (log_in set.work c) (event.Landed primary number authors groups) → HasNoJobs (log ++ Happened (event.Landed primary number authors groups) ∷ [])
  advances c log number authors [] same h a due = absurd (a.some refl)
  advances c log number authors (g ∷ gs) same h a due =
      let m = Happened (event.Landed primary number authors (g ∷ gs)) in
      let ls = landings log primary in
      let more : landings (log ++ m ∷ []) primary ≡ ls ++ (g ∷ gs) ∷ [] = landings_push log m primary in
      let count : landed (log ++ m ∷ []) primary ≡ suc (length ls) = landed_push log m primary ∙ ap (λ o. unwrap_or o (landed log primary)) (own_number primary number authors (g ∷ gs)) ∙ a.next ∙ ap suc h.counted in
      let long : length (ls ++ (g ∷ gs) ∷ []) ≡ suc (length ls) = length-append ls ((g ∷ gs) ∷ []) ∙ (omega arith) in
      let old : h.store ≡ a.old = same_one h.store a.old (sym h.stands ∙ a.standing) in
      let stood : after scope.Primary ls (length ls) (first_store set.grant) ≡ Some h.store = ap (λ k. after scope.Primary ls k (first_store set.grant)) (sym h.counted) ∙ h.stands in
      let made : after_groups scope.Primary (g ∷ gs) h.store ≡ Some a.new = ap (after_groups scope.Primary (g ∷ gs)) old ∙ a.made in
      let here : newest_store (setting_of set) (service_of (log_in set.work c)) primary ≡ Some h.store = ap (λ l. newest_store (setting_of set) l primary) (sym same) ∙ h.stands in
      record {
        counted = count ∙ sym long ∙ ap length (sym more);
        store = a.new;
        stands = ap₂ (λ l k. after scope.Primary l k (first_store set.grant)) more count ∙ after_push scope.Primary ls (g ∷ gs) (first_store set.grant) h.store stood ∙ made;
        are = groups_leave (log_in set.work c) (g ∷ gs) h.store a.new h.are a.kinds (due refl h.store here) made;
      }

  lands : (c : List Entry) (log : service.Log) (number : ℕ) (authors : List (Option By)) (groups : List Group) → log ≡ service_of (log_in set.work c) → HasNoJobs log → IsLegalLanding (setting_of set) log primary number authors groups
      → IsDueEvent (instance_of set) (log_in set.work c) (event.Landed primary number authors groups) → HasNoJobs (log ++ Happened (event.Landed primary number authors groups) ∷ [])
  lands c log number authors groups same h legal due = elim legal.form [
    | inl o ↦ let e : true ≡ false = o.unused in cc
    | inr more ↦ elim more [
      | inl r ↦ let e : true ≡ false = r.other in cc
      | inr a ↦ advances c log number authors groups same h a due
    ]
  ]

  pushed : (c : List Entry) (e : Entry) (o : Option service.Moment) → moment_of set.work top c e ≡ o → IsLegalEntry set c e → HasNoJobs (log_of set.work top c) → HasNoJobs (log_of set.work top c ++ cons_option o [])
  pushed c e None is legal h = subst HasNoJobs (sym (append-nil (log_of set.work top c))) h
  pushed c e (Some m) is legal h = elim (number_or_not primary m) [
    | inl none ↦ passes (log_of set.work top c) m none h
    | inr (inr r) ↦ never_resumes set.work top c e r.number (is ∙ ap (λ x. Some x) r.is)
    | inr (inl l) ↦
        let so = lands_so set c e l.number l.authors l.groups (is ∙ ap (λ x. Some x) l.is) in
        let it : IsLegalEntry set c (entry.Landed so.instance primary l.number l.authors l.groups) = subst (IsLegalEntry set c) so.is legal in
        let kept = service_kept set.work c in
        let landing : IsLegalLanding (setting_of set) (log_of set.work top c) primary l.number l.authors l.groups = subst (λ x. IsLegalLanding (setting_of set) x primary l.number l.authors l.groups) kept (legal_in set c so.instance primary l.number l.authors l.groups it) in
        subst (λ x. HasNoJobs (log_of set.work top c ++ x ∷ [])) (sym l.is) (lands c (log_of set.work top c) l.number l.authors l.groups (sym kept) h landing it.grounds.2)
  ]

  pub no_jobs : (c : List Entry) → IsLegal set c → HasNoJobs (log_of set.work top c)
  no_jobs c legal =
      each_along (IsLegalEntry set) (λ d. HasNoJobs (log_of set.work top d))
      (λ d e before h again. subst HasNoJobs (sym (log_push set.work top d e)) (pushed d e (moment_of set.work top d e) refl h again))
      [] c tt legal begins

  -- ---- no child lives

  no_job_there : (c : List Entry) → HasNoJobs (log_of set.work top c) → {P : Desk → Type 0} → ((desk : Desk) → P desk → (j : StoredJob) × Contains desk.scene.jobs j) → OfDesk (instance_of set) (log_in set.work c) P → ⊥
  no_job_there c h job_in there =
      let st = there.0 in
      let desk = there.2.0 in
      let stands : newest_store (setting_of set) (log_of set.work top c) primary ≡ Some st = ap (λ l. newest_store (setting_of set) l primary) (sym (service_kept set.work c)) ∙ there.1 in
      let same : st ≡ h.store = same_one st h.store (sym stands ∙ h.stands) in
      let none : desk.scene.jobs ≡ [] = jobs_are_one st desk.scene.jobs [] there.2.1.jobs (subst (λ s. AreJobsOf s []) (sym same) h.are) in
      let job = job_in desk there.2.2 in
      none_in job.0 (subst (λ js. Contains js job.0) none job.1)

  has_no_child : (c : List Entry) → IsLegal set c → (e : Entry) → IsLegalEntry set c e → IsOfNoChild e
  has_no_child c legal (entry.Born child parent job label second grant) h =
      no_job_there c (no_jobs c legal) (λ desk due. (due.j, due.known))
      (subst (λ p. IfSome (cond (p == top) (Some (Born job)) None) (IsLegalMoment (instance_of set) (log_in set.work c))) h.grounds.0 h.grounds.1)
  has_no_child c legal (entry.Gone child parent job shut) h =
      no_job_there c (no_jobs c legal) (λ desk due. (due.j, due.known))
      (subst (λ p. IfSome (cond (p == top) (Some (Gone job shut)) None) (IsLegalMoment (instance_of set) (log_in set.work c))) h.grounds.0 h.grounds.1)
  has_no_child c legal _ h = tt

  no_child : (c : List Entry) → IsLegal set c → (id : ℕ) → child_of (log_in set.work c) id ≡ None
  no_child c legal id =
      each_along (IsLegalEntry set) (λ d. child_of (log_in set.work d) id ≡ None)
      (λ d e before h again. child_push id set.work d e (has_no_child d before e h) again)
      [] c tt legal refl

  -- ---- the end

  module _ (d : List Entry) (childless : (id : ℕ) → child_of (log_in set.work d) id ≡ None) where
    abbrev desk_there : Store → Desk
    desk_there st = record {
      scene = record {
        now = now_of (instance_of set) (log_in set.work d);
        grant = set.resources;
        jobs = [];
        asked = [];
        answer = priority_by set.terms.weights;
        policy = set.terms.policy;
        limits = set.terms.limits;
        old = is_old (first_store set.grant) st;
      };
      birth = set.birth;
      submits = [];
    }

    none_stands : (a : Want) → StandsAsked (instance_of set) (log_in set.work d) a → ⊥
    none_stands (asked.Cancel by job) h = none_asked by _ h.asks
    none_stands (asked.Raise by job kind severity note) h = none_asked by _ h.asks
    none_stands (asked.Urgency by job urgency) h = none_asked by _ h.asks
    none_stands (asked.Child job living shut) h = let never : ◌≡◌ {A = Option (Bool × Bool)} None (Some (living, shut)) = sym (childless job) ∙ h in cc

    desk_is : (st : Store) → AreJobsOf st [] → IsDeskOf (instance_of set) (log_in set.work d) st (desk_there st)
    desk_is st are = record {
      now = refl;
      grant = refl;
      answer = refl;
      policy = refl;
      limits = refl;
      old = λ id. refl;
      birth = refl;
      jobs = are;
      asked = λ a. (λ i. none_in a i, λ s. absurd (none_stands a s));
      submits = λ x. (λ i. none_in x i, λ s. absurd (none_asked x.by _ s.asks));
    }

    is_idle : (st : Store) → IsIdle (desk_there st)
    is_idle st = record { posts = λ post due. nothing post due; births = λ id due. none_in due.j due.known }
      where
        nothing : (post : Post) → IsDuePost (desk_there st) post → ⊥
        nothing (Submits x) due = none_in due.from due.waits
        nothing (Does x) due = none_in due.j due.known

    rests : HasNoJobs (log_of set.work top d) → OfDesk (instance_of set) (log_in set.work d) IsIdle
    rests h = (h.store, ap (λ l. newest_store (setting_of set) l primary) (service_kept set.work d) ∙ h.stands, (desk_there h.store, desk_is h.store h.are, is_idle h.store))

  -- nothing is due where the log is that of a legal chronicle
  pub idle_as : (d c : List Entry) → IsLegal set c → log_in set.work d ≡ log_in set.work c → OfDesk (instance_of set) (log_in set.work d) IsIdle
  idle_as d c legal same = subst (λ log. OfDesk (instance_of set) log IsIdle) (sym same) (rests c (no_child c legal) (no_jobs c legal))

  -- where a legal chronicle has told all brokers, it has come to rest
  pub comes_to_rest : (c : List Entry) → IsLegal set c → HasToldAll set c → HasComeToRest set c
  comes_to_rest c legal told = record { told = told; idle = idle_as c c legal refl }

  -- and its run may end, since no advance waits
  pub may_close : (c : List Entry) → IsLegal set c → HasToldAll set c → MayClose (family_of set c) []
  may_close c legal told = family_closes set c (comes_to_rest c legal told) (no_advance set without c)
