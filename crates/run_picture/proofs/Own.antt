-- How what is kept of an instance goes on along its own chronicle.
use Rattle.std.proofs.Common.{◌≡◌, ◌≢◌, ℕ, zero, suc, ◌+◌, ◌<◌, ◌^◌, ◌==◌, inl, inr, List, [], ◌∷◌, ◌++◌, Bool, true, false, cond, map, replicate, set, Option, Some, None, unwrap_or, refl, sym, ap, ap₂, ◌∙◌, subst, arith, bytes_eq, append-nil, is_some, option_and_then, option_map, ◌&&◌}
use Rattle.std.specs.List.{cons_option, range_with_len}
use Rattle.std.proofs.lemmas.Bool.{eq-eqb, ne_eqb}
use Rattle.kvs_model.specs.History.{after, first_store}
use Rattle.kvs_model.specs.Store.{IsStore, Store}
use Rattle.kvs_rules.specs.Answers.{IsLegalLog}
use Rattle.kvs_rules.specs.Brokers.{heard, number_heard}
use Rattle.kvs_rules.specs.Landings.{IsAdvance, IsLegalLanding}
use Rattle.kvs_rules.specs.Log.{Asked, Happened, Log, Moment, Resumed}
use Rattle.kvs_rules.specs.Namespaces.{Setting, above_first, groups_landed, landed, landings, newest_store, number_landed, primary}
use Rattle.kvs_rules.specs.declared.events.KvsEvent.TheVariants as event
use Rattle.kvs_rules.specs.declared.events.KvsAnswer.{KvsAnswer}
use Rattle.kvs_rules.proofs.Logs.{landed_push}
use Rattle.kvs_rules.proofs.Sequences.{latest_push}
use Rattle.kvs_rules.proofs.Stores.{fresh_sound, fresh_store, landings_push, made_newest}
use Rattle.kvs_txn.specs.declared.txn.By.{By}
use Rattle.kvs_txn.specs.declared.txn.Group.{Group}
use Rattle.kvs_txn.specs.declared.txn.Scope.TheVariants as scope
use Rattle.manager_rules.proofs.Others.{first_jobs}
use Rattle.manager_rules.proofs.Unique.{jobs_are_one}
use Rattle.manager_rules.specs.Jobs.{AreJobsOf}
use Rattle.instance_rules.specs.Legal.{IsSound}
use Rattle.instance_rules.specs.Log.{IsInstance}
use Rattle.answers.specs.Chronicle.{Setup, answer_of, top}
use Rattle.answers.specs.Commands.{ask_at}
use Rattle.answers.specs.Jobs.{instance_of, log_in, second_of}
use Rattle.answers.specs.Legal.{IsLegal, IsLegalEntry}
use Rattle.answers.specs.Services.{asked_at, log_of, moment_of, setting_of}
use Rattle.answers.specs.declared.chronicle.Entry.{Entry}
use Rattle.answers.specs.declared.chronicle.Entry.TheVariants as entry
use Rattle.answers.proofs.JobLogs.{service_kept}
use Rattle.answers.proofs.Services.{log_push, service_legal}
use Rattle.workload.specs.declared.work.Workload.{Workload}
use Rattle.resource_set.specs.Writing.{r_text}
use Rattle.run_laws.specs.Jobs.{store_of}
use Rattle.run_laws.proofs.Moves.{stands as stands_in}
use Rattle.run_laws.proofs.Newest.{same_one}
use Rattle.run_picture.specs.Columns.{heard_by}
use Rattle.run_picture.specs.Follows.{IsReady, KeepGroups, KeepStore, KeepsUp, first_heard}
use Rattle.run_picture.specs.Rows.{known_of}
use Rattle.run_picture.specs.declared.jobs.JobRow.{JobRow}

-- ---- moments of which nothing is kept

-- nothing lands or is heard in `primary`
abbrev pub IsQuietMoment : Moment → Type 0
IsQuietMoment m = (number_landed primary m ≡ None) × ((broker : ℕ) → number_heard broker primary m ≡ None)

abbrev pub AreQuiet : Option Moment → Type 0
AreQuiet None = Unit {0}
AreQuiet (Some m) = IsQuietMoment m

no_groups : (m : Moment) → number_landed primary m ≡ None → groups_landed primary m ≡ None
no_groups (Asked by floors) e = refl
no_groups (Resumed number) e = refl
no_groups (Happened (event.Landed other number authors [])) e = refl
no_groups (Happened (event.Landed other number authors (g ∷ gs))) e = apart (bytes_eq primary other) e
  where
    apart : (b : Bool) → cond b (Some number) None ≡ None → cond b (Some (g ∷ gs)) None ≡ None
    apart true e = cc
    apart false e = refl
no_groups (Happened (event.Denied space authors group refusal)) e = refl
no_groups (Happened (event.Heard broker space number)) e = refl
no_groups (Happened (event.Got broker reference)) e = refl
no_groups (Happened (event.Dropped broker reference)) e = refl
no_groups (Happened (event.Answered by number given)) e = refl

module _ (setting : Setting) (log : Log) (m : Moment) where
  store_stays : number_landed primary m ≡ None → newest_store setting (log ++ m ∷ []) primary ≡ newest_store setting log primary
  store_stays e =
      let number : landed (log ++ m ∷ []) primary ≡ landed log primary = landed_push log m primary ∙ ap (λ o. unwrap_or o (landed log primary)) e in
      let same : landings (log ++ m ∷ []) primary ≡ landings log primary = landings_push log m primary ∙ ap (λ o. landings log primary ++ cons_option o []) (no_groups m e) ∙ append-nil _ in
      ap₂ (λ ls k. option_and_then (λ count. after scope.Primary ls count setting.base.store) (above_first setting.base.number k)) same number

  heard_more : (broker : ℕ) → heard (log ++ m ∷ []) broker primary ≡ unwrap_or (number_heard broker primary m) (heard log broker primary)
  heard_more broker = latest_push (number_heard broker primary) (Some 0) log m

heard_same : (log : Log) (m : Moment) → ((broker : ℕ) → number_heard broker primary m ≡ None) → (bs : List ℕ) → map (λ b. heard (log ++ m ∷ []) b primary) bs ≡ map (λ b. heard log b primary) bs
heard_same log m quiet [] = refl
heard_same log m quiet (b ∷ bs) = ap₂ (λ x xs. x ∷ xs) (latest_push (number_heard b primary) (Some 0) log m ∙ ap (λ o. unwrap_or o (heard log b primary)) (quiet b)) (heard_same log m quiet bs)

module _ (s : Setup) (own : List Entry) (f : Entry) where
  newest_behind : (o : Option Moment) → moment_of s.work top own f ≡ o → store_of s (own ++ f ∷ []) ≡ newest_store (setting_of s) (log_of s.work top own ++ cons_option o []) primary
  newest_behind o is =
      ap (λ l. newest_store (setting_of s) l primary) (service_kept s.work (own ++ f ∷ []) ∙ log_push s.work top own f ∙ ap (λ o. log_of s.work top own ++ cons_option o []) is)

  newest_before : store_of s own ≡ newest_store (setting_of s) (log_of s.work top own) primary
  newest_before = ap (λ l. newest_store (setting_of s) l primary) (service_kept s.work own)

  heard_behind : (o : Option Moment) → moment_of s.work top own f ≡ o → heard_by s (own ++ f ∷ []) ≡ map (λ b. heard (log_of s.work top own ++ cons_option o []) b primary) (range_with_len 0 s.size)
  heard_behind o is = ap (λ l. map (λ b. heard l b primary) (range_with_len 0 s.size)) (log_push s.work top own f ∙ ap (λ o. log_of s.work top own ++ cons_option o []) is)

  store_same : (o : Option Moment) → moment_of s.work top own f ≡ o → AreQuiet o → store_of s (own ++ f ∷ []) ≡ store_of s own
  store_same None is quiet = newest_behind None is ∙ ap (λ l. newest_store (setting_of s) l primary) (append-nil (log_of s.work top own)) ∙ sym newest_before
  store_same (Some m) is quiet = newest_behind (Some m) is ∙ store_stays (setting_of s) (log_of s.work top own) m quiet.0 ∙ sym newest_before

  brokers_same : (o : Option Moment) → moment_of s.work top own f ≡ o → AreQuiet o → heard_by s (own ++ f ∷ []) ≡ heard_by s own
  brokers_same None is quiet = heard_behind None is ∙ ap (λ l. map (λ b. heard l b primary) (range_with_len 0 s.size)) (append-nil (log_of s.work top own))
  brokers_same (Some m) is quiet = heard_behind (Some m) is ∙ heard_same (log_of s.work top own) m quiet.1 (range_with_len 0 s.size)

  -- where nothing lands or is heard in `primary`, what is kept stays
  pub quiet_keeps : (rows : List JobRow) (known : List (Option ℕ)) → AreQuiet (moment_of s.work top own f) → KeepsUp s own rows known → KeepsUp s (own ++ f ∷ []) rows known
  quiet_keeps rows known quiet k = record {
    jobs = λ st is. k.jobs st (sym (store_same (moment_of s.work top own f) refl quiet) ∙ is);
    brokers = k.brokers ∙ sym (brokers_same (moment_of s.work top own f) refl quiet);
  }

-- ---- which entries are quiet

abbrev pub IsQuietEntry : Entry → Type 0
IsQuietEntry (entry.Landed instance space number authors groups) = bytes_eq primary space ≡ false
IsQuietEntry (entry.Heard instance broker space number) = bytes_eq primary space ≡ false
IsQuietEntry _ = Unit {0}

quiet_if : (b : Bool) (o : Option Moment) → AreQuiet o → AreQuiet (cond b o None)
quiet_if true o q = q
quiet_if false o q = tt

quiet_answer : (by : By) (number : Option ℕ) (o : Option KvsAnswer) → AreQuiet (option_map (λ a. Happened (event.Answered by number a)) o)
quiet_answer by number None = tt
quiet_answer by number (Some a) = (refl, λ b. refl)

pub quiet_moment : (work : Workload) (own : List Entry) (f : Entry) → IsQuietEntry f → AreQuiet (moment_of work top own f)
quiet_moment work own (entry.Issued actor command) q =
    let by : By = record { actor = actor; command = command } in
    quiet_if (is_some (ask_at work by) && (top == top)) (Some (asked_at work own by)) (refl, λ b. refl)
quiet_moment work own (entry.Landed i space number authors groups) q = quiet_if (top == i) (Some (Happened (event.Landed space number authors groups))) (ap (λ b. cond b (Some number) None) q, λ b. refl)
quiet_moment work own (entry.Denied i space authors group refusal) q = quiet_if (top == i) (Some (Happened (event.Denied space authors group refusal))) (refl, λ b. refl)
quiet_moment work own (entry.Heard i broker space number) q = quiet_if (top == i) (Some (Happened (event.Heard broker space number))) (refl, λ b. unheard (b == broker) q)
  where
    unheard : (t : Bool) → bytes_eq primary space ≡ false → cond (t && bytes_eq primary space) (Some (Some number)) None ≡ None
    unheard true q = ap (λ b. cond b (Some (Some number)) None) q
    unheard false q = refl
quiet_moment work own (entry.Got i broker reference) q = quiet_if (top == i) (Some (Happened (event.Got broker reference))) (refl, λ b. refl)
quiet_moment work own (entry.Dropped i broker reference) q = quiet_if (top == i) (Some (Happened (event.Dropped broker reference))) (refl, λ b. refl)
quiet_moment work own (entry.Replied actor command given number) q = quiet_answer (record { actor = actor; command = command }) number (answer_of given)
quiet_moment work own (entry.Told from to) q = tt
quiet_moment work own (entry.Ticked second) q = tt
quiet_moment work own (entry.Born child parent job label second grant) q = tt
quiet_moment work own (entry.Gone child parent job shut) q = tt
quiet_moment work own (entry.Watched actor command number first count) q = tt
quiet_moment work own entry.Closed q = tt

-- ---- a landing in `primary`

-- it neither opens nor removes it
advances : (setting : Setting) (log : Log) (number : ℕ) (authors : List (Option By)) (groups : List Group) → IsLegalLanding setting log primary number authors groups → IsAdvance setting log primary number authors groups
advances setting log number authors groups l = elim l.form [
  | inl o ↦ let e : true ≡ false = o.unused in cc
  | inr more ↦ elim more [
    | inl r ↦ let e : true ≡ false = r.other in cc
    | inr a ↦ a
  ]
]

module _ (s : Setup) (valid : IsInstance (instance_of s)) (own : List Entry) (legal : IsLegal s own) (number : ℕ) (authors : List (Option By)) (groups : List Group) (fits : IsLegalEntry s own (entry.Landed top primary number authors groups)) where
  abbrev log : Log
  log = log_of s.work top own

  abbrev m : Moment
  m = Happened (event.Landed primary number authors groups)

  whole : IsLegalLog (setting_of s) log
  whole = service_legal s own legal

  advance : IsAdvance (setting_of s) log primary number authors groups
  advance = advances (setting_of s) log number authors groups fits.grounds.0.1

  stood : store_of s own ≡ Some advance.old
  stood = newest_before s own (entry.Landed top primary number authors groups) ∙ advance.standing

  stands : store_of s (own ++ entry.Landed top primary number authors groups ∷ []) ≡ Some advance.new
  stands = newest_behind s own (entry.Landed top primary number authors groups) (Some m) refl ∙ made_newest (setting_of s) primary (fresh_sound (setting_of s) (r_text s.resources) valid.text) log whole number authors groups advance

  ready : second_of s own < 2 ^ 64 → IsSound (instance_of s) (log_in s.work own) → IsReady (instance_of s) (log_in s.work own) advance.old
  ready timed sound =
      let n = stands_in s (r_text s.resources) valid.text own legal in
      let same : n.store ≡ advance.old = same_one n.store advance.old (sym n.standing ∙ stood) in
      record {
        valid = valid;
        timed = timed;
        store = subst IsStore same n.is;
        sound = sound advance.old stood;
      }

  pub landing_keeps : second_of s own < 2 ^ 64 → IsSound (instance_of s) (log_in s.work own)
      → (old new : List JobRow) (known : List (Option ℕ)) → KeepGroups old groups new → KeepsUp s own old known → KeepsUp s (own ++ entry.Landed top primary number authors groups ∷ []) new known
  landing_keeps timed sound old new known lands k = record {
    jobs = λ st is.
        let same : advance.new ≡ st = same_one advance.new st (sym stands ∙ is) in
        subst (KeepStore new) same
        (lands (instance_of s) (log_in s.work own) advance.old advance.new (ready timed sound) (fits.grounds.2 refl advance.old stood) advance.made (k.jobs advance.old stood));
    brokers = k.brokers ∙ sym (heard_behind s own (entry.Landed top primary number authors groups) (Some m) refl ∙ heard_same log m (λ b. refl) (range_with_len 0 s.size));
  }

-- ---- what a broker hears of `primary`

same_above : (f g : ℕ → Option ℕ) (k : ℕ) → ((b : ℕ) → b ≢ k → g b ≡ f b) → (n a : ℕ) → k < a → map f (range_with_len a n) ≡ map g (range_with_len a n)
same_above f g k same zero a above = refl
same_above f g k same (suc n) a above =
    ap₂ (λ x xs. x ∷ xs) (sym (same a (λ e. omega (arith, e, above)))) (same_above f g k same n (a + 1) (omega (arith, above)))

set_range : (f g : ℕ → Option ℕ) (k : ℕ) (v : Option ℕ) → ((b : ℕ) → b ≢ k → g b ≡ f b) → g k ≡ v → (n a i : ℕ) → a + i ≡ k → set (map f (range_with_len a n)) i v ≡ map g (range_with_len a n)
set_range f g k v same own zero a i at = refl
set_range f g k v same own (suc n) a zero at =
    let here : a ≡ k = omega (arith, at) in
    ap₂ (λ x xs. x ∷ xs) (sym (ap g here ∙ own)) (same_above f g k same n (a + 1) (omega (arith, at)))
set_range f g k v same own (suc n) a (suc i) at =
    ap₂ (λ x xs. x ∷ xs) (sym (same a (λ e. omega (arith, e, at)))) (set_range f g k v same own n (a + 1) i (omega (arith, at)))

module _ (s : Setup) (own : List Entry) (broker number : ℕ) where
  abbrev past : Log
  past = log_of s.work top own

  abbrev hearing : Moment
  hearing = Happened (event.Heard broker primary number)

  others_hear : (b : ℕ) → b ≢ broker → heard (past ++ hearing ∷ []) b primary ≡ heard past b primary
  others_hear b other =
      latest_push (number_heard b primary) (Some 0) past hearing
      ∙ ap (λ t. unwrap_or (cond (t && bytes_eq primary primary) (Some (Some number)) None) (heard past b primary)) (ne_eqb b broker other)

  it_hears : heard (past ++ hearing ∷ []) broker primary ≡ Some number
  it_hears =
      latest_push (number_heard broker primary) (Some 0) past hearing
      ∙ ap (λ t. unwrap_or (cond (t && bytes_eq primary primary) (Some (Some number)) None) (heard past broker primary)) (eq-eqb broker broker refl)

  pub hearing_keeps : (rows : List JobRow) (known : List (Option ℕ)) → KeepsUp s own rows known → KeepsUp s (own ++ entry.Heard top broker primary number ∷ []) rows (set known broker (Some number))
  hearing_keeps rows known k = record {
    jobs = λ st is. k.jobs st (newest_before s own (entry.Heard top broker primary number) ∙ sym (store_stays (setting_of s) past hearing refl) ∙ sym (newest_behind s own (entry.Heard top broker primary number) (Some hearing) refl) ∙ is);
    brokers =
        ap (λ xs. set xs broker (Some number)) k.brokers
        ∙ set_range (λ b. heard past b primary) (λ b. heard (past ++ hearing ∷ []) b primary) broker (Some number) others_hear it_hears s.size 0 broker (omega arith)
        ∙ sym (heard_behind s own (entry.Heard top broker primary number) (Some hearing) refl);
  }

-- ---- at its birth

all_alike : {A : Type 0} (v : A) (n a : ℕ) → replicate n v ≡ map (λ b. v) (range_with_len a n)
all_alike v zero a = refl
all_alike v (suc n) a = ap (λ l. v ∷ l) (all_alike v n (a + 1))

-- the store at which an instance begins anew
begun_store : (s : Setup) → IsInstance (instance_of s) → store_of s [] ≡ Some (first_store (r_text s.resources))
begun_store s valid = fresh_store (setting_of s) (r_text s.resources) [] primary 0 valid.text

pub first_keeps : (s : Setup) → IsInstance (instance_of s) → KeepsUp s [] [] (first_heard s.size)
first_keeps s valid = record {
  jobs = λ st is jobs are.
      let first : Store = first_store (r_text s.resources) in
      let same : first ≡ st = same_one first st (sym (begun_store s valid) ∙ is) in
      let none : [] ≡ jobs = jobs_are_one st [] jobs (subst (λ x. AreJobsOf x []) same (first_jobs (r_text s.resources))) are in
      ap (λ js. map known_of js) none;
  brokers = all_alike (Some 0) s.size 0;
}
