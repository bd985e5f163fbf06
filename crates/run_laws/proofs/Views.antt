-- Each root of `primary` was once the newest; so what roots tell of jobs goes on as that does.
use Rattle.std.proofs.Common.{◌≡◌, ℕ, suc, ◌+◌, ◌<◌, ◌≤◌, ◌⊎◌, inl, inr, List, [], ◌∷◌, ◌++◌, length, true, false, Option, Some, None, option_and_then, unwrap_or, refl, sym, ap, ◌∙◌, subst, arith, append-nil, append_assoc}
use Rattle.std.specs.List.{cons_option}
use Rattle.std.specs.Prelude.{Result, Ok}
use Rattle.std.proofs.lemmas.Bool.{cases_lt}
use Rattle.event_log.specs.declared.event.Event.{Event}
use Rattle.event_log.specs.Events.{◌>>=◌}
use Rattle.job_states.specs.declared.job.Change.{Change}
use Rattle.job_states.specs.declared.job.Job.{Job}
use Rattle.job_states.specs.declared.job.ReplayFault.{ReplayFault}
use Rattle.job_states.specs.Changes.{change_of}
use Rattle.job_states.specs.Replay.{allowed, replay_on, replayed}
use Rattle.job_states.specs.Table.{changed}
use Rattle.job_states.proofs.Replays.{replayed-append}
use Rattle.kvs_model.specs.Store.{Store}
use Rattle.kvs_rules.proofs.Logs.{landed_push, number_or_not, own_number, store_kept}
use Rattle.kvs_rules.proofs.Sequences.{each_along, each_parts}
use Rattle.kvs_rules.specs.Answers.{IsLegalMoment}
use Rattle.kvs_rules.specs.Landings.{IsLegalLanding}
use Rattle.kvs_rules.specs.Log as service
use Rattle.kvs_rules.specs.Log.{Happened, Resumed}
use Rattle.kvs_rules.specs.Namespaces.{Base, Setting, fresh, landed, newest_store, number_landed, primary, store_after}
use Rattle.kvs_rules.specs.declared.events.KvsEvent.TheVariants as event
use Rattle.kvs_txn.specs.declared.txn.By.{By}
use Rattle.kvs_txn.specs.declared.txn.Group.{Group}
use Rattle.manager_rules.specs.Jobs.{IsLogged}
use Rattle.manager_rules.proofs.Unique.{logs_same}
use Rattle.resource_set.specs.Writing.{r_text}
use Rattle.instance_rules.specs.Log.{IsInstance}
use Rattle.answers.specs.declared.chronicle.Entry.{Entry}
use Rattle.answers.specs.Chronicle.{Setup, top}
use Rattle.answers.specs.Jobs.{instance_of}
use Rattle.answers.specs.Legal.{IsLegal, IsLegalEntry}
use Rattle.answers.specs.Services.{base_of, log_of, moment_of, moments_after, setting_of}
use Rattle.answers.proofs.JobLogs.{service_kept}
use Rattle.answers.proofs.Services.{log_push, moments_after-append}
use Rattle.run_laws.specs.Jobs.{store_of}
use Rattle.run_laws.specs.Times.{KeepsTime}
use Rattle.run_laws.specs.Views.{AreRoots, FollowsByTable, JobsFollowWithRoots, LogsGrowWithRoots, after_changes}
use Rattle.run_laws.proofs.Moves.{next_legal, stands}
use Rattle.run_laws.proofs.Newest.{same_one}
use Rattle.run_laws.proofs.Sounds.{only_grow}

-- ---- the number of the newest root rises by one, if it rises

module _ (set : Setting) (none : set.base.number ≡ 0) where
  Rises : service.Log → service.Log → Type 0
  Rises log next = (landed next primary ≡ landed log primary) ⊎ (landed next primary ≡ suc (landed log primary))

  landing_rises : (log : service.Log) (number : ℕ) (authors : List (Option By)) (groups : List Group) → IsLegalLanding set log primary number authors groups
      → Rises log (log ++ Happened (event.Landed primary number authors groups) ∷ [])
  unfolding Rises
  landing_rises log number authors groups l =
      let now : landed (log ++ Happened (event.Landed primary number authors groups) ∷ []) primary ≡ number = landed_push log _ primary ∙ ap (λ o. unwrap_or o (landed log primary)) (own_number primary number authors groups) in
      elim l.form [
        | inl o ↦ let e : true ≡ false = o.unused in cc
        | inr more ↦ elim more [
          | inl r ↦ let e : true ≡ false = r.other in cc
          | inr a ↦ inr (now ∙ a.next)
        ]
      ]

  moment_rises : (log : service.Log) (m : service.Moment) → IsLegalMoment set log m → Rises log (log ++ m ∷ [])
  unfolding Rises
  moment_rises log m legal = elim (number_or_not primary m) [
    | inl silent ↦ inl (landed_push log m primary ∙ ap (λ o. unwrap_or o (landed log primary)) silent)
    | inr (inr r) ↦
        let first : IsLegalMoment set log (Resumed r.number) = subst (IsLegalMoment set log) r.is legal in
        let still : landed log primary ≡ 0 = ap (λ l. landed l primary) first.0 in
        inl (landed_push log m primary ∙ ap (λ x. unwrap_or (number_landed primary x) (landed log primary)) r.is ∙ first.1 ∙ none ∙ sym still)
    | inr (inl l) ↦ subst (λ x. Rises log (log ++ x ∷ [])) (sym l.is) (landing_rises log l.number l.authors l.groups (subst (IsLegalMoment set log) l.is legal))
  ]

-- ---- each root was once the newest

module _ (set : Setup) (grant : List ℕ) (begins : base_of set ≡ fresh grant) where
  Goes : List Entry → List Entry → Type 0
  Goes c next = Rises (setting_of set) (ap (λ (b : Base). b.number) begins) (log_of set.work top c) (log_of set.work top next)

  entry_rises : (c : List Entry) (e : Entry) → IsLegal set c → IsLegalEntry set c e → Goes c (c ++ e ∷ [])
  unfolding Goes Rises
  entry_rises c e legal fits = on (moment_of set.work top c e) refl
    where
      on : (o : Option service.Moment) → moment_of set.work top c e ≡ o → Rises (setting_of set) (ap (λ (b : Base). b.number) begins) (log_of set.work top c) (log_of set.work top (c ++ e ∷ []))
      on None is = inl (ap (λ l. landed l primary) (log_push set.work top c e ∙ ap (λ o. log_of set.work top c ++ cons_option o []) is ∙ append-nil _))
      on (Some m) is =
          let pushed : log_of set.work top (c ++ e ∷ []) ≡ log_of set.work top c ++ m ∷ [] = log_push set.work top c e ∙ ap (λ o. log_of set.work top c ++ cons_option o []) is in
          subst (Rises (setting_of set) (ap (λ (b : Base). b.number) begins) (log_of set.work top c)) (sym pushed)
          (moment_rises (setting_of set) (ap (λ (b : Base). b.number) begins) (log_of set.work top c) m (next_legal set grant begins c legal e fits m is))

  -- the first part of a chronicle behind which a root is the newest
  pub record Root (c : List Entry) (number : ℕ) : Type 0 where
    pub past : List Entry
    pub more : List Entry
    pub split : c ≡ past ++ more
    pub newest : landed (log_of set.work top past) primary ≡ number

  HasRoots : List Entry → Type 0
  HasRoots c = (number : ℕ) → number ≤ landed (log_of set.work top c) primary → Root c number

  roots_step : (c : List Entry) (e : Entry) → IsLegal set c → IsLegalEntry set c e → HasRoots c → HasRoots (c ++ e ∷ [])
  unfolding HasRoots Goes Rises
  roots_step c e legal fits h number low = elim (cases_lt (landed (log_of set.work top c) primary) number) [
    | inl new ↦ record { past = c ++ e ∷ []; more = []; split = sym (append-nil _); newest = reached new (entry_rises c e legal fits) }
    | inr old ↦
        let r = h number old in
        record { past = r.past; more = r.more ++ e ∷ []; split = ap (λ x. x ++ e ∷ []) r.split ∙ append_assoc r.past r.more (e ∷ []); newest = r.newest }
  ]
    where
      reached : landed (log_of set.work top c) primary < number → Goes c (c ++ e ∷ []) → landed (log_of set.work top (c ++ e ∷ [])) primary ≡ number
      reached new (inl same) = absurd (omega (arith, new, same, low))
      reached new (inr next) = omega (arith, new, next, low)

  pub all_roots : (c : List Entry) → IsLegal set c → (number : ℕ) → number ≤ landed (log_of set.work top c) primary → Root c number
  unfolding HasRoots
  all_roots c legal = each_along (IsLegalEntry set) HasRoots (λ d e before h again. roots_step d e before h again) [] c tt legal
      (λ number low. record { past = []; more = []; split = refl; newest = omega (arith, low) })

  -- its store still stands there
  pub root_stands : (c : List Entry) (number : ℕ) (r : Root c number) (st : Store) → store_of set r.past ≡ Some st
      → store_after (setting_of set) (log_of set.work top c) primary number ≡ Some st
  root_stands c number r st standing =
      let own = setting_of set in
      let past = log_of set.work top r.past in
      let newest : newest_store own past primary ≡ Some st = ap (λ l. newest_store own l primary) (sym (service_kept set.work r.past)) ∙ standing in
      let stood : store_after own past primary number ≡ Some st = ap (store_after own past primary) (sym r.newest) ∙ newest in
      let longer : log_of set.work top c ≡ past ++ moments_after set.work top r.past r.more = ap (log_of set.work top) r.split ∙ moments_after-append set.work top [] r.past r.more in
      ap (λ l. store_after own l primary number) longer ∙ store_kept own past (moments_after set.work top r.past r.more) primary number st stood

-- ---- logs

module _ (set : Setup) (valid : IsInstance (instance_of set)) (c : List Entry) (timely : KeepsTime set c) (legal : IsLegal set c) where
  abbrev grant : List ℕ
  grant = r_text set.resources

  -- the first parts behind which two roots are the newest
  record Roots (earlier later : ℕ) : Type 0 where
    past : List Entry
    between : List Entry
    more : List Entry
    split : c ≡ past ++ between ++ more
    first : landed (log_of set.work top past) primary ≡ earlier
    last : landed (log_of set.work top (past ++ between)) primary ≡ later

  both : (earlier later : ℕ) → AreRoots (log_of set.work top c) earlier later → Roots earlier later
  both earlier later roots = within (all_roots set grant valid.text c legal later roots.1)
    where
      parts : (past more between rest : List Entry) → c ≡ past ++ more → past ≡ between ++ rest → landed (log_of set.work top past) primary ≡ later → landed (log_of set.work top between) primary ≡ earlier → Roots earlier later
      parts past more between rest split inner last first = record {
        past = between;
        between = rest;
        more = more;
        split = split ∙ ap (λ x. x ++ more) inner;
        first = first;
        last = subst (λ x. landed (log_of set.work top x) primary ≡ later) inner last;
      }

      within : Root set grant valid.text c later → Roots earlier later
      within r =
          let half : IsLegal set r.past = (each_parts (IsLegalEntry set) [] r.past r.more (subst (IsLegal set) r.split legal)).0 in
          let inner = all_roots set grant valid.text r.past half earlier (subst (λ n. earlier ≤ n) (sym r.newest) roots.0) in
          parts r.past r.more inner.past inner.more r.split inner.split r.newest inner.newest

  pub logs_grow : LogsGrowWithRoots (setting_of set) (log_of set.work top c)
  logs_grow earlier later id log roots small (st, was, l) =
      let r = both earlier later roots in
      let apart : c ≡ r.past ++ (r.between ++ r.more) = r.split ∙ append_assoc r.past r.between r.more in
      let before : IsLegal set r.past = (each_parts (IsLegalEntry set) [] r.past (r.between ++ r.more) (subst (IsLegal set) apart legal)).0 in
      let s = stands set grant valid.text r.past before in
      let there = root_stands set grant valid.text c earlier (record { past = r.past; more = r.between ++ r.more; split = apart; newest = r.first }) s.store s.standing in
      let same : s.store ≡ st = same_one s.store st (sym there ∙ was) in
      let grown = only_grow set valid c legal timely r.past r.between r.more id log r.split small (s.store, s.standing, subst (λ x. IsLogged x id log) (sym same) l) in
      let now = grown.1 in
      (grown.0, (now.0, root_stands set grant valid.text c later (record { past = r.past ++ r.between; more = r.more; split = r.split; newest = r.last }) now.0 now.1, now.2))

-- ---- jobs

-- a replay goes on by changes that the table allows
follows_on : (index : ℕ) (job next : Job) (events : List Event) → replay_on index job events ≡ Ok next → FollowsByTable job next
follows_on index job next [] e = ([], some e)
  where
    some : {x y : Job} → ◌≡◌ {A = Result Job ReplayFault} (Ok x) (Ok y) → Some x ≡ Some y
    some e = cc
follows_on index job next (event ∷ events) e = on (change_of event) (λ mid h. follows_on (index + 1) mid next events h) e
  where
    by : (change : Change) (made : Option Job) → changed change job ≡ made → ((mid : Job) → replay_on (index + 1) mid events ≡ Ok next → FollowsByTable mid next)
        → (allowed index (Some job.state) made >>= λ mid. replay_on (index + 1) mid events) ≡ Ok next → FollowsByTable job next
    by change None is again h = cc
    by change (Some mid) is again h = let rest = again mid h in (change ∷ rest.0, ap (option_and_then (after_changes rest.0)) is ∙ rest.1)

    on : (o : Option Change) → ((mid : Job) → replay_on (index + 1) mid events ≡ Ok next → FollowsByTable mid next)
        → (allowed index (Some job.state) (option_and_then (λ change. changed change job) o) >>= λ mid. replay_on (index + 1) mid events) ≡ Ok next → FollowsByTable job next
    on None again h = cc
    on (Some change) again h = by change (changed change job) refl again h

module _ (set : Setup) (valid : IsInstance (instance_of set)) (c : List Entry) (timely : KeepsTime set c) (legal : IsLegal set c) where
  pub jobs_follow : JobsFollowWithRoots (setting_of set) (log_of set.work top c)
  jobs_follow earlier later j k roots one (st, was, hj) (new, is, hk) =
      let log = hj.first ∷ hj.more in
      let grown = logs_grow set valid c timely legal earlier later j.id log roots hj.small (st, was, hj.logged) in
      let further = grown.0 in
      let there = grown.1 in
      let same : new ≡ there.0 = same_one new there.0 (sym is ∙ there.1) in
      let logged : IsLogged there.0 j.id (hk.first ∷ hk.more) = subst (λ x. IsLogged x j.id (hk.first ∷ hk.more)) same (subst (λ id. IsLogged new id (hk.first ∷ hk.more)) one hk.logged) in
      let logs : log ++ further ≡ hk.first ∷ hk.more = logs_same there.0 j.id (log ++ further) (hk.first ∷ hk.more) there.2 logged in
      let replays : replay_on (length log) j.job further ≡ Ok k.job =
      ap (λ r. r >>= λ job. replay_on (length log) job further) (sym hj.replays) ∙ sym (replayed-append log further (omega arith)) ∙ ap replayed logs ∙ hk.replays in
      follows_on (length log) j.job k.job further replays
