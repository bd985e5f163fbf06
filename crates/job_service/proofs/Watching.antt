-- A watch is fed what its job's log has behind what it was fed, and told its names once the job is over.
use Rattle.std.proofs.Common.{◌≡◌, ◌≢◌, ℕ, zero, suc, ◌+◌, ◌<◌, ◌≤◌, ◌^◌, ◌&&◌, inl, inr, List, [], ◌∷◌, ◌++◌, length, Bool, true, false, cond, Option, Some, None, Ok, Result, IsSome, Contains, map, refl, sym, ap, ◌∙◌, subst, arith, append-nil, true≢false, get_or}
use Rattle.std.specs.Prelude.{IfSome, IsSomeAnd, is_none, nat_lt, option_and_then, option_map, slice_get, if◌then◌else◌}
use Rattle.std.specs.Option.{option_map_or}
use Rattle.std.proofs.lemmas.Bool.{and_cases, and_parts, ltb-false, ltb-true}
use Rattle.std.proofs.lemmas.List.Elements.{filter_map-append}
use Rattle.std.proofs.lemmas.List.{length-append}
use Rattle.answers.specs.Jobs.{job_reply_of}
use Rattle.instance_rules.specs.Log as rules
use Rattle.instance_rules.specs.Desks.{Names}
use Rattle.instance_rules.specs.Log.{Fed, Instance, IsOpen, Log, Moment, Watch, before_issue, is_decided, issues_now, now_of, service_of, served, ticked}
use Rattle.instance_rules.specs.Watches.{HasWatched, IsFedAll, IsLegalFeed, fed_in_all, last_fed}
use Rattle.job_commands.proofs.Logs.{service_push, undecided_kept}
use Rattle.job_commands.proofs.Steps.{beside_agrees, names_kept}
use Rattle.job_commands.specs.Agrees.{RowAgrees, StageAgrees}
use Rattle.job_commands.specs.Asks.{told}
use Rattle.job_commands.specs.Moments.{IsBeside}
use Rattle.job_commands.specs.Rows.{job_at}
use Rattle.job_commands.specs.declared.ask.JobAsk.{JobAsk}
use Rattle.job_commands.specs.declared.ask.JobAsk.TheVariants as ask
use Rattle.job_commands.specs.declared.row.Row.{Row}
use Rattle.job_commands.specs.declared.row.Stage.{Stage}
use Rattle.job_commands.specs.declared.row.Stage.TheVariants as stage
use Rattle.job_deeds.proofs.job_rules_proofs.Among.{Among, among_from, contains_from, each_at}
use Rattle.job_deeds.specs.event_log.Events.{line_text}
use Rattle.job_deeds.specs.event_log.Logs.{log_text}
use Rattle.job_deeds.specs.event_log.declared.event.Event.{Event}
use Rattle.job_deeds.specs.job_states.Replay.{replayed}
use Rattle.job_deeds.specs.job_states.declared.job.Job.{Job}
use Rattle.job_deeds.specs.job_states.declared.job.State.{State}
use Rattle.job_deeds.specs.job_states.declared.job.State.TheVariants as state
use Rattle.job_deeds.specs.kvs_model.History.{after, after_groups, first_store}
use Rattle.job_deeds.specs.kvs_model.Store.{Store}
use Rattle.job_deeds.specs.kvs_txn.declared.txn.By.{By}
use Rattle.job_deeds.specs.kvs_txn.declared.txn.Group.{Group}
use Rattle.job_deeds.specs.kvs_txn.declared.txn.Scope.TheVariants.{Primary}
use Rattle.job_deeds.specs.manager_rules.Jobs.{AreJobsOf, IsLogged, IsStored, StoredJob}
use Rattle.job_deeds.specs.manager_rules.Keys.{log_path, value_at}
use Rattle.job_deeds.specs.manager_rules.Limits.{names_shown}
use Rattle.job_manager.specs.Managed.{IsManaged}
use Rattle.job_manager.specs.Places.{log_seen}
use Rattle.job_replies.specs.Ready.{is_inactive}
use Rattle.job_replies.specs.Told.{MayTell}
use Rattle.job_replies.specs.declared.telling.Told.{Told}
use Rattle.kvs_core.specs.Agrees.{Agrees}
use Rattle.kvs_keys.specs.Agrees.{SpaceAgrees}
use Rattle.kvs_core.specs.Histories.{history_of}
use Rattle.kvs_core.specs.Posted.{newest_of}
use Rattle.kvs_core.specs.Seen.{primary_heard, root_of, store_at}
use Rattle.kvs_rules.proofs.Asking.{command_is}
use Rattle.kvs_rules.proofs.Logs.{has_heard_stays}
use Rattle.kvs_rules.proofs.Sequences.{latest_push}
use Rattle.kvs_rules.specs.Brokers.{HasHeard, heard}
use Rattle.kvs_rules.specs.Answers.{IsLegalLog}
use Rattle.kvs_rules.specs.Namespaces.{landed, newest_store, opened_names, primary, store_after}
use Rattle.kvs_rules.specs.Quiet.{AreAllTold}
use Rattle.kvs_rules.specs.Sequence.{until}
use Rattle.kvs_space.specs.Space.{SpaceValue, roots_of}
use Rattle.manager_rules.proofs.Unique.{logs_same}
use Rattle.job_service.specs.Agrees.{AgreesJobs}
use Rattle.job_service.specs.Due.{Owes}
use Rattle.job_service.specs.Feeds.{IsFedByRow}
use Rattle.job_service.specs.Value.{JobServiceValue}
use Rattle.job_service.specs.Watching.{TellsWatched, WasFed, fed_before, feed_of, goes_on, has_more, has_news, is_feed_of, watched_by, without_feed}
use Rattle.job_service.specs.declared.feeds.Feed.{Feed}
use Rattle.job_service.proofs.Facts.{legal_kept, unissued_before, untold_kept}
use Rattle.job_service.proofs.Feeding.{fed_on, now_all, now_last}
use Rattle.job_service.proofs.Reading.{line-some, longer}
use Rattle.job_service.proofs.Shutdowns.{desk_same}

-- ---- lists

found_feed : (by : By) (feeds : List Feed) (f : Feed) → feed_of feeds by ≡ Some f → Among f feeds × (f.by ≡ by)
found_feed by [] f e = cc
found_feed by (x ∷ feeds) f e = at (is_feed_of by x) refl e (found_feed by feeds f)
  where
    at : (b : Bool) → is_feed_of by x ≡ b → cond b (Some x) (feed_of feeds by) ≡ Some f → (feed_of feeds by ≡ Some f → Among f feeds × (f.by ≡ by)) → Among f (x ∷ feeds) × (f.by ≡ by)
    at true t e more = (let same : x ≡ f = cc in (inl same, ap (λ y. y.by) (sym same) ∙ sym (command_is by x.by t)))
    at false t e more = let m = more e in (inr m.0, m.1)

some_is : {A : Type 0} {x y : A} → Some x ≡ Some y → x ≡ y
some_is e = cc

watch_is : {x y : List ℕ} → Some (Watch x) ≡ Some (Watch y) → x ≡ y
watch_is e = cc

-- what stands behind the first part
behind_until : {A : Type 0} (test : A → Bool) (xs : List A) → (rest : List A) × (xs ≡ until test xs ++ rest)
behind_until test [] = ([], refl)
behind_until {A} test (x ∷ xs) = at (test x) (behind_until test xs)
  where
    at : (b : Bool) → (rest : List A) × (xs ≡ until test xs ++ rest) → (rest : List A) × (x ∷ xs ≡ cond b [] (x ∷ until test xs) ++ rest)
    at true more = (x ∷ xs, refl)
    at false more = (more.0, ap (λ l. x ∷ l) more.1)

-- a job of a store with its log
stored_job : (st : Store) (jobs : List StoredJob) → AreJobsOf st jobs → (j : StoredJob) → Contains jobs j → IsStored st j
stored_job st jobs are j known = each_at (IsStored st) jobs j are.stored (among_from jobs j known)

-- a broker that is told has heard the last landing
pub last_heard : (v : JobServiceValue) (inst : Instance) (log : Log) (a : AgreesJobs v inst log) → AreAllTold inst.service (service_of log)
    → ((broker : ℕ) → broker < v.manager.core.size → heard (service_of log) broker primary ≡ Some (primary_heard v.manager.core broker))
    → (rank : ℕ) → rank < v.manager.core.size → primary_heard v.manager.core rank ≡ landed (service_of log) primary
last_heard v inst log a told_all hears rank within =
    let h = hears rank within in
    let t = told_all rank primary (subst (λ n. rank < n) (sym a.core.size) within) (subst IsSome (sym h) refl) in
    some_is (sym h ∙ t)

-- ---- a watch that is told

module _ (v : JobServiceValue) (inst : Instance) (log : Log) (a : AgreesJobs v inst log) where
  undecided_watch : (row : Row) (label : List ℕ) → RowAgrees inst log row → row.ask ≡ ask.Watch label → is_decided row.by log ≡ false
  undecided_watch row label r asks = at row.stage (subst (λ x. StageAgrees log row.by x row.stage) asks r.staged)
    where
      at : (s : Stage) → StageAgrees log row.by (ask.Watch label) s → is_decided row.by log ≡ false
      at stage.Waits h = h
      at (stage.Landed number) h = absurd h.1

  asks_watch : (row : Row) (label : List ℕ) (x : JobAsk) → told x ≡ Watch label → x ≡ ask.Watch label
  asks_watch row label (ask.Watch l) e = (let same : l ≡ label = cc in ap ask.Watch same)
  asks_watch row label (ask.Submit l urgency needs text) e = cc
  asks_watch row label (ask.Cancel l) e = cc
  asks_watch row label (ask.Raise l kind severity note) e = cc
  asks_watch row label (ask.Urge l urgency) e = cc
  asks_watch row label (ask.StateOf l) e = cc
  asks_watch row label (ask.Info l k) e = cc
  asks_watch row label ask.Jobs e = cc
  asks_watch row label (ask.Why l) e = cc
  asks_watch row label (ask.ResultOf l) e = cc
  asks_watch row label (ask.Advance seconds) e = cc

  -- the names are there where the job is over
  over_at : (s : State) (shown names : List (List ℕ)) (o : Option (List (List ℕ))) → o ≡ (if is_inactive s then Some shown else None) → o ≡ Some names → (s ≡ state.Inactive) × (names ≡ shown)
  over_at state.Inactive shown names o is e = (refl, (let same : Some names ≡ Some shown = sym e ∙ is in some_is same))
  over_at state.New shown names o is e = absurd (let wrong : None ≡ Some names = sym is ∙ e in cc)
  over_at state.Depend shown names o is e = absurd (let wrong : None ≡ Some names = sym is ∙ e in cc)
  over_at state.Priority shown names o is e = absurd (let wrong : None ≡ Some names = sym is ∙ e in cc)
  over_at state.Sched shown names o is e = absurd (let wrong : None ≡ Some names = sym is ∙ e in cc)
  over_at state.Run shown names o is e = absurd (let wrong : None ≡ Some names = sym is ∙ e in cc)
  over_at state.Cleanup shown names o is e = absurd (let wrong : None ≡ Some names = sym is ∙ e in cc)

  -- of which feed the names are
  record Watched (by : By) (names : List (List ℕ)) (number : ℕ) : Type 0 where
    f : Feed
    known : Contains v.feeds f
    is : f.by ≡ by
    names_are : f.names ≡ Some names
    number_is : f.number ≡ number

  watched_feed : (by : By) (names : List (List ℕ)) (number : ℕ) → watched_by v.feeds by ≡ Some (names, number) → Watched by names number
  watched_feed by names number e = at (feed_of v.feeds by) refl e
    where
      of : (f : Feed) (o : Option (List (List ℕ))) → o ≡ f.names → option_map {U = List (List ℕ) × ℕ} (λ ns. (ns, f.number)) o ≡ Some (names, number) → (f.names ≡ Some names) × (f.number ≡ number)
      of f None is e = cc
      of f (Some ns) is e =
          let both : ◌≡◌ {A = List (List ℕ) × ℕ} (ns, f.number) (names, number) = cc in
          (sym is ∙ ap (λ p. Some p.0) both, ap (λ p. p.1) both)

      at : (o : Option Feed) → feed_of v.feeds by ≡ o → option_and_then (λ f. option_map {U = List (List ℕ) × ℕ} (λ ns. (ns, f.number)) f.names) o ≡ Some (names, number) → Watched by names number
      at None f e = cc
      at (Some g) f e =
          let k = found_feed by v.feeds g f in
          let o = of g g.names refl e in
          record { f = g; known = contains_from v.feeds g k.0; is = k.1; names_are = o.0; number_is = o.1 }

  pub told_watched : (row : Row) → Contains v.commands.rows row → (t : Told) → TellsWatched v.feeds row.by t → MayTell inst log row.by t.reply t.number
  told_watched row stands t tells =
      let r = a.commands.rows row stands in
      let g = watched_feed row.by tells.names tells.number tells.watched in
      let was = a.fed.each g.f g.known in
      let asks : inst.asks row.by ≡ Some (Watch was.label) = ap inst.asks (sym g.is) ∙ was.asks in
      let is = asks_watch row was.label row.ask (some_is (sym r.asks ∙ asks)) in
      let over = over_at was.j.job.state (names_shown inst.shown was.events) tells.names g.f.names was.told g.names_are in
      record {
        reply = rules.Watched tells.names;
        hands = ap job_reply_of tells.reply;
        legal = record {
          ask = Watch was.label;
          made = asks;
          waits = r.waits;
          tells = undecided_watch row was.label r is;
          grounds = (
            was.label,
            refl,
            subst (λ o. IsSomeAnd o (HasWatched inst log row.by was.label tells.names)) (sym tells.numbered)
                (subst (HasWatched inst log row.by was.label tells.names) g.number_is
                (subst (λ b. HasWatched inst log b was.label tells.names g.f.number) g.is
                (record {
                  last = was.last;
                  store = was.store;
                  standing = was.standing;
                  jobs = was.jobs;
                  are = was.are;
                  j = was.j;
                  known = was.known;
                  names = was.names;
                  over = over.0;
                  events = was.events;
                  logged = was.logged;
                  told = over.1;
                }))),
          );
        };
      }

-- ---- a watch that is fed

module _ (v : JobServiceValue) (inst : Instance) (log : Log) (a : AgreesJobs v inst log) (m : IsManaged v.manager)
    (roots : (number : ℕ) → store_after inst.service (service_of log) primary number ≡ root_of v.manager.core number) where
  -- what was fed is the first part of what stands in the newest store
  record Grown (f : Feed) (id : ℕ) : Type 0 where
    was : WasFed inst log f
    more : List Event
    logged : IsLogged (newest_of v.manager.core) id (was.events ++ more)

  same_job : (f : Feed) (was : WasFed inst log f) (by : By) (label : List ℕ) (id : ℕ) → f.by ≡ by → inst.asks by ≡ Some (Watch label) → job_at label v.commands.labels ≡ Some id → was.j.id ≡ id
  same_job f was by label id is asks names =
      let label_is : was.label ≡ label = watch_is (sym was.asks ∙ ap inst.asks is ∙ asks) in
      let named : job_at was.label v.commands.labels ≡ Some was.j.id = (a.commands.labels was.label was.j.id).1 was.names in
      some_is (sym named ∙ ap (λ l. job_at l v.commands.labels) label_is ∙ names)

  grown : (f : Feed) → Contains v.feeds f → (by : By) (label : List ℕ) (id : ℕ) → id < 2 ^ 64 → f.by ≡ by → inst.asks by ≡ Some (Watch label) → job_at label v.commands.labels ≡ Some id → Grown f id
  grown f known by label id small is asks names =
      let was = a.fed.each f known in
      let same = same_job f was by label id is asks names in
      let root = m.roots f.number was.store (sym (roots f.number) ∙ was.standing) in
      let g = root.grown id was.events small (subst (λ n. IsLogged was.store n was.events) same was.logged) in
      record { was = was; more = g.0; logged = g.1 }

  module _ (by : By) (f : Feed) (is_by : f.by ≡ by) (w : IsFedByRow v by f)
      (hears : heard (service_of log) w.row.rank primary ≡ Some (primary_heard v.manager.core w.row.rank)) where
    agreed : RowAgrees inst log w.row
    agreed = a.commands.rows w.row w.stands

    asks : inst.asks by ≡ Some (Watch w.label)
    asks = subst (λ b. inst.asks b ≡ Some (Watch w.label)) w.of (agreed.asks ∙ ap (λ x. Some (told x)) w.asks)

    waits : IsOpen by log
    waits = subst (λ b. IsOpen b log) w.of agreed.waits

    pub hears-now : heard (service_of log) (inst.rank by) primary ≡ Some f.number
    hears-now = ap (λ r. heard (service_of log) r primary) (sym (agreed.rank ∙ ap inst.rank w.of)) ∙ hears ∙ ap Some (sym w.fed.number)

    names : Names inst log w.label w.id
    names = (a.commands.labels w.label w.id).0 w.names

    standing : store_after inst.service (service_of log) primary f.number ≡ Some w.fed.store
    standing = roots f.number ∙ ap (root_of v.manager.core) w.fed.number ∙ w.fed.stands

    seen : log_seen v.manager.core w.row.rank w.id ≡ Some (log_text w.fed.events)
    seen = ap (option_and_then (λ st. value_at st (log_path w.id))) w.fed.stands ∙ w.fed.logged.text

    pub record Before : Type 0 where
      pub later : IfSome (last_fed by log) (λ last. last < f.number)
      pub behind : fed_before v.feeds by ≡ fed_in_all by log
      pub less : fed_before v.feeds by < f.count

    pub before : Before
    before = at (feed_of v.feeds by) refl
      where
        news : (o : Option Feed) → feed_of v.feeds by ≡ o → has_more v.manager.core w.row.rank o (Some (log_text w.fed.events)) ≡ true
        news o e = ap (λ x. has_more v.manager.core w.row.rank x (Some (log_text w.fed.events))) (sym e) ∙ ap (has_more v.manager.core w.row.rank (feed_of v.feeds by)) (sym seen) ∙ w.news

        at : (o : Option Feed) → feed_of v.feeds by ≡ o → Before
        at None e =
            let o = a.fed.others by waits.unanswered e in
            let some = w.fed.some in
            let count = w.fed.count in
            let zero : fed_before v.feeds by ≡ 0 = ap (λ x. option_map_or (λ g. g.count) x 0) e in
            record {
              later = subst (λ x. IfSome x (λ last. last < f.number)) (sym o.0) tt;
              behind = zero ∙ sym o.1;
              less = omega (arith, some, count, zero);
            }
        at (Some g) e =
            let k = found_feed by v.feeds g e in
            let known = contains_from v.feeds g k.0 in
            let n : goes_on v.manager.core w.row.rank g (log_text w.fed.events) ≡ true = news (Some g) e in
            let parts = and_parts (is_none g.names && nat_lt g.number (primary_heard v.manager.core w.row.rank)) (nat_lt g.bytes (length (log_text w.fed.events))) n in
            let above = ltb-true g.number (primary_heard v.manager.core w.row.rank) (and_parts (is_none g.names) (nat_lt g.number (primary_heard v.manager.core w.row.rank)) parts.0).1 in
            let bytes = ltb-true g.bytes (length (log_text w.fed.events)) parts.1 in
            let old = grown g known by w.label w.id w.small k.1 asks w.names in
            let now = (m.roots (primary_heard v.manager.core w.row.rank) w.fed.store w.fed.stands).grown w.id w.fed.events w.small w.fed.logged in
            let one = logs_same (newest_of v.manager.core) w.id (old.was.events ++ old.more) (w.fed.events ++ now.0) old.logged now.1 in
            let was_bytes = old.was.bytes in
            let shorter_text : length (log_text old.was.events) < length (log_text w.fed.events) = omega (arith, bytes, was_bytes) in
            let longer_now = longer old.was.events w.fed.events old.more now.0 one shorter_text in
            let was_count = old.was.count in
            let count = w.fed.count in
            let number = w.fed.number in
            let first : fed_before v.feeds by ≡ g.count = ap (λ x. option_map_or (λ h. h.count) x 0) e in
            let last : last_fed by log ≡ Some g.number = ap (λ b. last_fed b log) (sym k.1) ∙ old.was.last in
            record {
              later = subst (λ x. IfSome x (λ last. last < f.number)) (sym last) (let low : g.number < f.number = omega (arith, above, number) in low);
              behind = first ∙ sym old.was.all ∙ ap (λ b. fed_in_all b log) k.1;
              less = omega (arith, first, was_count, longer_now, count);
            }

    since : IfSome (heard (service_of (before_issue by log)) (inst.rank by) primary) (λ known. known ≤ f.number)
    since = at (heard (service_of (before_issue by log)) (inst.rank by) primary) refl
      where
        rest : (more : Log) × (log ≡ until (issues_now by) log ++ more)
        rest = behind_until (issues_now by) log

        split : service_of log ≡ service_of (before_issue by log) ++ service_of rest.0
        split = ap service_of rest.1 ∙ filter_map-append served (before_issue by log) rest.0

        at : (o : Option ℕ) → heard (service_of (before_issue by log)) (inst.rank by) primary ≡ o → IfSome o (λ known. known ≤ f.number)
        at None e = tt
        at (Some k) e =
            let had : HasHeard (service_of (before_issue by log)) (inst.rank by) primary k = subst (λ o. IsSomeAnd o (λ h. k ≤ h)) (sym e) (let low : k ≤ k = omega arith in low) in
            let still = has_heard_stays inst.service (inst.rank by) primary k (service_of (before_issue by log)) (service_of rest.0) (subst (IsLegalLog inst.service) split a.legal) had in
            let here : HasHeard (service_of log) (inst.rank by) primary k = subst (λ l. HasHeard l (inst.rank by) primary k) (sym split) still in
            subst (λ o. IsSomeAnd o (λ h. k ≤ h)) hears-now here

    pub feed_legal : (first count : ℕ) → first ≡ fed_before v.feeds by → first + count ≡ f.count → IsLegalFeed inst log by f.number first count
    feed_legal first count is all = record {
      label = w.label;
      asks = asks;
      waits = waits;
      later = before.later;
      fresh = since;
      known = subst (λ o. IsSomeAnd o (λ h. f.number ≤ h)) (sym hears-now) (let low : f.number ≤ f.number = omega arith in low);
      store = w.fed.store;
      standing = standing;
      id = w.id;
      small = w.small;
      names = names;
      events = w.fed.events;
      logged = w.fed.logged;
      behind = is ∙ before.behind;
      all = all ∙ w.fed.count;
    }

    now_fed : (first count : ℕ) → first ≡ fed_before v.feeds by → first + count ≡ f.count → WasFed inst (log ++ Fed f.by f.number first count ∷ []) f
    now_fed first count is all =
        let moment : Moment = Fed f.by f.number first count in
        let same : service_of (log ++ moment ∷ []) ≡ service_of log = service_push log moment ∙ append-nil (service_of log) in
        record {
          label = w.label;
          asks = ap inst.asks is_by ∙ asks;
          last = now_last f.by log f.number first count;
          all = now_all f.by log f.number first count ∙ ap (λ b. fed_in_all b log + count) is_by ∙ ap (λ n. n + count) (sym (is ∙ before.behind)) ∙ all;
          store = w.fed.store;
          standing = ap (λ l. store_after inst.service l primary f.number) same ∙ standing;
          jobs = w.fed.jobs;
          are = w.fed.are;
          j = w.fed.j;
          known = w.fed.known;
          names = names_kept inst log moment w.label w.fed.j.id (subst (Names inst log w.label) (sym w.fed.named) names);
          events = w.fed.events;
          logged = subst (λ n. IsLogged w.fed.store n w.fed.events) (sym w.fed.named) w.fed.logged;
          count = w.fed.count;
          bytes = w.fed.bytes;
          told = w.fed.told ∙ ap (λ shown. if is_inactive w.fed.j.job.state then Some (names_shown shown w.fed.events) else None) (sym a.kind.terms.shown);
        }

    -- the service stands behind the feed
    pub feed_agrees : (first count : ℕ) → first ≡ fed_before v.feeds by → first + count ≡ f.count → (spent : Bool)
        → AgreesJobs (record v { spent = spent; feeds = without_feed f.by v.feeds ++ f ∷ [] }) inst (log ++ Fed f.by f.number first count ∷ [])
    feed_agrees first count is all spent =
        let moment : Moment = Fed f.by f.number first count in
        let same : service_of (log ++ moment ∷ []) ≡ service_of log = service_push log moment ∙ append-nil (service_of log) in
        let now : now_of inst (log ++ moment ∷ []) ≡ now_of inst log = latest_push ticked inst.start log moment in
        let desk = desk_same v.commands inst log moment v.manager.book.jobs now (λ row c. tt) in
        let beside : IsBeside inst moment = λ other some. record { issues = refl; replies = refl; decides = refl; groups = λ group c. absurd (among_from [] group c) } in
        record {
          kind = record { valid = a.kind.valid; unique = a.kind.unique; ranks = a.kind.ranks; terms = a.kind.terms; birth = a.kind.birth; book = a.kind.book };
          core = subst (Agrees v.manager.core inst.service) (sym same) a.core;
          legal = subst (IsLegalLog inst.service) (sym same) a.legal;
          commands = beside_agrees v.commands inst log moment beside (λ job. refl) a.commands;
          second = now ∙ a.second;
          owes = subst (Owes v.manager.posted v.found) (sym desk) a.owes;
          labelled = a.labelled;
          refused = λ r c. legal_kept inst log moment r.by r.fault refl refl (a.refused r c);
          fed = fed_on v.feeds inst log f f.number first count (now_fed first count is all) a.fed;
          untold = λ other some e. untold_kept other log moment refl refl (a.untold other some (unissued_before other log moment e));
          shutdowns = λ other e. undecided_kept other log moment refl (a.shutdowns other e);
        }

  -- ---- where nothing can go on

  -- the watch was fed all, and its job isn't over
  pub record Rests (by : By) (j : StoredJob) : Type 0 where
    pub fed : IsFedAll log by (newest_of v.manager.core) j.id
    pub on : is_inactive j.job.state ≡ false

  none_left : (a b : List Event) → length (log_text (a ++ b)) ≤ length (log_text a) → b ≡ []
  none_left [] [] low = refl
  none_left [] (x ∷ b) low = absurd (let lx = length-append (line_text x) (log_text b) in let lb = line-some x in omega (arith, low, lx, lb))
  none_left (x ∷ a) b low =
      let la = length-append (line_text x) (log_text (a ++ b)) in
      let lb = length-append (line_text x) (log_text a) in
      none_left a b (omega (arith, low, la, lb))

  unover : (s : State) (shown : List (List ℕ)) (o : Option (List (List ℕ))) → o ≡ (if is_inactive s then Some shown else None) → o ≡ None → is_inactive s ≡ false
  unover state.Inactive shown o is e = (let wrong : None ≡ Some shown = sym e ∙ is in cc)
  unover state.New shown o is e = refl
  unover state.Depend shown o is e = refl
  unover state.Priority shown o is e = refl
  unover state.Sched shown o is e = refl
  unover state.Run shown o is e = refl
  unover state.Cleanup shown o is e = refl

  one_ok : {A E : Type 0} {x y : A} → (let o : Result A E = Ok x in o ≡ Ok y) → x ≡ y
  one_ok e = cc

  module _ (row : Row) (stands : Contains v.commands.rows row) (label : List ℕ) (is : row.ask ≡ ask.Watch label)
      (j : StoredJob) (known : Contains v.manager.book.jobs j) (named : job_at label v.commands.labels ≡ Some j.id)
      (last : primary_heard v.manager.core row.rank ≡ landed (service_of log) primary)
      (newest : newest_store inst.service (service_of log) primary ≡ Some (newest_of v.manager.core))
      (untold : watched_by v.feeds row.by ≡ None)
      (unfed : has_news v.commands.labels v.manager row.rank (feed_of v.feeds row.by) (ask.Watch label) ≡ false) where
    core-is : store_at v.manager.core row.rank ≡ Some (newest_of v.manager.core)
    core-is = sym (roots (primary_heard v.manager.core row.rank)) ∙ ap (store_after inst.service (service_of log) primary) last ∙ newest

    stored : IsStored (newest_of v.manager.core) j
    stored = stored_job (newest_of v.manager.core) v.manager.book.jobs m.jobs j known

    abbrev events : List Event
    events = stored.first ∷ stored.more

    seen-newest : log_seen v.manager.core row.rank j.id ≡ Some (log_text events)
    seen-newest = ap (option_and_then (λ st. value_at st (log_path j.id))) core-is ∙ stored.logged.text

    nothing-more : has_more v.manager.core row.rank (feed_of v.feeds row.by) (Some (log_text events)) ≡ false
    nothing-more =
        ap (has_more v.manager.core row.rank (feed_of v.feeds row.by)) (sym seen-newest)
        ∙ sym (ap (λ o. option_map_or (λ id. has_more v.manager.core row.rank (feed_of v.feeds row.by) (log_seen v.manager.core row.rank id)) o false) named)
        ∙ unfed

    asks-now : inst.asks row.by ≡ Some (Watch label)
    asks-now = (a.commands.rows row stands).asks ∙ ap (λ x. Some (told x)) is

    -- a root has no more landings than have happened
    few : (ls : List (List Group)) (n : ℕ) (first st : Store) → after Primary ls n first ≡ Some st → n ≤ length ls
    few ls zero first st e = omega arith
    few [] (suc n) first st e = cc
    few (groups ∷ ls) (suc n) first st e = on (after_groups Primary groups first) e (λ mid f. few ls n mid st f)
      where
        on : (o : Option Store) → option_and_then (λ mid. after Primary ls n mid) o ≡ Some st → ((mid : Store) → after Primary ls n mid ≡ Some st → n ≤ length ls) → suc n ≤ suc (length ls)
        on None e more = cc
        on (Some mid) e more = let low = more mid e in omega (arith, low)

    landings-low : length (history_of v.manager.core) ≤ landed (service_of log) primary
    landings-low = at v.manager.core.keys.spaces refl a.core.keys.names
      where
        at : (spaces : List SpaceValue) → v.manager.core.keys.spaces ≡ spaces → map (λ s. s.name) v.manager.core.keys.spaces ≡ primary ∷ opened_names (service_of log) → length (history_of v.manager.core) ≤ landed (service_of log) primary
        at [] e names = absurd (let wrong : [] ≡ primary ∷ opened_names (service_of log) = ap (map (λ s. s.name)) (sym e) ∙ names in cc)
        at (x ∷ xs) e names =
            let heads : x.name ∷ map (λ s. s.name) xs ≡ primary ∷ opened_names (service_of log) = ap (map (λ s. s.name)) (sym e) ∙ names in
            let named : x.name ≡ primary = cc in
            let here = subst (λ ss. SpaceAgrees inst.service (service_of log) v.manager.core.keys.size (get_or ss 0 x)) e (a.core.keys.spaces 0 x (subst (λ ss. 0 < length ss) (sym e) (omega arith))) in
            let count : suc (landed (service_of log) primary) ≡ roots_of x = ap (λ n. suc (landed (service_of log) n)) (sym named) ∙ here.last in
            let mine : history_of v.manager.core ≡ x.history = ap (λ ss. option_map_or (λ s. s.history) (slice_get ss 0) []) e in
            let size : length (history_of v.manager.core) ≡ length x.history = ap length mine in
            omega (arith, count, size)

    pub rests : Rests row.by j
    rests = at (feed_of v.feeds row.by) refl
      where
        at : (o : Option Feed) → feed_of v.feeds row.by ≡ o → Rests row.by j
        at None e = absurd (true≢false (sym (ap (λ o. has_more v.manager.core row.rank o (Some (log_text events))) e) ∙ nothing-more))
        at (Some f) e =
            let k = found_feed row.by v.feeds f e in
            let g = grown f (contains_from v.feeds f k.0) row.by label j.id stored.small k.1 asks-now named in
            let unnamed : f.names ≡ None = no-names f.names refl in
            let all = logs_same (newest_of v.manager.core) j.id (g.was.events ++ g.more) events g.logged stored.logged in
            let whole : g.was.events ≡ events = is-whole g (sym (ap (λ o. has_more v.manager.core row.rank o (Some (log_text events))) e) ∙ nothing-more) unnamed all in
            let job-was = stored_job g.was.store g.was.jobs g.was.are g.was.j g.was.known in
            let logs : job-was.first ∷ job-was.more ≡ g.was.events = logs_same g.was.store g.was.j.id (job-was.first ∷ job-was.more) g.was.events job-was.logged g.was.logged in
            let same-job : g.was.j.job ≡ j.job = one_ok (sym job-was.replays ∙ ap replayed (logs ∙ whole) ∙ stored.replays) in
            record {
              fed = record {
                events = events;
                logged = stored.logged;
                all = ap (λ b. fed_in_all b log) (sym k.1) ∙ g.was.all ∙ g.was.count ∙ ap length whole;
              };
              on = ap (λ (x : Job). is_inactive x.state) (sym same-job) ∙ unover g.was.j.job.state (names_shown inst.shown g.was.events) f.names g.was.told unnamed;
            }
          where
            no-names : (o : Option (List (List ℕ))) → f.names ≡ o → f.names ≡ None
            no-names None n = n
            no-names (Some ns) n =
                let wrong : ◌≡◌ {A = Option (List (List ℕ) × ℕ)} (Some (ns, f.number)) None = sym (ap (option_map {U = List (List ℕ) × ℕ} (λ x. (x, f.number))) n) ∙ sym (ap (option_and_then (λ (h : Feed). option_map {U = List (List ℕ) × ℕ} (λ x. (x, h.number)) h.names)) e) ∙ untold in
                cc

            is-whole : (g : Grown f j.id) → goes_on v.manager.core row.rank f (log_text events) ≡ false → f.names ≡ None → g.was.events ++ g.more ≡ events → g.was.events ≡ events
            is-whole g more none all = elim (and_cases (is_none f.names && nat_lt f.number (primary_heard v.manager.core row.rank)) (nat_lt f.bytes (length (log_text events))) more) [
              | inl early ↦
                  let not-later : nat_lt f.number (primary_heard v.manager.core row.rank) ≡ false = sym (ap (λ o. is_none o && nat_lt f.number (primary_heard v.manager.core row.rank)) none) ∙ early in
                  let low = ltb-false f.number (primary_heard v.manager.core row.rank) not-later in
                  let high = few (history_of v.manager.core) f.number (first_store v.manager.core.keys.grant) g.was.store (sym (roots f.number) ∙ g.was.standing) in
                  let most = landings-low in
                  let number : f.number ≡ primary_heard v.manager.core row.rank = omega (arith, low, high, most, last) in
                  let stores : Some g.was.store ≡ Some (newest_of v.manager.core) = sym g.was.standing ∙ roots f.number ∙ ap (root_of v.manager.core) number ∙ core-is in
                  let id-is = same_job f g.was row.by label j.id (found_feed row.by v.feeds f e).1 asks-now named in
                  logs_same (newest_of v.manager.core) j.id g.was.events events
                  (subst (λ st. IsLogged st j.id g.was.events) (some_is stores) (subst (λ n. IsLogged g.was.store n g.was.events) id-is g.was.logged)) stored.logged
              | inr long ↦
                  let low = ltb-false f.bytes (length (log_text events)) long in
                  let bytes = g.was.bytes in
                  let text : length (log_text (g.was.events ++ g.more)) ≡ length (log_text events) = ap (λ l. length (log_text l)) all in
                  let none-more : g.more ≡ [] = none_left g.was.events g.more (omega (arith, low, bytes, text)) in
                  sym (append-nil g.was.events) ∙ ap (λ l. g.was.events ++ l) (sym none-more) ∙ all
            ]
