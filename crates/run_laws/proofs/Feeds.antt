-- Along a legal chronicle each watch is fed the log of its job, each event once and in order.
use Rattle.std.proofs.Common.{◌≡◌, ℕ, ◌+◌, ◌<◌, ◌≤◌, ◌^◌, List, [], ◌∷◌, ◌++◌, Bool, true, false, cond, ◌&&◌, eq-eqb, length, take, drop, Option, Some, None, IfSome, IsSomeAnd, unwrap_or, refl, sym, ap, ap₂, ◌∙◌, subst, arith, append-nil, append_assoc}
use Rattle.std.specs.List.{cons_option}
use Rattle.std.proofs.lemmas.List.{length-append, take_all}
use Rattle.std.proofs.lemmas.List.Elements.{filter_map-append}
use Rattle.std.proofs.Math.Seq.{drop-append_seam}
use Rattle.event_log.specs.declared.event.Event.{Event}
use Rattle.kvs_model.specs.Store.{Store}
use Rattle.kvs_rules.proofs.Asking.{command_is}
use Rattle.kvs_rules.proofs.Logs.{store_kept}
use Rattle.kvs_rules.proofs.Sequences.{each_along, each_both}
use Rattle.kvs_rules.specs.Log as service
use Rattle.kvs_rules.specs.Log.{same_command}
use Rattle.kvs_rules.specs.Namespaces.{Setting, landed, primary, store_after}
use Rattle.kvs_rules.specs.Sequence.{EachAfter}
use Rattle.kvs_txn.specs.declared.txn.By.{By}
use Rattle.job_rules.proofs.Among.{among_from, each_at as each_among}
use Rattle.manager_rules.specs.Jobs.{IsLogged, IsStored}
use Rattle.manager_rules.specs.Limits.{names_shown}
use Rattle.manager_rules.proofs.Unique.{logs_same}
use Rattle.instance_rules.specs.Desks.{Names}
use Rattle.instance_rules.specs.Log.{IsInstance, JobAsk, Watch}
use Rattle.instance_rules.specs.Watches.{HasWatched, IsLegalFeed, fed_at, fed_in_all, fed_with, last_fed}
use Rattle.workload.specs.Laws.{HasOwnLabels}
use Rattle.answers.specs.declared.chronicle.Entry.{Entry}
use Rattle.answers.specs.declared.chronicle.Entry.TheVariants as entry
use Rattle.answers.specs.declared.chronicle.Reply.TheVariants as reply
use Rattle.answers.specs.Chronicle.{Setup, top}
use Rattle.answers.specs.Jobs.{happenings_after, instance_of, job_ask_at, log_in, second_of}
use Rattle.answers.specs.Legal.{IsLegal, IsLegalEntry, IsSeenFeed}
use Rattle.answers.specs.Services.{log_of, moment_of, setting_of}
use Rattle.answers.proofs.Feeds.{all_push, fed_now, last_push, told_of}
use Rattle.answers.proofs.JobLogs.{happenings_after-append, service_kept}
use Rattle.answers.proofs.Services.{log_push}
use Rattle.run_laws.specs.Feeds.{AreFed, Feed, IsFedWith, SeesLog, TellsLog, WatchesSeeTheirLogs, feed_in, feeds_of}
use Rattle.run_laws.specs.Times.{KeepsTime}
use Rattle.run_laws.specs.Views.{AtRoot}
use Rattle.run_laws.proofs.EachJob.{apart}
use Rattle.run_laws.proofs.Newest.{same_one}
use Rattle.run_laws.proofs.Submits.{names_later, names_one}
use Rattle.run_laws.proofs.Views.{logs_grow}

-- ---- one feed behind others

-- the rest of a list is what stands behind its first part
rest_of : (xs ys all : List Event) (first count : ℕ) → xs ++ ys ≡ all → first ≡ length xs → first + count ≡ length all → ys ≡ take count (drop first all)
rest_of xs ys all first count joined long whole =
    let counted : length xs + length ys ≡ length all = sym (length-append xs ys) ∙ ap length joined in
    sym (ap₂ (λ n l. take count (drop n l)) long (sym joined) ∙ ap (take count) (drop-append_seam xs ys) ∙ take_all count ys (omega (arith, counted, long, whole)))

fed_behind : (set : Setting) (log : service.Log) (id : ℕ) (feeds : List Feed) (events : List Event) (feed : Feed) (now : List Event)
    → AreFed set log id feeds events → IsFedWith set log id feed now → AreFed set log id (feeds ++ feed ∷ []) (events ++ now)
fed_behind set log id [] events feed now none one = (now, [], ap (λ l. l ++ now) none ∙ sym (append-nil now), one, refl)
fed_behind set log id (x ∷ feeds) events feed now (here, later, joined, with, more) one =
    (here, later ++ now, ap (λ l. l ++ now) joined ∙ append_assoc here later now, with, fed_behind set log id feeds later feed now more one)

watch_same : (a b : List ℕ) → ◌≡◌ {A = Option JobAsk} (Some (Watch a)) (Some (Watch b)) → a ≡ b
watch_same a b e = cc

-- ---- what an entry leaves

-- an entry that feeds another watch or none
pub record IsNoFeed (by : By) (e : Entry) : Type 0 where
  pub last : told_of (fed_at by) e ≡ None
  pub counted : told_of (fed_with by) e ≡ None
  pub feed : feed_in by e ≡ None

module _ (set : Setup) where
  root_stays : (c : List Entry) (e : Entry) (number : ℕ) (P : Store → Type 0) → AtRoot (setting_of set) (log_of set.work top c) number P → AtRoot (setting_of set) (log_of set.work top (c ++ e ∷ [])) number P
  root_stays c e number P (st, was, held) = (
    st,
    ap (λ l. store_after (setting_of set) l primary number) (log_push set.work top c e)
        ∙ store_kept (setting_of set) (log_of set.work top c) (cons_option (moment_of set.work top c e) []) primary number st was,
    held,
  )

  fed_stays : (c : List Entry) (e : Entry) (id : ℕ) (feeds : List Feed) (events : List Event) → AreFed (setting_of set) (log_of set.work top c) id feeds events → AreFed (setting_of set) (log_of set.work top (c ++ e ∷ [])) id feeds events
  fed_stays c e id [] events h = h
  fed_stays c e id (feed ∷ feeds) events (here, later, joined, (all, there, is), more) =
      (here, later, joined, (all, root_stays c e feed.number (λ st. IsLogged st id all) there, is), fed_stays c e id feeds later more)

  names_stay : (c : List Entry) (e : Entry) (label : List ℕ) (id : ℕ) → Names (instance_of set) (log_in set.work c) label id → Names (instance_of set) (log_in set.work (c ++ e ∷ [])) label id
  names_stay c e label id n =
      subst (λ l. Names (instance_of set) l label id) (sym (happenings_after-append set.work [] c (e ∷ [])))
      (names_later set (log_in set.work c) (happenings_after set.work c (e ∷ [])) label id n)

  -- what is known of a watch that was fed last at this root
  Known : List Entry → By → Option ℕ → Type 0
  Known c by None = (fed_in_all by (log_in set.work c) ≡ 0) × (feeds_of by c ≡ [])
  Known c by (Some number) = (s : SeesLog set c by number) × (fed_in_all by (log_in set.work c) ≡ length s.events)

  count_stays : (c : List Entry) (by : By) (e : Entry) → IsNoFeed by e → fed_in_all by (log_in set.work (c ++ e ∷ [])) ≡ fed_in_all by (log_in set.work c)
  count_stays c by e none = all_push set.work c by e ∙ ap (λ o. fed_in_all by (log_in set.work c) + unwrap_or o 0) none.counted ∙ omega arith

  feeds_stay : (c : List Entry) (by : By) (e : Entry) → IsNoFeed by e → feeds_of by (c ++ e ∷ []) ≡ feeds_of by c
  feeds_stay c by e none = filter_map-append (feed_in by) c (e ∷ []) ∙ ap (λ o. feeds_of by c ++ cons_option o []) none.feed ∙ append-nil (feeds_of by c)

  sees_stays : (c : List Entry) (by : By) (e : Entry) → IsNoFeed by e → (number : ℕ) → SeesLog set c by number → SeesLog set (c ++ e ∷ []) by number
  sees_stays c by e none number s = record {
    label = s.label;
    asks = s.asks;
    id = s.id;
    small = s.small;
    names = names_stay c e s.label s.id s.names;
    events = s.events;
    logged = root_stays c e number (λ st. IsLogged st s.id s.events) s.logged;
    fed = subst (λ feeds. AreFed (setting_of set) (log_of set.work top (c ++ e ∷ [])) s.id feeds s.events) (sym (feeds_stay c by e none)) (fed_stays c e s.id (feeds_of by c) s.events s.fed);
  }

  last_stays : (c : List Entry) (by : By) (e : Entry) → IsNoFeed by e → last_fed by (log_in set.work (c ++ e ∷ [])) ≡ last_fed by (log_in set.work c)
  last_stays c by e none = last_push set.work c by e ∙ ap (λ o. unwrap_or o (last_fed by (log_in set.work c))) none.last

  -- what is no feed leaves what watches were fed
  pub see_behind : (c : List Entry) (e : Entry) → ((by : By) → IsNoFeed by e) → WatchesSeeTheirLogs set c → WatchesSeeTheirLogs set (c ++ e ∷ [])
  see_behind c e none all by number is = sees_stays c by e (none by) number (all by number (sym (last_stays c by e (none by)) ∙ is))

  known_stays : (c : List Entry) (by : By) (e : Entry) → IsNoFeed by e → (o : Option ℕ) → Known c by o → Known (c ++ e ∷ []) by o
  unfolding Known sees_stays
  known_stays c by e none None h = (count_stays c by e none ∙ h.0, feeds_stay c by e none ∙ h.1)
  known_stays c by e none (Some number) (s, counted) = (sees_stays c by e none number s, count_stays c by e none ∙ counted)

-- ---- a feed

module _ (set : Setup) (valid : IsInstance (instance_of set)) (labels : HasOwnLabels set.work.lines)
    (c : List Entry) (legal : IsLegal set c) (timely : KeepsTime set c) (by : By) (number first count : ℕ)
    (seen : IsSeenFeed set c by number) (feed : IsLegalFeed (instance_of set) (log_in set.work c) by number first count) where
  abbrev own : Setting
  own = setting_of set

  abbrev log : service.Log
  log = log_of set.work top c

  stands_here : store_after own log primary number ≡ Some feed.store
  stands_here = ap (λ l. store_after own l primary number) (sym (service_kept set.work c)) ∙ feed.standing

  logged_here : AtRoot own log number (λ st. IsLogged st feed.id feed.events)
  logged_here = (feed.store, stands_here, feed.logged)

  known : number ≤ landed log primary
  known = (fed_now set by c legal number first count seen feed).known

  abbrev is_feed : Feed
  is_feed = record { number = number; first = first; count = count }

  -- it is of these events, where its watch was fed those before
  with_rest : (old now : List Event) → old ++ now ≡ feed.events → fed_in_all by (log_in set.work c) ≡ length old → IsFedWith own log feed.id is_feed now
  with_rest old now joined counted = (feed.events, logged_here, rest_of old now feed.events first count joined (feed.behind ∙ counted) feed.all)

  -- the log at the root of the last feed is the first part of that at this one
  record Behind (last : ℕ) (s : SeesLog set c by last) : Type 0 where
    same : feed.id ≡ s.id
    now : List Event
    joined : s.events ++ now ≡ feed.events

  later : (last : ℕ) → last_fed by (log_in set.work c) ≡ Some last → last < number
  later last is = subst (λ o. IfSome o (λ n. n < number)) is feed.later

  behind : (last : ℕ) → last_fed by (log_in set.work c) ≡ Some last → (s : SeesLog set c by last) → Behind last s
  behind last is s =
      let label = watch_same feed.label s.label (sym feed.asks ∙ s.asks) in
      let same : feed.id ≡ s.id = names_one set labels c legal s.label s.id feed.id s.small s.names (subst (λ l. Names (instance_of set) (log_in set.work c) l feed.id) label feed.names) in
      let above : last < number = later last is in
      let grown = logs_grow set valid c timely legal last number s.id s.events (omega (arith, above), known) s.small s.logged in
      let there = grown.1 in
      let store : there.0 ≡ feed.store = same_one there.0 feed.store (sym there.1 ∙ stands_here) in
      let old : IsLogged feed.store feed.id (s.events ++ grown.0) = subst (λ st. IsLogged st feed.id (s.events ++ grown.0)) store (subst (λ id. IsLogged there.0 id (s.events ++ grown.0)) (sym same) there.2) in
      record { same = same; now = grown.0; joined = logs_same feed.store feed.id (s.events ++ grown.0) feed.events old feed.logged }

  abbrev e : Entry
  e = entry.Watched by.actor by.command number first count

  -- the watch was fed these events before, and now the rest of its job's log
  next : (old now : List Event) → old ++ now ≡ feed.events → fed_in_all by (log_in set.work c) ≡ length old → AreFed own log feed.id (feeds_of by c) old
      → feeds_of by (c ++ e ∷ []) ≡ feeds_of by c ++ is_feed ∷ [] → SeesLog set (c ++ e ∷ []) by number
  next old now joined counted fed pushed = record {
    label = feed.label;
    asks = feed.asks;
    id = feed.id;
    small = feed.small;
    names = names_stay set c e feed.label feed.id feed.names;
    events = feed.events;
    logged = root_stays set c e number (λ st. IsLogged st feed.id feed.events) logged_here;
    fed = subst (λ feeds. AreFed own (log_of set.work top (c ++ e ∷ [])) feed.id feeds feed.events) (sym pushed)
        (fed_stays set c e feed.id (feeds_of by c ++ is_feed ∷ []) feed.events
        (subst (AreFed own log feed.id (feeds_of by c ++ is_feed ∷ [])) joined (fed_behind own log feed.id (feeds_of by c) old is_feed now fed (with_rest old now joined counted))));
  }

  sees_all : (o : Option ℕ) → last_fed by (log_in set.work c) ≡ o → Known set c by o → feeds_of by (c ++ e ∷ []) ≡ feeds_of by c ++ is_feed ∷ []
      → (s : SeesLog set (c ++ e ∷ []) by number) × (s.events ≡ feed.events)
  unfolding Known next
  sees_all None is h pushed = (next [] feed.events refl h.0 (subst (λ feeds. AreFed own log feed.id feeds []) (sym h.1) refl) pushed, refl)
  sees_all (Some last) is (s, counted) pushed =
      let b = behind last is s in
      (next s.events b.now b.joined counted (subst (λ id. AreFed own log id (feeds_of by c) s.events) (sym b.same) s.fed) pushed, refl)

  same_self : same_command by by ≡ true
  same_self = ap₂ (λ a b. a && b) (eq-eqb by.actor by.actor refl) (eq-eqb by.command by.command refl)

  known_behind : Known set c by (last_fed by (log_in set.work c)) → Known set (c ++ e ∷ []) by (Some number)
  unfolding Known
  known_behind h =
      let pushed : feeds_of by (c ++ e ∷ []) ≡ feeds_of by c ++ is_feed ∷ [] = filter_map-append (feed_in by) c (e ∷ []) ∙ ap (λ b. feeds_of by c ++ cons_option (cond b (Some is_feed) None) []) same_self in
      let s = sees_all (last_fed by (log_in set.work c)) refl h pushed in
      let all : fed_in_all by (log_in set.work (c ++ e ∷ [])) ≡ fed_in_all by (log_in set.work c) + count = all_push set.work c by e ∙ ap (λ b. fed_in_all by (log_in set.work c) + unwrap_or (cond b (Some count) None) 0) same_self in
      (s.0, all ∙ ap (λ n. n + count) (sym feed.behind) ∙ feed.all ∙ sym (ap length s.1))

-- ---- along a chronicle

abbrev Fits : Setup → List Entry → Entry → Type 0
Fits set c e = IsLegalEntry set c e × (second_of set c < 2 ^ 64)

abbrev feed_entry : By → ℕ → ℕ → ℕ → Entry
feed_entry by number first count = entry.Watched by.actor by.command number first count

module _ (set : Setup) (valid : IsInstance (instance_of set)) (labels : HasOwnLabels set.work.lines) where
  AllKnown : List Entry → Type 0
  AllKnown c = (by : By) → Known set c by (last_fed by (log_in set.work c))

  -- behind a feed of this watch or of another one
  fed_step : (c : List Entry) → IsLegal set c → KeepsTime set c → (by other : By) (number first count : ℕ) → IsLegalEntry set c (feed_entry other number first count)
      → Known set c by (last_fed by (log_in set.work c)) → Known set (c ++ feed_entry other number first count ∷ []) by (last_fed by (log_in set.work (c ++ feed_entry other number first count ∷ [])))
  fed_step c legal timely by other number first count fits h = at (same_command by other) refl
    where
      at : (b : Bool) → same_command by other ≡ b → Known set (c ++ feed_entry other number first count ∷ []) by (last_fed by (log_in set.work (c ++ feed_entry other number first count ∷ [])))
      at false is =
          let none : IsNoFeed by (feed_entry other number first count) = record {
            last = ap (λ b. cond b (Some (Some number)) None) is;
            counted = ap (λ b. cond b (Some count) None) is;
            feed = ap (λ b. cond b (Some (record { number = number; first = first; count = count })) None) is;
          } in
          subst (Known set (c ++ feed_entry other number first count ∷ []) by) (sym (last_stays set c by (feed_entry other number first count) none))
          (known_stays set c by (feed_entry other number first count) none (last_fed by (log_in set.work c)) h)
      at true is =
          let own : by ≡ other = command_is by other is in
          let seen : IsSeenFeed set c by number = subst (λ b. IsSeenFeed set c b number) (sym own) fits.grounds.0 in
          let feed : IsLegalFeed (instance_of set) (log_in set.work c) by number first count = subst (λ b. IsLegalFeed (instance_of set) (log_in set.work c) b number first count) (sym own) fits.grounds.1 in
          let now = known_behind set valid labels c legal timely by number first count seen feed h in
          subst (Known set (c ++ feed_entry other number first count ∷ []) by) (sym (last_push set.work c by (feed_entry other number first count) ∙ ap (λ b. unwrap_or (cond b (Some (Some number)) None) (last_fed by (log_in set.work c))) is))
          (subst (λ (b : By). Known set (c ++ feed_entry b number first count ∷ []) by (Some number)) own now)

  step : (c : List Entry) (e : Entry) → EachAfter (Fits set) [] c → Fits set c e → AllKnown c → AllKnown (c ++ e ∷ [])
  unfolding AllKnown
  step c (entry.Watched actor command number first count) before fits all by =
      let t = apart set c before in
      fed_step c t.0 t.1 by (record { actor = actor; command = command }) number first count fits.0 (all by)
  step c e before fits all by =
      subst (Known set (c ++ e ∷ []) by) (sym (last_push set.work c by e))
      (known_stays set c by e (record { last = refl; counted = refl; feed = refl }) (last_fed by (log_in set.work c)) (all by))

  all_known : (c : List Entry) → IsLegal set c → KeepsTime set c → AllKnown c
  unfolding AllKnown Known
  all_known c legal timely = each_along (Fits set) AllKnown step [] c tt (each_both (IsLegalEntry set) (λ d e. second_of set d < 2 ^ 64) [] c legal timely) (λ by. (refl, refl))

  pub sees_logs : (c : List Entry) → IsLegal set c → KeepsTime set c → WatchesSeeTheirLogs set c
  unfolding AllKnown Known
  sees_logs c legal timely by number is = (subst (Known set c by) is (all_known c legal timely by)).0

  -- ---- what a watch is told

  tells_at : (c : List Entry) → IsLegal set c → KeepsTime set c → (by : By) (label : List ℕ) (shown : List (List ℕ)) (number : ℕ) → job_ask_at set.work by ≡ Some (Watch label)
      → HasWatched (instance_of set) (log_in set.work c) by label shown number → TellsLog set c by shown number
  tells_at c legal timely by label shown number asks h = record {
    sees = s;
    told = h.told ∙ ap (names_shown set.terms.shown) logs;
    over = (h.store, stands_there, (h.j, stored, sym id, h.over));
  }
    where
      stands_there : store_after (setting_of set) (log_of set.work top c) primary number ≡ Some h.store
      stands_there = ap (λ l. store_after (setting_of set) l primary number) (sym (service_kept set.work c)) ∙ h.standing

      s : SeesLog set c by number
      s = sees_logs c legal timely by number h.last

      stored : IsStored h.store h.j
      stored = each_among (IsStored h.store) h.jobs h.j h.are.stored (among_from h.jobs h.j h.known)

      id : s.id ≡ h.j.id
      id = names_one set labels c legal label h.j.id s.id stored.small h.names (subst (λ l. Names (instance_of set) (log_in set.work c) l s.id) (watch_same s.label label (sym s.asks ∙ asks)) s.names)

      logs : h.events ≡ s.events
      logs =
          let same : s.logged.0 ≡ h.store = same_one s.logged.0 h.store (sym s.logged.1 ∙ stands_there) in
          let there : IsLogged h.store h.j.id s.events = subst (λ st. IsLogged st h.j.id s.events) same (subst (λ id. IsLogged s.logged.0 id s.events) id s.logged.2) in
          logs_same h.store h.j.id h.events s.events h.logged there

  pub tells_log : (c : List Entry) → IsLegal set c → KeepsTime set c → (by : By) (shown : List (List ℕ)) (number : Option ℕ)
      → IsLegalEntry set c (entry.Replied by.actor by.command (reply.Watched shown) number) → IsSomeAnd number (TellsLog set c by shown)
  tells_log c legal timely by shown number fits = on number fits.grounds.grounds.2
    where
      on : (o : Option ℕ) → IsSomeAnd o (HasWatched (instance_of set) (log_in set.work c) by fits.grounds.grounds.0 shown) → IsSomeAnd o (TellsLog set c by shown)
      on None h = h
      on (Some n) h = tells_at c legal timely by fits.grounds.grounds.0 shown n (fits.grounds.made ∙ ap Some fits.grounds.grounds.1) h
