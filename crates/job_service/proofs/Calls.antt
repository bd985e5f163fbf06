-- A job service through its calls.
use Rattle.std.proofs.Common.{◌≡◌, ℕ, ◌+◌, ◌-◌, ◌*◌, ◌^◌, ◌<◌, ◌≤◌, Bor, List, [], ◌∷◌, ◌++◌, length, map, Bool, true, false, cond, Option, Some, None, IsSome, Contains, count_by, inl, inr, refl, sym, ap, ◌∙◌, subst, arith, append-nil, true≢false}
use Rattle.std.specs.Prelude.{IfNone, IfSome, find, option_map, slice_index}
use Rattle.std.specs.List.{AllByRecursion as Each}
use Rattle.std.specs.Option.{option_copied}
use Rattle.answers.specs.Jobs.{job_reply_of}
use Rattle.answers.specs.declared.chronicle.Reply.{Reply}
use Rattle.fl_digest.specs.declared.Hash.{Hash}
use Rattle.instance_rules.specs.Legal.{IsLegalMoment}
use Rattle.instance_rules.specs.Log.{Instance, Log, Moment, Served, service_of}
use Rattle.instance_rules.specs.Replies.{IsLegalReply}
use Rattle.job_book.specs.Contract.{Finds}
use Rattle.job_deeds.specs.Choices.{SaysAs}
use Rattle.job_book.specs.Value.{BookValue, scene_of}
use Rattle.job_clock.proofs.Times.{begins_in_time}
use Rattle.job_clock.specs.Targets.{AreInTime, targets_of}
use Rattle.job_commands.proofs.Desks.{submits_true}
use Rattle.job_commands.proofs.Steps.{names_kept}
use Rattle.job_commands.proofs.Tables.{found}
use Rattle.job_commands.specs.Agrees.{AgreesCommands}
use Rattle.job_commands.specs.Desks.{asked_of, desk_of}
use Rattle.job_commands.specs.Rows.{AreMarkedBy, CommandsValue, is_submit}
use Rattle.job_commands.specs.declared.row.Row.{Row}
use Rattle.job_landings.proofs.Landing.{desk_along, service_all, users_beside, users_legal}
use Rattle.job_landings.proofs.Naming.{asked_beside, event_beside}
use Rattle.job_landings.proofs.Serving.{desk_same}
use Rattle.job_landings.specs.Landings.{happening}
use Rattle.job_manager.specs.Follows.{Keeps, Stays}
use Rattle.job_manager.specs.Value.{ManagerValue}
use Rattle.job_replies.specs.Told.{MayTell, Stands}
use Rattle.job_deeds.proofs.job_rules_proofs.Among.{Among, all_at, all_from, among_from, contains_from}
use Rattle.job_deeds.specs.job_rules.Fits.{IsGrant}
use Rattle.job_submissions.specs.Made.{AreLabelled}
use Rattle.job_submissions.specs.declared.faults.Fault.{Fault}
use Rattle.kvs_core.specs.Agrees.{Agrees}
use Rattle.kvs_core.specs.Makes as core
use Rattle.kvs_keys.specs.Posted.{LandsUsers, posts_landed}
use Rattle.job_deeds.specs.kvs_model.Store.{Name}
use Rattle.kvs_rules.proofs.Asking.{command_is}
use Rattle.kvs_rules.proofs.Logs.{legal_joined}
use Rattle.kvs_rules.specs.Answers.{IsLegalAfter, IsLegalAnswer, IsLegalLog}
use Rattle.kvs_rules.specs.Log as service
use Rattle.kvs_rules.specs.Sequence.{EachAfter}
use Rattle.kvs_rules.specs.declared.events.KvsAnswer.{KvsAnswer}
use Rattle.kvs_rules.specs.declared.events.KvsAsk.{KvsAsk}
use Rattle.kvs_rules.specs.declared.events.KvsEvent.{KvsEvent}
use Rattle.kvs_rules.specs.declared.events.KvsEvent.TheVariants as event
use Rattle.kvs_rules.specs.declared.events.KvsStep.{KvsStep}
use Rattle.job_deeds.specs.kvs_txn.declared.txn.By.{By}
use Rattle.job_deeds.specs.manager_rules.Due.{IsDue}
use Rattle.job_deeds.specs.manager_rules.Jobs.{StoredJob, ids_of}
use Rattle.job_deeds.specs.manager_rules.Posts.{Does, IsDuePost, Post, Submits}
use Rattle.job_deeds.specs.manager_rules.declared.asked.Asked.{Asked}
use Rattle.job_deeds.specs.manager_rules.declared.due.Due.{Due}
use Rattle.job_deeds.specs.resource_set.Writing.{r_text}
use Rattle.job_deeds.specs.resource_set.declared.node.Resources.{Resources}
use Rattle.job_deeds.specs.tap.declared.Ask.{Ask}
use Rattle.run_limits.specs.Limits.{most_seconds, most_submits}
use Rattle.kvs_rules.specs.OneStore.{AsksOwn}
use Rattle.job_service.specs.Agrees.{AgreesJobs, IsAgreed, IsNewAsk, IsServedBy, IsBookOf}
use Rattle.job_service.specs.Children.{IsBearing}
use Rattle.job_service.specs.Watching.{AreFed}
use Rattle.job_service.specs.Due.{IsEventDue, IsFoundBeside, Owes}
use Rattle.job_service.specs.Judged.{AreJudged}
use Rattle.job_service.specs.Posted.{IsAlone, IsNamed}
use Rattle.job_service.specs.Refusals.{fault_for, is_refusal_of, reply_to, row_in}
use Rattle.job_service.specs.Value.{JobServiceValue}
use Rattle.job_service.specs.View.{IsFit}
use Rattle.job_service.specs.declared.feeds.Feed.{Feed}
use Rattle.job_service.specs.declared.refusals.Refused.{Refused}
use Rattle.job_service.proofs.Facts.{Facts, besides_facts, served_facts, service_one}
use Rattle.job_service.proofs.Feeding.{fed_events, fed_kept}
use Rattle.job_service.proofs.Judging.{judged_begun}
use Rattle.job_service.proofs.Owing.{found-alone, found-named}
use Rattle.job_deeds.specs.tap.Factors.{priority_by}
use Rattle.job_deeds.specs.manager_rules.declared.terms.Terms.{Terms}

-- the service with other parts
abbrev pub with_parts : JobServiceValue → Bool → ManagerValue → CommandsValue → List Refused → Option Post → ℕ → JobServiceValue
with_parts v spent manager commands refused found submitted = record {
  spent = spent;
  terms = v.terms;
  birth = v.birth;
  second = v.second;
  manager = manager;
  commands = commands;
  refused = refused;
  feeds = v.feeds;
  found = found;
  bearing = v.bearing;
  submitted = submitted;
  span = v.span;
}

-- with other seconds of all advances, and another job whose child is to be born
abbrev pub spanned : JobServiceValue → ℕ → Option ℕ → JobServiceValue
spanned v span bearing = record v { span = span; bearing = bearing }

-- a book with the same grant and policy is still the instance's
pub same-book : (inst : Instance) (old new : BookValue) → new.grant ≡ old.grant → new.policy ≡ old.policy → IsBookOf inst old → IsBookOf inst new
same-book inst old new grant policy of = record { grant = grant ∙ of.grant; policy = policy ∙ of.policy }

pub respan : (v : JobServiceValue) (inst : Instance) (log : Log) (span : ℕ) (bearing : Option ℕ) → AgreesJobs v inst log → AgreesJobs (spanned v span bearing) inst log
respan v inst log span bearing a = record {
  kind = record { valid = a.kind.valid; unique = a.kind.unique; ranks = a.kind.ranks; terms = a.kind.terms; birth = a.kind.birth; book = a.kind.book };
  core = a.core;
  legal = a.legal;
  commands = a.commands;
  second = a.second;
  owes = a.owes;
  labelled = a.labelled;
  refused = a.refused;
  fed = a.fed;
  untold = a.untold;
  shutdowns = a.shutdowns;
}

-- with other feeds
pub refeed : (v : JobServiceValue) (inst : Instance) (log : Log) (spent : Bool) (feeds : List Feed) → AreFed feeds inst log → AgreesJobs v inst log → AgreesJobs (record v { spent = spent; feeds = feeds }) inst log
refeed v inst log spent feeds fed a = record {
  kind = record { valid = a.kind.valid; unique = a.kind.unique; ranks = a.kind.ranks; terms = a.kind.terms; birth = a.kind.birth; book = a.kind.book };
  core = a.core;
  legal = a.legal;
  commands = a.commands;
  second = a.second;
  owes = a.owes;
  labelled = a.labelled;
  refused = a.refused;
  fed = fed;
  untold = a.untold;
  shutdowns = a.shutdowns;
}

module _ (v : JobServiceValue) (inst : Instance) (log : Log) (a : AgreesJobs v inst log) where
  pub facts : Facts v.commands v.refused v.second inst log
  facts = record { commands = a.commands; second = a.second; refused = a.refused; untold = a.untold; shutdowns = a.shutdowns }

  pub joined : (spent : Bool) (manager : ManagerValue) (commands : CommandsValue) (refused : List Refused) (found : Option Post) (submitted : ℕ) (later : Log) → AreFed v.feeds inst later → IsBookOf inst manager.book
      → Agrees manager.core inst.service (service_of later) → IsLegalLog inst.service (service_of later) → AreLabelled commands.labels manager.book.jobs → Owes manager.posted found (desk_of commands inst later manager.book.jobs) → Facts commands refused v.second inst later
      → AgreesJobs (with_parts v spent manager commands refused found submitted) inst later
  joined spent manager commands refused found submitted later fed of core legal labelled owes f = record {
    kind = record {
      valid = a.kind.valid;
      unique = a.kind.unique;
      ranks = a.kind.ranks;
      terms = a.kind.terms;
      birth = a.kind.birth;
      book = of;
    };
    core = core;
    legal = legal;
    commands = f.commands;
    second = f.second;
    owes = owes;
    labelled = labelled;
    refused = f.refused;
    fed = fed;
    untold = f.untold;
    shutdowns = f.shutdowns;
  }

  -- ---- the key-value service

  -- where the manager's posts and book stay, and the commands, what is owed does
  owed : (manager : ManagerValue) (later : Log) → manager.book ≡ v.manager.book → manager.posted ≡ v.manager.posted → desk_of v.commands inst later v.manager.book.jobs ≡ desk_of v.commands inst log v.manager.book.jobs
      → Owes manager.posted v.found (desk_of v.commands inst later manager.book.jobs)
  owed manager later book posted same =
      subst (λ p. Owes p v.found (desk_of v.commands inst later manager.book.jobs)) (sym posted)
      (subst (λ b. Owes v.manager.posted v.found (desk_of v.commands inst later b.jobs)) (sym book)
      (subst (Owes v.manager.posted v.found) (sym same) a.owes))

  stays : (spent : Bool) (manager : ManagerValue) (later : Log) → AreFed v.feeds inst later → manager.book ≡ v.manager.book → manager.posted ≡ v.manager.posted → desk_of v.commands inst later v.manager.book.jobs ≡ desk_of v.commands inst log v.manager.book.jobs
      → Agrees manager.core inst.service (service_of later) → IsLegalLog inst.service (service_of later) → Facts v.commands v.refused v.second inst later
      → AgreesJobs (with_parts v spent manager v.commands v.refused v.found v.submitted) inst later
  stays spent manager later fed book posted same core legal f =
      joined spent manager v.commands v.refused v.found v.submitted later fed (same-book inst v.manager.book manager.book (ap (λ b. b.grant) book) (ap (λ b. b.policy) book) a.kind.book) core legal
      (subst (λ b. AreLabelled v.commands.labels b.jobs) (sym book) a.labelled) (owed manager later book posted same) f

  served : (spent : Bool) (manager : ManagerValue) (m : service.Moment) → Keeps v.manager manager → IsLegalAfter inst.service (service_of log) (m ∷ []) → Agrees manager.core inst.service (service_of log ++ m ∷ [])
      → Facts v.commands v.refused v.second inst (log ++ Served m ∷ []) → AgreesJobs (with_parts v spent manager v.commands v.refused v.found v.submitted) inst (log ++ Served m ∷ [])
  served spent manager m keeps legal core f =
      let same = service_one v.commands v.refused v.second inst log m in
      stays spent manager (log ++ Served m ∷ []) (fed_kept v.feeds inst log (Served m) (λ by. refl) (λ by. refl) a.fed) keeps.book keeps.posted (desk_same v.commands inst log m v.manager.book.jobs)
      (subst (Agrees manager.core inst.service) (sym same) core)
      (subst (IsLegalLog inst.service) (sym same) (legal_joined inst.service [] (service_of log) (m ∷ []) a.legal legal))
      f

  pub asked_agrees : (spent : Bool) (manager : ManagerValue) (by : By) (broker : ℕ) (floors : Name → ℕ) (space : Name) (asked : KvsAsk) → Keeps v.manager manager → IsNewAsk v inst log by broker space asked
      → Agrees manager.core inst.service (service_of log ++ service.Asked by floors ∷ []) → AgreesJobs (with_parts v spent manager v.commands v.refused v.found v.submitted) inst (log ++ Served (service.Asked by floors) ∷ [])
  asked_agrees spent manager by broker floors space asked keeps new core =
      served spent manager (service.Asked by floors) keeps (((record { broker = broker; namespace = space; ask = asked }, new.asks), new.new), tt) core
      (served_facts v.commands v.refused v.second inst log (service.Asked by floors) (asked_beside inst a.kind.valid (service_of log) by floors) facts)

  pub taken_agrees : (spent : Bool) (manager : ManagerValue) (by : By) (number : Option ℕ) (given : KvsAnswer) → Keeps v.manager manager → IsLegalAnswer inst.service (service_of log) by number given
      → Agrees manager.core inst.service (service_of log ++ service.Happened (event.Answered by number given) ∷ []) → AgreesJobs (with_parts v spent manager v.commands v.refused v.found v.submitted) inst (log ++ Served (service.Happened (event.Answered by number given)) ∷ [])
  taken_agrees spent manager by number given keeps legal core =
      let m : service.Moment = service.Happened (event.Answered by number given) in
      served spent manager m keeps (legal, tt) core
      (served_facts v.commands v.refused v.second inst log m (event_beside inst a.kind.valid (service_of log) (event.Answered by number given) tt legal) facts)

  -- a step of the service at which no post lands
  module _ (spent : Bool) (manager : ManagerValue) (step : KvsStep) (events : List KvsEvent) (makes : core.Makes step v.manager.core manager.core events) (s : Stays v.manager manager events)
      (users_land : (es : List KvsEvent) (left : List _) → posts_landed es ++ left ≡ [] → Each LandsUsers es) where
    users : Each LandsUsers events
    users = users_land events [] (append-nil _ ∙ s.landed)

    legal : IsLegalAfter inst.service (service_of log) (map service.Happened events)
    legal = makes.legal inst.service (service_of log) a.core

    pub turn_legal : EachAfter (IsLegalMoment inst) log (map happening events)
    turn_legal = users_legal inst events log users legal

    pub turn_agrees : AgreesJobs (with_parts v spent manager v.commands v.refused v.found v.submitted) inst (log ++ map happening events)
    turn_agrees =
        let same = service_all events log in
        stays spent manager (log ++ map happening events) (fed_events v.feeds inst events log a.fed) s.book s.posted (desk_along v.commands inst v.manager.book.jobs events log)
        (subst (Agrees manager.core inst.service) (sym same) (makes.agrees inst.service (service_of log) a.core))
        (subst (IsLegalLog inst.service) (sym same) (legal_joined inst.service [] (service_of log) (map service.Happened events) a.legal legal))
        (besides_facts v.commands v.refused v.second inst events log (users_beside inst a.kind.valid events log users legal) facts)

  -- ---- what is told

  pub stands : Stands v.commands v.manager v.second inst log
  stands = record { commands = a.commands; service = a.core; legal = a.legal; grant = a.kind.book.grant; policy = a.kind.book.policy; second = a.second }

  pub rank_within : (row : Row) → Contains v.commands.rows row → row.rank < v.manager.core.size
  rank_within row c =
      let r = a.commands.rows row c in
      subst (λ n. row.rank < n) a.core.size (subst (λ n. n < inst.service.size) (sym r.rank) (a.kind.ranks row.by (subst IsSome (sym r.asks) refl)))

  pub told_refused : (by : By) (f : Fault) → fault_for v.refused by ≡ Some f → (given : Reply) → job_reply_of given ≡ Some (reply_to f) → MayTell inst log by given None
  told_refused by f e given hands =
      let r = at v.refused e in
      record {
        reply = reply_to f;
        hands = hands;
        legal = subst (λ x. IsLegalReply inst log by (reply_to x) None) r.3 (subst (λ b. IsLegalReply inst log b (reply_to r.0.fault) None) (sym (command_is by r.0.by r.2)) (a.refused r.0 (contains_from v.refused r.0 r.1)));
      }
    where
      at : (list : List Refused) → fault_for list by ≡ Some f → (r : Refused) × Among r list × (is_refusal_of by r ≡ true) × (r.fault ≡ f)
      at [] e = cc
      at (r ∷ list) e = pick (is_refusal_of by r) refl (at list) e
        where
          pick : (b : Bool) → is_refusal_of by r ≡ b → (fault_for list by ≡ Some f → (x : Refused) × Among x list × (is_refusal_of by x ≡ true) × (x.fault ≡ f))
              → option_map (λ x. x.fault) (cond b (Some r) (find (is_refusal_of by) list)) ≡ Some f → (x : Refused) × Among x (r ∷ list) × (is_refusal_of by x ≡ true) × (x.fault ≡ f)
          pick true t more e = let same : r.fault ≡ f = cc in (r, inl refl, t, same)
          pick false t more e = let m = more e in (m.0, inr m.1, m.2, m.3)

-- ---- the beginning

module _ (spent : Bool) (terms : Terms) (birth size fanout : ℕ) (hash : Hash) (grant : Resources) (manager : ManagerValue) (commands : CommandsValue)
    (book : manager.book ≡ record { grant = grant; policy = terms.policy; jobs = [] }) (posted : manager.posted ≡ None) (set : (inst : Instance) → AgreesCommands commands inst [])
    (core : (s : Rattle.kvs_rules.specs.Namespaces.Setting) → s.size ≡ size → s.fanout ≡ fanout → s.hash ≡ hash → s.base ≡ Rattle.kvs_rules.specs.Namespaces.fresh (r_text grant) → AsksOwn s → Agrees manager.core s []) where
  abbrev begun : JobServiceValue
  begun = record { spent = spent; terms = terms; birth = birth; second = birth; manager = manager; commands = commands; refused = []; feeds = []; found = None; bearing = None; submitted = 0; span = 0 }

  -- an instance without commands
  abbrev plain : Instance
  plain = record {
    service = record { settled = false; size = size; fanout = fanout; hash = hash; base = Rattle.kvs_rules.specs.Namespaces.fresh (r_text grant); asks = λ by. None };
    birth = birth;
    start = birth;
    grant = grant;
    answer = priority_by terms.weights;
    policy = terms.policy;
    limits = terms.limits;
    shown = terms.shown;
    asks = λ by. None;
    rank = λ by. 0;
  }

  no_row : (inst : Instance) (row : Row) → Contains commands.rows row → ⊥
  no_row inst row c = let wrong : false ≡ true = ((set inst).rows row c).waits.issued in cc

  no_jobs : (j : StoredJob) → Contains manager.book.jobs j → ⊥
  no_jobs j c = absurd (among_from [] j (subst (λ b. Contains b.jobs j) book c))

  nothing_due : (inst : Instance) (post : Post) → IsDuePost (desk_of commands inst [] manager.book.jobs) post → ⊥
  nothing_due inst (Submits x) h = let wrong : false ≡ true = (submits_true commands inst [] (set inst) h.from h.waits).pending.waits.issued in cc
  nothing_due inst (Does due) h = no_jobs h.j h.known

  pub begun_owes : (inst : Instance) → Owes manager.posted None (desk_of commands inst [] manager.book.jobs)
  begun_owes inst = subst (λ p. Owes p None (desk_of commands inst [] manager.book.jobs)) (sym posted) (nothing_due inst)

  no_rows : (rows : List Row) → ((row : Row) → Contains rows row → ⊥) → count_by is_submit rows ≡ 0
  no_rows [] none = refl
  no_rows (row ∷ rows) none = absurd (none row (contains_from (row ∷ rows) row (inl refl)))

  pub begun_timed : AreInTime commands birth birth (most_seconds + 0)
  begun_timed =
      let timed = begins_in_time commands plain (set plain) in
      record {
        present = omega arith;
        targets = all_from (λ target. target ≤ birth + (most_seconds + 0)) (targets_of commands) (λ target i.
            (let low : target ≤ birth + 0 = all_at (λ t. t ≤ birth + 0) (targets_of commands) target timed.targets i in omega (arith, low)));
      }

  pub begun_bearing : IsBearing commands manager.book None
  begun_bearing id b = no_jobs b.j b.known

  pub begun_count : length manager.book.jobs + count_by is_submit commands.rows ≤ 0
  begun_count =
      let rows = no_rows commands.rows (no_row plain) in
      let jobs : length manager.book.jobs ≡ 0 = ap (λ b. length b.jobs) book in
      omega (arith, rows, jobs)

  pub begun_drawn : (rank : ℕ) → rank < length commands.issued → slice_index commands.issued rank ≤ 0
  begun_drawn rank w = let none : slice_index commands.issued rank ≡ 0 = (set plain).issued rank w in omega (arith, none)

  pub begun_judged : AreJudged terms.limits commands manager.book.jobs []
  begun_judged = judged_begun commands manager.book.jobs [] (no_row plain)

  pub begun_sought : IsFoundBeside terms manager.posted commands manager.book birth birth None
  begun_sought =
      subst (λ p. IsFoundBeside terms p commands manager.book birth birth None) (sym posted)
      (λ row c urgency named text spec needs asks is. no_row plain row c, λ due d. no_jobs d.j d.known)

  pub begun_agrees : (inst : Instance) → IsServedBy inst size fanout grant birth terms → inst.service.hash ≡ hash → AgreesJobs begun inst []
  begun_agrees inst of digest = record {
    kind = record {
      valid = of.valid;
      unique = of.unique;
      ranks = of.ranks;
      terms = of.served;
      birth = of.birth;
      book = record { grant = ap (λ b. b.grant) book ∙ sym of.grant; policy = ap (λ b. b.policy) book ∙ sym of.served.policy };
    };
    core = core inst.service of.size of.fanout digest (of.valid.text ∙ ap (λ g. Rattle.kvs_rules.specs.Namespaces.fresh (r_text g)) of.grant) of.links;
    legal = tt;
    commands = set inst;
    second = of.served.built.start ∙ of.birth;
    owes = begun_owes inst;
    labelled = λ id c. absurd (among_from [] id (subst (λ b. Contains (ids_of b.jobs) id) book c));
    refused = λ r c. absurd (among_from [] r c);
    fed = record { each = λ f c. absurd (among_from [] f c); others = λ by e none. (refl, refl) };
    untold = λ by some e. record { unanswered = refl; undecided = refl };
    shutdowns = λ by e. refl;
  }

  pub begun_agreed : IsGrant grant.nodes → IsAgreed begun
  begun_agreed sets = record {
    inst = plain;
    log = [];
    agrees = begun_agrees plain (record {
      valid = record {
        answers = λ ask. (omega arith, omega arith);
        since = omega arith;
        grant = sets;
        text = refl;
        apart = λ by some. refl;
        asks = λ by ask e. cc;
      };
      unique = λ a b label urgency other needs named text more ea eb. cc;
      ranks = λ by some. absurd (true≢false (sym some));
      served = record {
        built = record { start = refl };
        answer = refl;
        policy = refl;
        limits = refl;
        shown = refl;
      };
      birth = refl;
      grant = refl;
      size = refl;
      fanout = refl;
      links = λ by request e. cc;
    }) refl;
  }

-- ---- labels stay

pub labelled_still : (v new : CommandsValue) (inst : Instance) (log : Log) (m : Moment) (jobs : List StoredJob) → AgreesCommands v inst log → AgreesCommands new inst (log ++ m ∷ []) → AreLabelled v.labels jobs → AreLabelled new.labels jobs
labelled_still v new inst log m jobs old later h = λ id c.
    let l = h id c in
    (l.0, (later.labels l.0 id).1 (names_kept inst log m l.0 id ((old.labels l.0 id).0 l.1)))

-- ---- what the code rests on

-- of the time, of children, and of submissions
pub record GoesOn (v : JobServiceValue) (manager : ManagerValue) (commands : CommandsValue) (refused : List Refused) (submitted span : ℕ) (bearing : Option ℕ) : Type 0 where
  pub timed : AreInTime commands v.birth v.second (most_seconds + span)
  pub near : span ≤ most_seconds
  pub bears : IsBearing commands manager.book bearing
  pub drawn : (rank : ℕ) → rank < length commands.issued → slice_index commands.issued rank ≤ submitted
  pub marked : AreMarkedBy commands v.second
  pub judged : AreJudged v.terms.limits commands manager.book.jobs refused

pub is_soon : (v : JobServiceValue) → IsFit v → 1000 * (v.second - v.birth) < 2 ^ 40
is_soon v i = let soon = i.soon in omega (arith, soon)

pub alone_in : (v : JobServiceValue) → IsFit v → IsAlone v.manager.posted v.found
alone_in v i = found-alone v.terms v.commands v.manager.book v.second v.birth v.manager.posted v.found i.sought

pub fit : (v : JobServiceValue) → IsFit v → (spent : Bool) (manager : ManagerValue) (commands : CommandsValue) (refused : List Refused) (later : Option Post) (submitted span : ℕ) (bearing : Option ℕ) → manager.spent ≡ false → manager.core.size ≡ v.manager.core.size
    → length commands.issued ≡ length v.commands.issued → IsFoundBeside v.terms manager.posted commands manager.book v.second v.birth later → IsNamed commands v.birth manager.posted
    → length manager.book.jobs + count_by is_submit commands.rows ≤ submitted → submitted ≤ most_submits → GoesOn v manager commands refused submitted span bearing → IsAgreed (spanned (with_parts v spent manager commands refused later submitted) span bearing) → IsFit (spanned (with_parts v spent manager commands refused later submitted) span bearing)
fit v i spent manager commands refused later submitted span bearing ready size same sought posted counted bounded goes agreed = record {
  ready = ready;
  size = same ∙ i.size ∙ sym size;
  few = subst (λ n. n ≤ 32) (sym size) i.few;
  order = i.order;
  soon = i.soon;
  early = i.early;
  timed = goes.timed;
  near = goes.near;
  sought = sought;
  posted = posted;
  named = found-named v.terms commands manager.book v.second v.birth manager.posted later sought;
  counted = counted;
  bounded = bounded;
  drawn = goes.drawn;
  marked = goes.marked;
  judged = goes.judged;
  bearing = goes.bears;
  agreed = agreed;
}

-- so where the manager's posts and book stay, and the commands
pub fit_still : (v : JobServiceValue) → IsFit v → (spent : Bool) (manager : ManagerValue) → manager.spent ≡ false → manager.core.size ≡ v.manager.core.size → manager.book ≡ v.manager.book → manager.posted ≡ v.manager.posted
    → IsAgreed (with_parts v spent manager v.commands v.refused v.found v.submitted) → IsFit (with_parts v spent manager v.commands v.refused v.found v.submitted)
fit_still v i spent manager ready size book posted agreed =
    fit v i spent manager v.commands v.refused v.found v.submitted v.span v.bearing ready size refl
    (subst (λ p. IsFoundBeside v.terms p v.commands manager.book v.second v.birth v.found) (sym posted) (subst (λ b. IsFoundBeside v.terms v.manager.posted v.commands b v.second v.birth v.found) (sym book) i.sought)) (subst (IsNamed v.commands v.birth) (sym posted) i.posted)
    (subst (λ b. length b.jobs + count_by is_submit v.commands.rows ≤ v.submitted) (sym book) i.counted) i.bounded
    (record { timed = i.timed; near = i.near; bears = subst (λ b. IsBearing v.commands b v.bearing) (sym book) i.bearing; drawn = i.drawn; marked = i.marked; judged = subst (λ b. AreJudged v.terms.limits v.commands b.jobs v.refused) (sym book) i.judged }) agreed

pub row_known : (v : CommandsValue) (by : By) (result : Option (Bor Row)) (r : Bor Row) → option_copied result ≡ row_in v by → result ≡ Some r → Contains v.rows r.now × (r.now.by ≡ by)
row_known v by result r e is = found by v.rows r.now (sym e ∙ ap option_copied is)

-- ---- what is due

pub of_finds : (terms : Terms) (v : CommandsValue) (book : BookValue) (now : ℕ) (list : List Asked) (says : Ask → ℕ → Type 0) → SaysAs says (priority_by terms.weights) → list ≡ asked_of v → (o : Option Due) → Finds book now list says o → IsEventDue terms v book now o
of_finds terms v book now list says known is None h = λ due d. h (priority_by terms.weights) terms.limits known due (subst (λ l. IsDue (scene_of book now l (priority_by terms.weights) terms.limits) due) (sym is) d)
of_finds terms v book now list says known is (Some due) h = subst (λ l. IsDue (scene_of book now l (priority_by terms.weights) terms.limits) due) is (h (priority_by terms.weights) terms.limits known)

-- a list of one that may be lacking
pub at_some : {A : Type 0} (P : A → Type 0) (o : Option A) (x : A) → o ≡ Some x → IfSome o P → P x
at_some P o x e h = (let there : IfSome (Some x) P = subst (λ y. IfSome y P) e h in there)

pub at_none : {A : Type 0} (P : Type 0) (o : Option A) → o ≡ None → IfNone o P → P
at_none {A} P o e h = (let there : IfNone {T = A} None P = subst (λ y. IfNone y P) e h in there)
