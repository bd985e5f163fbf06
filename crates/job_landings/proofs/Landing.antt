-- Where a step of the service lands a post, it carries out its command, and each event may follow those before it.
use Rattle.std.proofs.Common.{◌≡◌, ℕ, ◌⊎◌, inl, inr, List, [], ◌∷◌, ◌++◌, map, true, Option, Some, None, IsSome, refl, sym, ap, ◌∙◌, subst, append_assoc, append-nil, true≢false}
use Rattle.std.specs.Prelude.{IfSome, IsTrue}
use Rattle.std.specs.List.{AllByRecursion as Each}
use Rattle.std.specs.Option.{option_map_or}
use Rattle.std.specs.Cmp.Lexicographic.{bytes_decides}
use Rattle.std.proofs.lemmas.List.{map-append}
use Rattle.job_rules.proofs.Among.{Among, among_filter, among_from, among_kept, contains_from, each_at}
use Rattle.instance_rules.specs.Desks.{AreDueFrom, IsDeskOf, IsDueFor}
use Rattle.instance_rules.specs.Legal.{IsDueEvent, IsLegalMoment}
use Rattle.instance_rules.specs.Log.{Instance, IsInstance, Log, Served, service_of}
use Rattle.job_commands.proofs.Desks.{desk_is}
use Rattle.job_commands.proofs.Logs.{service_push}
use Rattle.job_commands.proofs.Steps.{beside_agrees}
use Rattle.job_commands.specs.Agrees.{AgreesCommands}
use Rattle.job_commands.specs.Desks.{desk_of}
use Rattle.job_commands.specs.Moments.{IsBeside}
use Rattle.job_commands.specs.Rows.{CommandsValue}
use Rattle.job_manager.specs.Posts.{command_of}
use Rattle.kvs_keys.specs.Posted.{LandsUsers, groups_in, posts_landed}
use Rattle.kvs_model.specs.History.{landed_on}
use Rattle.kvs_model.specs.Operation.{effect}
use Rattle.kvs_model.specs.Store.{Name, Store}
use Rattle.kvs_rules.proofs.Logs.{legal_parts}
use Rattle.kvs_rules.proofs.Sequences.{each_joined}
use Rattle.kvs_rules.specs.Answers.{IsLegalAfter, IsLegalLog}
use Rattle.kvs_rules.specs.Landings.{IsAdvance, IsLegalLanding, IsManagers, IsUser, IsUsers}
use Rattle.kvs_rules.specs.Log as service
use Rattle.kvs_rules.specs.Namespaces.{newest_store, primary}
use Rattle.kvs_rules.specs.Sequence.{EachAfter}
use Rattle.kvs_rules.specs.declared.events.KvsEvent.{KvsEvent}
use Rattle.kvs_rules.specs.declared.events.KvsEvent.TheVariants as event
use Rattle.kvs_space.proofs.Posting.{managers-is, no-manager}
use Rattle.kvs_txn.specs.declared.txn.Author.{Author}
use Rattle.kvs_txn.specs.declared.txn.Author.TheVariants as author
use Rattle.kvs_txn.specs.declared.txn.By.{By}
use Rattle.kvs_txn.specs.declared.txn.Group.{Group}
use Rattle.kvs_txn.specs.declared.txn.Scope.TheVariants as scope
use Rattle.manager_rules.specs.Jobs.{AreJobsOf, StoredJob}
use Rattle.manager_rules.specs.Posts.{Desk, Does, IsDuePost, Post, Submits, authors_of, group_of}
use Rattle.store_laws.specs.Posts.{is_manager, posts_in}
use Rattle.job_landings.specs.Landings.{Carries, CarriesFor, LandsPost, happening, number_of_post}
use Rattle.job_landings.proofs.Naming.{event_beside, landing_aside, users_none}
use Rattle.job_landings.proofs.Newest.{HasJobs, has_jobs, same_one, users_leave}
use Rattle.job_landings.proofs.Serving.{desk_same}
use Rattle.job_landings.proofs.Splitting.{number_is, split_at_post}

-- ---- along users' events

pub service_all : (es : List KvsEvent) (log : Log) → service_of (log ++ map happening es) ≡ service_of log ++ map service.Happened es
service_all [] log = ap service_of (append-nil log) ∙ sym (append-nil (service_of log))
service_all (e ∷ es) log =
    ap service_of (sym (append_assoc log (happening e ∷ []) (map happening es)))
    ∙ service_all es (log ++ happening e ∷ [])
    ∙ ap (λ l. l ++ map service.Happened es) (service_push log (happening e))
    ∙ append_assoc (service_of log) (service.Happened e ∷ []) (map service.Happened es)

-- the later events may follow the service's log, one event further
pub legal_next : (inst : Instance) (log : Log) (e : KvsEvent) (es : List KvsEvent) → IsLegalAfter inst.service (service_of log ++ service.Happened e ∷ []) (map service.Happened es) → IsLegalAfter inst.service (service_of (log ++ happening e ∷ [])) (map service.Happened es)
legal_next inst log e es legal = subst (λ l. IsLegalAfter inst.service l (map service.Happened es)) (sym (service_push log (happening e))) legal

module _ (inst : Instance) (log : Log) where
  of_user : (group : Group) (st : Store) (who : Author) → IsUser who → IsDueFor inst log st group who
  of_user group st (author.User id) h = tt
  of_user group st author.Manager h = absurd h

  all_due : (groups : List Group) → Each (λ group. IsUser group.txn.author) groups → (st : Store) → AreDueFrom inst log groups st
  all_due [] h st = tt
  all_due (group ∷ groups) h st = (of_user group st group.txn.author h.0, on (landed_on (effect st group.txn scope.Primary)) (all_due groups h.1))
    where
      on : (o : Option Store) → ((new : Store) → AreDueFrom inst log groups new) → IfSome o (AreDueFrom inst log groups)
      on None more = tt
      on (Some new) more = more new

  users_due : (e : KvsEvent) → LandsUsers e → IsDueEvent inst log e
  users_due (event.Landed space number authors groups) users = λ inside st standing. all_due groups users st
  users_due _ users = tt

pub users_legal : (inst : Instance) (es : List KvsEvent) (log : Log) → Each LandsUsers es → IsLegalAfter inst.service (service_of log) (map service.Happened es) → EachAfter (IsLegalMoment inst) log (map happening es)
users_legal inst [] log users legal = tt
users_legal inst (e ∷ es) log users legal = ((legal.0, users_due inst log e users.0), users_legal inst es (log ++ happening e ∷ []) users.1 (legal_next inst log e es legal.1))

module _ (inst : Instance) (valid : IsInstance inst) where
  pub users_beside : (es : List KvsEvent) (log : Log) → Each LandsUsers es → IsLegalAfter inst.service (service_of log) (map service.Happened es) → Each (λ e. IsBeside inst (happening e)) es
  users_beside [] log users legal = tt
  users_beside (e ∷ es) log users legal = (event_beside inst valid (service_of log) e users.0 legal.0, users_beside es (log ++ happening e ∷ []) users.1 (legal_next inst log e es legal.1))

pub besides_agree : (v : CommandsValue) (inst : Instance) (es : List KvsEvent) (log : Log) → Each (λ e. IsBeside inst (happening e)) es → AgreesCommands v inst log → AgreesCommands v inst (log ++ map happening es)
besides_agree v inst [] log beside h = subst (AgreesCommands v inst) (sym (append-nil log)) h
besides_agree v inst (e ∷ es) log beside h =
    subst (AgreesCommands v inst) (append_assoc log (happening e ∷ []) (map happening es))
    (besides_agree v inst es (log ++ happening e ∷ []) beside.1 (beside_agrees v inst log (happening e) beside.0 (λ job. refl) h))

pub desk_along : (v : CommandsValue) (inst : Instance) (jobs : List StoredJob) (es : List KvsEvent) (log : Log) → desk_of v inst (log ++ map happening es) jobs ≡ desk_of v inst log jobs
desk_along v inst jobs [] log = ap (λ l. desk_of v inst l jobs) (append-nil log)
desk_along v inst jobs (e ∷ es) log =
    ap (λ l. desk_of v inst l jobs) (sym (append_assoc log (happening e ∷ []) (map happening es)))
    ∙ desk_along v inst jobs es (log ++ happening e ∷ [])
    ∙ desk_same v inst log (service.Happened e) jobs

-- ---- the landing of the post

authors_are : (post : Post) → authors_of post ≡ option_map_or (λ by. by ∷ []) (command_of post) []
authors_are (Submits x) = refl
authors_are (Does due) = refl

module _ (inst : Instance) (valid : IsInstance inst) (log : service.Log) (post : Post) (space : Name) (number : ℕ) (authors : List (Option By)) (groups : List Group)
    (legal : IsLegalLanding inst.service log space number authors groups) (lands : posts_in groups ≡ group_of post ∷ []) where
  abbrev Kind : Group → Type 0
  Kind g = IsUsers inst.service space g ⊎ IsManagers inst.service space g

  there : Among (group_of post) groups × (is_manager (group_of post).txn.author ≡ true)
  there = among_filter (λ g. is_manager g.txn.author) groups (group_of post) (subst (Among (group_of post)) (sym lands) (inl refl))

  advance : IsAdvance inst.service log space number authors groups
  advance = elim legal.form [
    | inl o ↦ absurd (subst (Among (group_of post)) o.empty there.0)
    | inr rest ↦ elim rest [
      | inl r ↦ absurd (subst (Among (group_of post)) r.empty there.0)
      | inr a ↦ a
    ]
  ]

  kind_of : (g : Group) → Among g groups → Kind g
  kind_of g here = each_at Kind groups g advance.kinds here

  -- of the manager's transactions it is the only one
  only_post : (g : Group) → Among g groups → is_manager g.txn.author ≡ true → g ≡ group_of post
  only_post g here m = elim (subst (Among g) lands (among_kept (λ x. is_manager x.txn.author) groups g here m)) [
    | inl same ↦ sym same
    | inr none ↦ absurd none
  ]

  in_primary : IsTrue (Rattle.kvs_rules.specs.Namespaces.is_primary space)
  in_primary = elim (kind_of (group_of post) there.0) [
    | inl u ↦ absurd (true≢false (sym there.1 ∙ no-manager (group_of post).txn.author u.0))
    | inr m ↦ m.inside
  ]

  pub space_is : space ≡ primary
  space_is = (bytes_decides space primary).0 in_primary

  -- a job command is named by the post alone
  named_post : (g : Group) (by : By) → Among g groups → Among by g.authors → IsSome (inst.asks by) → g ≡ group_of post
  named_post g by here i some = elim (kind_of g here) [
    | inl u ↦ absurd (users_none inst valid log space g u by some i)
    | inr m ↦ only_post g here (managers-is g.txn.author m.author)
  ]

  carries_for : (o : Option By) → authors_of post ≡ option_map_or (λ by. by ∷ []) o [] → space ≡ primary → CarriesFor inst post number authors groups o
  carries_for (Some by) are same = record {
    names = advance.named;
    one = contains_from groups (group_of post) there.0;
    alone = are;
    only = λ other command here named some. named_post other command (among_from groups other here) (among_from other.authors command named) some;
  }
  carries_for None are same =
      subst (λ n. IsBeside inst (Served (service.Happened (event.Landed n number authors groups)))) same
      (λ by some. landing_aside inst valid log space number authors groups legal by some
      (λ a g here i. let is = named_post g by here i some in absurd (subst (Among by) (ap (λ x. x.authors) is ∙ are) i)))

  pub carries : Carries inst post number authors groups
  carries = carries_for (command_of post) (authors_are post) space_is

-- ---- the whole step

module _ (inst : Instance) (valid : IsInstance inst) (log : Log) (v : CommandsValue) (jobs : List StoredJob) (post : Post)
    (agrees : AgreesCommands v inst log) (due : IsDuePost (desk_of v inst log jobs) post)
    (users_land : (es : List KvsEvent) (left : List Group) → posts_landed es ++ left ≡ [] → Each LandsUsers es)
    (due_from : (i : Instance) (l : Log) (desk : Desk) (p : Post) (gs : List Group) (s : Store) → IsInstance i → IsDeskOf i l s desk → IsDuePost desk p → posts_in gs ≡ group_of p ∷ [] → AreDueFrom i l gs s) where
  users_alone : (es : List KvsEvent) → posts_landed es ≡ [] → Each LandsUsers es
  users_alone es none = users_land es [] (append-nil _ ∙ none)

  module _ (before : List KvsEvent) (space : Name) (number : ℕ) (authors : List (Option By)) (groups : List Group) (behind : List KvsEvent)
      (earlier : posts_landed before ≡ []) (lands : posts_in groups ≡ group_of post ∷ []) (later : posts_landed behind ≡ [])
      (legal : IsLegalAfter inst.service (service_of log) (map service.Happened (before ++ event.Landed space number authors groups ∷ behind)))
      (has : HasJobs inst.service (ap (λ b. b.number) valid.text) jobs (service_of log)) where
    abbrev landing : KvsEvent
    landing = event.Landed space number authors groups

    abbrev at : Log
    at = log ++ map happening before

    abbrev at_service : service.Log
    at_service = service_of log ++ map service.Happened before

    service_at : service_of at ≡ at_service
    service_at = service_all before log

    parts : IsLegalAfter inst.service (service_of log) (map service.Happened before) × IsLegalAfter inst.service at_service (service.Happened landing ∷ map service.Happened behind)
    parts = legal_parts inst.service (service_of log) (map service.Happened before) (service.Happened landing ∷ map service.Happened behind)
        (subst (IsLegalAfter inst.service (service_of log)) (map-append service.Happened before (landing ∷ behind)) legal)

    users_before : Each LandsUsers before
    users_before = users_alone before earlier

    users_behind : Each LandsUsers behind
    users_behind = users_alone behind later

    pub beside_before : Each (λ e. IsBeside inst (happening e)) before
    beside_before = users_beside inst valid before log users_before parts.0

    legal_behind : IsLegalAfter inst.service (service_of (at ++ happening landing ∷ [])) (map service.Happened behind)
    legal_behind = legal_next inst at landing behind (subst (λ l. IsLegalAfter inst.service (l ++ service.Happened landing ∷ []) (map service.Happened behind)) (sym service_at) parts.1.1)

    pub beside_behind : Each (λ e. IsBeside inst (happening e)) behind
    beside_behind = users_beside inst valid behind (at ++ happening landing ∷ []) users_behind legal_behind

    pub there_primary : space ≡ primary
    there_primary = space_is inst valid at_service post space number authors groups parts.1.0 lands

    pub there_carries : Carries inst post number authors groups
    there_carries = carries inst valid at_service post space number authors groups parts.1.0 lands

    has_at : HasJobs inst.service (ap (λ b. b.number) valid.text) jobs at_service
    has_at = users_leave inst.service (ap (λ b. b.number) valid.text) jobs before (service_of log) users_before parts.0 has

    desk_at : (st : Store) → newest_store inst.service (service_of at) primary ≡ Some st → IsDeskOf inst at st (desk_of v inst log jobs)
    desk_at st standing =
        let same : has_at.store ≡ st = same_one has_at.store st (sym has_at.stands ∙ ap (λ l. newest_store inst.service l primary) (sym service_at) ∙ standing) in
        subst (IsDeskOf inst at st) (desk_along v inst jobs before log)
        (desk_is v inst at (besides_agree v inst before log beside_before agrees) valid st jobs (subst (λ s. AreJobsOf s jobs) same has_at.are))

    landing_due : IsDueEvent inst at landing
    landing_due = λ inside st standing. due_from inst at (desk_of v inst log jobs) post groups st valid (desk_at st standing) due lands

    pub all_legal : EachAfter (IsLegalMoment inst) log (map happening (before ++ landing ∷ behind))
    all_legal =
        subst (EachAfter (IsLegalMoment inst) log) (sym (map-append happening before (landing ∷ behind)))
        (each_joined (IsLegalMoment inst) log (map happening before) (happening landing ∷ map happening behind) (users_legal inst before log users_before parts.0)
        ((subst (λ l. IsLegalLanding inst.service l space number authors groups) (sym service_at) parts.1.0, landing_due), users_legal inst behind (at ++ happening landing ∷ []) users_behind legal_behind))

  abbrev Whole : List KvsEvent → Type 0
  Whole events = LandsPost inst post events × EachAfter (IsLegalMoment inst) log (map happening events)

  at_event : (events before : List KvsEvent) (here : KvsEvent) (behind : List KvsEvent) → events ≡ before ++ here ∷ behind → posts_landed before ≡ [] → posts_in (groups_in here) ≡ group_of post ∷ [] → posts_landed behind ≡ []
      → number_of_post events ≡ Rattle.job_landings.specs.Landings.number_in here → IsLegalAfter inst.service (service_of log) (map service.Happened events) → HasJobs inst.service (ap (λ b. b.number) valid.text) jobs (service_of log) → Whole events
  at_event events before (event.Landed space number authors groups) behind split earlier lands later numbered legal has =
      let legal_split = subst (λ es. IsLegalAfter inst.service (service_of log) (map service.Happened es)) split legal in (
        record {
          before = before;
          number = number;
          authors = authors;
          groups = groups;
          behind = behind;
          split = split ∙ ap (λ n. before ++ event.Landed n number authors groups ∷ behind) (there_primary before space number authors groups behind earlier lands later legal_split has);
          first = numbered;
          earlier = beside_before before space number authors groups behind earlier lands later legal_split has;
          later = beside_behind before space number authors groups behind earlier lands later legal_split has;
          carries = there_carries before space number authors groups behind earlier lands later legal_split has;
        },
        subst (λ es. EachAfter (IsLegalMoment inst) log (map happening es)) (sym split) (all_legal before space number authors groups behind earlier lands later legal_split has),
      )
  at_event events before _ behind split earlier lands later numbered legal has = cc

  pub lands_as_due : (events : List KvsEvent) (st : Store) → IsLegalLog inst.service (service_of log) → newest_store inst.service (service_of log) primary ≡ Some st → AreJobsOf st jobs
      → IsLegalAfter inst.service (service_of log) (map service.Happened events) → posts_landed events ≡ group_of post ∷ [] → Whole events
  lands_as_due events st sound standing are legal one =
      let s = split_at_post events (group_of post) one in
      at_event events s.before s.here s.behind s.split s.earlier s.lands s.later (number_is events (group_of post) s) legal (has_jobs inst.service (ap (λ b. b.number) valid.text) jobs (service_of log) st sound standing are)
