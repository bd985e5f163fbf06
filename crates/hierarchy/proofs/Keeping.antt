-- A legal and whole run keeps its promises.
use Rattle.std.proofs.Common.{◌≡◌, ◌≢◌, ◌∙◌, ℕ, ◌≤◌, inl, inr, List, [], ◌∷◌, ◌++◌, true, false, ◌&&◌, Option, Some, None, IsSomeAnd, IfSome, arith, is_some, option_map, unwrap_or, refl, sym, ap, subst, eq-eqb, true≢false}
use Rattle.std.specs.Prelude.{Contains}
use Rattle.std.specs.List.{cons_option}
use Rattle.std.proofs.lemmas.Bool.{and_parts}
use Rattle.std.proofs.lemmas.List.Concat.{flat_map-append}
use Rattle.std.proofs.lemmas.List.Elements.{Contains-append_left, Contains-append_right, Contains-push}
use Rattle.answers.proofs.Floors.{asked_so, some_none}
use Rattle.answers.proofs.JobLogs.{about_primary, service_kept}
use Rattle.answers.proofs.Reaching.{all_reached, reaches}
use Rattle.answers.proofs.Services.{service_legal}
use Rattle.job_rules.proofs.Among.{any_from}
use Rattle.kvs_rules.proofs.Asking.{contains_stands}
use Rattle.kvs_rules.proofs.Sequences.{each_at, each_parts}
use Rattle.kvs_rules.proofs.Stores.{made_newest}
use Rattle.instance_rules.specs.Log.{IsInstance, Submitted, service_of}
use Rattle.resource_set.specs.Writing.{r_text}
use Rattle.instance_rules.specs.Replies.{IsLegalReply}
use Rattle.std.specs.List.{AllByRecursion as Each}
use Rattle.std.specs.Prelude.{Result, Ok, Err}
use Rattle.kvs_model.proofs.Histories.{IsStore-first_store}
use Rattle.kvs_model.specs.Store.{IsStore, Name, Path, Store}
use Rattle.kvs_model.specs.Walk.{walk}
use Rattle.kvs_txn.specs.declared.answers.Found.{Found}
use Rattle.kvs_txn.specs.declared.answers.Numbered.{Numbered}
use Rattle.kvs_txn.specs.declared.answers.Query.{Query}
use Rattle.answers.specs.Floors.{floor, knows_after, number_in, roots_named}
use Rattle.kvs_rules.specs.Answers as service_rules
use Rattle.kvs_rules.specs.Answers.{InFreshStore, IsFreshRoot, IsLegalLog, IsLegalMoment, WalkTells}
use Rattle.kvs_rules.specs.Brokers.{HasHeard, heard}
use Rattle.kvs_rules.specs.Landings.{IsAdvance, IsLegalLanding, names_of, names_of_group}
use Rattle.kvs_rules.specs.Log.{Happened, Log, Moment, before_asked}
use Rattle.kvs_rules.specs.Namespaces.{Base, Request, Setting, family_at, fresh, primary, store_after}
use Rattle.kvs_rules.specs.declared.events.KvsAsk.{KvsAsk}
use Rattle.kvs_rules.specs.declared.events.KvsEvent.TheVariants as event
use Rattle.kvs_txn.specs.declared.txn.By.{By}
use Rattle.kvs_txn.specs.declared.txn.Group.{Group}
use Rattle.answers.specs.Chronicle.{Setup, before_issue, top, uses_of}
use Rattle.answers.specs.Commands.{ask_at, broker_of, subject_at}
use Rattle.answers.specs.Jobs.{instance_of, log_in}
use Rattle.answers.specs.Legal.{HasReplyGrounds, IsLegal, IsLegalEntry}
use Rattle.answers.specs.Services.{base_of, log_of, request_of, setting_of}
use Rattle.answers.specs.declared.chronicle.Entry.{Entry}
use Rattle.answers.specs.declared.chronicle.Entry.TheVariants as entry
use Rattle.answers.specs.declared.chronicle.Reply.{Reply}
use Rattle.answers.specs.declared.chronicle.Reply.TheVariants as reply
use Rattle.run_laws.proofs.Newest.{newest_of}
use Rattle.hierarchy.specs.Births.{birth_in, has_living_home, is_at, label_of, lives, numbers}
use Rattle.hierarchy.specs.Legal.{HasHomeFor, IsLegalRun, IsLegalRunEntry, is_end}
use Rattle.hierarchy.specs.Own.{only_if, own_entry, own_of, setup_in}
use Rattle.hierarchy.specs.Promises.{AtHome, CommittersHaveHeard, EventsAreDue, IsHeardOf, IsNoOlder, IsNotBelow, IsPublished, MaySee, NumbersNeverFall, ReadsAreFresh, RootsArePlain, SeesStore, SeesWalk, is_committed}
use Rattle.hierarchy.proofs.OneEntry.{lives_same, own_more}
use Rattle.hierarchy.proofs.Owning.{alive, setup_kept}

-- ---- what a landing says

-- a landing of transactions is an advance
advances : (set : Setting) (log : Log) (space : Name) (number : ℕ) (authors : List (Option By)) (groups : List Group) → IsLegalLanding set log space number authors groups → groups ≢ []
    → IsAdvance set log space number authors groups
advances set log space number authors groups l some = elim l.form [
  | inl opening ↦ absurd (some opening.empty)
  | inr more ↦ elim more [
    | inl removal ↦ absurd (some removal.empty)
    | inr advance ↦ advance
  ]
]

published : (set : Setting) → IsStore set.base.store → (log : Log) → IsLegalLog set log → (space : Name) (number : ℕ) (authors : List (Option By)) (groups : List Group) → IsLegalLanding set log space number authors groups → groups ≢ []
    → IsPublished set log space number authors groups
published set sound log legal space number authors groups l some =
    let a = advances set log space number authors groups l some in
    record { named = a.named; once = l.fresh; whole = a.kinds; next = a.next; old = a.old; standing = a.standing; new = a.new; made = a.made; newest = made_newest set space sound log legal number authors groups a }

-- ---- what a reply says

-- the request of a command asks what the command does
ask_so : (broker : ℕ) (space : Name) (o : Option KvsAsk) (r : Request) → option_map (λ a. record { broker = broker; namespace = space; ask = a }) o ≡ Some r → o ≡ Some r.ask
ask_so broker space None r e = cc
ask_so broker space (Some a) r e =
    let same : ◌≡◌ {A = Request} (record { broker = broker; namespace = space; ask = a }) r = cc in
    ap (λ x. Some x.ask) same

some_groups : (groups : List Group) (g : Group) → Contains groups g → groups ≢ []
some_groups [] g here none = absurd (omega (arith, here.1))
some_groups (x ∷ groups) g here none = cc

-- the author of one of the transactions is named
in_names : (by : By) (groups : List Group) (g : Group) → Contains groups g → g.authors ≡ by ∷ [] → Contains (names_of groups) (Some by)
in_names by groups g here alone =
    let stands = contains_stands groups g here in
    let own : Contains (names_of_group g.authors) (Some by) = subst (λ bys. Contains (names_of_group bys) (Some by)) (sym alone) (Contains-push [] (Some by)) in
    subst (λ gs. Contains (names_of gs) (Some by)) (sym stands.split)
    (subst (λ names. Contains names (Some by)) (sym (flat_map-append (λ group. names_of_group group.authors) stands.before (g ∷ stands.behind)))
    (Contains-append_right (names_of stands.before) (names_of_group g.authors ++ names_of stands.behind) (Some by) (Contains-append_left (names_of_group g.authors) (names_of stands.behind) (Some by) own)))

module _ (s : Setup) (own : List Entry) (by : By) where
  abbrev log : Log
  log = log_of s.work top own

  module _ (r : Request) (made : request_of s.work by ≡ Some r) where
    at_broker : r.broker ≡ broker_of s.work by.actor
    at_broker = (asked_so (broker_of s.work by.actor) (subject_at s.work by) (ask_at s.work by) r made).0

    about : r.namespace ≡ subject_at s.work by
    about = (asked_so (broker_of s.work by.actor) (subject_at s.work by) (ask_at s.work by) r made).1

    asks : ask_at s.work by ≡ Some r.ask
    asks = ask_so (broker_of s.work by.actor) (subject_at s.work by) (ask_at s.work by) r made

    sees : IsLegal s own → (given : Reply) (P : Store → Type 0) (number : Option ℕ) → HasReplyGrounds s own by number given
        → IsSomeAnd number (InFreshStore (setting_of s) log by r P) → IsSomeAnd number (SeesStore s own by P)
    sees legal given P None g h = absurd h
    sees legal given P (Some n) g h = record {
      seen = reaches s own legal by n given g;
      known = subst (λ b. unwrap_or (heard (before_asked by log) b (subject_at s.work by)) 0 ≤ n) at_broker
          (subst (λ space. unwrap_or (heard (before_asked by log) r.broker space) 0 ≤ n) about h.fresh.known);
      store = h.store;
      standing = subst (λ space. store_after (setting_of s) log space n ≡ Some h.store) about h.standing;
      held = h.held;
    }

    may_see : (root : Numbered) → IsFreshRoot (setting_of s) log by r.broker root → floor s.work (before_issue by own) by.actor root.namespace ≤ root.number → MaySee s own by root
    may_see root h seen = record {
      seen = seen;
      known = subst (λ b. unwrap_or (heard (before_asked by log) b root.namespace) 0 ≤ root.number) at_broker h.fresh.known;
    }

    all_seen : (roots : List Numbered) → Each (IsFreshRoot (setting_of s) log by r.broker) roots → Each (λ root. floor s.work (before_issue by own) by.actor root.namespace ≤ root.number) roots → Each (MaySee s own by) roots
    all_seen [] h seen = tt
    all_seen (root ∷ roots) h seen = (may_see root h.0 seen.0, all_seen roots h.1 seen.1)

    sees_walk : IsLegal s own → (given : Reply) (asked : Query) (path : Path) (told : Result Found Name) (number : Option ℕ) → HasReplyGrounds s own by number given
        → IsSomeAnd number (WalkTells (setting_of s) log by r asked path (uses_of given) told) → IsSomeAnd number (SeesWalk s own by asked path (uses_of given) told)
    sees_walk legal given asked path told None g h = absurd h
    sees_walk legal given asked path told (Some n) g h =
        let reached = all_reached s own legal by (Some n) given g in
        let roots : Name → List Numbered = λ space. record { namespace = space; number = n } ∷ uses_of given in
        let shown : Each (IsFreshRoot (setting_of s) log by r.broker) (roots (subject_at s.work by)) = subst (λ space. Each (IsFreshRoot (setting_of s) log by r.broker) (roots space)) about h.fresh in
        record {
          roots = all_seen (roots (subject_at s.work by)) shown reached;
          tells = subst (λ space. walk (family_at (setting_of s) log (roots space)) space asked path ≡ told) about h.tells;
        }

    heard_of : (number : Option ℕ) → IsSomeAnd number (service_rules.IsCarriedOut log by r) → IsSomeAnd number (IsHeardOf s own by)
    heard_of None h = absurd h
    heard_of (Some n) h = record {
      authors = h.authors;
      groups = h.groups;
      landing = subst (λ space. Contains log (Happened (event.Landed space n h.authors h.groups))) about h.landing;
      named = h.named;
      told = subst (λ b. HasHeard log b (subject_at s.work by) n) at_broker (subst (λ space. HasHeard log r.broker space n) about h.told);
    }

  -- the landing that began a job names its submission
  submitted : IsLegal s own → (id : ℕ) (number : Option ℕ) → IsLegalReply (instance_of s) (log_in s.work own) by (Submitted id) number → IsSomeAnd number (IsHeardOf s own by)
  submitted legal id None r = absurd r.grounds.1
  submitted legal id (Some n) r =
      let b = r.grounds.1.0 in
      let m : Moment = Happened (event.Landed primary n b.authors b.groups) in
      let kept = service_kept s.work own in
      let here : subject_at s.work by ≡ primary = about_primary s.work by (ap is_some r.made) in
      let there : Contains log m = subst (λ l. Contains l m) kept b.landing in
      let stands = contains_stands log m there in
      let lands : IsLegalLanding (setting_of s) stands.before primary n b.authors b.groups =
      each_at (IsLegalMoment (setting_of s)) stands.before m stands.behind (subst (IsLegalLog (setting_of s)) stands.split (service_legal s own legal)) in
      let advance = advances (setting_of s) stands.before primary n b.authors b.groups lands (some_groups b.groups b.group b.one) in
      record {
        authors = b.authors;
        groups = b.groups;
        landing = subst (λ space. Contains log (Happened (event.Landed space n b.authors b.groups))) (sym here) there;
        named = subst (λ authors. Contains authors (Some by)) (sym advance.named) (in_names by b.groups b.group b.one b.alone);
        told = subst (λ space. HasHeard log (broker_of s.work by.actor) space n) (sym here) (subst (λ l. HasHeard l (broker_of s.work by.actor) primary n) kept r.grounds.1.1);
      }

  committed : IsLegal s own → (given : Reply) (number : Option ℕ) → is_committed given ≡ true → HasReplyGrounds s own by number given → IsSomeAnd number (IsHeardOf s own by)
  committed legal reply.Committed number is g = heard_of g.1.request g.1.made number g.1.grounds.1
  committed legal reply.Fenced number is g = heard_of g.1.request g.1.made number g.1.grounds.1
  committed legal reply.Created number is g = heard_of g.1.request g.1.made number g.1.grounds.1
  committed legal reply.Removed number is g = heard_of g.1.request g.1.made number g.1.grounds.1
  committed legal (reply.Submitted id) number is g = submitted legal id number g
  committed legal _ number is g = absurd (true≢false (sym is))

-- ---- a run

-- a reply with a number is one to an actor whose instance lives
lives_there : (set : Setup) (c : List Entry) (by : By) (n : ℕ) (given : Reply) → HasHomeFor set c by (Some n) given → has_living_home set.work.actors c by.actor ≡ true
lives_there set c by n reply.Gone g = some_none n g.0
lives_there set c by n reply.UnfinishedUnborn g = some_none n g.0
lives_there set c by n reply.NotReached g = some_none n g.0
lives_there set c by n given g = g

module _ (set : Setup) (past : List Entry) where
  -- what an entry is to an instance is legal there, behind a legal chronicle
  pub record IsOwn (i : ℕ) (f : Entry) : Type 0 where
    pub before : IsLegal (setup_in set past i) (own_of set past i)
    pub now : IsLegalEntry (setup_in set past i) (own_of set past i) f

  own_legal : (e : Entry) → birth_in e ≡ None → (plain : is_end e ≡ false) → IsLegalRunEntry set past e → (i : ℕ) → lives past i ≡ true
      → (f : Entry) → own_entry set.work.actors (label_of past i) i e ≡ Some f → IsOwn i f
  own_legal e unborn plain l i h f is =
      let s = setup_in set past i in
      let behind : IsLegal s (own_of set (past ++ e ∷ []) i) =
      subst (λ s. IsLegal s (own_of set (past ++ e ∷ []) i)) (setup_kept set past (e ∷ []) i (alive past i h).0) (l.own plain i (lives_same past e unborn plain i ∙ h)) in
      let pushed : IsLegal s (own_of set past i ++ f ∷ []) =
      subst (IsLegal s) (own_more set past e unborn plain i h ∙ ap (λ o. own_of set past i ++ cons_option o []) is) behind in
      let parts = each_parts (IsLegalEntry s) [] (own_of set past i) (f ∷ []) pushed in
      record { before = parts.0; now = parts.1.0 }

  -- a landing is one of its instance
  landed_in : (i : ℕ) (space : Name) (number : ℕ) (authors : List (Option By)) (groups : List Group) → IsLegalRunEntry set past (entry.Landed i space number authors groups)
      → IsOwn i (entry.Landed top space number authors groups)
  landed_in i space number authors groups l =
      own_legal (entry.Landed i space number authors groups) refl refl l i l.grounds (entry.Landed top space number authors groups)
      (ap (λ b. only_if b (entry.Landed top space number authors groups)) (eq-eqb i i refl))

  -- a reply is one of its actor's instance
  pub record IsAtHome (actor : ℕ) (f : Entry) : Type 0 where
    pub home : ℕ
    pub living : lives past home ≡ true
    pub theirs : is_at set.work.actors (label_of past home) actor ≡ true
    pub own : IsOwn home f

  pub replied_in : (actor command : ℕ) (given : Reply) (number : Option ℕ) → IsLegalRunEntry set past (entry.Replied actor command given number)
      → has_living_home set.work.actors past actor ≡ true → IsAtHome actor (entry.Replied actor command given number)
  replied_in actor command given number l home =
      let found = any_from (λ i. lives past i && is_at set.work.actors (label_of past i) actor) (numbers past) home in
      let parts = and_parts (lives past found.0) (is_at set.work.actors (label_of past found.0) actor) found.2 in
      let e : Entry = entry.Replied actor command given number in
      record { home = found.0; living = parts.0; theirs = parts.1; own = own_legal e refl refl l found.0 parts.0 e (ap (λ b. only_if b e) parts.1) }

  pub at_home : (actor : ℕ) (f : Entry) (h : IsAtHome actor f) (P : Setup → List Entry → Type 0) → P (setup_in set past h.home) (own_of set past h.home) → AtHome set past actor P
  at_home actor f h P p = record { home = h.home; theirs = h.theirs; held = (h.living, p) }

  numbered : (actor command : ℕ) (given : Reply) (number : Option ℕ) → IsLegalRunEntry set past (entry.Replied actor command given number)
      → IfSome number (λ n. AtHome set past actor (λ s own. IsNoOlder s own (record { actor = actor; command = command }) n))
  numbered actor command given None l = tt
  numbered actor command given (Some n) l =
      let by : By = record { actor = actor; command = command } in
      let h = replied_in actor command given (Some n) l (lives_there set past by n given l.grounds) in
      at_home actor (entry.Replied actor command given (Some n)) h (λ s own. IsNoOlder s own by n)
      (reaches (setup_in set past h.home) (own_of set past h.home) h.own.before by n given h.own.now.grounds)

module _ (set : Setup) (c : List Entry) (legal : IsLegalRun set c) where
  -- the entry between two parts follows the first
  at : (past : List Entry) (e : Entry) (more : List Entry) → c ≡ past ++ e ∷ more → IsLegalRunEntry set past e
  at past e more split = each_at (IsLegalRunEntry set) past e more (subst (IsLegalRun set) split legal)

  pub all_heard : CommittersHaveHeard set c
  all_heard past more actor command given number split is =
      let by : By = record { actor = actor; command = command } in
      let l = at past (entry.Replied actor command given number) more split in
      let h = replied_in set past actor command given number l (living_home given number is l.grounds) in
      at_home set past actor (entry.Replied actor command given number) h (λ s own. IsSomeAnd number (IsHeardOf s own by))
      (committed (setup_in set past h.home) (own_of set past h.home) by h.own.before given number is h.own.now.grounds)
    where
      living_home : (given : Reply) (number : Option ℕ) → is_committed given ≡ true → HasHomeFor set past (record { actor = actor; command = command }) number given → has_living_home set.work.actors past actor ≡ true
      living_home reply.Committed number is g = g
      living_home reply.Fenced number is g = g
      living_home reply.Created number is g = g
      living_home reply.Removed number is g = g
      living_home (reply.Submitted id) number is g = g
      living_home _ number is g = absurd (true≢false (sym is))

  pub all_fresh : ReadsAreFresh set c
  all_fresh past more actor command (reply.Read found uses) number split =
      let by : By = record { actor = actor; command = command } in
      let given : Reply = reply.Read found uses in
      let l = at past (entry.Replied actor command given number) more split in
      let h = replied_in set past actor command given number l l.grounds in
      let s = setup_in set past h.home in
      let own = own_of set past h.home in
      let a = h.own.now.grounds.1 in
      let g = a.grounds in
      record {
        home = h.home;
        theirs = h.theirs;
        held = (h.living, (g.0, g.1, asks s own by a.request a.made ∙ ap Some g.2, sees_walk s own by a.request a.made h.own.before given g.0 g.1 (Ok found) number h.own.now.grounds g.3));
      }
  all_fresh past more actor command (reply.NoTarget space uses) number split =
      let by : By = record { actor = actor; command = command } in
      let given : Reply = reply.NoTarget space uses in
      let l = at past (entry.Replied actor command given number) more split in
      let h = replied_in set past actor command given number l l.grounds in
      let s = setup_in set past h.home in
      let own = own_of set past h.home in
      let a = h.own.now.grounds.1 in
      let g = a.grounds in
      record {
        home = h.home;
        theirs = h.theirs;
        held = (h.living, (g.0, g.1, asks s own by a.request a.made ∙ ap Some g.2, sees_walk s own by a.request a.made h.own.before given g.0 g.1 (Err space) number h.own.now.grounds g.3));
      }
  all_fresh past more actor command (reply.Root reference) number split =
      let by : By = record { actor = actor; command = command } in
      let given : Reply = reply.Root reference in
      let l = at past (entry.Replied actor command given number) more split in
      let h = replied_in set past actor command given number l l.grounds in
      let a = h.own.now.grounds.1 in
      record {
        home = h.home;
        theirs = h.theirs;
        held = (h.living, sees (setup_in set past h.home) (own_of set past h.home) by a.request a.made h.own.before given _ number h.own.now.grounds a.grounds.1);
      }
  all_fresh past more actor command given number split = numbered set past actor command given number (at past (entry.Replied actor command given number) more split)

-- ---- what is said of landings, where what each living instance is given is within its ranges

first_is : (s : Setup) → base_of s ≡ fresh (r_text s.resources) → IsStore (base_of s).store
first_is s begins = subst (λ (b : Base). IsStore b.store) (sym begins) (IsStore-first_store (r_text s.resources))

module _ (set : Setup) (c : List Entry) (legal : IsLegalRun set c)
    (valid : (past more : List Entry) → c ≡ past ++ more → (i : ℕ) → lives past i ≡ true → IsInstance (instance_of (setup_in set past i))) where
  follows : (past : List Entry) (e : Entry) (more : List Entry) → c ≡ past ++ e ∷ more → IsLegalRunEntry set past e
  follows past e more split = each_at (IsLegalRunEntry set) past e more (subst (IsLegalRun set) split legal)

  pub all_plain : RootsArePlain set c
  all_plain past more i space number authors groups split some =
      let l = follows past (entry.Landed i space number authors groups) more split in
      let s = setup_in set past i in
      let own = own_of set past i in
      let o = landed_in set past i space number authors groups l in
      let v = valid past (entry.Landed i space number authors groups ∷ more) split i l.grounds in
      (l.grounds, published (setting_of s) (first_is s v.text) (log_of s.work top own) (service_legal s own o.before) space number authors groups o.now.grounds.0.1 some)

  pub all_due : EventsAreDue set c
  all_due past more i space number authors groups split here =
      let l = follows past (entry.Landed i space number authors groups) more split in
      let s = setup_in set past i in
      let own = own_of set past i in
      let o = landed_in set past i space number authors groups l in
      let v = valid past (entry.Landed i space number authors groups ∷ more) split i l.grounds in
      let log : IsLegalLog (setting_of s) (service_of (log_in s.work own)) = subst (IsLegalLog (setting_of s)) (sym (service_kept s.work own)) (service_legal s own o.before) in
      let newest = newest_of (setting_of s) (ap (λ (b : Base). b.number) v.text) (first_is s v.text) (service_of (log_in s.work own)) log in
      (l.grounds, (newest.store, newest.stands, o.now.grounds.2 here newest.store newest.stands))

-- ---- numbers that never fall, where those of one instance don't

abbrev NeverFall : Type 0
NeverFall = (s : Setup) (own before between : List Entry) (by later : By) (given next : Reply) (number second : Option ℕ) (root : Numbered) → IsLegal s own
    → before_issue later own ≡ (before ++ entry.Replied by.actor by.command given number ∷ []) ++ between
    → knows_after by.actor between later.actor ≡ true → IsLegalEntry s own (entry.Replied later.actor later.command next second)
    → Contains (roots_named s.work later next second) root → number_in root.namespace (roots_named s.work by given number) ≤ root.number

module _ (set : Setup) (c : List Entry) (legal : IsLegalRun set c) (never_fall : NeverFall) where
  -- no root of a reply is below one that was named to its actor before
  unfallen : (past : List Entry) (actor command : ℕ) (given : Reply) (number : Option ℕ) → IsLegalRunEntry set past (entry.Replied actor command given number)
      → IfSome number (λ n. AtHome set past actor (λ s own. IsNotBelow s own (record { actor = actor; command = command }) given (Some n)))
  unfallen past actor command given None l = tt
  unfallen past actor command given (Some n) l =
      let by : By = record { actor = actor; command = command } in
      let h = replied_in set past actor command given (Some n) l (lives_there set past by n given l.grounds) in
      at_home set past actor (entry.Replied actor command given (Some n)) h (λ s own. IsNotBelow s own by given (Some n))
      (λ before between other told earlier root split knows there.
      never_fall (setup_in set past h.home) (own_of set past h.home) before between other by told given earlier (Some n) root h.own.before split knows h.own.now there)

  pub all_rise : NumbersNeverFall set c
  all_rise past more actor command given number split =
      unfallen past actor command given number (each_at (IsLegalRunEntry set) past (entry.Replied actor command given number) more (subst (IsLegalRun set) split legal))
