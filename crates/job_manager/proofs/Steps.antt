-- A manager through its calls.
use Rattle.std.proofs.Common.{◌≡◌, ◌≢◌, ◌<◌, inl, inr, ℕ, List, [], ◌∷◌, ◌++◌, length, Bool, true, false, Option, Some, None, refl, sym, ap, ◌∙◌, subst, append-nil}
use Rattle.std.specs.Prelude.{◌||◌, Contains, IsSome, flat_map}
use Rattle.job_rules.proofs.Among.{among_from}
use Rattle.std.specs.List.{list_any}
use Rattle.std.specs.Option.{option_map_or}
use Rattle.job_rules.specs.Fits.{IsGrant}
use Rattle.kvs_core.specs.Histories.{Extends, history_of}
use Rattle.kvs_keys.specs.Histories.{landings_in}
use Rattle.kvs_core.specs.Posted.{CanPost, newest_of, posted}
use Rattle.kvs_keys.specs.Posted.{groups_in, posts_landed}
use Rattle.kvs_keys.specs.Posted as keys
use Rattle.kvs_core.specs.Value.{CoreValue}
use Rattle.kvs_model.specs.History.{after, after_groups, first_store}
use Rattle.kvs_model.specs.Store.{IsStore, Store}
use Rattle.kvs_rules.specs.declared.events.KvsEvent.{KvsEvent}
use Rattle.kvs_space.proofs.Posting.{none-left, none-right, posts-append, with-post, with-user}
use Rattle.kvs_txn.specs.declared.txn.By.{By}
use Rattle.kvs_txn.specs.declared.txn.Group.{Group}
use Rattle.kvs_txn.specs.declared.txn.Scope.TheVariants as scope
use Rattle.store_laws.specs.Posts.{AreTaken, IsPost, is_manager, posts_in}
use Rattle.resource_set.specs.declared.node.Resources.{Resources}
use Rattle.job_book.specs.Contract.{IsKept}
use Rattle.job_book.specs.Value.{BookValue}
use Rattle.manager_rules.specs.Jobs.{AreJobsOf, HasOnlyJobs, ids_of}
use Rattle.manager_rules.specs.Posts.{Desk, Does, IsDesk, IsDuePost, Post, Submits, group_of, jobs_after, txn_of}
use Rattle.manager_rules.specs.Sound.{IsSoundStore}
use Rattle.manager_rules.proofs.Others.{first_jobs}
use Rattle.manager_rules.proofs.Taking.{first_only}
use Rattle.manager_rules.specs.declared.policy.Policy.{Policy}
use Rattle.job_manager.specs.Follows.{after_post}
use Rattle.job_manager.specs.Managed.{AreRoots, IsManaged, IsOutstanding, WasDuePost}
use Rattle.job_manager.specs.Places.{ArePlaces, LogPlaces}
use Rattle.job_manager.specs.Posts.{command_of}
use Rattle.job_manager.specs.Value.{ManagerValue}
use Rattle.job_manager.proofs.Landing.{Stands, after-behind, post-through, users-through}
use Rattle.job_manager.proofs.Roots.{IsBefore, along, first-roots, roots-on, same-roots}

-- ---- at the beginning

pub begins : (v : CoreValue) (book : BookValue) (grant : Resources) (policy : Policy) (text : List ℕ) → v.spent ≡ false → newest_of v ≡ first_store text → history_of v ≡ [] → v.keys.grant ≡ text → posted v ≡ [] → book ≡ record { grant = grant; policy = policy; jobs = [] } → IsKept book → IsStore (first_store text) → (spent : Bool)
    → IsManaged (record { spent = spent; core = v; book = book; posted = None; places = [] })
begins v book grant policy text ready newest unlanded granted none is kept store spent =
    let jobs : AreJobsOf (newest_of v) book.jobs = subst (λ st. AreJobsOf st book.jobs) (sym newest) (subst (λ b. AreJobsOf (first_store text) b.jobs) (sym is) (first_jobs text)) in
    record {
      ready = ready;
      store = subst IsStore (sym newest) store;
      jobs = jobs;
      only = subst (λ st. HasOnlyJobs st (ids_of book.jobs)) (sym newest) (subst (λ b. HasOnlyJobs (first_store text) (ids_of b.jobs)) (sym is) (first_only text));
      sound = record { jobs = book.jobs; are = jobs; sound = kept.sound };
      outstanding = none;
      places = record { all = λ id c. absurd (among_from [] id (subst (λ b. Contains (ids_of b.jobs) id) is c)); right = λ id path e. (let no : None ≡ Some path = e in cc) };
      roots = first-roots book.grant.nodes v unlanded (newest ∙ ap first_store (sym granted)) (record { jobs = book.jobs; are = jobs; sound = kept.sound });
    }

-- ---- a post

as-group : (o : Option By) (post : Post) → keys.post_of o (txn_of post) ≡ record { txn = txn_of post; authors = option_map_or (λ by. by ∷ []) o [] }
as-group None post = refl
as-group (Some by) post = refl

pub group-is : (post : Post) → keys.post_of (command_of post) (txn_of post) ≡ group_of post
group-is (Submits x) = refl
group-is (Does due) = as-group due.command (Does due)

pub can-post : (v : ManagerValue) → IsManaged v → v.posted ≡ None → length v.book.jobs < 2000 → (post : Post) → WasDuePost v.book post
    → ((d : Desk) (p : Post) (st : Store) → IsDesk d → IsStore st → AreJobsOf st d.scene.jobs → HasOnlyJobs st (ids_of d.scene.jobs) → length d.scene.jobs < 2000 → IsDuePost d p → AreTaken (group_of p ∷ []) st)
    → CanPost v.core (command_of post) (txn_of post)
can-post v m free few post w law =
    let st = newest_of v.core in
    let taken = law w.desk post st w.valid m.store (subst (AreJobsOf st) (sym w.jobs) m.jobs) (subst (λ js. HasOnlyJobs st (ids_of js)) (sym w.jobs) m.only) (subst (λ js. length js < 2000) (sym w.jobs) few) w.due in
    let none : posted v.core ≡ [] = subst (IsOutstanding v.core v.book) free m.outstanding in
    let e = sym (group-is post) in
    record {
      post = subst IsPost e taken.each.0;
      made = subst (λ g. IsSome (after_groups scope.Primary (posted v.core ++ g ∷ []) st)) e (subst (λ gs. IsSome (after_groups scope.Primary (gs ++ group_of post ∷ []) st)) (sym none) taken.made);
    }

-- ---- what has landed

abbrev has : Group → Bool
has group = is_manager group.txn.author

-- none passes, and so none is left
none-passes : (gs : List Group) → list_any has gs ≡ false → posts_in gs ≡ []
none-passes [] e = refl
none-passes (g ∷ gs) e = by (is_manager g.txn.author) refl (none-passes gs) e
  where
    by : (b : Bool) → is_manager g.txn.author ≡ b → (list_any has gs ≡ false → posts_in gs ≡ []) → (b || list_any has gs) ≡ false → posts_in (g ∷ gs) ≡ []
    by true m more h = cc
    by false m more h = with-user g gs m ∙ more h

pub none-landed : (events : List KvsEvent) → list_any (λ e. list_any has (groups_in e)) events ≡ false → posts_landed events ≡ []
none-landed [] e = refl
none-landed (x ∷ xs) e = by (list_any has (groups_in x)) refl (none-landed xs) e
  where
    by : (b : Bool) → list_any has (groups_in x) ≡ b → (list_any (λ y. list_any has (groups_in y)) xs ≡ false → posts_landed xs ≡ []) → (b || list_any (λ y. list_any has (groups_in y)) xs) ≡ false → posts_landed (x ∷ xs) ≡ []
    by true m more h = cc
    by false m more h = posts-append (groups_in x) (flat_map groups_in xs) ∙ ap (λ gs. gs ++ posts_landed xs) (none-passes (groups_in x) m) ∙ more h

some-passes : (gs : List Group) → list_any has gs ≡ true → posts_in gs ≢ []
some-passes [] e h = cc
some-passes (g ∷ gs) e h = by (is_manager g.txn.author) refl (some-passes gs) e
  where
    by : (b : Bool) → is_manager g.txn.author ≡ b → (list_any has gs ≡ true → posts_in gs ≢ []) → (b || list_any has gs) ≡ true → ⊥
    by true m more q = (let wrong : g ∷ posts_in gs ≡ [] = sym (with-post g gs m) ∙ h in cc)
    by false m more q = more q (sym (with-user g gs m) ∙ h)

pub some-landed : (events : List KvsEvent) → list_any (λ e. list_any has (groups_in e)) events ≡ true → posts_landed events ≢ []
some-landed [] e h = cc
some-landed (x ∷ xs) e h = by (list_any has (groups_in x)) refl (some-landed xs) e
  where
    both : posts_in (groups_in x) ++ posts_landed xs ≡ []
    both = sym (posts-append (groups_in x) (flat_map groups_in xs)) ∙ h

    by : (b : Bool) → list_any has (groups_in x) ≡ b → (list_any (λ y. list_any has (groups_in y)) xs ≡ true → posts_landed xs ≢ []) → (b || list_any (λ y. list_any has (groups_in y)) xs) ≡ true → ⊥
    by true m more q = some-passes (groups_in x) m (none-left (posts_in (groups_in x)) (posts_landed xs) both)
    by false m more q = more q (none-right (posts_in (groups_in x)) (posts_landed xs) both)

-- ---- a step of the service

abbrev pub IsKeptStore : CoreValue → Type 0
IsKeptStore v = after scope.Primary (history_of v) (length (history_of v)) (first_store v.keys.grant) ≡ Some (newest_of v)

module _ (v : ManagerValue) (m : IsManaged v) (core : CoreValue) (events : List KvsEvent) (extends : Extends v.core core events) (kept : IsKeptStore v.core) (now : IsKeptStore core) (sets : IsGrant v.book.grant.nodes) where
  through : after scope.Primary (landings_in events) (length (landings_in events)) (newest_of v.core) ≡ Some (newest_of core)
  through =
      after-behind (first_store v.core.keys.grant) (history_of v.core) (landings_in events) (newest_of v.core) (newest_of core) kept
      (subst (λ h. after scope.Primary h (length h) (first_store v.core.keys.grant) ≡ Some (newest_of core)) extends.history
      (subst (λ g. after scope.Primary (history_of core) (length (history_of core)) (first_store g) ≡ Some (newest_of core)) extends.grant now))

  stood : Stands v.book.grant v.book.jobs (newest_of v.core)
  stood = record { store = m.store; are = m.jobs; only = m.only; sound = m.sound }

  on-roots : IsBefore v.book sets (landings_in events) (newest_of v.core) → AreRoots v.book.grant.nodes core
  on-roots h =
      roots-on v.book.grant.nodes v.core core (landings_in events) extends.history extends.grant kept m.roots
      (along v.book sets (landings_in events) (newest_of v.core) (newest_of core) h through)

  pub stays : core.spent ≡ false → posts_landed events ++ posted core ≡ posted v.core → posts_landed events ≡ [] → (spent : Bool) → IsManaged (record { spent = spent; core = core; book = v.book; posted = v.posted; places = v.places })
  stays ready order none spent =
      let s = users-through v.book.grant v.book.jobs (landings_in events) (sym extends.inside ∙ none) (newest_of v.core) (newest_of core) stood through in
      let same : posted core ≡ posted v.core = ap (λ gs. gs ++ posted core) (sym none) ∙ order in
      record { ready = ready; store = s.store; jobs = s.are; only = s.only; sound = s.sound; outstanding = left v.posted same m.outstanding; roots = before none; places = m.places }
    where
      before : posts_landed events ≡ [] → AreRoots v.book.grant.nodes core
      before none = on-roots (inl (v.book.jobs, sym extends.inside ∙ none, stood))

      left : (o : Option Post) → posted core ≡ posted v.core → IsOutstanding v.core v.book o → IsOutstanding core v.book o
      left None e h = e ∙ h
      left (Some post) e h = (e ∙ h.0, h.1)

  module _ (post : Post) (waits : v.posted ≡ Some post) (order : posts_landed events ++ posted core ≡ posted v.core) (some : posts_landed events ≢ []) where
    out : (posted v.core ≡ group_of post ∷ []) × WasDuePost v.book post
    out = subst (IsOutstanding v.core v.book) waits m.outstanding

    split : (posts_landed events ≡ group_of post ∷ []) × (posted core ≡ [])
    split = by (posts_landed events) refl (order ∙ out.0)
      where
        by : (gs : List Group) → posts_landed events ≡ gs → gs ++ posted core ≡ group_of post ∷ [] → (posts_landed events ≡ group_of post ∷ []) × (posted core ≡ [])
        by [] is both = absurd (some is)
        by (x ∷ xs) is both =
            let first : x ≡ group_of post = cc in
            let behind : xs ++ posted core ≡ [] = cc in
            (is ∙ ap (λ y. y ∷ xs) first ∙ ap (λ ys. group_of post ∷ ys) (none-left xs (posted core) behind), none-right xs (posted core) behind)

    pub landed-one : posts_landed events ≡ group_of post ∷ []
    landed-one = split.0

    pub was-due-post : WasDuePost v.book post
    was-due-post = out.1

    pub lands : core.spent ≡ false → (book : BookValue) → book ≡ after_post post v.book → (places : LogPlaces) → ArePlaces (jobs_after post v.book.jobs) places → (spent : Bool) → IsManaged (record { spent = spent; core = core; book = book; posted = None; places = places })
    lands ready book is places placed spent =
        let s = post-through v.book sets post out.1 (landings_in events) (sym extends.inside ∙ split.0) (newest_of v.core) (newest_of core) stood through in
        record {
          ready = ready;
          store = s.store;
          jobs = subst (λ b. AreJobsOf (newest_of core) b.jobs) (sym is) s.are;
          only = subst (λ b. HasOnlyJobs (newest_of core) (ids_of b.jobs)) (sym is) s.only;
          sound = subst (λ b. IsSoundStore b.grant.nodes (newest_of core)) (sym is) s.sound;
          outstanding = split.1;
          places = subst (λ b. ArePlaces b.jobs places) (sym is) placed;
          roots = subst (λ b. AreRoots b.grant.nodes core) (sym is) (on-roots (inr (post, out.1, sym extends.inside ∙ split.0, stood)));
        }

-- where nothing was posted, nothing of the manager's lands
pub nothing : (v : ManagerValue) → IsManaged v → v.posted ≡ None → (core : CoreValue) (events : List KvsEvent) → posts_landed events ++ posted core ≡ posted v.core → list_any (λ e. list_any has (groups_in e)) events ≡ true → ⊥
nothing v m free core events order some =
    let none : posted v.core ≡ [] = subst (IsOutstanding v.core v.book) free m.outstanding in
    some-landed events some (none-left (posts_landed events) (posted core) (order ∙ none))

-- ---- where nothing lands

module _ (v : ManagerValue) (m : IsManaged v) (core : CoreValue) (extends : Extends v.core core []) (kept : IsKeptStore v.core) (now : IsKeptStore core) where
  newest-same : newest_of core ≡ newest_of v.core
  newest-same =
      let history : history_of core ≡ history_of v.core = extends.history ∙ append-nil (history_of v.core) in
      let there : Some (newest_of core) ≡ Some (newest_of v.core) = sym now ∙ ap (λ h. after scope.Primary h (length h) (first_store core.keys.grant)) history ∙ ap (λ g. after scope.Primary (history_of v.core) (length (history_of v.core)) (first_store g)) extends.grant ∙ kept in
      cc

  pub kept-managed : core.spent ≡ false → (posts : Option Post) → IsOutstanding core v.book posts → (spent : Bool) → IsManaged (record { spent = spent; core = core; book = v.book; posted = posts; places = v.places })
  kept-managed ready posts outstanding spent = record {
    ready = ready;
    store = subst IsStore (sym newest-same) m.store;
    jobs = subst (λ st. AreJobsOf st v.book.jobs) (sym newest-same) m.jobs;
    only = subst (λ st. HasOnlyJobs st (ids_of v.book.jobs)) (sym newest-same) m.only;
    sound = subst (IsSoundStore v.book.grant.nodes) (sym newest-same) m.sound;
    outstanding = outstanding;
    roots = same-roots v.book.grant.nodes v.core core extends kept now m.roots;
    places = m.places;
  }

-- what waits is the same
pub waits-same : (old core : CoreValue) (book : BookValue) (o : Option Post) → posted core ≡ posted old → IsOutstanding old book o → IsOutstanding core book o
waits-same old core book None e h = e ∙ h
waits-same old core book (Some post) e h = (e ∙ h.0, h.1)
