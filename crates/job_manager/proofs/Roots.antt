-- Each root of `primary` is sound, and since then the logs of its jobs have only grown.
use Rattle.std.proofs.Common.{◌≡◌, ℕ, zero, suc, ◌+◌, ◌-◌, ◌⊎◌, inl, inr, List, [], ◌∷◌, ◌++◌, length, Bool, true, false, Option, Some, None, Ok, refl, sym, ap, ◌∙◌, subst, arith, append-nil, append_assoc}
use Rattle.std.specs.Prelude.{Contains, IfSome, option_and_then}
use Rattle.std.proofs.lemmas.Bool.{cases_lt}
use Rattle.event_log.specs.declared.event.Event.{Event}
use Rattle.job_rules.proofs.Among.{among_from, each_at}
use Rattle.job_rules.specs.Fits.{AreWithin, IsGrant}
use Rattle.kvs_core.specs.Histories.{Extends, history_of}
use Rattle.kvs_core.specs.Posted.{newest_of}
use Rattle.kvs_core.specs.Seen.{root_of}
use Rattle.kvs_core.specs.Value.{CoreValue}
use Rattle.kvs_model.proofs.Histories.{after-append}
use Rattle.kvs_model.specs.History.{after, after_groups, first_store}
use Rattle.kvs_model.specs.Operation.{effect}
use Rattle.kvs_model.specs.Store.{Store}
use Rattle.kvs_space.proofs.Posting.{none-left, none-right, posts-append, with-post, with-user}
use Rattle.kvs_txn.specs.declared.txn.Group.{Group}
use Rattle.kvs_txn.specs.declared.txn.Scope.TheVariants as scope
use Rattle.resource_set.specs.Units.{AreHosts}
use Rattle.resource_set.specs.declared.node.Node.{Node}
use Rattle.resource_set.specs.declared.node.Resources.{Resources}
use Rattle.store_laws.specs.Posts.{is_manager, posts_in}
use Rattle.job_book.specs.Value.{BookValue}
use Rattle.manager_rules.proofs.Others.{events_add, submissions_leave_logs, users_leave_logs}
use Rattle.manager_rules.proofs.Soundness.{jobs_within}
use Rattle.manager_rules.proofs.Unique.{jobs_are_one}
use Rattle.manager_rules.specs.Jobs.{AreJobsOf, IsLogged, StoredJob}
use Rattle.manager_rules.specs.Posts.{Does, IsDuePost, Post, Submits, group_of, jobs_after, txn_of}
use Rattle.manager_rules.specs.Sound.{IsSound, IsSoundStore}
use Rattle.job_manager.specs.Managed.{AreRoots, HaveGrown, IsRoot, WasDuePost}
use Rattle.job_manager.proofs.Landing.{Stands, after-one, as-user, flat, post-lands, same-store, user-stands, users-land}

-- ---- logs that grow

pub stays-grown : (st : Store) → HaveGrown st st
stays-grown st id log small l = ([], subst (IsLogged st id) (sym (append-nil log)) l)

pub grown-on : (st mid new : Store) → HaveGrown st mid → HaveGrown mid new → HaveGrown st new
grown-on st mid new g h id log small l =
    let one = g id log small l in
    let two = h id (log ++ one.0) small one.1 in
    (one.0 ++ two.0, subst (IsLogged new id) (append_assoc log one.0 two.0) two.1)

same-grown : (st new : Store) → (let o : Option Store = Some st in o ≡ Some new) → HaveGrown st new
same-grown st new e = same-store (HaveGrown st) st new e (stays-grown st)

user-grows : (st new : Store) (group : Group) → is_manager group.txn.author ≡ false → effect st group.txn scope.Primary ≡ Ok new → HaveGrown st new
user-grows st new group user e id log small l = ([], subst (IsLogged new id) (sym (append-nil log)) (users_leave_logs st new group.txn id log (as-user group.txn.author user) e l))

users-grow : (groups : List Group) → posts_in groups ≡ [] → (st new : Store) → after_groups scope.Primary groups st ≡ Some new → HaveGrown st new
users-grow [] none st new e = same-grown st new e
users-grow (g ∷ gs) none st new e = by (is_manager g.txn.author) refl (λ rest mid f. users-grow gs rest mid new f)
  where
    by : (b : Bool) → is_manager g.txn.author ≡ b → (posts_in gs ≡ [] → (mid : Store) → after_groups scope.Primary gs mid ≡ Some new → HaveGrown mid new) → HaveGrown st new
    by true m more = (let wrong : g ∷ posts_in gs ≡ [] = sym (with-post g gs m) ∙ none in cc)
    by false m more =
        after-one (HaveGrown st) (HaveGrown st) (effect st g.txn scope.Primary) (λ mid. after_groups scope.Primary gs mid) new
        (λ mid made. user-grows st mid g m made)
        (λ mid one rest. grown-on st mid new one (more (sym (with-user g gs m) ∙ none) mid rest)) e

module _ (book : BookValue) (sets : IsGrant book.grant.nodes) (post : Post) (was : WasDuePost book post) where
  hosts : (st : Store) → Stands book.grant book.jobs st → (j : StoredJob) → Contains was.desk.scene.jobs j → IfSome j.r (λ r. AreHosts r.nodes)
  hosts st h j known =
      let are : AreJobsOf st was.desk.scene.jobs = subst (AreJobsOf st) (sym was.jobs) h.are in
      let sound : IsSound book.grant.nodes was.desk.scene.jobs = subst (IsSound book.grant.nodes) (jobs_are_one st h.sound.jobs was.desk.scene.jobs h.sound.are are) h.sound.sound in
      of j.r (each_at (λ k. IfSome k.r (λ r. AreWithin r.nodes book.grant.nodes)) was.desk.scene.jobs j (jobs_within book.grant.nodes was.desk.scene.jobs sound.apart.within) (among_from was.desk.scene.jobs j known))
    where
      of : (o : Option Resources) → IfSome o (λ r. AreWithin r.nodes book.grant.nodes) → IfSome o (λ r. AreHosts r.nodes)
      of None h = tt
      of (Some r) h = h.hosts

  post-grows : (st new : Store) → Stands book.grant book.jobs st → effect st (txn_of post) scope.Primary ≡ Ok new → HaveGrown st new
  post-grows st new h e id log small l = by post refl
    where
      are : AreJobsOf st was.desk.scene.jobs
      are = subst (AreJobsOf st) (sym was.jobs) h.are

      by : (p : Post) → post ≡ p → (further : List Event) × IsLogged new id (log ++ further)
      by (Submits x) is =
          let due : IsDuePost was.desk (Submits x) = subst (IsDuePost was.desk) is was.due in
          let made : effect st (txn_of (Submits x)) scope.Primary ≡ Ok new = subst (λ p. effect st (txn_of p) scope.Primary ≡ Ok new) is e in
          ([], subst (IsLogged new id) (sym (append-nil log)) (submissions_leave_logs was.desk.scene was.desk.birth was.desk.submits x due st new h.store are made id log small l))
      by (Does y) is =
          let due : IsDuePost was.desk (Does y) = subst (IsDuePost was.desk) is was.due in
          let made : effect st (txn_of (Does y)) scope.Primary ≡ Ok new = subst (λ p. effect st (txn_of p) scope.Primary ≡ Ok new) is e in
          events_add was.desk.scene was.valid.scene st new h.store are due.j due.known due.deed due.may (hosts st h due.j due.known) (subst (λ z. effect st (txn_of (Does z)) scope.Primary ≡ Ok new) due.is made) id log small l

  pub groups-grow : (groups : List Group) → posts_in groups ≡ group_of post ∷ [] → (st new : Store) → Stands book.grant book.jobs st → after_groups scope.Primary groups st ≡ Some new → HaveGrown st new
  groups-grow [] one st new h e = cc
  groups-grow (g ∷ gs) one st new h e = by (is_manager g.txn.author) refl (λ rest mid k f. groups-grow gs rest mid new k f)
    where
      by : (b : Bool) → is_manager g.txn.author ≡ b
          → (posts_in gs ≡ group_of post ∷ [] → (mid : Store) → Stands book.grant book.jobs mid → after_groups scope.Primary gs mid ≡ Some new → HaveGrown mid new) → HaveGrown st new
      by true m more =
          let here : g ∷ posts_in gs ≡ group_of post ∷ [] = sym (with-post g gs m) ∙ one in
          let is : g ≡ group_of post = cc in
          let none : posts_in gs ≡ [] = cc in
          after-one (HaveGrown st) (HaveGrown st) (effect st g.txn scope.Primary) (λ mid. after_groups scope.Primary gs mid) new
          (λ mid made. post-grows st mid h (subst (λ x. effect st x.txn scope.Primary ≡ Ok mid) is made))
          (λ mid one rest. grown-on st mid new one (users-grow gs none mid new rest)) e
      by false m more =
          after-one (HaveGrown st) (λ mid. HaveGrown st mid × Stands book.grant book.jobs mid) (effect st g.txn scope.Primary) (λ mid. after_groups scope.Primary gs mid) new
          (λ mid made. (user-grows st mid g m made, user-stands book.grant book.jobs st mid g.txn m h made))
          (λ mid one rest. grown-on st mid new one.0 (more (sym (with-user g gs m) ∙ one₀) mid one.1 rest)) e
        where
          one₀ : posts_in (g ∷ gs) ≡ group_of post ∷ []
          one₀ = one

-- ---- landings one behind another

module _ (book : BookValue) (sets : IsGrant book.grant.nodes) where
  -- what is left to land works on this store
  abbrev pub IsBefore : List (List Group) → Store → Type 0
  IsBefore ls st = ((jobs : List StoredJob) × (posts_in (flat ls) ≡ []) × Stands book.grant jobs st)
      ⊎ ((post : Post) × WasDuePost book post × (posts_in (flat ls) ≡ group_of post ∷ []) × Stands book.grant book.jobs st)

  is-sound : (ls : List (List Group)) (st : Store) → IsBefore ls st → IsSoundStore book.grant.nodes st
  is-sound ls st (inl users) = users.2.sound
  is-sound ls st (inr one) = one.3.sound

  next : (groups : List Group) (ls : List (List Group)) (st mid : Store) → IsBefore (groups ∷ ls) st → after_groups scope.Primary groups st ≡ Some mid → IsBefore ls mid × HaveGrown st mid
  next groups ls st mid (inl users) e =
      let both : posts_in groups ++ posts_in (flat ls) ≡ [] = sym (posts-append groups (flat ls)) ∙ users.1 in
      let here = none-left (posts_in groups) (posts_in (flat ls)) both in
      (inl (users.0, none-right (posts_in groups) (posts_in (flat ls)) both, users-land book.grant users.0 groups here st mid users.2 e), users-grow groups here st mid e)
  next groups ls st mid (inr one) e = by (posts_in groups) refl (sym (posts-append groups (flat ls)) ∙ one.2)
    where
      by : (gs : List Group) → posts_in groups ≡ gs → gs ++ posts_in (flat ls) ≡ group_of one.0 ∷ [] → IsBefore ls mid × HaveGrown st mid
      by [] is both = (inr (one.0, one.1, both, users-land book.grant book.jobs groups is st mid one.3 e), users-grow groups is st mid e)
      by (x ∷ xs) is both =
          let first : x ≡ group_of one.0 = cc in
          let behind : xs ++ posts_in (flat ls) ≡ [] = cc in
          let here : posts_in groups ≡ group_of one.0 ∷ [] = is ∙ ap (λ y. y ∷ xs) first ∙ ap (λ ys. group_of one.0 ∷ ys) (none-left xs (posts_in (flat ls)) behind) in (
            inl (jobs_after one.0 book.jobs, none-right xs (posts_in (flat ls)) behind, post-lands book sets one.0 one.1 groups here st mid one.3 e),
            groups-grow book sets one.0 one.1 groups here st mid one.3 e,
          )

  -- each store on the way is sound, and its logs grow to those of the last one
  pub along : (ls : List (List Group)) (st new : Store) → IsBefore ls st → after scope.Primary ls (length ls) st ≡ Some new
      → (k : ℕ) (mid : Store) → after scope.Primary ls k st ≡ Some mid → IsRoot book.grant.nodes new mid
  along ls st new h e zero mid is =
      same-store (λ m. IsRoot book.grant.nodes new m) st mid is (record { sound = is-sound ls st h; grown = grows ls st h e })
    where
      grows : (ls : List (List Group)) (st : Store) → IsBefore ls st → after scope.Primary ls (length ls) st ≡ Some new → HaveGrown st new
      grows [] st h e = same-grown st new e
      grows (groups ∷ ls) st h e = on (after_groups scope.Primary groups st) refl e (λ mid k f. grows ls mid k f)
        where
          on : (o : Option Store) → after_groups scope.Primary groups st ≡ o → option_and_then (λ mid. after scope.Primary ls (length ls) mid) o ≡ Some new
              → ((mid : Store) → IsBefore ls mid → after scope.Primary ls (length ls) mid ≡ Some new → HaveGrown mid new) → HaveGrown st new
          on None is f more = cc
          on (Some mid) is f more = let n = next groups ls st mid h is in grown-on st mid new n.1 (more mid n.0 f)
  along [] st new h e (suc k) mid is = cc
  along (groups ∷ ls) st new h e (suc k) mid is = on (after_groups scope.Primary groups st) refl e is (λ one b f g. along ls one new b f k mid g)
    where
      on : (o : Option Store) → after_groups scope.Primary groups st ≡ o → option_and_then (λ one. after scope.Primary ls (length ls) one) o ≡ Some new → option_and_then (λ one. after scope.Primary ls k one) o ≡ Some mid
          → ((one : Store) → IsBefore ls one → after scope.Primary ls (length ls) one ≡ Some new → after scope.Primary ls k one ≡ Some mid → IsRoot book.grant.nodes new mid) → IsRoot book.grant.nodes new mid
      on None made f g more = cc
      on (Some one) made f g more = more one (next groups ls st one h made).0 f g

-- the store after some of the landings behind others
behind-so-many : (first : Store) (ls more : List (List Group)) (st new : Store) (k : ℕ) → after scope.Primary ls (length ls) first ≡ Some st → after scope.Primary (ls ++ more) (length ls + k) first ≡ Some new
    → after scope.Primary more k st ≡ Some new
behind-so-many first [] more st new k a b = let same : first ≡ st = cc in subst (λ s. after scope.Primary more k s ≡ Some new) same (subst (λ n. after scope.Primary more n first ≡ Some new) (let e : 0 + k ≡ k = omega arith in e) b)
behind-so-many first (groups ∷ ls) more st new k a b =
    by (after_groups scope.Primary groups first) (λ mid c d. behind-so-many mid ls more st new k c d) a
    (subst (λ n. after scope.Primary (groups ∷ ls ++ more) n first ≡ Some new) (let e : suc (length ls) + k ≡ suc (length ls + k) = omega arith in e) b)
  where
    by : (o : Option Store)
        → ((mid : Store) → after scope.Primary ls (length ls) mid ≡ Some st → after scope.Primary (ls ++ more) (length ls + k) mid ≡ Some new → after scope.Primary more k st ≡ Some new)
        → option_and_then (λ mid. after scope.Primary ls (length ls) mid) o ≡ Some st → option_and_then (λ mid. after scope.Primary (ls ++ more) (length ls + k) mid) o ≡ Some new
        → after scope.Primary more k st ≡ Some new
    by (Some mid) f a b = f mid a b
    by None f a b = cc

-- ---- the roots of a core, one step further

module _ (grant : List Node) (old new : CoreValue) (ls : List (List Group)) (history : history_of new ≡ history_of old ++ ls) (granted : new.keys.grant ≡ old.keys.grant)
    (kept : after scope.Primary (history_of old) (length (history_of old)) (first_store old.keys.grant) ≡ Some (newest_of old))
    (roots : AreRoots grant old)
    (goes : (k : ℕ) (mid : Store) → after scope.Primary ls k (newest_of old) ≡ Some mid → IsRoot grant (newest_of new) mid) where
  root-is : (number : ℕ) → root_of new number ≡ after scope.Primary (history_of old ++ ls) number (first_store old.keys.grant)
  root-is number = ap (λ h. after scope.Primary h number (first_store new.keys.grant)) history ∙ ap (λ g. after scope.Primary (history_of old ++ ls) number (first_store g)) granted

  pub roots-on : AreRoots grant new
  roots-on number st stands = elim (cases_lt (length (history_of old)) number) [
    | inl above ↦
        let split : number ≡ length (history_of old) + (number - length (history_of old)) = omega (arith, above) in
        goes (number - length (history_of old)) st
        (behind-so-many (first_store old.keys.grant) (history_of old) ls (newest_of old) st (number - length (history_of old)) kept
        (subst (λ n. after scope.Primary (history_of old ++ ls) n (first_store old.keys.grant) ≡ Some st) split (sym (root-is number) ∙ stands)))
    | inr below ↦
        let was = roots number st (sym (after-append scope.Primary (history_of old) ls number (first_store old.keys.grant) below) ∙ sym (root-is number) ∙ stands) in
        record { sound = was.sound; grown = grown-on st (newest_of old) (newest_of new) was.grown (goes 0 (newest_of old) refl).grown }
  ]

-- the roots stay where nothing has landed
pub same-roots : (grant : List Node) (old new : CoreValue) → Extends old new [] → after scope.Primary (history_of old) (length (history_of old)) (first_store old.keys.grant) ≡ Some (newest_of old)
    → after scope.Primary (history_of new) (length (history_of new)) (first_store new.keys.grant) ≡ Some (newest_of new) → AreRoots grant old → AreRoots grant new
same-roots grant old new extends kept now roots number st stands =
    let history : history_of new ≡ history_of old = extends.history ∙ append-nil (history_of old) in
    let root-same : root_of new number ≡ root_of old number = ap (λ h. after scope.Primary h number (first_store new.keys.grant)) history ∙ ap (λ g. after scope.Primary (history_of old) number (first_store g)) extends.grant in
    let there : Some (newest_of new) ≡ Some (newest_of old) = sym now ∙ ap (λ h. after scope.Primary h (length h) (first_store new.keys.grant)) history ∙ ap (λ g. after scope.Primary (history_of old) (length (history_of old)) (first_store g)) extends.grant ∙ kept in
    let newest : newest_of new ≡ newest_of old = cc in
    subst (λ x. IsRoot grant x st) (sym newest) (roots number st (sym root-same ∙ stands))

-- the first root alone
pub first-roots : (grant : List Node) (v : CoreValue) → history_of v ≡ [] → newest_of v ≡ first_store v.keys.grant → IsSoundStore grant (newest_of v) → AreRoots grant v
first-roots grant v none newest sound number st stands = by number (sym (ap (λ h. after scope.Primary h number (first_store v.keys.grant)) none) ∙ stands)
  where
    by : (n : ℕ) → after scope.Primary [] n (first_store v.keys.grant) ≡ Some st → IsRoot grant (newest_of v) st
    by zero e = same-store (IsRoot grant (newest_of v)) (first_store v.keys.grant) st e (subst (IsRoot grant (newest_of v)) newest (record { sound = sound; grown = stays-grown (newest_of v) }))
    by (suc n) e = cc
