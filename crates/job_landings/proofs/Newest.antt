-- The jobs of the newest store of `primary`, through events at which users' transactions land.
use Rattle.std.proofs.Common.{◌≡◌, ℕ, suc, inl, inr, List, [], ◌∷◌, ◌++◌, length, map, Bool, true, false, Option, Some, None, Result, Ok, Err, unwrap_or, refl, sym, ap, ap₂, ◌∙◌, subst, arith, append_assoc, append-nil, cond, bytes_eq}
use Rattle.std.specs.Prelude.{option_and_then}
use Rattle.std.specs.List.{AllByRecursion as Each, cons_option}
use Rattle.std.proofs.lemmas.List.{length-append}
use Rattle.kvs_keys.specs.Posted.{LandsUsers}
use Rattle.kvs_model.specs.History.{after, after_groups, landed_on}
use Rattle.kvs_model.specs.Operation.{effect}
use Rattle.kvs_model.specs.Store.{Store}
use Rattle.kvs_rules.proofs.Logs.{along, landed_push, number_or_not, own_number}
use Rattle.kvs_rules.proofs.Stores.{after_push, landings_push}
use Rattle.kvs_rules.specs.Answers.{IsLegalAfter, IsLegalEvent, IsLegalLog, IsLegalMoment}
use Rattle.kvs_rules.specs.Landings.{IsAdvance, IsLegalLanding, IsUser}
use Rattle.kvs_rules.specs.Log.{Asked, Happened, Log, Moment, Resumed}
use Rattle.kvs_rules.specs.Namespaces.{Setting, above_first, groups_landed, landed, landings, newest_store, number_landed, primary, store_after}
use Rattle.kvs_rules.specs.declared.events.KvsEvent.{KvsEvent}
use Rattle.kvs_rules.specs.declared.events.KvsEvent.TheVariants as event
use Rattle.kvs_txn.specs.declared.answers.Refusal.{Refusal}
use Rattle.kvs_txn.specs.declared.txn.Author.{Author}
use Rattle.kvs_txn.specs.declared.txn.Author.TheVariants as author
use Rattle.kvs_txn.specs.declared.txn.By.{By}
use Rattle.kvs_txn.specs.declared.txn.Group.{Group}
use Rattle.kvs_txn.specs.declared.txn.Scope.TheVariants as scope
use Rattle.manager_rules.proofs.Stores.{users_leave_jobs}
use Rattle.manager_rules.specs.Jobs.{AreJobsOf, StoredJob}
use Rattle.store_laws.specs.Reserved.{IsUserAuthor}

pub same_one : (x y : Store) → Some x ≡ Some y → x ≡ y
same_one x y e = cc

-- ---- as many landings are counted as there are

no_groups : (m : Moment) → number_landed primary m ≡ None → groups_landed primary m ≡ None
no_groups (Asked by floors) e = refl
no_groups (Resumed number) e = refl
no_groups (Happened (event.Landed other number authors [])) e = refl
no_groups (Happened (event.Landed other number authors (g ∷ gs))) e = apart (bytes_eq primary other) e
  where
    apart : (b : Bool) → cond b (Some number) None ≡ None → cond b (Some (g ∷ gs)) None ≡ None
    apart true e = cc
    apart false e = refl
no_groups (Happened (event.Denied space authors group refusal)) e = refl
no_groups (Happened (event.Heard broker space number)) e = refl
no_groups (Happened (event.Got broker reference)) e = refl
no_groups (Happened (event.Dropped broker reference)) e = refl
no_groups (Happened (event.Answered by number given)) e = refl

number_same : (log : Log) (m : Moment) → number_landed primary m ≡ None → landed (log ++ m ∷ []) primary ≡ landed log primary
number_same log m e = landed_push log m primary ∙ ap (λ o. unwrap_or o (landed log primary)) e

landings_same : (log : Log) (m : Moment) → number_landed primary m ≡ None → landings (log ++ m ∷ []) primary ≡ landings log primary
landings_same log m e = landings_push log m primary ∙ ap (λ o. landings log primary ++ cons_option o []) (no_groups m e) ∙ append-nil _

module _ (set : Setting) (none : set.base.number ≡ 0) where
  -- the store of `primary` at a number is that after so many landings
  newest_is : (log : Log) (number : ℕ) → store_after set log primary number ≡ after scope.Primary (landings log primary) number set.base.store
  newest_is log number = ap (λ k. option_and_then (λ count. after scope.Primary (landings log primary) count set.base.store) (above_first k number)) none

  -- a landing in `primary` is an advance
  pub advances : (log : Log) (number : ℕ) (authors : List (Option By)) (groups : List Group) → IsLegalLanding set log primary number authors groups → IsAdvance set log primary number authors groups
  advances log number authors groups legal = elim legal.form [
    | inl o ↦ let e : true ≡ false = o.unused in cc
    | inr more ↦ elim more [
      | inl r ↦ let e : true ≡ false = r.other in cc
      | inr a ↦ a
    ]
  ]

  abbrev IsCounted : Log → Type 0
  IsCounted log = landed log primary ≡ length (landings log primary)

  number_next : (log : Log) (number : ℕ) (authors : List (Option By)) (groups : List Group) → IsCounted log → IsAdvance set log primary number authors groups
      → landed (log ++ Happened (event.Landed primary number authors groups) ∷ []) primary ≡ suc (length (landings log primary))
  number_next log number authors groups h a =
      landed_push log (Happened (event.Landed primary number authors groups)) primary
      ∙ ap (λ o. unwrap_or o (landed log primary)) (own_number primary number authors groups) ∙ a.next ∙ ap suc h

  counted_next : (log : Log) (number : ℕ) (authors : List (Option By)) (groups : List Group) → IsCounted log → IsAdvance set log primary number authors groups
      → IsCounted (log ++ Happened (event.Landed primary number authors groups) ∷ [])
  counted_next log number authors [] h a = absurd (a.some refl)
  counted_next log number authors (g ∷ gs) h a =
      let ls = landings log primary in
      let m : Moment = Happened (event.Landed primary number authors (g ∷ gs)) in
      let more : landings (log ++ m ∷ []) primary ≡ ls ++ (g ∷ gs) ∷ [] = landings_push log m primary in
      let long : length (ls ++ (g ∷ gs) ∷ []) ≡ suc (length ls) = length-append ls ((g ∷ gs) ∷ []) ∙ (omega arith) in
      number_next log number authors (g ∷ gs) h a ∙ sym long ∙ ap length (sym more)

  resumed_counts : (log : Log) (number : ℕ) → log ≡ [] → number ≡ set.base.number → IsCounted (log ++ Resumed number ∷ [])
  resumed_counts log number first is = subst (λ l. IsCounted (l ++ Resumed number ∷ [])) (sym first) (is ∙ none)

  counted_push : (log : Log) (m : Moment) → IsLegalLog set log → IsLegalMoment set log m → IsCounted log → IsCounted (log ++ m ∷ [])
  counted_push log m before legal h = elim (number_or_not primary m) [
    | inl none ↦ number_same log m none ∙ h ∙ ap length (sym (landings_same log m none))
    | inr (inl l) ↦ subst (λ x. IsCounted (log ++ x ∷ [])) (sym l.is) (counted_next log l.number l.authors l.groups h (advances log l.number l.authors l.groups (subst (IsLegalMoment set log) l.is legal)))
    | inr (inr r) ↦
        let first : IsLegalMoment set log (Resumed r.number) = subst (IsLegalMoment set log) r.is legal in
        subst (λ x. IsCounted (log ++ x ∷ [])) (sym r.is) (resumed_counts log r.number first.0 first.1)
  ]

  counted : (log : Log) → IsLegalLog set log → IsCounted log
  counted log legal = along set IsCounted counted_push [] log tt legal refl

  -- ---- the jobs of the newest store

  pub record HasJobs (jobs : List StoredJob) (log : Log) : Type 0 where
    pub counted : IsCounted log
    pub store : Store
    pub stands : newest_store set log primary ≡ Some store
    pub are : AreJobsOf store jobs

  pub has_jobs : (jobs : List StoredJob) (log : Log) (st : Store) → IsLegalLog set log → newest_store set log primary ≡ Some st → AreJobsOf st jobs → HasJobs jobs log
  has_jobs jobs log st legal stands are = record { counted = counted log legal; store = st; stands = stands; are = are }

  passes : (jobs : List StoredJob) (log : Log) (m : Moment) → number_landed primary m ≡ None → HasJobs jobs log → HasJobs jobs (log ++ m ∷ [])
  passes jobs log m e h = record {
    counted = number_same log m e ∙ h.counted ∙ ap length (sym (landings_same log m e));
    store = h.store;
    stands = newest_is (log ++ m ∷ []) (landed (log ++ m ∷ []) primary)
        ∙ ap₂ (λ ls k. after scope.Primary ls k set.base.store) (landings_same log m e) (number_same log m e)
        ∙ sym (newest_is log (landed log primary)) ∙ h.stands;
    are = h.are;
  }

  as_user : (who : Author) → IsUser who → IsUserAuthor who
  as_user (author.User id) h = tt
  as_user author.Manager h = h

  groups_leave : (jobs : List StoredJob) (groups : List Group) (st new : Store) → Each (λ group. IsUser group.txn.author) groups → AreJobsOf st jobs → after_groups scope.Primary groups st ≡ Some new → AreJobsOf new jobs
  groups_leave jobs [] st new users are made = subst (λ s. AreJobsOf s jobs) (same_one st new made) are
  groups_leave jobs (g ∷ gs) st new users are made = on (effect st g.txn scope.Primary) refl (λ mid more f. groups_leave jobs gs mid new users.1 more f) made
    where
      on : (r : Result Store Refusal) → effect st g.txn scope.Primary ≡ r → ((mid : Store) → AreJobsOf mid jobs → after_groups scope.Primary gs mid ≡ Some new → AreJobsOf new jobs)
          → option_and_then (λ mid. after_groups scope.Primary gs mid) (landed_on r) ≡ Some new → AreJobsOf new jobs
      on (Ok mid) e more f = more mid (users_leave_jobs st mid g.txn jobs (as_user g.txn.author users.0) e are) f
      on (Err why) e more f = cc

  advanced : (jobs : List StoredJob) (log : Log) (number : ℕ) (authors : List (Option By)) (groups : List Group) → Each (λ group. IsUser group.txn.author) groups → HasJobs jobs log → IsAdvance set log primary number authors groups
      → HasJobs jobs (log ++ Happened (event.Landed primary number authors groups) ∷ [])
  advanced jobs log number authors [] users h a = absurd (a.some refl)
  advanced jobs log number authors (g ∷ gs) users h a =
      let m : Moment = Happened (event.Landed primary number authors (g ∷ gs)) in
      let ls = landings log primary in
      let more : landings (log ++ m ∷ []) primary ≡ ls ++ (g ∷ gs) ∷ [] = landings_push log m primary in
      let old : h.store ≡ a.old = same_one h.store a.old (sym h.stands ∙ a.standing) in
      let stood : after scope.Primary ls (length ls) set.base.store ≡ Some h.store = ap (λ k. after scope.Primary ls k set.base.store) (sym h.counted) ∙ sym (newest_is log (landed log primary)) ∙ h.stands in
      let made : after_groups scope.Primary (g ∷ gs) h.store ≡ Some a.new = ap (after_groups scope.Primary (g ∷ gs)) old ∙ a.made in
      record {
        counted = counted_next log number authors (g ∷ gs) h.counted a;
        store = a.new;
        stands = newest_is (log ++ m ∷ []) (landed (log ++ m ∷ []) primary)
            ∙ ap₂ (λ l k. after scope.Primary l k set.base.store) more (number_next log number authors (g ∷ gs) h.counted a)
            ∙ after_push scope.Primary ls (g ∷ gs) set.base.store h.store stood ∙ made;
        are = groups_leave jobs (g ∷ gs) h.store a.new users h.are made;
      }

  event_lands : (e : KvsEvent) (number : ℕ) (authors : List (Option By)) (groups : List Group) → Happened e ≡ Happened (event.Landed primary number authors groups) → e ≡ event.Landed primary number authors groups
  event_lands e number authors groups is = cc

  event_leaves : (jobs : List StoredJob) (log : Log) (e : KvsEvent) → LandsUsers e → IsLegalEvent set log e → HasJobs jobs log → HasJobs jobs (log ++ Happened e ∷ [])
  event_leaves jobs log e users legal h = elim (number_or_not primary (Happened e)) [
    | inl none ↦ passes jobs log (Happened e) none h
    | inr (inr r) ↦ let e : Happened e ≡ Resumed r.number = r.is in absurd (cc)
    | inr (inl l) ↦
        let is = event_lands e l.number l.authors l.groups l.is in
        subst (λ x. HasJobs jobs (log ++ x ∷ [])) (sym l.is)
        (advanced jobs log l.number l.authors l.groups (subst LandsUsers is users) h (advances log l.number l.authors l.groups (subst (IsLegalEvent set log) is legal)))
  ]

  pub users_leave : (jobs : List StoredJob) (es : List KvsEvent) (log : Log) → Each LandsUsers es → IsLegalAfter set log (map Happened es) → HasJobs jobs log → HasJobs jobs (log ++ map Happened es)
  users_leave jobs [] log users legal h = subst (HasJobs jobs) (sym (append-nil log)) h
  users_leave jobs (e ∷ es) log users legal h =
      subst (HasJobs jobs) (append_assoc log (Happened e ∷ []) (map Happened es))
      (users_leave jobs es (log ++ Happened e ∷ []) users.1 legal.1 (event_leaves jobs log e users.0 legal.0 h))
