-- A book once an event that was due has landed.
use Rattle.std.proofs.lemmas.List.{get_or_default}
use Rattle.std.proofs.Common.{◌≡◌, ℕ, Bool, true, false, List, length, get_or, set, Option, Some, None, refl, sym, ap, ◌∙◌, subst, inl, inr, arith}
use Rattle.std.specs.Prelude.{◌⊎◌, ◌<◌, ◌^◌, Contains, IfSome, if◌then◌else◌}
use Rattle.std.specs.List.Sorted.{IsStrictlyIncreasing}
use Rattle.std.specs.Result.{result_ok}
use Rattle.job_deeds.specs.graph_match.Allotment.{Allotment}
use Rattle.job_deeds.proofs.graph_match_proofs.Holds.{rise_of}
use Rattle.job_deeds.proofs.graph_match_proofs.Named.{names_within}
use Rattle.job_deeds.proofs.job_rules_proofs.Among.{Among, among_from, among_mapped, contains_from, distinct_rising, each_at, same_image}
use Rattle.job_deeds.proofs.job_rules_proofs.Lying.{read_is}
use Rattle.job_deeds.specs.job_spec.Sound.{IsSpec}
use Rattle.job_deeds.specs.job_states.Changes.{change_of}
use Rattle.job_deeds.specs.job_states.Table.{made}
use Rattle.job_deeds.specs.job_states.declared.job.Job.{Job}
use Rattle.job_deeds.specs.resource_set.Reading.{told}
use Rattle.job_deeds.specs.resource_set.Units.{AreHosts}
use Rattle.job_deeds.specs.resource_set.Valid.{IsR}
use Rattle.job_deeds.specs.resource_set.Writing.{r_text}
use Rattle.job_deeds.specs.resource_set.declared.node.Resources.{Resources}
use Rattle.job_deeds.specs.tap.declared.Ask.{Ask}
use Rattle.job_deeds.specs.manager_rules.declared.asked.Asked.{Asked}
use Rattle.job_deeds.specs.manager_rules.declared.due.Due.{Due}
use Rattle.job_deeds.specs.manager_rules.Dependencies.{is_inactive, job_at}
use Rattle.job_deeds.specs.manager_rules.Deeds.{Deed, Validates, Adds, Removes, Loses, Depends, Restarts, Prioritizes, NeverFits, Takes, Starts, Finishes, Expires, Stops, Releases, Frees, Cleans, Carries, change_by, due_of, r_given}
use Rattle.job_deeds.specs.manager_rules.declared.terms.Limits.{Limits}
use Rattle.job_deeds.specs.manager_rules.Due.{MayDo}
use Rattle.job_deeds.specs.manager_rules.Jobs.{StoredJob, ids_of, is_live}
use Rattle.job_deeds.specs.manager_rules.Posts.{event_done, held_after, r_after, with_event}
use Rattle.job_deeds.specs.manager_rules.Scene.{IsScene}
use Rattle.job_deeds.specs.manager_rules.Sound.{HoldsInTime, holds_of}
use Rattle.job_deeds.proofs.manager_rules_proofs.Allowed.{due_is_allowed}
use Rattle.job_deeds.proofs.manager_rules_proofs.Landing.{with_event_ids}
use Rattle.job_deeds.proofs.manager_rules_proofs.Soundness.{stays_in_time, stays_sound}
use Rattle.job_book.specs.Active.{AreActive, AreEntriesOf, IsEntryOf, follow_with, is_active}
use Rattle.job_book.specs.declared.active.Active.{Active}
use Rattle.job_book.specs.Contract.{WasDue, after_event}
use Rattle.job_book.specs.Kept.{IsBook, allotted}
use Rattle.job_deeds.specs.Waiting.{IsRanked, rank_of, waits_with}
use Rattle.job_deeds.specs.Landing.{CanHold, CanLand, IsNext, IsTold, given_by, given_in, held_by, held_with, holding_with, job_with}
use Rattle.job_book.specs.Value.{BookValue, scene_of}
use Rattle.job_deeds.specs.declared.landing.Held.{Held}
use Rattle.job_deeds.specs.declared.landing.Held.TheVariants.{AsBefore, Nothing, Given}
use Rattle.job_deeds.specs.declared.landing.Next.{Next}
use Rattle.job_book.proofs.Actives.{active_after, due_active, entries_after}
use Rattle.job_book.proofs.Queues.{job_among}
use Rattle.job_deeds.proofs.Stepping.{after_ranked, done_is, each_after, holds_kept, holds_less, holds_more, not_held, set_is}

-- an alloc alone gives resources
gives : (deed : Deed) → (r_given deed ≡ None) ⊎ ((r : Resources) × (deed ≡ Takes r))
gives (Takes r) = inr (r, refl)
gives Validates = inl refl
gives (Adds need) = inl refl
gives (Removes need) = inl refl
gives (Loses need) = inl refl
gives Depends = inl refl
gives Restarts = inl refl
gives (Prioritizes priority) = inl refl
gives NeverFits = inl refl
gives Starts = inl refl
gives (Finishes status) = inl refl
gives Expires = inl refl
gives Stops = inl refl
gives Releases = inl refl
gives Frees = inl refl
gives Cleans = inl refl
gives (Carries asked) = inl refl

module _ (book : BookValue) (g : Allotment) (is : IsBook book g) (now : ℕ) (asked : List Asked) (answer : Ask → ℕ) (limits : Limits) (scene : IsScene (scene_of book now asked answer limits)) (j : StoredJob) (known : Contains book.jobs j) where
  here : Among j book.jobs
  here = among_from book.jobs j known

  valid : IfSome j.r IsR
  valid = each_at (λ k. IfSome k.r IsR) book.jobs j is.kept.held here

  hosts : IfSome j.r (λ r. AreHosts r.nodes)
  hosts = of j.r valid
    where
      of : (o : Option Resources) → IfSome o IsR → IfSome o (λ r. AreHosts r.nodes)
      of None h = tt
      of (Some r) h = h.hosts

  own : HoldsInTime j
  own = each_at HoldsInTime book.jobs j is.in_time.each here

  -- a job that takes units has none
  unheld : (r : Resources) → MayDo (scene_of book now asked answer limits) j (Takes r) → j.r ≡ None
  unheld r m = let u = own.early (rw m.0 refl) in own.none (rw u.allocated refl)

  -- units that are taken are valid resources
  taken : (r : Resources) → MayDo (scene_of book now asked answer limits) j (Takes r) → IsR r
  taken r m = record { hosts = m.2.free.hosts; named = names_within book.grant.nodes (holds_of book.jobs) r.nodes is.kept.grant.named m.2.free.inside }

  module _ (deed : Deed) (m : MayDo (scene_of book now asked answer limits) j deed) where
    text_told : IfSome (r_given deed) IsTold
    text_told = elim (gives deed) [
      | inl none ↦ subst (λ o. IfSome o IsTold) (sym none) tt
      | inr hit ↦ subst (λ d. IfSome (r_given d) IsTold) (sym hit.1) (let may = subst (λ d. MayDo (scene_of book now asked answer limits) j d) hit.1 m in (hit.0, may.2.written))
    ]

    lands : CanLand j (due_of now j deed)
    lands = record {
      next = made (change_by deed) j.job;
      steps = due_is_allowed (scene_of book now asked answer limits) j deed 0 scene hosts m;
      told = text_told;
    }

    -- what is held afterwards
    plain : (o : Option (List ℕ)) → o ≡ None → (b : Bool) → CanHold (allotted book) j.id (if b then given_by o else Nothing)
    plain None e true = tt
    plain None e false = tt
    plain (Some text) e b = cc

    given_held : (r : Resources) → MayDo (scene_of book now asked answer limits) j (Takes r) → (b : Bool) → CanHold (allotted book) j.id (if b then given_in (told (r_text r)) else Nothing)
    given_held r may false = tt
    given_held r may true = subst (λ x. CanHold (allotted book) j.id (given_in x)) (sym may.2.written) (may.2.free, not_held book.jobs j is.kept.rising here (unheld r may))

    holds : (job : Job) → CanHold (allotted book) j.id (held_by (due_of now j deed) job)
    holds job = elim (gives deed) [
      | inl none ↦ plain (r_given deed) none (is_live job)
      | inr hit ↦ subst (λ d. CanHold (allotted book) j.id (held_by (due_of now j d) job)) (sym hit.1) (given_held hit.0 (subst (λ d. MayDo (scene_of book now asked answer limits) j d) hit.1 m) (is_live job))
    ]

    -- where resources are given, the job had none
    none_given : (o : Option (List ℕ)) → o ≡ None → (b : Bool) (r : Resources) → (if b then given_by o else Nothing) ≡ Given r → ⊥
    none_given None e true r f = cc
    none_given None e false r f = cc
    none_given (Some text) e b r f = cc

    had_none : (job : Job) (r : Resources) → held_by (due_of now j deed) job ≡ Given r → j.r ≡ None
    had_none job r e = elim (gives deed) [
      | inl none ↦ absurd (none_given (r_given deed) none (is_live job) r e)
      | inr hit ↦ unheld hit.0 (subst (λ d. MayDo (scene_of book now asked answer limits) j d) hit.1 m)
    ]

    -- its resources are valid
    valid_after : (job : Job) → IfSome (held_after (due_of now j deed) job j.r) IsR
    valid_after job = elim (gives deed) [
      | inl none ↦ kept (r_given deed) none (is_live job)
      | inr hit ↦ subst (λ d. IfSome (held_after (due_of now j d) job j.r) IsR) (sym hit.1) (given hit.0 (subst (λ d. MayDo (scene_of book now asked answer limits) j d) hit.1 m) (is_live job))
    ]
      where
        kept : (o : Option (List ℕ)) → o ≡ None → (b : Bool) → IfSome (if b then r_after o j.r else None) IsR
        kept None e true = valid
        kept None e false = tt
        kept (Some text) e b = cc

        given : (r : Resources) → MayDo (scene_of book now asked answer limits) j (Takes r) → (b : Bool) → IfSome (if b then result_ok (told (r_text r)) else None) IsR
        given r may false = tt
        given r may true = subst (λ x. IfSome (result_ok x) IsR) (sym may.2.written) (taken r may)

    graph_after : (h : Held) → (event_done (due_of now j deed) j).r ≡ held_with h j.r → ((r : Resources) → h ≡ Given r → j.r ≡ None) → holding_with (allotted book) j.id h ≡ allotted (after_event (due_of now j deed) book)
    graph_after h e had = by h e had
      where
        one : (k : StoredJob) → Among k book.jobs → k.id ≡ j.id → j ≡ k
        one k i e = same_image (λ x. x.id) book.jobs j k (distinct_rising (ids_of book.jobs) is.kept.rising) here i (sym e)

        by : (h : Held) → (event_done (due_of now j deed) j).r ≡ held_with h j.r → ((r : Resources) → h ≡ Given r → j.r ≡ None) → holding_with (allotted book) j.id h ≡ allotted (after_event (due_of now j deed) book)
        by AsBefore e had = ap (λ hs. record { grant = book.grant.nodes; expiration = book.grant.expiration; live = hs }) (sym (holds_kept (due_of now j deed) book.jobs (λ k i same. subst (λ x. (event_done (due_of now j deed) x).r ≡ x.r) (one k i same) e)))
        by Nothing e had = ap (λ hs. record { grant = book.grant.nodes; expiration = book.grant.expiration; live = hs }) (sym (holds_less (due_of now j deed) book.jobs (λ k i same. subst (λ x. (event_done (due_of now j deed) x).r ≡ None) (one k i same) e)))
        by (Given r) e had = ap (λ hs. record { grant = book.grant.nodes; expiration = book.grant.expiration; live = hs }) (sym (holds_more (due_of now j deed) r book.jobs j is.kept.rising here refl (had r refl) e))

    after : (next : Next) → IsNext j (due_of now j deed) next → IsBook (after_event (due_of now j deed) book) (holding_with g j.id next.held)
    after next n =
        let rising : IsStrictlyIncreasing (ids_of (with_event (due_of now j deed) book.jobs)) = subst IsStrictlyIncreasing (sym (with_event_ids (due_of now j deed) book.jobs)) is.kept.rising in
        let spec = read_is j.spec (each_at (λ k. IsSpec k.spec) book.jobs j is.kept.specs here) in
        let r : (event_done (due_of now j deed) j).r ≡ held_with next.held j.r = ap (λ x. x.r) (sym (done_is j (due_of now j deed) next n)) in
        record {
          kept = record {
            grant = is.kept.grant;
            sets = is.kept.sets;
            rising = rising;
            small = each_after (λ k. k.id < 2 ^ 64) (due_of now j deed) book.jobs is.kept.small (λ k i e. each_at (λ k. k.id < 2 ^ 64) book.jobs k is.kept.small i);
            specs = each_after (λ k. IsSpec k.spec) (due_of now j deed) book.jobs is.kept.specs (λ k i e. each_at (λ k. IsSpec k.spec) book.jobs k is.kept.specs i);
            held = each_after (λ k. IfSome k.r IsR) (due_of now j deed) book.jobs is.kept.held (λ k i e.
                let same : j ≡ k = same_image (λ x. x.id) book.jobs j k (distinct_rising (ids_of book.jobs) is.kept.rising) here i (sym e) in
                subst (λ x. IfSome (event_done (due_of now j deed) x).r IsR) same (valid_after (event_done (due_of now j deed) j).job));
            sound = stays_sound (scene_of book now asked answer limits) scene is.in_time is.kept.sound is.kept.sets j known deed m spec;
          };
          in_time = stays_in_time (scene_of book now asked answer limits) scene is.in_time is.kept.sound is.kept.sets j known deed m spec;
          ranked = each_after IsRanked (due_of now j deed) book.jobs is.ranked (λ k i e. after_ranked (change_of (due_of now j deed).event) k.job (each_at IsRanked book.jobs k is.ranked i));
          graph = ap (λ a. holding_with a j.id next.held) is.graph ∙ graph_after next.held r (λ r e. had_none next.job r (sym n.held ∙ e));
        }

-- ---- as a book has it

module _ (book : BookValue) (g : Allotment) (is : IsBook book g) (due : Due) (was : WasDue book due) where
  named : was.is.j.id ≡ due.job
  named = sym (ap (λ d. d.job) was.is.is)

  own_job : Among was.is.j book.jobs
  own_job = among_from book.jobs was.is.j was.is.known

  -- its job is one of the book
  pub known_in : Contains (ids_of book.jobs) due.job
  known_in = contains_from (ids_of book.jobs) due.job (subst (λ n. Among n (ids_of book.jobs)) named (among_mapped (λ k. k.id) book.jobs was.is.j own_job))

  the_job : (k : StoredJob) → Among k book.jobs → k.id ≡ due.job → was.is.j ≡ k
  the_job k i e = same_image (λ x. x.id) book.jobs was.is.j k (distinct_rising (ids_of book.jobs) is.kept.rising) own_job i (named ∙ sym e)

  can_land : (k : StoredJob) → Among k book.jobs → k.id ≡ due.job → CanLand k due
  can_land k i e = subst (λ x. CanLand x due) (the_job k i e) (subst (CanLand was.is.j) (sym was.is.is) (lands book g is was.now was.asked was.answer was.limits was.scene was.is.j was.is.known was.is.deed was.is.may))

  can_hold : (k : StoredJob) → Among k book.jobs → k.id ≡ due.job → (next : Next) → IsNext k due next → CanHold g due.job next.held
  can_hold k i e next n =
      let all : CanHold (allotted book) was.is.j.id (held_by (due_of was.now was.is.j was.is.deed) next.job) = holds book g is was.now was.asked was.answer was.limits was.scene was.is.j was.is.known was.is.deed was.is.may next.job in
      let by_due : CanHold (allotted book) due.job (held_by due next.job) = subst (λ d. CanHold (allotted book) d.job (held_by d next.job)) (sym was.is.is) all in
      subst (λ a. CanHold a due.job next.held) (sym is.graph) (subst (CanHold (allotted book) due.job) (sym n.held) by_due)

  book_after : (k : StoredJob) → Among k book.jobs → k.id ≡ due.job → (next : Next) → IsNext k due next → IsBook (after_event due book) (holding_with g due.job next.held)
  book_after k i e next n =
      let own_next : IsNext was.is.j (due_of was.now was.is.j was.is.deed) next = subst (λ d. IsNext was.is.j d next) was.is.is (subst (λ x. IsNext x due next) (sym (the_job k i e)) n) in
      subst (λ d. IsBook (after_event d book) (holding_with g d.job next.held)) (sym was.is.is) (after book g is was.now was.asked was.answer was.limits was.scene was.is.j was.is.known was.is.deed was.is.may next own_next)

  -- the job at its place
  at_place : (at : ℕ) (d : StoredJob) → at < length book.jobs → (get_or book.jobs at d).id ≡ due.job → Among (get_or book.jobs at d) book.jobs
  at_place at d w e = among_from book.jobs (get_or book.jobs at d) (at, w, get_or_default book.jobs at (get_or book.jobs at d) d w)

  jobs_are : (at : ℕ) (d : StoredJob) (next : Next) → at < length book.jobs → (get_or book.jobs at d).id ≡ due.job → IsNext (get_or book.jobs at d) due next → set book.jobs at (job_with next (get_or book.jobs at d)) ≡ with_event due book.jobs
  jobs_are at d next w e n = ap (set book.jobs at) (done_is (get_or book.jobs at d) due next n) ∙ set_is due book.jobs at d is.kept.rising w e

-- ---- the job that is read at its place

pub record IsRead (book : BookValue) (g : Allotment) (due : Due) (at : ℕ) (j : StoredJob) : Type 0 where
  pub is : IsBook book g
  pub was : WasDue book due
  pub within : at < length book.jobs
  pub named : (get_or book.jobs at j).id ≡ due.job
  pub read : j ≡ get_or book.jobs at j

module _ {book : BookValue} {g : Allotment} {due : Due} {at : ℕ} {j : StoredJob} (r : IsRead book g due at j) where
  there : Among j book.jobs
  there = subst (λ k. Among k book.jobs) (sym r.read) (at_place book g r.is due r.was at j r.within r.named)

  named_so : j.id ≡ due.job
  named_so = ap (λ k. k.id) r.read ∙ r.named

  pub read_job : job_at book.jobs due.job ≡ Some j
  read_job = subst (λ n. job_at book.jobs n ≡ Some j) named_so (job_among 0 book.jobs (rise_of 0 (ids_of book.jobs) (λ w. omega arith) r.is.kept.rising) j there)

  pub read_land : CanLand j due
  read_land = can_land book g r.is due r.was j there named_so

  module _ (next : Next) (n : IsNext j due next) where
    pub read_hold : CanHold g due.job next.held
    read_hold = can_hold book g r.is due r.was j there named_so next n

    pub read_after : IsBook (after_event due book) (holding_with g due.job next.held)
    read_after = book_after book g r.is due r.was j there named_so next n

    pub read_rank : waits_with (event_done due j) ≡ rank_of next.job
    read_rank = sym (ap waits_with (done_is j due next n))

    pub read_jobs : set book.jobs at (job_with next (get_or book.jobs at j)) ≡ with_event due book.jobs
    read_jobs = jobs_are book g r.is due r.was at j next r.within r.named (subst (λ k. IsNext k due next) r.read n)

    pub read_active : (old new : List Active) (entry : Active) → AreActive book.jobs old → entry.id ≡ j.id → new ≡ follow_with entry (is_inactive next.job) old → AreActive (with_event due book.jobs) new
    read_active old new entry are its follows =
        let mine = the_job book g r.is due r.was j there named_so in
        active_after due book.jobs old new entry j (its ∙ named_so) are (λ k i e. sym mine ∙ the_job book g r.is due r.was k i e)
        (subst (λ k. is_active k ≡ true) mine (due_active (scene_of book r.was.now r.was.asked r.was.answer r.was.limits) r.was.is.j r.was.is.deed r.was.is.may))
        (follows ∙ ap (λ k. follow_with entry (is_inactive k.job) old) (done_is j due next n))

    pub read_entries : (old new : List Active) (entry : Active) → AreEntriesOf book.jobs old → entry.id ≡ j.id → IsEntryOf (job_with next j) entry → new ≡ follow_with entry (is_inactive next.job) old → AreEntriesOf (with_event due book.jobs) new
    read_entries old new entry entries its is follows =
        let mine = the_job book g r.is due r.was j there named_so in
        entries_after due book.jobs old new entry (is_inactive next.job) (its ∙ named_so) entries
        (λ x i e. subst (λ k. IsEntryOf (event_done due k) entry) (sym mine ∙ the_job book g r.is due r.was x i e) (subst (λ k. IsEntryOf k entry) (done_is j due next n) is))
        follows
