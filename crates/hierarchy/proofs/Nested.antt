-- Each living child lies in the resources of a job of its living parent.
use Rattle.std.proofs.Common.{◌≡◌, ℕ, ◌<◌, ◌^◌, ◌==◌, ◌⊎◌, inl, inr, List, [], ◌∷◌, ◌++◌, Bool, true, false, cond, ◌||◌, Option, Some, None, is_some, option_map, map, unwrap_or, refl, sym, ap, ◌∙◌, subst, append-nil, append_assoc, true≢false}
use Rattle.std.specs.Prelude.{Contains, filter, find, if◌then◌else◌}
use Rattle.kvs_txn.specs.declared.txn.By.{By}
use Rattle.kvs_rules.specs.Log as service
use Rattle.std.specs.Option.{option_map_or, option_or}
use Rattle.std.specs.List.{cons_option}
use Rattle.std.proofs.lemmas.Bool.{eq-eqb, eqb-true}
use Rattle.std.proofs.lemmas.List.Folds.{find-append}
use Rattle.child_grant.specs.Child.{numbered}
use Rattle.child_grant.proofs.Numbered.{units-numbered}
use Rattle.job_rules.proofs.Among.{Among, among_from, among_kept, among_mapped, contains_from, distinct_rising, each_at, same_image}
use Rattle.job_states.specs.declared.job.State.TheVariants as state
use Rattle.kvs_rules.specs.Namespaces.{newest_store, primary}
use Rattle.kvs_rules.specs.Sequence.{EachAfter}
use Rattle.kvs_rules.proofs.Sequences.{each_along, each_parts}
use Rattle.manager_rules.specs.Jobs.{AreJobsOf, IsStored, ids_of}
use Rattle.manager_rules.specs.Times.{IsBirthDue}
use Rattle.manager_rules.proofs.Unique.{jobs_are_one}
use Rattle.resource_set.specs.Units.{units_of}
use Rattle.resource_set.specs.declared.node.Resources.{Resources}
use Rattle.workload.specs.declared.work.Workload.{Workload}
use Rattle.instance_rules.specs.Family.{AreNested, IsNestedAs, LiesIn, Living, OfLiving, below, itself}
use Rattle.instance_rules.specs.Log.{Born, Fed, IsInstance, Issued, JobReply, Moment, Replied, Served, Ticked, child_of}
use Rattle.answers.specs.Chronicle.{Setup, top}
use Rattle.answers.specs.Jobs.{happening_of, happenings_after, instance_of, job_ask_at, job_reply_of, log_in, second_of}
use Rattle.answers.specs.Services.{moment_of}
use Rattle.answers.specs.Legal.{IsLegal, IsLegalEntry}
use Rattle.answers.specs.declared.chronicle.Entry.{Entry}
use Rattle.answers.specs.declared.chronicle.Entry.TheVariants as entry
use Rattle.run_laws.specs.Times.{KeepsTime}
use Rattle.run_laws.proofs.Children.{child_push, served_untold, told_by}
use Rattle.run_laws.proofs.Newest.{same_one}
use Rattle.run_laws.proofs.Sounds.{stay_sound}
use Rattle.hierarchy.specs.Births.{Birth, birth_in, birth_of, births, ends, is_at, is_birth_of, is_born, label_of, lives, numbers}
use Rattle.workload.specs.declared.work.Actor.{Actor}
use Rattle.hierarchy.specs.Families.{family_of, living_in}
use Rattle.hierarchy.specs.Legal.{IsGrantFor, IsLegalBirth, IsLegalEnd, IsLegalRun, IsLegalRunEntry, is_end}
use Rattle.hierarchy.specs.Laws.{IsKept}
use Rattle.hierarchy.specs.Own.{begins, child_setup, only_if, own_entry, own_of, setup_in, work_for}
use Rattle.hierarchy.proofs.Holding.{HoldsAt, child_asked, entry_holds}
use Rattle.hierarchy.proofs.Members.{member, member_lives}
use Rattle.hierarchy.proofs.Owning.{alive, birth_kept, births_push, lived, lives_on, own_push, setup_kept}
use Rattle.hierarchy.proofs.Sound.{kept_before, unserved}
use Rattle.hierarchy.proofs.Units.{HoldsFor, replayed_unreleased}

-- ---- logs of children

cons_joined : {A : Type 0} (o : Option A) (xs ys : List A) → cons_option o xs ++ ys ≡ cons_option o (xs ++ ys)
cons_joined None xs ys = refl
cons_joined (Some x) xs ys = refl

pub happenings_joined : (work : Workload) (c xs ys : List Entry) → happenings_after work c (xs ++ ys) ≡ happenings_after work c xs ++ happenings_after work (c ++ xs) ys
happenings_joined work c [] ys = ap (λ b. happenings_after work b ys) (sym (append-nil c))
happenings_joined work c (x ∷ xs) ys =
    ap (cons_option (happening_of work c x)) (happenings_joined work (c ++ x ∷ []) xs ys ∙ ap (λ b. happenings_after work (c ++ x ∷ []) xs ++ happenings_after work b ys) (append_assoc c (x ∷ []) xs))
    ∙ sym (cons_joined (happening_of work c x) _ _)

pub happenings_push : (work : Workload) (c : List Entry) (e : Entry) → log_in work (c ++ e ∷ []) ≡ log_in work c ++ cons_option (happening_of work c e) []
happenings_push work c e = happenings_joined work [] c (e ∷ [])

-- what is told of a child where the moment is about its job
abbrev pub told_if : Bool → Option (Bool × Bool) → Option (Option (Bool × Bool))
told_if same told = if same then Some told else None

abbrev pub from_of : Option Birth → Option (ℕ × ℕ)
from_of o = option_map (λ b. (b.parent, b.job)) o

module _ (id : ℕ) where
  -- no moment but its end says that the child of the job doesn't live
  Says : Option Moment → Type 0
  Says o = (told_by id o ≡ None) ⊎ (told_by id o ≡ Some (Some (true, false)))

  served_says : (o : Option service.Moment) → Says (option_map Served o)
  unfolding Says
  served_says o = inl (served_untold id o)

  issued_says : (b : Bool) (by : By) (o : Option service.Moment) → Says (cond b (Some (Issued by)) (option_map Served o))
  unfolding Says
  issued_says true by o = inl refl
  issued_says false by o = inl (served_untold id o)

  replied_says : (by : By) (number : Option ℕ) (told : Option JobReply) (o : Option service.Moment) → Says (option_map_or (λ r. Some (Replied by r number)) told (option_map Served o))
  unfolding Says
  replied_says by number None o = inl (served_untold id o)
  replied_says by number (Some r) o = inl refl

  born_says : (b : Bool) (job : ℕ) → Says (cond b (Some (Born job)) None)
  unfolding Says
  born_says false job = inl refl
  born_says true job = by (id == job)
    where
      by : (t : Bool) → (told_if t (Some (true, false)) ≡ None) ⊎ (told_if t (Some (true, false)) ≡ Some (Some (true, false)))
      by true = inr refl
      by false = inl refl

  ticked_says : (second : ℕ) → Says (Some (Ticked second))
  unfolding Says
  ticked_says second = inl refl

  fed_says : (by : By) (number first count : ℕ) → Says (Some (Fed by number first count))
  unfolding Says
  fed_says by number first count = inl refl

  entry_says : (work : Workload) (own : List Entry) (e : Entry) → is_end e ≡ false → Says (happening_of work own e)
  entry_says work own (entry.Issued actor number) n = issued_says (is_some (job_ask_at work (record { actor = actor; command = number }))) (record { actor = actor; command = number }) _
  entry_says work own (entry.Replied actor command given number) n = replied_says (record { actor = actor; command = command }) number (job_reply_of given) _
  entry_says work own (entry.Born child parent job label second grant) n = born_says (parent == top) job
  entry_says work own (entry.Gone child parent job shut) n = absurd (true≢false n)
  entry_says work own (entry.Ticked second) n = ticked_says second
  entry_says work own (entry.Watched actor command number first count) n = fed_says (record { actor = actor; command = command }) number first count
  entry_says work own e n = served_says (moment_of work top own e)

-- the child of the job lives by the log of its instance
pub record ChildLives (work : Workload) (own : List Entry) (id : ℕ) : Type 0 where
  pub shut : Bool
  pub child : child_of (log_in work own) id ≡ Some (true, shut)

module _ (work : Workload) (own : List Entry) (id : ℕ) (h : ChildLives work own id) where
  after_moment : (e : Entry) → Says id (happening_of work own e) → ChildLives work (own ++ e ∷ []) id
  unfolding Says
  after_moment e says =
      let pushed : child_of (log_in work (own ++ e ∷ [])) id ≡ unwrap_or (told_by id (happening_of work own e)) (child_of (log_in work own) id)
      = ap (λ l. child_of l id) (happenings_push work own e) ∙ child_push id (log_in work own) (happening_of work own e) in
      elim says [
        | inl none ↦ record { shut = h.shut; child = pushed ∙ ap (λ o. unwrap_or o (child_of (log_in work own) id)) none ∙ h.child }
        | inr born ↦ record { shut = false; child = pushed ∙ ap (λ o. unwrap_or o (child_of (log_in work own) id)) born }
      ]

  after_none : ChildLives work (own ++ []) id
  after_none = subst (λ c. ChildLives work c id) (sym (append-nil own)) h

-- ---- families

found_among : {A : Type 0} (p : A → Bool) (xs : List A) → is_some (find p xs) ≡ true → (x : A) × Among x xs × (p x ≡ true)
found_among p [] h = absurd (true≢false (sym h))
found_among {A} p (x ∷ xs) h = by (p x) refl h (found_among p xs)
  where
    by : (b : Bool) → p x ≡ b → is_some (cond b (Some x) (find p xs)) ≡ true → (is_some (find p xs) ≡ true → (y : A) × Among y xs × (p y ≡ true)) → (y : A) × Among y (x ∷ xs) × (p y ≡ true)
    by true is h more = (x, inl refl, is)
    by false is h more = let m = more h in (m.0, inr m.1, m.2)

pub numbered_born : (c : List Entry) (i : ℕ) → is_born c i ≡ true → Among i (numbers c)
numbered_born c i h = by (i == top) refl h
  where
    by : (b : Bool) → (i == top) ≡ b → (b || is_some (cond b None (find (is_birth_of i) (births c)))) ≡ true → Among i (numbers c)
    by true is h = inl (sym (eqb-true i top is))
    by false is h =
        let f = found_among (is_birth_of i) (births c) h in
        inr (subst (λ n. Among n (map (λ b. b.child) (births c))) (eqb-true f.0.child i f.2) (among_mapped (λ b. b.child) (births c) f.0 f.1))

pub in_family : (set : Setup) (c : List Entry) (i : ℕ) → lives c i ≡ true → Contains (family_of set c) (living_in set c i)
in_family set c i h =
    contains_from (family_of set c) (living_in set c i)
    (among_mapped (living_in set c) (filter (lives c) (numbers c)) i (among_kept (lives c) (numbers c) i (numbered_born c i (alive c i h).0) h))

-- the birth of one that is just born
pub born_is : (c : List Entry) (e : Entry) (i : ℕ) → is_born c i ≡ false → begins i e ≡ true → birth_of (c ++ e ∷ []) i ≡ birth_in e
born_is c e i was now = by (i == top) was
  where
    none_of : {A : Type 0} (o : Option A) → is_some o ≡ false → o ≡ None
    none_of None h = refl
    none_of (Some x) h = absurd (true≢false h)

    one : (o : Option Birth) → option_map_or (is_birth_of i) o false ≡ true → find (is_birth_of i) (cons_option o []) ≡ o
    one None h = absurd (true≢false (sym h))
    one (Some b) h = ap (λ t. cond t (Some b) None) h

    by : (b : Bool) → (b || is_some (cond b None (find (is_birth_of i) (births c)))) ≡ false → cond b None (find (is_birth_of i) (births (c ++ e ∷ []))) ≡ birth_in e
    by true was = absurd (true≢false was)
    by false was =
        ap (find (is_birth_of i)) (births_push c e) ∙ find-append (is_birth_of i) (births c) (cons_option (birth_in e) [])
        ∙ ap (λ o. option_or o (find (is_birth_of i) (cons_option (birth_in e) []))) (none_of (find (is_birth_of i) (births c)) was) ∙ one (birth_in e) now

-- one number is born
pub begun_number : (e : Entry) (i k : ℕ) → begins i e ≡ true → begins k e ≡ true → i ≡ k
begun_number (entry.Born child parent job label second grant) i k h g = sym (eqb-true child i h) ∙ eqb-true child k g
begun_number _ i k h g = absurd (true≢false (sym h))

-- only a birth is told as one
no_birth : {A : Type 0} {b : Birth} → ◌≡◌ {A = Option Birth} None (Some b) → A
no_birth e = cc

same_birth : {b d : Birth} → Some b ≡ Some d → b ≡ d
same_birth e = cc

birth_before : (c more : List Entry) (i : ℕ) (b : Birth) → is_born c i ≡ true → birth_of (c ++ more) i ≡ Some b → birth_of c i ≡ Some b
birth_before c more i b was is = sym (birth_kept c more i was) ∙ is

-- ---- parents live

ParentsLive : List Entry → Type 0
ParentsLive c = (i : ℕ) (b : Birth) → lives c i ≡ true → birth_of c i ≡ Some b → lives c b.parent ≡ true

module _ (set : Setup) where
  -- a parent stays while its child does
  parent_stays : (c : List Entry) (e : Entry) → IsLegalRunEntry set c e → (i : ℕ) (b : Birth) → lives c i ≡ true → birth_of c i ≡ Some b → ends i e ≡ false → ends b.parent e ≡ false
  parent_stays c (entry.Gone child parent job shut) l i b h is stays = by (b.parent == child) refl
    where
      m : IsLegalEnd set c child parent job shut
      m = l.grounds

      by : (t : Bool) → (b.parent == child) ≡ t → t ≡ false
      by false same = refl
      by true same =
          let number : b.parent ≡ m.living.number = eqb-true b.parent child same ∙ sym m.named in
          let inside : LiesIn (family_of set c) m.living.number i = below (living_in set c i) b.parent b.job (in_family set c i h) (ap from_of is) (subst (LiesIn (family_of set c) m.living.number) (sym number) itself) in
          let own : i ≡ child = m.may.alone (living_in set c i) (in_family set c i h) inside ∙ m.named in
          absurd (true≢false (sym (eq-eqb i child own) ∙ stays))
  parent_stays c _ l i b h is stays = refl

  parents_step : (xs : List Entry) (e : Entry) → EachAfter (IsLegalRunEntry set) [] xs → IsLegalRunEntry set xs e → ParentsLive xs → ParentsLive (xs ++ e ∷ [])
  unfolding ParentsLive
  parents_step xs e before l old i b h is =
      let v = lived xs e i h in
      elim v.how [
        | inl was ↦
            let here = birth_before xs (e ∷ []) i b (alive xs i was).0 is in
            lives_on xs e b.parent (old i b was here) (parent_stays xs e l i b was here v.stays)
        | inr new ↦ of_born xs e l i b (sym (born_is xs e i new.0 new.1) ∙ is)
      ]
    where
      of_born : (xs : List Entry) (e : Entry) → IsLegalRunEntry set xs e → (i : ℕ) (b : Birth) → birth_in e ≡ Some b → lives (xs ++ e ∷ []) b.parent ≡ true
      of_born xs (entry.Born child parent job label second grant) l i b is =
          let same : parent ≡ b.parent = ap (λ d. d.parent) (same_birth is) in
          subst (λ n. lives (xs ++ entry.Born child parent job label second grant ∷ []) n ≡ true) same
          (lives_on xs (entry.Born child parent job label second grant) parent (member_lives set xs l.grounds.due.living parent l.grounds.due.lives l.grounds.due.named) refl)
      of_born xs _ l i b is = no_birth is

  parents_live : (c : List Entry) → IsLegalRun set c → ParentsLive c
  unfolding ParentsLive
  parents_live c l = each_along (IsLegalRunEntry set) ParentsLive parents_step [] c tt l none
    where
      none : (i : ℕ) (b : Birth) → lives [] i ≡ true → birth_of [] i ≡ Some b → lives [] b.parent ≡ true
      none i b h is = by (i == top) is
        where
          by : (t : Bool) → ◌≡◌ {A = Option Birth} (cond t None None) (Some b) → lives [] b.parent ≡ true
          by true is = cc
          by false is = cc

  -- a living child has a living parent
  pub parent_lives : (c : List Entry) → IsLegalRun set c → (i : ℕ) (b : Birth) → lives c i ≡ true → birth_of c i ≡ Some b → lives c b.parent ≡ true
  unfolding ParentsLive
  parent_lives c l i b h is = parents_live c l i b h is

-- ---- the resources of jobs with living children

-- in a chronicle of its own the parent has the job with the resources of its living child
record NestedIn (s : Setup) (own : List Entry) (b : Birth) : Type 0 where
  child : ChildLives s.work own b.job
  r : Resources
  given : b.grant ≡ (let grant : Resources = record r { nodes = numbered 0 r.nodes } in grant)
  holds : HoldsAt s own b.job r

only : (b : Bool) (e f : Entry) → is_end e ≡ false → only_if b e ≡ Some f → is_end f ≡ false
only true e f n is = let same : e ≡ f = cc in ap is_end (sym same) ∙ n
only false e f n is = cc

own_not_end : (actors : List Actor) (label : Option (List ℕ)) (i : ℕ) (e f : Entry) → is_end e ≡ false → own_entry actors label i e ≡ Some f → is_end f ≡ false
own_not_end actors label i (entry.Issued actor command) f n is = only (is_at actors label actor) _ f refl is
own_not_end actors label i (entry.Landed instance space number authors groups) f n is = only (instance == i) _ f refl is
own_not_end actors label i (entry.Denied instance space authors group refusal) f n is = only (instance == i) _ f refl is
own_not_end actors label i (entry.Heard instance broker space number) f n is = only (instance == i) _ f refl is
own_not_end actors label i (entry.Got instance broker reference) f n is = only (instance == i) _ f refl is
own_not_end actors label i (entry.Dropped instance broker reference) f n is = only (instance == i) _ f refl is
own_not_end actors label i (entry.Replied actor command given number) f n is = only (is_at actors label actor) _ f refl is
own_not_end actors label i (entry.Told from to) f n is = only (is_at actors label from) _ f refl is
own_not_end actors label i (entry.Ticked second) f n is = let same : entry.Ticked second ≡ f = cc in ap is_end (sym same)
own_not_end actors label i (entry.Born child parent job name second grant) f n is = only (parent == i) _ f refl is
own_not_end actors label i (entry.Gone child parent job shut) f n is = absurd (true≢false n)
own_not_end actors label i (entry.Watched actor command number first count) f n is = only (is_at actors label actor) _ f refl is
own_not_end actors label i entry.Closed f n is = let same : entry.Closed ≡ f = cc in ap is_end (sym same)

module _ (s : Setup) (own : List Entry) (b : Birth) (h : NestedIn s own b) where
  -- after one more legal entry
  nested_entry : IsInstance (instance_of s) → (e : Entry) → is_end e ≡ false → IsLegal s (own ++ e ∷ []) → KeepsTime s (own ++ e ∷ []) → NestedIn s (own ++ e ∷ []) b
  nested_entry valid e n legal timely =
      let parts = each_parts (IsLegalEntry s) [] own (e ∷ []) legal in
      let times = each_parts (λ past _. second_of s past < 2 ^ 64) [] own (e ∷ []) timely in
      let sound = stay_sound s valid own parts.0 times.0 own [] (sym (append-nil own)) in
      record {
        child = after_moment s.work own b.job h.child e (entry_says b.job s.work own e n);
        r = h.r;
        given = h.given;
        holds = entry_holds s valid own e parts.0 parts.1.0 times.1.0 sound b.job h.r h.child.shut h.child.child h.holds;
      }

  nested_none : NestedIn s (own ++ []) b
  nested_none = subst (λ c. NestedIn s c b) (sym (append-nil own)) h

  -- after an end of another child
  nested_end : (child job : ℕ) (shut told : Bool) → (told ≡ true → (b.job == job) ≡ false) → NestedIn s (own ++ cons_option (only_if told (entry.Gone child top job shut)) []) b
  unfolding Says
  nested_end child job shut false other = nested_none
  nested_end child job shut true other = record {
    child = after_moment s.work own b.job h.child (entry.Gone child top job shut) (gone_says (b.job == job) (other refl));
    r = h.r;
    given = h.given;
    holds = record {
      store = h.holds.store;
      standing = ap (λ l. newest_store (instance_of s).service l primary) (unserved s.work own (entry.Gone child top job shut) refl) ∙ h.holds.standing;
      holds = h.holds.holds;
    };
  }
    where
      gone_says : (t : Bool) → t ≡ false → (told_if t (Some (false, shut)) ≡ None) ⊎ (told_if t (Some (false, shut)) ≡ Some (Some (true, false)))
      gone_says true is = absurd (true≢false is)
      gone_says false is = inl refl

-- ---- births

-- the job of a birth that is due holds the resources of which the child's grant is made
module _ (l : Living) (job : ℕ) (grant : Resources) (due : OfLiving l (λ desk. IsBirthDue desk.scene job)) (g : IsGrantFor l job grant) where
  same_store : due.0 ≡ g.store
  same_store = same_one due.0 g.store (sym due.1 ∙ g.standing)

  same_jobs : g.jobs ≡ due.2.0.scene.jobs
  same_jobs = jobs_are_one g.store g.jobs due.2.0.scene.jobs g.are (subst (λ st. AreJobsOf st due.2.0.scene.jobs) same_store due.2.1.jobs)

  known : Among due.2.2.j g.jobs
  known = among_from g.jobs due.2.2.j (subst (λ jobs. Contains jobs due.2.2.j) (sym same_jobs) due.2.2.known)

  same_job : due.2.2.j ≡ g.j
  same_job = same_image (λ k. k.id) g.jobs due.2.2.j g.j (distinct_rising (ids_of g.jobs) g.are.rising) known (among_from g.jobs g.j g.known) (due.2.2.named ∙ sym g.is)

  stored : IsStored g.store g.j
  stored = each_at (IsStored g.store) g.jobs g.j g.are.stored (among_from g.jobs g.j g.known)

  runs : g.j.job.state ≡ state.Run
  runs = ap (λ k. k.job.state) (sym same_job) ∙ due.2.2.runs

  pub held_at_birth : HoldsFor g.store job g.r
  held_at_birth = record {
    jobs = g.jobs;
    are = g.are;
    j = g.j;
    known = g.known;
    is = g.is;
    held = g.held;
    kept = replayed_unreleased (stored.first ∷ stored.more) g.j.job stored.replays runs;
  }

module _ (set : Setup) (c : List Entry) (child parent job : ℕ) (label : List ℕ) (second : ℕ) (grant : Resources) (l : IsLegalBirth set c child parent job label second grant) where
  s : Setup
  s = setup_in set c parent

  own : List Entry
  own = own_of set c parent

  parent_is : l.due.living ≡ living_in set c parent
  parent_is = (member set c l.due.living l.due.lives).is ∙ ap (living_in set c) l.due.named

  bearer_lives : lives c parent ≡ true
  bearer_lives = member_lives set c l.due.living parent l.due.lives l.due.named

  moved_grant : (x : Living) → l.due.living ≡ x → IsGrantFor x job grant
  moved_grant x e = subst (λ y. IsGrantFor y job grant) e l.granted

  moved_due : (x : Living) → l.due.living ≡ x → OfLiving x (λ desk. IsBirthDue desk.scene job)
  moved_due x e = subst (λ y. OfLiving y (λ desk. IsBirthDue desk.scene job)) e l.due.due

  -- no child of the job lives when it bears one
  bears_first : ChildLives (setup_in set c parent).work (own_of set c parent) job → ⊥
  bears_first h =
      let due = moved_due (living_in set c parent) parent_is in
      true≢false (sym (child_asked (instance_of (setup_in set c parent)) (log_in (setup_in set c parent).work (own_of set c parent)) due.0 due.2.0 due.2.1 job true h.shut h.child) ∙ due.2.2.first)

  nested_birth : (b : Birth) → b.job ≡ job → b.grant ≡ grant → NestedIn (setup_in set c parent) (own_of set c parent ++ entry.Born child top job label second grant ∷ []) b
  nested_birth b same_job same_grant =
      let x = living_in set c parent in
      let g = moved_grant x parent_is in
      let work = (setup_in set c parent).work in
      let own = own_of set c parent in
      let e : Entry = entry.Born child top job label second grant in
      let holds : HoldsFor g.store b.job g.r = subst (λ n. HoldsFor g.store n g.r) (sym same_job) (held_at_birth x job grant (moved_due x parent_is) g) in
      record {
        child = record {
          shut = false;
          child = ap (λ l. child_of l b.job) (happenings_push work own e) ∙ child_push b.job (log_in work own) (Some (Born job))
              ∙ ap (λ t. unwrap_or (told_if t (Some (true, false))) (child_of (log_in work own) b.job)) (eq-eqb b.job job same_job);
        };
        r = g.r;
        given = same_grant ∙ g.given;
        holds = record {
          store = g.store;
          standing = ap (λ l. newest_store (instance_of (setup_in set c parent)).service l primary) (unserved work own e refl) ∙ g.standing;
          holds = holds;
        };
      }

-- ---- along a run

module _ (set : Setup) where
  NestedAt : List Entry → Birth → Type 0
  NestedAt c b = NestedIn (setup_in set c b.parent) (own_of set c b.parent) b

  -- each living child is nested, and no two are those of one job
  record AreApart (c : List Entry) : Type 0 where
    nested : (i : ℕ) (b : Birth) → lives c i ≡ true → birth_of c i ≡ Some b → IsKept set c b.parent → NestedAt c b
    unique : (i k : ℕ) (b d : Birth) → lives c i ≡ true → lives c k ≡ true → birth_of c i ≡ Some b → birth_of c k ≡ Some d → b.parent ≡ d.parent → b.job ≡ d.job → IsKept set c b.parent → i ≡ k

  module _ (xs : List Entry) (e : Entry) (run : IsLegalRun set xs) (l : IsLegalRunEntry set xs e) (old : AreApart xs) where
    -- what a living child and its parent know of the entry
    record Knows (i : ℕ) (b : Birth) : Type 0 where
      lived_so : lives xs i ≡ true
      here : birth_of xs i ≡ Some b
      own_stays : ends i e ≡ false
      parent_lives : lives xs b.parent ≡ true
      stays : ends b.parent e ≡ false
      kept : IsKept set xs b.parent

    knows : (i : ℕ) (b : Birth) → lives xs i ≡ true → ends i e ≡ false → birth_of (xs ++ e ∷ []) i ≡ Some b → IsKept set (xs ++ e ∷ []) b.parent → Knows i b
    unfolding ParentsLive
    knows i b was own_stays is k =
        let here = birth_before xs (e ∷ []) i b (alive xs i was).0 is in
        let there = parents_live set xs run i b was here in
        let stays = parent_stays set xs e l i b was here own_stays in
        record { lived_so = was; here = here; own_stays = own_stays; parent_lives = there; stays = stays; kept = kept_before set xs e b.parent there stays k }

    was_nested : (i : ℕ) (b : Birth) → Knows i b → NestedAt xs b
    was_nested i b k = old.nested i b k.lived_so k.here k.kept

    -- the parent's chronicle behind the entry
    behind : (i : ℕ) (b : Birth) → Knows i b → NestedIn (setup_in set xs b.parent) (own_of set xs b.parent ++ cons_option (own_entry set.work.actors (label_of xs b.parent) b.parent e) []) b → NestedAt (xs ++ e ∷ []) b
    unfolding NestedAt
    behind i b k n =
        subst (λ s. NestedIn s (own_of set (xs ++ e ∷ []) b.parent) b) (sym (setup_kept set xs (e ∷ []) b.parent (alive xs b.parent k.parent_lives).0))
        (subst (λ own. NestedIn (setup_in set xs b.parent) own b) (sym (own_push set xs e b.parent k.parent_lives k.stays)) n)

    -- an entry that is no end
    by_entry : (i : ℕ) (b : Birth) → Knows i b → IsKept set (xs ++ e ∷ []) b.parent → is_end e ≡ false → NestedAt (xs ++ e ∷ []) b
    unfolding NestedAt
    by_entry i b k keeps n =
        let p = b.parent in
        let s = setup_in set xs p in
        let own = own_of set xs p in
        let o = own_entry set.work.actors (label_of xs p) p e in
        let same = setup_kept set xs (e ∷ []) p (alive xs p k.parent_lives).0 in
        let pushed = own_push set xs e p k.parent_lives k.stays in
        let legal : IsLegal s (own ++ cons_option o []) =
        subst (λ s. IsLegal s (own ++ cons_option o [])) same (subst (IsLegal (setup_in set (xs ++ e ∷ []) p)) pushed (l.own n p (lives_on xs e p k.parent_lives k.stays))) in
        let timely : KeepsTime s (own ++ cons_option o []) =
        subst (λ s. KeepsTime s (own ++ cons_option o [])) same (subst (KeepsTime (setup_in set (xs ++ e ∷ []) p)) pushed keeps.timely) in
        behind i b k (with_one s own b (was_nested i b k) k.kept.valid o (own_not_end set.work.actors (label_of xs p) p e) n legal timely)
      where
        with_one : (s : Setup) (own : List Entry) (b : Birth) → NestedIn s own b → IsInstance (instance_of s) → (o : Option Entry) → ((f : Entry) → is_end e ≡ false → o ≡ Some f → is_end f ≡ false)
            → is_end e ≡ false → IsLegal s (own ++ cons_option o []) → KeepsTime s (own ++ cons_option o []) → NestedIn s (own ++ cons_option o []) b
        with_one s own b h valid None other n legal timely = nested_none s own b h
        with_one s own b h valid (Some f) other n legal timely = nested_entry s own b h valid f (other f n refl) legal timely

  -- an end of another child
  by_end : (xs : List Entry) (child parent job : ℕ) (shut : Bool) (run : IsLegalRun set xs) (l : IsLegalRunEntry set xs (entry.Gone child parent job shut)) (old : AreApart xs)
      (i : ℕ) (b : Birth) → Knows xs (entry.Gone child parent job shut) run l old i b → NestedAt (xs ++ entry.Gone child parent job shut ∷ []) b
  unfolding NestedAt
  by_end xs child parent job shut run l old i b k =
      behind xs (entry.Gone child parent job shut) run l old i b k
      (nested_end (setup_in set xs b.parent) (own_of set xs b.parent) b (was_nested xs (entry.Gone child parent job shut) run l old i b k) child job shut (parent == b.parent) (λ told. other told (b.job == job) refl))
    where
      m : IsLegalEnd set xs child parent job shut
      m = l.grounds

      gone_lives : lives xs child ≡ true
      gone_lives = member_lives set xs m.living child m.may.lives m.named

      gone_from : from_of (birth_of xs child) ≡ Some (parent, job)
      gone_from = ap (λ x. x.from) (sym ((member set xs m.living m.may.lives).is ∙ ap (living_in set xs) m.named)) ∙ m.from

      of : (o : Option Birth) → birth_of xs child ≡ o → from_of o ≡ Some (parent, job) → parent ≡ b.parent → b.job ≡ job → ⊥
      of None is from told same = cc
      of (Some d) is from told same =
          let pair : ◌≡◌ {A = ℕ × ℕ} (d.parent, d.job) (parent, job) = cc in
          let one : i ≡ child = old.unique i child b d k.lived_so gone_lives k.here is (sym told ∙ ap (λ x. x.0) (sym pair)) (same ∙ ap (λ x. x.1) (sym pair)) k.kept in
          true≢false (sym (eq-eqb i child one) ∙ k.own_stays)

      other : (parent == b.parent) ≡ true → (t : Bool) → (b.job == job) ≡ t → t ≡ false
      other told false is = refl
      other told true is = absurd (of (birth_of xs child) refl gone_from (eqb-true parent b.parent told) (eqb-true b.job job is))

  nested_step : (xs : List Entry) (e : Entry) (run : IsLegalRun set xs) (l : IsLegalRunEntry set xs e) (old : AreApart xs) (i : ℕ) (b : Birth)
      → Knows xs e run l old i b → IsKept set (xs ++ e ∷ []) b.parent → NestedAt (xs ++ e ∷ []) b
  nested_step xs (entry.Gone child parent job shut) run l old i b k keeps = by_end xs child parent job shut run l old i b k
  nested_step xs e run l old i b k keeps = by_entry xs e run l old i b k keeps refl

  -- one that is just born
  born_nested : (xs : List Entry) (e : Entry) → IsLegalRunEntry set xs e → (i : ℕ) (b : Birth) → birth_in e ≡ Some b → NestedAt (xs ++ e ∷ []) b
  unfolding NestedAt
  born_nested xs (entry.Born child parent job label second grant) l i b is =
      let e : Entry = entry.Born child parent job label second grant in
      let there = bearer_lives set xs child parent job label second grant l.grounds in
      let at : parent ≡ b.parent = ap (λ d. d.parent) (same_birth is) in
      let same_job : b.job ≡ job = sym (ap (λ d. d.job) (same_birth is)) in
      let same_grant : b.grant ≡ grant = sym (ap (λ d. d.grant) (same_birth is)) in
      let o : own_entry set.work.actors (label_of xs parent) parent e ≡ Some (entry.Born child top job label second grant) = ap (λ t. only_if t (entry.Born child top job label second grant)) (eq-eqb parent parent refl) in
      subst (λ p. NestedIn (setup_in set (xs ++ e ∷ []) p) (own_of set (xs ++ e ∷ []) p) b) at
      (subst (λ s. NestedIn s (own_of set (xs ++ e ∷ []) parent) b) (sym (setup_kept set xs (e ∷ []) parent (alive xs parent there).0))
      (subst (λ own. NestedIn (setup_in set xs parent) own b) (sym (own_push set xs e parent there refl ∙ ap (λ o. own_of set xs parent ++ cons_option o []) o))
      (nested_birth set xs child parent job label second grant l.grounds b same_job same_grant)))
  born_nested xs _ l i b is = no_birth is

  -- it is the only one of its job
  born_only : (xs : List Entry) (e : Entry) → IsLegalRunEntry set xs e → (b d : Birth) → birth_in e ≡ Some d → b.parent ≡ d.parent → b.job ≡ d.job → NestedAt xs b → ⊥
  unfolding NestedAt
  born_only xs (entry.Born child parent job label second grant) l b d is same_parent same_job n =
      let at : b.parent ≡ parent = same_parent ∙ sym (ap (λ d. d.parent) (same_birth is)) in
      let one : b.job ≡ job = same_job ∙ sym (ap (λ d. d.job) (same_birth is)) in
      bears_first set xs child parent job label second grant l.grounds
      (subst (λ p. ChildLives (setup_in set xs p).work (own_of set xs p) job) at (subst (ChildLives (setup_in set xs b.parent).work (own_of set xs b.parent)) one n.child))
  born_only xs _ l b d is same_parent same_job n = no_birth is

  step : (xs : List Entry) (e : Entry) → EachAfter (IsLegalRunEntry set) [] xs → IsLegalRunEntry set xs e → AreApart xs → AreApart (xs ++ e ∷ [])
  step xs e run l old = record {
    nested = λ i b h is k. of_one i b h is k;
    unique = λ i k b d h g is at same_parent same_job keeps. of_two i k b d h g is at same_parent same_job keeps;
  }
    where
      of_one : (i : ℕ) (b : Birth) → lives (xs ++ e ∷ []) i ≡ true → birth_of (xs ++ e ∷ []) i ≡ Some b → IsKept set (xs ++ e ∷ []) b.parent → NestedAt (xs ++ e ∷ []) b
      of_one i b h is k =
          let v = lived xs e i h in
          elim v.how [
            | inl was ↦ nested_step xs e run l old i b (knows xs e run l old i b was v.stays is k) k
            | inr new ↦ born_nested xs e l i b (sym (born_is xs e i new.0 new.1) ∙ is)
          ]

      -- one lived before, the other is born
      mixed : (i k : ℕ) (b d : Birth) → lives xs i ≡ true → ends i e ≡ false → birth_of (xs ++ e ∷ []) i ≡ Some b → birth_in e ≡ Some d → b.parent ≡ d.parent → b.job ≡ d.job
          → IsKept set (xs ++ e ∷ []) b.parent → ⊥
      mixed i k b d was stays is at same_parent same_job keeps =
          let known = knows xs e run l old i b was stays is keeps in
          born_only xs e l b d at same_parent same_job (was_nested xs e run l old i b known)

      of_two : (i k : ℕ) (b d : Birth) → lives (xs ++ e ∷ []) i ≡ true → lives (xs ++ e ∷ []) k ≡ true → birth_of (xs ++ e ∷ []) i ≡ Some b → birth_of (xs ++ e ∷ []) k ≡ Some d
          → b.parent ≡ d.parent → b.job ≡ d.job → IsKept set (xs ++ e ∷ []) b.parent → i ≡ k
      of_two i k b d h g is at same_parent same_job keeps =
          let v = lived xs e i h in
          let w = lived xs e k g in
          elim v.how [
            | inl was ↦ elim w.how [
              | inl too ↦
                  let known = knows xs e run l old i b was v.stays is keeps in
                  old.unique i k b d was too known.here (birth_before xs (e ∷ []) k d (alive xs k too).0 at) same_parent same_job known.kept
              | inr new ↦ absurd (mixed i k b d was v.stays is (sym (born_is xs e k new.0 new.1) ∙ at) same_parent same_job keeps)
            ]
            | inr new ↦ elim w.how [
              | inl too ↦ absurd (mixed k i d b too w.stays at (sym (born_is xs e i new.0 new.1) ∙ is) (sym same_parent) (sym same_job) (subst (IsKept set (xs ++ e ∷ [])) same_parent keeps))
              | inr both ↦ begun_number e i k new.1 both.1
            ]
          ]

  first : AreApart []
  first = record {
    nested = λ i b h is k. absurd (unborn i b is);
    unique = λ i k b d h g is at same_parent same_job keeps. absurd (unborn i b is);
  }
    where
      unborn : (i : ℕ) (b : Birth) → birth_of [] i ≡ Some b → ⊥
      unborn i b is = by (i == top) is
        where
          by : (t : Bool) → ◌≡◌ {A = Option Birth} (cond t None None) (Some b) → ⊥
          by true is = cc
          by false is = cc

  all_apart : (c : List Entry) → IsLegalRun set c → AreApart c
  all_apart c l = each_along (IsLegalRunEntry set) AreApart step [] c tt l first

  parent_of : (c : List Entry) → IsLegalRun set c → (i : ℕ) (b : Birth) → lives c i ≡ true → birth_of c i ≡ Some b → lives c b.parent ≡ true
  unfolding ParentsLive
  parent_of c l i b h is = parents_live set c l i b h is

  nest : (c : List Entry) → IsLegalRun set c → (i : ℕ) (b : Birth) → lives c i ≡ true → birth_of c i ≡ Some b → IsKept set c b.parent → NestedIn (setup_in set c b.parent) (own_of set c b.parent) b
  unfolding NestedAt
  nest c l i b h is k = (all_apart c l).nested i b h is k

  units_same : (c : List Entry) (i : ℕ) (b : Birth) → birth_of c i ≡ Some b → (r : Resources) → b.grant ≡ (let grant : Resources = record r { nodes = numbered 0 r.nodes } in grant)
      → units_of (setup_in set c i).resources.nodes ≡ units_of r.nodes
  units_same c i b is r given =
      ap (λ o. units_of (option_map_or (child_setup set) o (record set { work = work_for set.work None set.size })).resources.nodes) is
      ∙ ap (λ g. units_of g.nodes) given ∙ units-numbered r.nodes 0

  nested_as : (c : List Entry) → IsLegalRun set c → ((i : ℕ) → lives c i ≡ true → IsKept set c i) → (i : ℕ) → lives c i ≡ true
      → (o : Option Birth) → birth_of c i ≡ o → IsNestedAs (family_of set c) (living_in set c i) (from_of o)
  nested_as c l kept i h None is = tt
  nested_as c l kept i h (Some b) is =
      let there = parent_of c l i b h is in
      let n = nest c l i b h is (kept b.parent there) in
      record {
        outer = living_in set c b.parent;
        lives = in_family set c b.parent there;
        named = refl;
        store = n.holds.store;
        standing = n.holds.standing;
        jobs = n.holds.holds.jobs;
        are = n.holds.holds.are;
        j = n.holds.holds.j;
        known = n.holds.holds.known;
        is = n.holds.holds.is;
        r = n.r;
        held = n.holds.holds.held;
        units = units_same c i b is n.r n.given;
      }

  pub are_nested : (c : List Entry) → IsLegalRun set c → ((i : ℕ) → lives c i ≡ true → IsKept set c i) → AreNested (family_of set c)
  are_nested c l kept x here =
      let m = member set c x here in
      subst (λ y. IsNestedAs (family_of set c) y y.from) (sym m.is) (nested_as c l kept x.number m.lives_so (birth_of c x.number) refl)
