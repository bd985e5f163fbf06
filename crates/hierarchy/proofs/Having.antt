-- Each child that lives by the log of its instance lives in the run: so where no end is due, no job
-- that is ending has a living child.
use Rattle.std.proofs.Common.{◌≡◌, ℕ, ◌==◌, inl, inr, List, [], ◌∷◌, ◌++◌, Bool, true, false, ◌||◌, Option, Some, None, is_some, unwrap_or, refl, sym, ap, ap₂, ◌∙◌, subst, append-nil, true≢false}
use Rattle.std.specs.List.{cons_option}
use Rattle.std.proofs.lemmas.Bool.{eq-eqb, eqb-true, false_from_ne_true}
use Rattle.kvs_rules.specs.Sequence.{EachAfter}
use Rattle.kvs_rules.proofs.Sequences.{each_along, each_joined}
use Rattle.manager_rules.specs.declared.asked.Asked.TheVariants as asked
use Rattle.resource_set.specs.declared.node.Resources.{Resources}
use Rattle.workload.specs.declared.work.Actor.{Actor}
use Rattle.workload.specs.declared.work.Workload.{Workload}
use Rattle.instance_rules.specs.Log.{child_of}
use Rattle.answers.specs.Chronicle.{Setup, top}
use Rattle.answers.specs.Jobs.{happening_of, job_ask_at, job_reply_of, log_in}
use Rattle.answers.specs.Services.{moment_of}
use Rattle.answers.specs.declared.chronicle.Entry.{Entry}
use Rattle.answers.specs.declared.chronicle.Entry.TheVariants as entry
use Rattle.run_laws.specs.Reserved.{EndsComeFirst, EndsFirst}
use Rattle.run_laws.proofs.Children.{child_push, child_there, issued_untold, replied_untold, served_untold, told_by}
use Rattle.hierarchy.specs.Births.{birth_in, birth_of, ends, is_at, is_born, is_gone, label_of, lives}
use Rattle.hierarchy.specs.Families.{living_in}
use Rattle.hierarchy.specs.Legal.{IsLegalBirth, IsLegalEnd, IsLegalRun, IsLegalRunEntry, is_end}
use Rattle.hierarchy.specs.Own.{only_if, own_entry, own_of, setup_in}
use Rattle.hierarchy.proofs.Bearing.{fresh, own_none}
use Rattle.hierarchy.proofs.Members.{gone_was_born, member}
use Rattle.hierarchy.proofs.Nested.{born_is, from_of, happenings_push, in_family, told_if}
use Rattle.hierarchy.proofs.Owning.{alive, birth_kept, gone_push, is_alive, lived, lives_on, own_born, own_push, setup_kept}

-- ---- what an entry says of a child

module _ (work : Workload) (own : List Entry) (id : ℕ) where
  abbrev said_with : Option Entry → Option (Bool × Bool)
  said_with o = child_of (log_in work (own ++ cons_option o [])) id

  abbrev said : Option (Bool × Bool)
  said = child_of (log_in work own) id

  said_by : (f : Entry) → said_with (Some f) ≡ unwrap_or (told_by id (happening_of work own f)) said
  said_by f = ap (λ l. child_of l id) (happenings_push work own f) ∙ child_push id (log_in work own) (happening_of work own f)

  said_none : said_with None ≡ said
  said_none = ap (λ c. child_of (log_in work c) id) (append-nil own)

  untold : (b : Bool) (f : Entry) → told_by id (happening_of work own f) ≡ None → said_with (only_if b f) ≡ said
  untold true f none = said_by f ∙ ap (λ o. unwrap_or o said) none
  untold false f none = said_none

  -- only births and ends say something
  says_nothing : (actors : List Actor) (label : Option (List ℕ)) (i : ℕ) (e : Entry) → is_end e ≡ false → birth_in e ≡ None → said_with (own_entry actors label i e) ≡ said
  says_nothing actors label i (entry.Issued actor number) n b =
      untold (is_at actors label actor) (entry.Issued actor number) (issued_untold id (is_some (job_ask_at work (record { actor = actor; command = number }))) (record { actor = actor; command = number }) _)
  says_nothing actors label i (entry.Landed instance space number authors groups) n b = untold (instance == i) (entry.Landed top space number authors groups) (served_untold id (moment_of work top own (entry.Landed top space number authors groups)))
  says_nothing actors label i (entry.Denied instance space authors group refusal) n b = untold (instance == i) (entry.Denied top space authors group refusal) (served_untold id (moment_of work top own (entry.Denied top space authors group refusal)))
  says_nothing actors label i (entry.Heard instance broker space number) n b = untold (instance == i) (entry.Heard top broker space number) (served_untold id (moment_of work top own (entry.Heard top broker space number)))
  says_nothing actors label i (entry.Got instance broker reference) n b = untold (instance == i) (entry.Got top broker reference) (served_untold id (moment_of work top own (entry.Got top broker reference)))
  says_nothing actors label i (entry.Dropped instance broker reference) n b = untold (instance == i) (entry.Dropped top broker reference) (served_untold id (moment_of work top own (entry.Dropped top broker reference)))
  says_nothing actors label i (entry.Replied actor command given number) n b =
      untold (is_at actors label actor) (entry.Replied actor command given number) (replied_untold id (record { actor = actor; command = command }) number (job_reply_of given) _)
  says_nothing actors label i (entry.Told from to) n b = untold (is_at actors label from) (entry.Told from to) refl
  says_nothing actors label i (entry.Ticked second) n b = untold true (entry.Ticked second) refl
  says_nothing actors label i (entry.Born child parent job name second grant) n b = cc
  says_nothing actors label i (entry.Gone child parent job shut) n b = absurd (true≢false n)
  says_nothing actors label i (entry.Watched actor command number first count) n b = untold (is_at actors label actor) (entry.Watched actor command number first count) refl
  says_nothing actors label i entry.Closed n b = untold true entry.Closed refl

-- ---- along a run

-- the living child of a job of an instance
record IsChild (c : List Entry) (parent job : ℕ) : Type 0 where
  child : ℕ
  living : lives c child ≡ true
  from : from_of (birth_of c child) ≡ Some (parent, job)

module _ (set : Setup) where
  SaidIn : List Entry → ℕ → ℕ → Option (Bool × Bool)
  SaidIn c i id = child_of (log_in (setup_in set c i).work (own_of set c i)) id

  -- whoever lives by the log of its instance lives
  HasThose : List Entry → Type 0
  HasThose c = (i : ℕ) → lives c i ≡ true → (id : ℕ) (shut : Bool) → SaidIn c i id ≡ Some (true, shut) → IsChild c i id

  module _ (xs : List Entry) (e : Entry) where
    -- a child that lives on
    stays_child : (i id : ℕ) (k : IsChild xs i id) → ends k.child e ≡ false → IsChild (xs ++ e ∷ []) i id
    stays_child i id k stays = record {
      child = k.child;
      living = lives_on xs e k.child k.living stays;
      from = ap from_of (birth_kept xs (e ∷ []) k.child (alive xs k.child k.living).0) ∙ k.from;
    }

  -- behind an entry that is neither a birth nor an end
  plain_child : (xs : List Entry) (e : Entry) → is_end e ≡ false → birth_in e ≡ None → (i id : ℕ) → IsChild xs i id → IsChild (xs ++ e ∷ []) i id
  plain_child xs (entry.Gone child parent job shut) n b i id k = absurd (true≢false n)
  plain_child xs (entry.Born child parent job label second grant) n b i id k = cc
  plain_child xs e n b i id k = stays_child xs e i id k refl

  -- ---- a birth

  module _ (xs : List Entry) (run : IsLegalRun set xs) (child parent job : ℕ) (label : List ℕ) (second : ℕ) (grant : Resources) (l : IsLegalBirth set xs child parent job label second grant) where
    abbrev birth : Entry
    birth = entry.Born child parent job label second grant

    unborn : is_born xs child ≡ false
    unborn = ap (is_born xs) l.next ∙ fresh set xs run

    not_gone : is_gone xs child ≡ false
    not_gone = false_from_ne_true (is_gone xs child) (λ gone. true≢false (sym (gone_was_born set xs run child gone) ∙ unborn))

    born_here : birth_of (xs ++ birth ∷ []) child ≡ birth_in birth
    born_here = born_is xs birth child unborn (eq-eqb child child refl)

    new_child : IsChild (xs ++ birth ∷ []) parent job
    new_child = record {
      child = child;
      living = is_alive (xs ++ birth ∷ []) child (ap (λ o. (child == top) || is_some o) born_here ∙ or_true (child == top)) (gone_push xs birth child ∙ ap (λ b. b || false) not_gone);
      from = ap from_of born_here;
    }
      where
        or_true : (b : Bool) → (b || true) ≡ true
        or_true true = refl
        or_true false = refl

    birth_child : (own : List Entry) (work : Workload) (i id : ℕ) (shut : Bool) → (child_of (log_in work own) id ≡ Some (true, shut) → IsChild xs i id)
        → child_of (log_in work (own ++ cons_option (only_if (parent == i) (entry.Born child top job label second grant)) [])) id ≡ Some (true, shut) → IsChild (xs ++ birth ∷ []) i id
    birth_child own work i id shut old now = by (parent == i) refl now
      where
        kept : child_of (log_in work own) id ≡ Some (true, shut) → IsChild (xs ++ birth ∷ []) i id
        kept was = stays_child xs birth i id (old was) refl

        its : (parent == i) ≡ true → (t : Bool) → (id == job) ≡ t → unwrap_or (told_if t (Some (true, false))) (child_of (log_in work own) id) ≡ Some (true, shut) → IsChild (xs ++ birth ∷ []) i id
        its here false other was = kept was
        its here true same was = subst (λ n. IsChild (xs ++ birth ∷ []) n id) (eqb-true parent i here) (subst (IsChild (xs ++ birth ∷ []) parent) (sym (eqb-true id job same)) new_child)

        by : (t : Bool) → (parent == i) ≡ t → child_of (log_in work (own ++ cons_option (only_if t (entry.Born child top job label second grant)) [])) id ≡ Some (true, shut) → IsChild (xs ++ birth ∷ []) i id
        by false other was = kept (sym (said_none work own id) ∙ was)
        by true here was = its here (id == job) refl (sym (said_by work own id (entry.Born child top job label second grant)) ∙ was)

  -- ---- an end

  module _ (xs : List Entry) (child parent job : ℕ) (shut : Bool) (m : IsLegalEnd set xs child parent job shut) where
    abbrev end : Entry
    end = entry.Gone child parent job shut

    gone_from : from_of (birth_of xs child) ≡ Some (parent, job)
    gone_from = ap (λ x. x.from) (sym ((member set xs m.living m.may.lives).is ∙ ap (living_in set xs) m.named)) ∙ m.from

    -- the child of another job doesn't go
    other_stays : (i id : ℕ) (k : IsChild xs i id) → (parent ≡ i → id ≡ job → ⊥) → ends k.child end ≡ false
    other_stays i id k other = false_from_ne_true (k.child == child) (λ t.
        let pair : Some (i, id) ≡ Some (parent, job) = sym k.from ∙ ap (λ n. from_of (birth_of xs n)) (eqb-true k.child child t) ∙ gone_from in
        let same : ◌≡◌ {A = ℕ × ℕ} (i, id) (parent, job) = cc in
        other (sym (ap (λ x. x.0) same)) (ap (λ x. x.1) same))

    end_child : (own : List Entry) (work : Workload) (i id : ℕ) (living : Bool) → (child_of (log_in work own) id ≡ Some (true, living) → IsChild xs i id)
        → child_of (log_in work (own ++ cons_option (only_if (parent == i) (entry.Gone child top job shut)) [])) id ≡ Some (true, living) → IsChild (xs ++ end ∷ []) i id
    end_child own work i id living old now = by (parent == i) refl now
      where
        kept : (parent ≡ i → id ≡ job → ⊥) → child_of (log_in work own) id ≡ Some (true, living) → IsChild (xs ++ end ∷ []) i id
        kept other was = let k = old was in stays_child xs end i id k (other_stays i id k other)

        its : (t : Bool) → (id == job) ≡ t → unwrap_or (told_if t (Some (false, shut))) (child_of (log_in work own) id) ≡ Some (true, living) → IsChild (xs ++ end ∷ []) i id
        its false other was = kept (λ p e. true≢false (sym (eq-eqb id job e) ∙ other)) was
        its true same was = let pair : ◌≡◌ {A = Bool × Bool} (false, shut) (true, living) = cc in absurd (true≢false (sym (ap (λ x. x.0) pair)))

        by : (t : Bool) → (parent == i) ≡ t → child_of (log_in work (own ++ cons_option (only_if t (entry.Gone child top job shut)) [])) id ≡ Some (true, living) → IsChild (xs ++ end ∷ []) i id
        by false other was = kept (λ p e. true≢false (sym (eq-eqb parent i p) ∙ other)) (sym (said_none work own id) ∙ was)
        by true here was = its (id == job) refl (sym (said_by work own id (entry.Gone child top job shut)) ∙ was)

  -- one that lived before
  lived_step : (xs : List Entry) (e : Entry) → IsLegalRun set xs → IsLegalRunEntry set xs e → (own : List Entry) (work : Workload) (i id : ℕ) (shut : Bool)
      → (child_of (log_in work own) id ≡ Some (true, shut) → IsChild xs i id)
      → child_of (log_in work (own ++ cons_option (own_entry set.work.actors (label_of xs i) i e) [])) id ≡ Some (true, shut) → IsChild (xs ++ e ∷ []) i id
  lived_step xs (entry.Born child parent job label second grant) run l own work i id shut old now = birth_child xs run child parent job label second grant l.grounds own work i id shut old now
  lived_step xs (entry.Gone child parent job left) run l own work i id shut old now = end_child xs child parent job left l.grounds own work i id shut old now
  lived_step xs e run l own work i id shut old now = plain_child xs e refl refl i id (old (sym (says_nothing work own id set.work.actors (label_of xs i) i e refl refl) ∙ now))

  has_step : (xs : List Entry) (e : Entry) → EachAfter (IsLegalRunEntry set) [] xs → IsLegalRunEntry set xs e → HasThose xs → HasThose (xs ++ e ∷ [])
  unfolding HasThose SaidIn
  has_step xs e run l old i h id shut now =
      let v = lived xs e i h in
      elim v.how [
        | inl was ↦
            let s = setup_in set xs i in
            let same = setup_kept set xs (e ∷ []) i (alive xs i was).0 in
            let here : child_of (log_in s.work (own_of set xs i ++ cons_option (own_entry set.work.actors (label_of xs i) i e) [])) id ≡ Some (true, shut)
            = sym (ap₂ (λ (s : Setup) own. child_of (log_in s.work own) id) same (own_push set xs e i was v.stays)) ∙ now in
            lived_step xs e run l (own_of set xs i) s.work i id shut (old i was id shut) here
        | inr new ↦ none (sym (ap (λ own. child_of (log_in (setup_in set (xs ++ e ∷ []) i).work own) id) (own_born set xs e i new.0 new.1)) ∙ now)
      ]
    where
      none : {A : Type 0} → ◌≡◌ {A = Option (Bool × Bool)} None (Some (true, shut)) → A
      none e = cc

  has_first : HasThose []
  unfolding HasThose SaidIn
  has_first i h id shut now = none (sym (ap (λ own. child_of (log_in (setup_in set [] i).work own) id) (own_none set i)) ∙ now)
    where
      none : {A : Type 0} → ◌≡◌ {A = Option (Bool × Bool)} None (Some (true, shut)) → A
      none e = cc

  has_those : (c : List Entry) → IsLegalRun set c → HasThose c
  has_those c l = each_along (IsLegalRunEntry set) HasThose has_step [] c tt l has_first

  -- ---- ticks

  tick_ends : (xs : List Entry) (second : ℕ) → IsLegalRun set xs → IsLegalRunEntry set xs (entry.Ticked second) → (i : ℕ) → lives xs i ≡ true → EndsFirst (setup_in set xs i) (own_of set xs i) (entry.Ticked second)
  unfolding HasThose SaidIn
  tick_ends xs second run l i h st d standing is id due =
      let there = child_there d.scene.asked id due.lives in
      let k = has_those xs run i h id there.0 ((is.asked (asked.Child id true there.0)).0 there.1) in
      l.grounds.idle.stays (living_in set xs k.child) (in_family set xs k.child k.living) (record {
        here = in_family set xs k.child k.living;
        parent = living_in set xs i;
        lives = in_family set xs i h;
        job = id;
        from = k.from;
        due = (st, standing, (d, is, record { j = due.j; known = due.known; named = due.named; lives = due.lives; over = elim due.over [ inl none ↦ absurd none | inr over ↦ inr over ] }));
      })

  AreEndsFirst : List Entry → Type 0
  AreEndsFirst c = (i : ℕ) → lives c i ≡ true → EndsComeFirst (setup_in set c i) (own_of set c i)

  module _ (s : Setup) (own : List Entry) (old : EndsComeFirst s own) where
    with_one : (b : Bool) (f : Entry) → EndsFirst s own f → EndsComeFirst s (own ++ cons_option (only_if b f) [])
    with_one true f h = each_joined (EndsFirst s) [] own (f ∷ []) old (h, tt)
    with_one false f h = subst (EndsComeFirst s) (sym (append-nil own)) old

    with_entry : (actors : List Actor) (label : Option (List ℕ)) (i : ℕ) (e : Entry) → ((second : ℕ) → e ≡ entry.Ticked second → EndsFirst s own (entry.Ticked second)) → EndsComeFirst s (own ++ cons_option (own_entry actors label i e) [])
    with_entry actors label i (entry.Issued actor command) tick = with_one (is_at actors label actor) (entry.Issued actor command) tt
    with_entry actors label i (entry.Landed instance space number authors groups) tick = with_one (instance == i) (entry.Landed top space number authors groups) tt
    with_entry actors label i (entry.Denied instance space authors group refusal) tick = with_one (instance == i) (entry.Denied top space authors group refusal) tt
    with_entry actors label i (entry.Heard instance broker space number) tick = with_one (instance == i) (entry.Heard top broker space number) tt
    with_entry actors label i (entry.Got instance broker reference) tick = with_one (instance == i) (entry.Got top broker reference) tt
    with_entry actors label i (entry.Dropped instance broker reference) tick = with_one (instance == i) (entry.Dropped top broker reference) tt
    with_entry actors label i (entry.Replied actor command given number) tick = with_one (is_at actors label actor) (entry.Replied actor command given number) tt
    with_entry actors label i (entry.Told from to) tick = with_one (is_at actors label from) (entry.Told from to) tt
    with_entry actors label i (entry.Ticked second) tick = with_one true (entry.Ticked second) (tick second refl)
    with_entry actors label i (entry.Born child parent job name second grant) tick = with_one (parent == i) (entry.Born child top job name second grant) tt
    with_entry actors label i (entry.Gone child parent job shut) tick = with_one (parent == i) (entry.Gone child top job shut) tt
    with_entry actors label i (entry.Watched actor command number first count) tick = with_one (is_at actors label actor) (entry.Watched actor command number first count) tt
    with_entry actors label i entry.Closed tick = with_one true entry.Closed tt

  ends_step : (xs : List Entry) (e : Entry) → EachAfter (IsLegalRunEntry set) [] xs → IsLegalRunEntry set xs e → AreEndsFirst xs → AreEndsFirst (xs ++ e ∷ [])
  unfolding AreEndsFirst
  ends_step xs e run l old i h =
      let v = lived xs e i h in
      elim v.how [
        | inl was ↦
            subst (λ s. EndsComeFirst s (own_of set (xs ++ e ∷ []) i)) (sym (setup_kept set xs (e ∷ []) i (alive xs i was).0))
            (subst (EndsComeFirst (setup_in set xs i)) (sym (own_push set xs e i was v.stays))
            (with_entry (setup_in set xs i) (own_of set xs i) (old i was) set.work.actors (label_of xs i) i e (λ second is. tick_ends xs second run (subst (IsLegalRunEntry set xs) is l) i was)))
        | inr new ↦ subst (EndsComeFirst (setup_in set (xs ++ e ∷ []) i)) (sym (own_born set xs e i new.0 new.1)) tt
      ]

  pub ends_first : (c : List Entry) → IsLegalRun set c → (i : ℕ) → lives c i ≡ true → EndsComeFirst (setup_in set c i) (own_of set c i)
  unfolding AreEndsFirst
  ends_first c l = each_along (IsLegalRunEntry set) AreEndsFirst ends_step [] c tt l (λ i h. subst (EndsComeFirst (setup_in set [] i)) (sym (own_none set i)) tt)
