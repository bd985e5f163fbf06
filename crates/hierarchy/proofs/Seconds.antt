-- All living instances of a run have one second, which the births don't pass.
use Rattle.std.proofs.Common.{◌≡◌, ℕ, ◌≤◌, ◌==◌, inl, inr, List, [], ◌∷◌, ◌++◌, Bool, true, false, cond, Option, Some, None, is_some, option_map, unwrap_or, refl, sym, ap, ap₂, ◌∙◌, subst, arith, append-nil, true≢false}
use Rattle.std.specs.Prelude.{All}
use Rattle.std.specs.List.{cons_option}
use Rattle.std.specs.Option.{option_map_or}
use Rattle.std.proofs.lemmas.Bool.{eqb-true}
use Rattle.std.proofs.lemmas.List.Elements.{All-append, All-nil, All-push, All-weaker}
use Rattle.kvs_rules.proofs.Sequences.{each_along, latest_push}
use Rattle.kvs_rules.specs.Log as service
use Rattle.kvs_rules.specs.Sequence.{EachAfter}
use Rattle.kvs_txn.specs.declared.txn.By.{By}
use Rattle.instance_rules.specs.Log.{Born, Gone, Issued, JobReply, Log, Moment, Replied, Served, now_of, ticked}
use Rattle.instance_rules.proofs.Ends.{goes_on}
use Rattle.workload.specs.declared.work.Actor.{Actor}
use Rattle.workload.specs.declared.work.Workload.{Workload}
use Rattle.answers.specs.Chronicle.{Setup, top}
use Rattle.answers.specs.Jobs.{happening_of, instance_of, job_ask_at, job_reply_of, log_in, second_of, start_of}
use Rattle.answers.specs.Services.{moment_of}
use Rattle.answers.specs.declared.chronicle.Entry.{Entry}
use Rattle.answers.specs.declared.chronicle.Entry.TheVariants as entry
use Rattle.hierarchy.specs.Births.{birth_in, births, ends, is_at, label_of, lives}
use Rattle.hierarchy.specs.Families.{family_of, left_in, living_in, second_in}
use Rattle.hierarchy.specs.Legal.{IsLegalRun, IsLegalRunEntry}
use Rattle.hierarchy.specs.Own.{begins, child_setup, only_if, own_entry, own_of, setup_in, work_for}
use Rattle.hierarchy.proofs.Bearing.{first_top}
use Rattle.hierarchy.proofs.Members.{member}
use Rattle.hierarchy.proofs.Nested.{born_is, happenings_push}
use Rattle.hierarchy.proofs.Owning.{alive, births_push, lived, lives_on, own_born, own_push, setup_kept}

-- ---- to which second an entry lets time go on

abbrev pub ticks : Entry → Option ℕ
ticks (entry.Ticked second) = Some second
ticks _ = None

abbrev pub ticks_of : Option Entry → Option ℕ
ticks_of None = None
ticks_of (Some e) = ticks e

abbrev tick_of : Option Moment → Option ℕ
tick_of None = None
tick_of (Some m) = ticked m

served_ticks : (o : Option service.Moment) → tick_of (option_map Served o) ≡ None
served_ticks None = refl
served_ticks (Some m) = refl

issued_ticks : (by : By) (b : Bool) (o : Option service.Moment) → tick_of (cond b (Some (Issued by)) (option_map Served o)) ≡ None
issued_ticks by true o = refl
issued_ticks by false o = served_ticks o

replied_ticks : (by : By) (number : Option ℕ) (r : Option JobReply) (o : Option service.Moment) → tick_of (option_map_or (λ x. Some (Replied by x number)) r (option_map Served o)) ≡ None
replied_ticks by number None o = served_ticks o
replied_ticks by number (Some x) o = refl

child_ticks : (b : Bool) (m : Moment) → ticked m ≡ None → tick_of (cond b (Some m) None) ≡ None
child_ticks true m e = e
child_ticks false m e = refl

entry_ticks : (work : Workload) (c : List Entry) (e : Entry) → tick_of (happening_of work c e) ≡ ticks e
entry_ticks work c (entry.Issued actor number) = issued_ticks (record { actor = actor; command = number }) (is_some (job_ask_at work (record { actor = actor; command = number }))) (moment_of work top c (entry.Issued actor number))
entry_ticks work c (entry.Replied actor number given at_) = replied_ticks (record { actor = actor; command = number }) at_ (job_reply_of given) (moment_of work top c (entry.Replied actor number given at_))
entry_ticks work c (entry.Ticked second) = refl
entry_ticks work c (entry.Born child parent job label second grant) = child_ticks (parent == top) (Born job) refl
entry_ticks work c (entry.Gone child parent job shut) = child_ticks (parent == top) (Gone job shut) refl
entry_ticks work c (entry.Watched actor command number first count) = refl
entry_ticks work c e = served_ticks (moment_of work top c e)

second_push : (s : Setup) (own : List Entry) (e : Entry) → second_of s (own ++ e ∷ []) ≡ unwrap_or (ticks e) (second_of s own)
second_push s own e =
    ap (now_of (instance_of s)) (happenings_push s.work own e)
    ∙ pushed (log_in s.work own) (happening_of s.work own e)
    ∙ ap (λ o. unwrap_or o (second_of s own)) (entry_ticks s.work own e)
  where
    pushed : (log : Log) (o : Option Moment) → now_of (instance_of s) (log ++ cons_option o []) ≡ unwrap_or (tick_of o) (now_of (instance_of s) log)
    pushed log None = ap (now_of (instance_of s)) (append-nil log)
    pushed log (Some m) = latest_push ticked (start_of s) log m

second_more : (s : Setup) (own : List Entry) (o : Option Entry) → second_of s (own ++ cons_option o []) ≡ unwrap_or (ticks_of o) (second_of s own)
second_more s own None = ap (second_of s) (append-nil own)
second_more s own (Some e) = second_push s own e

-- an entry is a tick in its own chronicle where it is one in the run
own_ticks : (actors : List Actor) (label : Option (List ℕ)) (i : ℕ) (e : Entry) → ticks_of (own_entry actors label i e) ≡ ticks e
own_ticks actors label i e = of e
  where
    only : (b : Bool) (f : Entry) → ticks f ≡ None → ticks_of (only_if b f) ≡ None
    only true f h = h
    only false f h = refl

    of : (e : Entry) → ticks_of (own_entry actors label i e) ≡ ticks e
    of (entry.Issued actor command) = only (is_at actors label actor) _ refl
    of (entry.Landed instance space number authors groups) = only (instance == i) _ refl
    of (entry.Denied instance space authors group refusal) = only (instance == i) _ refl
    of (entry.Heard instance broker space number) = only (instance == i) _ refl
    of (entry.Got instance broker reference) = only (instance == i) _ refl
    of (entry.Dropped instance broker reference) = only (instance == i) _ refl
    of (entry.Replied actor command given number) = only (is_at actors label actor) _ refl
    of (entry.Told from to) = only (is_at actors label from) _ refl
    of (entry.Ticked second) = refl
    of (entry.Born child parent job name second grant) = only (parent == i) _ refl
    of (entry.Gone child parent job shut) = only (parent == i) _ refl
    of (entry.Watched actor command number first count) = only (is_at actors label actor) _ refl
    of entry.Closed = refl

-- ---- the top

module _ (set : Setup) where
  -- it doesn't end
  pub top_stays : (c : List Entry) (e : Entry) → IsLegalRunEntry set c e → ends top e ≡ false
  top_stays c (entry.Gone child parent job shut) l = by (top == child) refl
    where
      by : (b : Bool) → (top == child) ≡ b → b ≡ false
      by false is = refl
      by true is =
          let m = member set c l.grounds.living l.grounds.may.lives in
          let number : l.grounds.living.number ≡ top = l.grounds.named ∙ sym (eqb-true top child is) in
          let none : ◌≡◌ {A = Option (ℕ × ℕ)} None (Some (parent, job)) = sym (ap (λ x. x.from) m.is ∙ ap (λ n. (living_in set c n).from) number) ∙ l.grounds.from in
          cc
  top_stays c _ l = refl

  -- so it lives all along
  pub top_lives : (c : List Entry) → IsLegalRun set c → lives c top ≡ true
  top_lives c l = each_along (IsLegalRunEntry set) (λ xs. lives xs top ≡ true) (λ xs e before fits h. lives_on xs e top h (top_stays xs e fits)) [] c tt l refl

  second_own : (c : List Entry) (e : Entry) (i : ℕ) → lives c i ≡ true → ends i e ≡ false
      → second_of (setup_in set (c ++ e ∷ []) i) (own_of set (c ++ e ∷ []) i) ≡ unwrap_or (ticks e) (second_of (setup_in set c i) (own_of set c i))
  second_own c e i h stays =
      let o = own_entry set.work.actors (label_of c i) i e in
      ap₂ second_of (setup_kept set c (e ∷ []) i (alive c i h).0) (own_push set c e i h stays)
      ∙ second_more (setup_in set c i) (own_of set c i) o
      ∙ ap (λ t. unwrap_or t (second_of (setup_in set c i) (own_of set c i))) (own_ticks set.work.actors (label_of c i) i e)

  pub second_in_push : (c : List Entry) (e : Entry) → IsLegalRun set c → IsLegalRunEntry set c e → second_in set (c ++ e ∷ []) ≡ unwrap_or (ticks e) (second_in set c)
  second_in_push c e l fits = second_own c e top (top_lives c l) (top_stays c e fits)

  -- ---- one second

  AreAtOnce : List Entry → Type 0
  AreAtOnce c = (i : ℕ) → lives c i ≡ true → second_of (setup_in set c i) (own_of set c i) ≡ second_in set c

  -- a child begins at the second of its birth, which is the present one
  child_begins : (c : List Entry) (e : Entry) → IsLegalRunEntry set c e → (i : ℕ) → begins i e ≡ true
      → start_of (option_map_or (child_setup set) (birth_in e) (record set { work = work_for set.work None set.size })) ≡ unwrap_or (ticks e) (second_in set c)
  child_begins c (entry.Born child parent job label second grant) l i b = l.grounds.now
  child_begins c _ l i b = absurd (true≢false (sym b))

  at_once_step : (xs : List Entry) (e : Entry) → EachAfter (IsLegalRunEntry set) [] xs → IsLegalRunEntry set xs e → AreAtOnce xs → AreAtOnce (xs ++ e ∷ [])
  unfolding AreAtOnce
  at_once_step xs e before l old i h =
      let v = lived xs e i h in
      let present = second_in_push xs e before l in
      elim v.how [
        | inl was ↦ second_own xs e i was v.stays ∙ ap (λ n. unwrap_or (ticks e) n) (old i was) ∙ sym present
        | inr new ↦
            ap (second_of (setup_in set (xs ++ e ∷ []) i)) (own_born set xs e i new.0 new.1)
            ∙ ap (λ o. start_of (option_map_or (child_setup set) o (record set { work = work_for set.work None set.size }))) (born_is xs e i new.0 new.1)
            ∙ child_begins xs e l i new.1 ∙ sym present
      ]

  pub at_once : (c : List Entry) → IsLegalRun set c → (i : ℕ) → lives c i ≡ true → second_of (setup_in set c i) (own_of set c i) ≡ second_in set c
  unfolding AreAtOnce
  at_once c l = each_along (IsLegalRunEntry set) AreAtOnce at_once_step [] c tt l (λ i h. at_first i (first_top set i (alive [] i h).0))
    where
      at_first : (i : ℕ) → i ≡ top → second_of (setup_in set [] i) (own_of set [] i) ≡ second_in set []
      at_first i is = ap (λ n. second_of (setup_in set [] n) (own_of set [] n)) is

  -- ---- births

  not_back : (c : List Entry) (e : Entry) → IsLegalRunEntry set c e → second_in set c ≤ unwrap_or (ticks e) (second_in set c)
  not_back c (entry.Ticked second) l = let above = goes_on (family_of set c) (second_in set c) (left_in set c) second l.grounds in omega arith
  not_back c _ l = omega arith

  BornBy : List Entry → Type 0
  BornBy c = All (λ b. b.second ≤ second_in set c) (births c)

  born_by_step : (xs : List Entry) (e : Entry) → EachAfter (IsLegalRunEntry set) [] xs → IsLegalRunEntry set xs e → BornBy xs → BornBy (xs ++ e ∷ [])
  unfolding BornBy
  born_by_step xs e before l old =
      let present = second_in_push xs e before l in
      let later = not_back xs e l in
      let now : second_in set xs ≤ second_in set (xs ++ e ∷ []) = omega (arith, present, later) in
      subst (All (λ b. b.second ≤ second_in set (xs ++ e ∷ []))) (sym (births_push xs e))
      (All-append (λ b. b.second ≤ second_in set (xs ++ e ∷ [])) (births xs) (cons_option (birth_in e) [])
      (All-weaker (λ b. b.second ≤ second_in set xs) (λ b. b.second ≤ second_in set (xs ++ e ∷ [])) (λ b low. omega (arith, low, now)) (births xs) old)
      (new e l now))
    where
      new : (e : Entry) → IsLegalRunEntry set xs e → second_in set xs ≤ second_in set (xs ++ e ∷ []) → All (λ b. b.second ≤ second_in set (xs ++ e ∷ [])) (cons_option (birth_in e) [])
      new (entry.Born child parent job label second grant) l now =
          let is : second ≡ second_in set xs = l.grounds.now in
          All-push (λ b. b.second ≤ second_in set (xs ++ entry.Born child parent job label second grant ∷ [])) [] _ (All-nil (λ b. b.second ≤ second_in set (xs ++ entry.Born child parent job label second grant ∷ []))) (omega (arith, is, now))
      new x l now = All-nil (λ b. b.second ≤ second_in set (xs ++ x ∷ []))

  pub born_by : (c : List Entry) → IsLegalRun set c → All (λ b. b.second ≤ second_in set c) (births c)
  unfolding BornBy
  born_by c l = each_along (IsLegalRunEntry set) BornBy born_by_step [] c tt l (All-nil (λ b. b.second ≤ second_in set []))
