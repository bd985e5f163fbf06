-- In a run time stays within the advances that are issued.
use Rattle.std.proofs.Common.{◌≡◌, ℕ, ◌+◌, ◌<◌, ◌≤◌, ◌^◌, ◌==◌, ◌&&◌, ◌||◌, inl, inr, List, [], ◌∷◌, ◌++◌, Bool, true, false, cond, not, Option, Some, None, is_some, option_map, unwrap_or, refl, sym, ap, ap₂, ◌∙◌, subst, arith, append-nil, true≢false}
use Rattle.std.specs.Prelude.{All, IfSome, filter_map, option_and_then}
use Rattle.std.specs.List.{cons_option, list_any}
use Rattle.std.specs.Option.{option_map_or}
use Rattle.std.proofs.lemmas.Bool.{eq-eqb}
use Rattle.std.proofs.lemmas.List.Elements.{All-contains, All-cons, All-nil}
use Rattle.std.proofs.lemmas.List.Folds.{list_any-append}
use Rattle.std.proofs.lemmas.List.Sums.{sum_by_push}
use Rattle.job_rules.proofs.Among.{Among, any_at}
use Rattle.kvs_txn.specs.declared.txn.By.{By}
use Rattle.kvs_rules.proofs.Sequences.{each_along, each_joined, until-append}
use Rattle.kvs_rules.specs.Sequence.{EachAfter, until}
use Rattle.instance_rules.specs.Family.{HasTarget, IsTarget, MayTick}
use Rattle.instance_rules.specs.Log as rules
use Rattle.instance_rules.specs.Log.{now_of}
use Rattle.instance_rules.proofs.Ends.{target_kept}
use Rattle.workload.specs.Tallies.{seconds_in, seconds_of}
use Rattle.workload.specs.declared.work.Actor.{Actor}
use Rattle.workload.specs.declared.work.Command.{Command}
use Rattle.workload.specs.declared.work.Command.TheVariants as command
use Rattle.workload.specs.declared.work.Workload.{Workload}
use Rattle.answers.specs.Chronicle.{Setup, before_issue, is_issued, is_replied, issues}
use Rattle.answers.specs.Commands.{command_at}
use Rattle.answers.specs.Jobs.{instance_of, job_ask_at, job_ask_of, log_in, second_of, start_of}
use Rattle.answers.specs.declared.chronicle.Entry.{Entry}
use Rattle.answers.specs.declared.chronicle.Entry.TheVariants as entry
use Rattle.answers.proofs.JobLogs.{issued_alike, log_before_issue}
use Rattle.answers.proofs.Services.{eqb_is, first_of}
use Rattle.answers.proofs.Services as services
use Rattle.run_laws.specs.Times.{HasTime, KeepsTime, seconds_at, seconds_by, seconds_issued}
use Rattle.hierarchy.specs.Births.{has_lost_home, is_at, label_of, lives}
use Rattle.hierarchy.specs.Families.{family_of, left_by, left_in, living_in, second_in, seconds_asked}
use Rattle.hierarchy.specs.Legal.{IsLegalRun, IsLegalRunEntry}
use Rattle.hierarchy.specs.Own.{only_if, own_entry, own_of, setup_in}
use Rattle.hierarchy.proofs.Bearing.{own_none}
use Rattle.hierarchy.proofs.Issues.{issued_in_run}
use Rattle.hierarchy.proofs.Members.{member}
use Rattle.hierarchy.proofs.Owning.{alive, lived, own_born, own_push, setup_kept}
use Rattle.hierarchy.proofs.Seconds.{at_once, second_in_push, ticks}
use Rattle.hierarchy.proofs.Steps.{command_same}

until_new : {A : Type 0} (test : A → Bool) (xs : List A) (y : A) → list_any test xs ≡ false → test y ≡ true → until test (xs ++ y ∷ []) ≡ xs
until_new test [] y none passes = ap (λ b. cond b [] (y ∷ [])) passes
until_new {A} test (x ∷ xs) y none passes = at (test x) (λ e. until_new test xs y e passes) none
  where
    at : (b : Bool) → (list_any test xs ≡ false → until test (xs ++ y ∷ []) ≡ xs) → (b || list_any test xs) ≡ false → cond b [] (x ∷ until test (xs ++ y ∷ [])) ≡ x ∷ xs
    at true again e = absurd (true≢false e)
    at false again e = ap (λ l. x ∷ l) (again e)

-- one more is issued before or now
issued_more : (by : By) (c : List Entry) (e : Entry) → is_issued by (c ++ e ∷ []) ≡ (is_issued by c || issues by e)
issued_more by c e = list_any-append (issues by) c (e ∷ []) ∙ ap (λ b. is_issued by c || b) (or_false (issues by e))
  where
    or_false : (b : Bool) → (b || false) ≡ b
    or_false true = refl
    or_false false = refl

-- ---- advances

advance_is : (c : Command) (seconds : ℕ) → job_ask_of c ≡ Some (rules.Advance seconds) → seconds_of c ≡ seconds
advance_is (command.Advance n) seconds e = cc
advance_is _ seconds e = cc

advance_at : (o : Option Command) (seconds : ℕ) → option_and_then job_ask_of o ≡ Some (rules.Advance seconds) → option_map_or seconds_of o 0 ≡ seconds
advance_at None seconds e = cc
advance_at (Some c) seconds e = advance_is c seconds e

-- the seconds of the command that an entry issues
issued_seconds : (work : Workload) (by : By) (e : Entry) → issues by e ≡ true → seconds_by work e ≡ seconds_at work by
issued_seconds work by (entry.Issued actor number) h =
    let a : by.actor ≡ actor = eqb_is by.actor actor (first_of _ _ h) in
    let k : by.command ≡ number = eqb_is by.command number (services.second_of (by.actor == actor) _ h) in
    sym (ap₂ (λ x y. seconds_at work (record { actor = x; command = y })) a k)
issued_seconds work by _ h = absurd (true≢false (sym h))

-- what an own chronicle issues is issued in the run, by an actor of the instance
record IsItsIssue (actors : List Actor) (label : Option (List ℕ)) (by : By) (e : Entry) : Type 0 where
  here : is_at actors label by.actor ≡ true
  now : issues by e ≡ true

only_gives : (b : Bool) (x f : Entry) → only_if b x ≡ Some f → (b ≡ true) × (x ≡ f)
only_gives true x f is = let same : x ≡ f = cc in (refl, same)
only_gives false x f is = cc

module _ (actors : List Actor) (label : Option (List ℕ)) (i : ℕ) (by : By) (f : Entry) (now : issues by f ≡ true) where
  never : (x : Entry) → issues by x ≡ false → x ≡ f → ⊥
  never x other same = true≢false (sym now ∙ sym (ap (issues by) same) ∙ other)

  none : (b : Bool) (x : Entry) → issues by x ≡ false → only_if b x ≡ Some f → ⊥
  none b x other is = never x other (only_gives b x f is).1

  own_issue : (e : Entry) → own_entry actors label i e ≡ Some f → IsItsIssue actors label by e
  own_issue (entry.Issued actor command) is =
      let p = only_gives (is_at actors label actor) (entry.Issued actor command) f is in
      let this : issues by (entry.Issued actor command) ≡ true = ap (issues by) p.1 ∙ now in
      record { here = ap (is_at actors label) (eqb_is by.actor actor (first_of _ _ this)) ∙ p.0; now = this }
  own_issue (entry.Landed instance space number authors groups) is = absurd (none (instance == i) _ refl is)
  own_issue (entry.Denied instance space authors group refusal) is = absurd (none (instance == i) _ refl is)
  own_issue (entry.Heard instance broker space number) is = absurd (none (instance == i) _ refl is)
  own_issue (entry.Got instance broker reference) is = absurd (none (instance == i) _ refl is)
  own_issue (entry.Dropped instance broker reference) is = absurd (none (instance == i) _ refl is)
  own_issue (entry.Replied actor command given number) is = absurd (none (is_at actors label actor) _ refl is)
  own_issue (entry.Told from to) is = absurd (none (is_at actors label from) _ refl is)
  own_issue (entry.Ticked second) is = absurd (none true (entry.Ticked second) refl is)
  own_issue (entry.Born child parent job name second grant) is = absurd (none (parent == i) _ refl is)
  own_issue (entry.Gone child parent job shut) is = absurd (none (parent == i) _ refl is)
  own_issue (entry.Watched actor command number first count) is = absurd (none (is_at actors label actor) _ refl is)
  own_issue entry.Closed is = absurd (none true entry.Closed refl is)

-- ---- within what is issued

module _ (set : Setup) where
  -- an issue lets time go on to a second within what is issued, in the run and in each living instance
  record AreWithin (c : List Entry) : Type 0 where
    present : second_in set c ≤ start_of set + seconds_issued set.work c
    issued : (by : By) → is_issued by c ≡ true → second_in set (before_issue by c) + seconds_at set.work by ≤ start_of set + seconds_issued set.work c
    own : (i : ℕ) → lives c i ≡ true → (by : By) → is_issued by (own_of set c i) ≡ true
        → second_of (setup_in set c i) (before_issue by (own_of set c i)) + seconds_at (setup_in set c i).work by ≤ start_of set + seconds_issued set.work c

  module _ (c : List Entry) (h : AreWithin c) where
    target_within : (i : ℕ) → lives c i ≡ true → (target : ℕ) → HasTarget (living_in set c i) target → target ≤ start_of set + seconds_issued set.work c
    target_within i there target t =
        let s = setup_in set c i in
        let mine = own_of set c i in
        let asks : is_some (job_ask_at s.work t.by) ≡ true = ap is_some t.asks in
        let issued : is_issued t.by mine ≡ true = sym (issued_alike s.work t.by asks mine) ∙ t.waits.issued in
        let began : now_of (instance_of s) (rules.before_issue t.by (log_in s.work mine)) ≡ second_of s (before_issue t.by mine) = ap (now_of (instance_of s)) (log_before_issue s.work t.by asks mine) in
        let long : seconds_at s.work t.by ≡ t.seconds = advance_at (command_at s.work t.by) t.seconds t.asks in
        let is : target ≡ now_of (instance_of s) (rules.before_issue t.by (log_in s.work mine)) + t.seconds = t.is in
        let low = h.own i there t.by issued in
        omega (arith, began, long, is, low)

    -- the target that an issue leaves
    asked_within : (o : Option Command) (base most : ℕ) → base + option_map_or seconds_of o 0 ≤ most → IfSome (option_map (λ seconds. base + seconds) (option_and_then seconds_asked o)) (λ target. target ≤ most)
    asked_within None base most low = tt
    asked_within (Some (command.Advance seconds)) base most low = low
    asked_within (Some _) base most low = tt

    if_within : (b : Bool) (o : Option ℕ) (most : ℕ) → IfSome o (λ target. target ≤ most) → IfSome (cond b o None) (λ target. target ≤ most)
    if_within true o most low = low
    if_within false o most low = tt

    left_within : (e : Entry) → Among e c → IfSome (left_by set c e) (λ target. target ≤ start_of set + seconds_issued set.work c)
    left_within (entry.Issued actor number) there =
        let by : By = record { actor = actor; command = number } in
        let this : issues by (entry.Issued actor number) ≡ true = ap₂ (λ a b. a && b) (eq-eqb actor actor refl) (eq-eqb number number refl) in
        if_within (has_lost_home set.work.actors c actor && not (is_replied by c)) _ _
        (asked_within (command_at set.work by) (second_in set (before_issue by c)) _ (h.issued by (any_at (issues by) c (entry.Issued actor number) there this)))
    left_within _ there = tt

    lefts_within : (xs : List Entry) → ((e : Entry) → Among e xs → Among e c) → All (λ target. target ≤ start_of set + seconds_issued set.work c) (filter_map (left_by set c) xs)
    lefts_within [] part = All-nil (λ target. target ≤ start_of set + seconds_issued set.work c)
    lefts_within (e ∷ xs) part = more (left_by set c e) (left_within e (part e (inl refl))) (lefts_within xs (λ x there. part x (inr there)))
      where
        more : (o : Option ℕ) → IfSome o (λ target. target ≤ start_of set + seconds_issued set.work c) → All (λ target. target ≤ start_of set + seconds_issued set.work c) (filter_map (left_by set c) xs)
            → All (λ target. target ≤ start_of set + seconds_issued set.work c) (cons_option o (filter_map (left_by set c) xs))
        more None low rest = rest
        more (Some target) low rest = All-cons (λ target. target ≤ start_of set + seconds_issued set.work c) target (filter_map (left_by set c) xs) low rest

    wanted_within : (target : ℕ) → IsTarget (family_of set c) (left_in set c) target → target ≤ start_of set + seconds_issued set.work c
    wanted_within target (inl (l, here, t)) =
        let m = member set c l here in
        target_within l.number m.lives_so target (subst (λ x. HasTarget x target) m.is t)
    wanted_within target (inr left) = All-contains (λ target. target ≤ start_of set + seconds_issued set.work c) (left_in set c) target (lefts_within c (λ e there. there)) left

    tick_within : (second : ℕ) → MayTick (family_of set c) (second_in set c) (left_in set c) second → second ≤ start_of set + seconds_issued set.work c
    tick_within second may =
        let low : second ≤ may.target = target_kept (family_of set c) (second_in set c) (left_in set c) second may may.target may.wanted may.unreached in
        let high = wanted_within may.target may.wanted in
        omega (arith, low, high)

    now_within : (e : Entry) → IsLegalRunEntry set c e → unwrap_or (ticks e) (second_in set c) ≤ start_of set + seconds_issued set.work c
    now_within (entry.Ticked second) l = tick_within second l.grounds
    now_within _ l = h.present

  -- what one more entry of an own chronicle issues
  module _ (xs : List Entry) (e : Entry) (before : IsLegalRun set xs) (h : AreWithin xs) where
    longer : seconds_issued set.work (xs ++ e ∷ []) ≡ seconds_issued set.work xs + seconds_by set.work e
    longer = sum_by_push (seconds_by set.work) xs e

    own_within : (i : ℕ) → lives xs i ≡ true → (by : By) (o : Option Entry) → own_entry set.work.actors (label_of xs i) i e ≡ o → is_issued by (own_of set xs i ++ cons_option o []) ≡ true
        → second_of (setup_in set xs i) (before_issue by (own_of set xs i ++ cons_option o [])) + seconds_at (setup_in set xs i).work by ≤ start_of set + seconds_issued set.work (xs ++ e ∷ [])
    own_within i there by None is issued =
        let same : own_of set xs i ++ [] ≡ own_of set xs i = append-nil (own_of set xs i) in
        let base : second_of (setup_in set xs i) (before_issue by (own_of set xs i ++ [])) ≡ second_of (setup_in set xs i) (before_issue by (own_of set xs i)) = ap (λ l. second_of (setup_in set xs i) (before_issue by l)) same in
        let low = h.own i there by (ap (is_issued by) (sym same) ∙ issued) in
        omega (arith, base, low, longer)
    own_within i there by (Some f) is issued = at (is_issued by (own_of set xs i)) refl (sym (issued_more by (own_of set xs i) f) ∙ issued)
      where
        at : (b : Bool) → is_issued by (own_of set xs i) ≡ b → (is_issued by (own_of set xs i) || issues by f) ≡ true
            → second_of (setup_in set xs i) (before_issue by (own_of set xs i ++ f ∷ [])) + seconds_at (setup_in set xs i).work by ≤ start_of set + seconds_issued set.work (xs ++ e ∷ [])
        at true was any =
            let base : second_of (setup_in set xs i) (before_issue by (own_of set xs i ++ f ∷ [])) ≡ second_of (setup_in set xs i) (before_issue by (own_of set xs i))
            = ap (second_of (setup_in set xs i)) (until-append (issues by) (own_of set xs i) (f ∷ []) was) in
            let low = h.own i there by was in
            omega (arith, base, low, longer)
        at false was any =
            let now : issues by f ≡ true = ap (λ b. b || issues by f) (sym was) ∙ any in
            let its = own_issue set.work.actors (label_of xs i) i by f now e is in
            let base : second_of (setup_in set xs i) (before_issue by (own_of set xs i ++ f ∷ [])) ≡ second_of (setup_in set xs i) (own_of set xs i)
            = ap (second_of (setup_in set xs i)) (until_new (issues by) (own_of set xs i) f was now) in
            let shared : second_of (setup_in set xs i) (own_of set xs i) ≡ second_in set xs = at_once set xs before i there in
            let asked : seconds_at (setup_in set xs i).work by ≡ seconds_at set.work by = ap (λ o. option_map_or seconds_of o 0) (command_same set xs i by its.here) in
            let spent : seconds_by set.work e ≡ seconds_at set.work by = issued_seconds set.work by e its.now in
            let low = h.present in
            omega (arith, base, shared, asked, spent, low, longer)

  within_step : (xs : List Entry) (e : Entry) → EachAfter (IsLegalRunEntry set) [] xs → IsLegalRunEntry set xs e → AreWithin xs → AreWithin (xs ++ e ∷ [])
  within_step xs e before l h = record {
    present =
        let now = second_in_push set xs e before l in
        let within = now_within xs h e l in
        let more = longer xs e before h in
        omega (arith, now, within, more);
    issued = λ by issued. target by (is_issued by xs) refl (sym (issued_more by xs e) ∙ issued);
    own = λ i there by issued.
        let v = lived xs e i there in
        elim v.how [
          | inl was ↦
              let o = own_entry set.work.actors (label_of xs i) i e in
              let same = setup_kept set xs (e ∷ []) i (alive xs i was).0 in
              let pushed : own_of set (xs ++ e ∷ []) i ≡ own_of set xs i ++ cons_option o [] = own_push set xs e i was v.stays in
              subst (λ s. second_of s (before_issue by (own_of set (xs ++ e ∷ []) i)) + seconds_at s.work by ≤ start_of set + seconds_issued set.work (xs ++ e ∷ [])) (sym same)
              (subst (λ l. second_of (setup_in set xs i) (before_issue by l) + seconds_at (setup_in set xs i).work by ≤ start_of set + seconds_issued set.work (xs ++ e ∷ [])) (sym pushed)
              (own_within xs e before h i was by o refl (ap (is_issued by) (sym pushed) ∙ issued)))
          | inr new ↦ absurd (true≢false (sym issued ∙ ap (is_issued by) (own_born set xs e i new.0 new.1)))
        ];
  }
    where
      target : (by : By) (b : Bool) → is_issued by xs ≡ b → (is_issued by xs || issues by e) ≡ true → second_in set (before_issue by (xs ++ e ∷ [])) + seconds_at set.work by ≤ start_of set + seconds_issued set.work (xs ++ e ∷ [])
      target by true was any =
          let same : second_in set (before_issue by (xs ++ e ∷ [])) ≡ second_in set (before_issue by xs) = ap (second_in set) (until-append (issues by) xs (e ∷ []) was) in
          let low = h.issued by was in
          let more = longer xs e before h in
          omega (arith, same, low, more)
      target by false was any =
          let now : issues by e ≡ true = ap (λ b. b || issues by e) (sym was) ∙ any in
          let same : second_in set (before_issue by (xs ++ e ∷ [])) ≡ second_in set xs = ap (second_in set) (until_new (issues by) xs e was now) in
          let own = issued_seconds set.work by e now in
          let low = h.present in
          let more = longer xs e before h in
          omega (arith, same, own, low, more)

  all_within : (c : List Entry) → IsLegalRun set c → AreWithin c
  all_within c l = each_along (IsLegalRunEntry set) AreWithin within_step [] c tt l (record {
    present = omega arith;
    issued = λ by none. absurd (true≢false (sym none));
    own = λ i there by none. absurd (true≢false (sym none ∙ ap (is_issued by) (own_none set i)));
  })

  pub time_issued : (c : List Entry) → IsLegalRun set c → second_in set c ≤ start_of set + seconds_issued set.work c
  time_issued c l = (all_within c l).present

  pub next_issued : (c : List Entry) (second : ℕ) → IsLegalRun set c → MayTick (family_of set c) (second_in set c) (left_in set c) second → second ≤ start_of set + seconds_issued set.work c
  next_issued c second l may = tick_within c (all_within c l) second may

  pub time_within : (c : List Entry) → IsLegalRun set c → second_in set c ≤ start_of set + seconds_in set.work.lines
  time_within c l =
      let a = time_issued c l in
      let b = issued_in_run set c l in
      omega (arith, a, b)

  pub next_within : (c : List Entry) (second : ℕ) → IsLegalRun set c → MayTick (family_of set c) (second_in set c) (left_in set c) second → second ≤ start_of set + seconds_in set.work.lines
  next_within c second l may =
      let a = next_issued c second l may in
      let b = issued_in_run set c l in
      omega (arith, a, b)

  -- ---- 64 bits

  module _ (fits : HasTime set) where
    AreTimely : List Entry → Type 0
    AreTimely c = (i : ℕ) → lives c i ≡ true → KeepsTime (setup_in set c i) (own_of set c i)

    timely_step : (xs : List Entry) (e : Entry) → EachAfter (IsLegalRunEntry set) [] xs → IsLegalRunEntry set xs e → AreTimely xs → AreTimely (xs ++ e ∷ [])
    unfolding AreTimely
    timely_step xs e before l old i h =
        let v = lived xs e i h in
        elim v.how [
          | inl was ↦
              let o = own_entry set.work.actors (label_of xs i) i e in
              subst (λ s. KeepsTime s (own_of set (xs ++ e ∷ []) i)) (sym (setup_kept set xs (e ∷ []) i (alive xs i was).0))
              (subst (KeepsTime (setup_in set xs i)) (sym (own_push set xs e i was v.stays)) (more (setup_in set xs i) (own_of set xs i) o (old i was) (early xs before i was)))
          | inr new ↦ subst (KeepsTime (setup_in set (xs ++ e ∷ []) i)) (sym (own_born set xs e i new.0 new.1)) tt
        ]
      where
        early : (xs : List Entry) → IsLegalRun set xs → (i : ℕ) → lives xs i ≡ true → second_of (setup_in set xs i) (own_of set xs i) < 2 ^ 64
        early xs before i was =
            let shared : second_of (setup_in set xs i) (own_of set xs i) ≡ second_in set xs = at_once set xs before i was in
            let low = time_within xs before in
            omega (arith, shared, low, fits)

        more : (s : Setup) (own : List Entry) (o : Option Entry) → KeepsTime s own → second_of s own < 2 ^ 64 → KeepsTime s (own ++ cons_option o [])
        more s own None h low = subst (KeepsTime s) (sym (append-nil own)) h
        more s own (Some f) h low = each_joined (λ past e. second_of s past < 2 ^ 64) [] own (f ∷ []) h (low, tt)

    pub timely : (c : List Entry) → IsLegalRun set c → (i : ℕ) → lives c i ≡ true → KeepsTime (setup_in set c i) (own_of set c i)
    unfolding AreTimely
    timely c l = each_along (IsLegalRunEntry set) AreTimely timely_step [] c tt l (λ i h. subst (KeepsTime (setup_in set [] i)) (sym (own_none set i)) tt)
