-- Along a legal chronicle the second stays within the seconds of the advances that are issued.
use Rattle.std.proofs.Common.{◌≡◌, ℕ, ◌+◌, ◌<◌, ◌≤◌, ◌^◌, ◌||◌, inl, inr, List, [], ◌∷◌, ◌++◌, Bool, true, false, cond, Option, Some, None, is_some, option_map, unwrap_or, refl, sym, ap, ap₂, ◌∙◌, ◌==◌, subst, arith, append-nil, append_assoc, true≢false}
use Rattle.std.specs.List.{cons_option, list_any}
use Rattle.std.specs.Option.{option_and_then, option_map_or}
use Rattle.std.proofs.lemmas.List.Folds.{list_any-append}
use Rattle.std.proofs.lemmas.List.Sums.{sum_by_push}
use Rattle.kvs_rules.proofs.Sequences.{each_along, each_parts, latest_push, until-append}
use Rattle.kvs_rules.specs.Log as service
use Rattle.kvs_rules.specs.Sequence.{EachAfter, until}
use Rattle.kvs_txn.specs.declared.txn.By.{By}
use Rattle.instance_rules.specs.Family.{HasTarget, IsTarget, MayTick}
use Rattle.instance_rules.specs.Log as rules
use Rattle.instance_rules.specs.Log.{JobReply, Log, Moment, Born, Gone, Issued, Replied, Served, now_of, ticked}
use Rattle.instance_rules.proofs.Ends.{target_kept}
use Rattle.workload.specs.Laws.{KeepsTallies}
use Rattle.workload.specs.Tallies.{seconds_in, seconds_of}
use Rattle.workload.specs.declared.work.Command.{Command}
use Rattle.workload.specs.declared.work.Command.TheVariants as command
use Rattle.workload.specs.declared.work.Workload.{Workload}
use Rattle.answers.specs.declared.chronicle.Entry.{Entry}
use Rattle.answers.specs.declared.chronicle.Entry.TheVariants as entry
use Rattle.answers.specs.Chronicle.{Setup, before_issue, is_issued, issues, top}
use Rattle.answers.specs.Commands.{command_at}
use Rattle.answers.specs.Jobs.{happening_of, happenings_after, instance_of, job_ask_at, job_ask_of, job_reply_of, living_of, log_in, second_of, start_of}
use Rattle.answers.specs.Legal.{IsLegal, IsLegalEntry}
use Rattle.answers.specs.Runs.{ComesInTime, IsInTime, family_of}
use Rattle.answers.specs.Services.{moment_of}
use Rattle.answers.proofs.JobLogs.{issued_alike, log_before_issue, only}
use Rattle.answers.proofs.Services.{eqb_is, first_of, or_cases}
use Rattle.answers.proofs.Services as services
use Rattle.run_laws.specs.Times.{HasTime, KeepsTime, seconds_at, seconds_by, seconds_issued}
use Rattle.run_laws.proofs.Lines.{issued_within}

-- ---- the log of the instance, one entry further

cons_append : {A : Type 0} (o : Option A) (xs ys : List A) → cons_option o xs ++ ys ≡ cons_option o (xs ++ ys)
cons_append None xs ys = refl
cons_append (Some x) xs ys = refl

pub happenings_append : (work : Workload) (c xs ys : List Entry) → happenings_after work c (xs ++ ys) ≡ happenings_after work c xs ++ happenings_after work (c ++ xs) ys
happenings_append work c [] ys = ap (λ b. happenings_after work b ys) (sym (append-nil c))
happenings_append work c (x ∷ xs) ys =
    ap (cons_option (happening_of work c x)) (happenings_append work (c ++ x ∷ []) xs ys ∙ ap (λ b. happenings_after work (c ++ x ∷ []) xs ++ happenings_after work b ys) (append_assoc c (x ∷ []) xs))
    ∙ sym (cons_append (happening_of work c x) _ _)

-- the second to which an entry lets time go on
abbrev pub ticks : Entry → Option ℕ
ticks (entry.Ticked second) = Some second
ticks _ = None

abbrev tick_of : Option Moment → Option ℕ
tick_of None = None
tick_of (Some m) = ticked m

served_ticks : (o : Option service.Moment) → tick_of (option_map Served o) ≡ None
served_ticks None = refl
served_ticks (Some m) = refl

issued_ticks : (by : By) (b : Bool) (o : Option service.Moment) → tick_of (cond b (Some (Issued by)) (option_map Served o)) ≡ None
issued_ticks by true o = refl
issued_ticks by false o = served_ticks o

replied_ticks : (by : By) (number : Option ℕ) (r : Option JobReply) (o : Option service.Moment) → tick_of (option_map_or (λ x. Some (Replied by x number)) r (option_map Served o)) ≡ None
replied_ticks by number None o = served_ticks o
replied_ticks by number (Some x) o = refl

child_ticks : (b : Bool) (m : Moment) → ticked m ≡ None → tick_of (cond b (Some m) None) ≡ None
child_ticks true m e = e
child_ticks false m e = refl

entry_ticks : (work : Workload) (c : List Entry) (e : Entry) → tick_of (happening_of work c e) ≡ ticks e
entry_ticks work c (entry.Issued actor number) = issued_ticks (record { actor = actor; command = number }) (is_some (job_ask_at work (record { actor = actor; command = number }))) (moment_of work top c (entry.Issued actor number))
entry_ticks work c (entry.Replied actor number given at_) = replied_ticks (record { actor = actor; command = number }) at_ (job_reply_of given) (moment_of work top c (entry.Replied actor number given at_))
entry_ticks work c (entry.Ticked second) = refl
entry_ticks work c (entry.Born child parent job label second grant) = child_ticks (parent == top) (Born job) refl
entry_ticks work c (entry.Gone child parent job shut) = child_ticks (parent == top) (Gone job shut) refl
entry_ticks work c (entry.Watched actor command number first count) = refl
entry_ticks work c e = served_ticks (moment_of work top c e)

pub second_push : (set : Setup) (c : List Entry) (e : Entry) → second_of set (c ++ e ∷ []) ≡ unwrap_or (ticks e) (second_of set c)
second_push set c e =
    ap (now_of (instance_of set)) (happenings_append set.work [] c (e ∷ []))
    ∙ pushed (log_in set.work c) (happening_of set.work c e)
    ∙ ap (λ o. unwrap_or o (second_of set c)) (entry_ticks set.work c e)
  where
    pushed : (log : Log) (o : Option Moment) → now_of (instance_of set) (log ++ cons_option o []) ≡ unwrap_or (tick_of o) (now_of (instance_of set) log)
    pushed log None = ap (now_of (instance_of set)) (append-nil log)
    pushed log (Some m) = latest_push ticked (start_of set) log m

-- ---- open advances

until_new : {A : Type 0} (test : A → Bool) (xs : List A) (y : A) → list_any test xs ≡ false → test y ≡ true → until test (xs ++ y ∷ []) ≡ xs
until_new test [] y none passes = ap (λ b. cond b [] (y ∷ [])) passes
until_new {A} test (x ∷ xs) y none passes = at (test x) (λ e. until_new test xs y e passes) none
  where
    at : (b : Bool) → (list_any test xs ≡ false → until test (xs ++ y ∷ []) ≡ xs) → (b || list_any test xs) ≡ false → cond b [] (x ∷ until test (xs ++ y ∷ [])) ≡ x ∷ xs
    at true again e = absurd (true≢false e)
    at false again e = ap (λ l. x ∷ l) (again e)

advance_is : (c : Command) (seconds : ℕ) → job_ask_of c ≡ Some (rules.Advance seconds) → seconds_of c ≡ seconds
advance_is (command.Advance n) seconds e = cc
advance_is _ seconds e = cc

advance_at : (o : Option Command) (seconds : ℕ) → option_and_then job_ask_of o ≡ Some (rules.Advance seconds) → option_map_or seconds_of o 0 ≡ seconds
advance_at None seconds e = cc
advance_at (Some c) seconds e = advance_is c seconds e

-- the seconds of the command that an entry issues
issued_seconds : (work : Workload) (by : By) (e : Entry) → issues by e ≡ true → seconds_by work e ≡ seconds_at work by
issued_seconds work by (entry.Issued actor number) h =
    let a : by.actor ≡ actor = eqb_is by.actor actor (first_of _ _ h) in
    let k : by.command ≡ number = eqb_is by.command number (services.second_of (by.actor == actor) _ h) in
    sym (ap₂ (λ x y. seconds_at work (record { actor = x; command = y })) a k)
issued_seconds work by _ h = absurd (true≢false (sym h))

module _ (set : Setup) where
  -- the second is within what is issued, and so is that of each issue with its own seconds
  record IsWithin (c : List Entry) : Type 0 where
    present : second_of set c ≤ start_of set + seconds_issued set.work c
    targets : (by : By) → is_issued by c ≡ true → second_of set (before_issue by c) + seconds_at set.work by ≤ start_of set + seconds_issued set.work c

  target_within : (c : List Entry) → IsWithin c → (target : ℕ) → HasTarget (living_of set c) target → target ≤ start_of set + seconds_issued set.work c
  target_within c h target t =
      let asks : is_some (job_ask_at set.work t.by) ≡ true = ap is_some t.asks in
      let issued : is_issued t.by c ≡ true = sym (issued_alike set.work t.by asks c) ∙ t.waits.issued in
      let began : now_of (instance_of set) (rules.before_issue t.by (log_in set.work c)) ≡ second_of set (before_issue t.by c) = ap (now_of (instance_of set)) (log_before_issue set.work t.by asks c) in
      let long : seconds_at set.work t.by ≡ t.seconds = advance_at (command_at set.work t.by) t.seconds t.asks in
      let is : target ≡ now_of (instance_of set) (rules.before_issue t.by (log_in set.work c)) + t.seconds = t.is in
      let low = h.targets t.by issued in
      omega (arith, began, long, is, low)

  wanted_within : (c : List Entry) → IsWithin c → (target : ℕ) → IsTarget (family_of set c) [] target → target ≤ start_of set + seconds_issued set.work c
  wanted_within c h target (inl (l, here, t)) = target_within c h target (subst (λ x. HasTarget x target) (only (living_of set c) l here) t)
  wanted_within c h target (inr none) = absurd (omega (arith, none.1))

  tick_within : (c : List Entry) (second : ℕ) → IsWithin c → MayTick (family_of set c) (second_of set c) [] second → second ≤ start_of set + seconds_issued set.work c
  tick_within c second h may =
      let low : second ≤ may.target = target_kept (family_of set c) (second_of set c) [] second may may.target may.wanted may.unreached in
      let high = wanted_within c h may.target may.wanted in
      omega (arith, low, high)

  now_within : (c : List Entry) (e : Entry) → ComesInTime set c e → IsWithin c → unwrap_or (ticks e) (second_of set c) ≤ start_of set + seconds_issued set.work c
  now_within c (entry.Ticked second) timely h = tick_within c second h timely
  now_within c _ timely h = h.present

  time_step : (c : List Entry) (e : Entry) → EachAfter (ComesInTime set) [] c → ComesInTime set c e → IsWithin c → IsWithin (c ++ e ∷ [])
  time_step c e before timely h = record {
    present =
        let now = second_push set c e in
        let within = now_within c e timely h in
        omega (arith, now, within, longer);
    targets = λ by issued. target by (is_issued by c) refl (sym (list_any-append (issues by) c (e ∷ []) ∙ ap (λ b. is_issued by c || b) (or_false (issues by e))) ∙ issued);
  }
    where
      longer : seconds_issued set.work (c ++ e ∷ []) ≡ seconds_issued set.work c + seconds_by set.work e
      longer = sum_by_push (seconds_by set.work) c e

      or_false : (b : Bool) → (b || false) ≡ b
      or_false true = refl
      or_false false = refl

      target : (by : By) (b : Bool) → is_issued by c ≡ b → (is_issued by c || issues by e) ≡ true → second_of set (before_issue by (c ++ e ∷ [])) + seconds_at set.work by ≤ start_of set + seconds_issued set.work (c ++ e ∷ [])
      target by true was any =
          let same : second_of set (before_issue by (c ++ e ∷ [])) ≡ second_of set (before_issue by c) = ap (second_of set) (until-append (issues by) c (e ∷ []) was) in
          let low = h.targets by was in
          omega (arith, same, low, longer)
      target by false was any =
          let now : issues by e ≡ true = ap (λ b. b || issues by e) (sym was) ∙ any in
          let same : second_of set (before_issue by (c ++ e ∷ [])) ≡ second_of set c = ap (second_of set) (until_new (issues by) c e was now) in
          let own = issued_seconds set.work by e now in
          let low = h.present in
          omega (arith, same, own, low, longer)

  all_within : (c : List Entry) → IsInTime set c → IsWithin c
  all_within c timely = each_along (ComesInTime set) IsWithin time_step [] c tt timely (record { present = omega arith; targets = λ by none. absurd (true≢false (sym none)) })

  pub time_issued : (c : List Entry) → IsLegal set c → IsInTime set c → second_of set c ≤ start_of set + seconds_issued set.work c
  time_issued c legal timely = (all_within c timely).present

  pub time_within : (c : List Entry) → IsLegal set c → IsInTime set c → second_of set c ≤ start_of set + seconds_in set.work.lines
  time_within c legal timely =
      let a = time_issued c legal timely in
      let b = issued_within set c legal in
      omega (arith, a, b)

  -- so it does before each entry
  module _ (fits : HasTime set) where
    kept_after : (past more : List Entry) → IsLegal set (past ++ more) → IsInTime set (past ++ more) → EachAfter (λ c e. second_of set c < 2 ^ 64) past more
    kept_after past [] legal timely = tt
    kept_after past (e ∷ more) legal timely =
        let first : second_of set past ≤ start_of set + seconds_in set.work.lines = time_within past (each_parts (IsLegalEntry set) [] past (e ∷ more) legal).0 (each_parts (ComesInTime set) [] past (e ∷ more) timely).0 in
        let split : past ++ (e ∷ more) ≡ (past ++ e ∷ []) ++ more = sym (append_assoc past (e ∷ []) more) in
        (omega (arith, first, fits), kept_after (past ++ e ∷ []) more (subst (IsLegal set) split legal) (subst (IsInTime set) split timely))

    pub keeps_time : (c : List Entry) → IsLegal set c → IsInTime set c → KeepsTime set c
    keeps_time c legal timely = kept_after [] c legal timely

pub has_time : (set : Setup) → start_of set ≡ 0 → KeepsTallies set.work.lines → HasTime set
has_time set first h = let low = h.seconds in omega (arith, first, low)
