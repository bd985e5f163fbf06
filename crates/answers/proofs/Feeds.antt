-- A watch is fed at roots that have landed, none older than what its actor had seen at the issue.
use Rattle.std.proofs.Common.{◌≡◌, ℕ, ◌+◌, ◌≤◌, ◌==◌, List, [], ◌∷◌, ◌++◌, Bool, true, false, cond, ◌||◌, Option, Some, None, IfSome, IsSomeAnd, is_some, option_map, unwrap_or, filter_map, refl, sym, ap, ◌∙◌, subst, arith, append-nil}
use Rattle.std.specs.List.{cons_option}
use Rattle.std.specs.Option.{option_and_then, option_map_or}
use Rattle.std.specs.Prelude.{sum}
use Rattle.std.proofs.lemmas.List.Elements.{filter_map-append}
use Rattle.std.proofs.lemmas.List.Folds.{list_any-append}
use Rattle.std.proofs.lemmas.List.Sums.{sum_by_push}
use Rattle.kvs_txn.specs.declared.txn.By.{By}
use Rattle.kvs_rules.specs.Brokers.{heard}
use Rattle.kvs_rules.specs.Log as service
use Rattle.kvs_rules.specs.Log.{same_command}
use Rattle.kvs_rules.specs.Namespaces.{landed, primary}
use Rattle.kvs_rules.specs.Sequence.{EachAfter}
use Rattle.kvs_rules.specs.Answers.{IsLegalLog}
use Rattle.kvs_rules.proofs.Asking.{command_is}
use Rattle.kvs_rules.proofs.Logs.{heard_within_landed}
use Rattle.kvs_rules.proofs.Sequences.{each_along, each_push, latest_push, until-append}
use Rattle.instance_rules.specs.Log.{JobReply, Moment, Born, Fed, Gone, Issued, Replied, Served, Ticked, service_of}
use Rattle.instance_rules.specs.Watches.{IsLegalFeed, fed_at, fed_in_all, fed_with, last_fed}
use Rattle.answers.specs.declared.chronicle.Entry.{Entry}
use Rattle.answers.specs.declared.chronicle.Entry.TheVariants as entry
use Rattle.workload.specs.declared.work.Workload.{Workload}
use Rattle.answers.specs.Chronicle.{Setup, is_issued, issues, top}
use Rattle.answers.specs.Commands.{broker_of}
use Rattle.answers.specs.Floors.{floor}
use Rattle.answers.specs.Jobs.{happening_of, instance_of, job_ask_at, job_reply_of, log_in}
use Rattle.answers.specs.Legal.{IsLegal, IsLegalEntry, IsSeenFeed}
use Rattle.answers.specs.Services.{log_of, moment_of, setting_of}
use Rattle.answers.proofs.JobLogs.{happenings_after-append, issued_alike, service_kept}
use Rattle.answers.proofs.Services.{chronicle_landed_rises, service_legal}

pub at_most_landed : (o : Option ℕ) (n landed_so : ℕ) → IfSome o (λ h. h ≤ landed_so) → IsSomeAnd o (λ h. n ≤ h) → n ≤ landed_so
at_most_landed None n l h g = absurd g
at_most_landed (Some x) n l h g = let a : x ≤ l = h in let b : n ≤ x = g in omega arith

-- ---- what feeds alone tell

-- no other moment tells it
record OnlyFeeds {X : Type 0} (told : Moment → Option X) : Type 0 where
  served : (m : service.Moment) → told (Served m) ≡ None
  issued : (by : By) → told (Issued by) ≡ None
  replied : (by : By) (r : JobReply) (number : Option ℕ) → told (Replied by r number) ≡ None
  ticked : (second : ℕ) → told (Ticked second) ≡ None
  born : (job : ℕ) → told (Born job) ≡ None
  gone : (job : ℕ) (shut : Bool) → told (Gone job shut) ≡ None

-- what the entry of a feed tells
abbrev pub told_of : {X : Type 0} → (Moment → Option X) → Entry → Option X
told_of told (entry.Watched actor command number first count) = told (Fed (record { actor = actor; command = command }) number first count)
told_of told _ = None

module _ {X : Type 0} (told : Moment → Option X) (only : OnlyFeeds told) where
  abbrev told_in : Option Moment → Option X
  told_in o = option_and_then told o

  by_service : (o : Option service.Moment) → told_in (option_map Served o) ≡ None
  by_service None = refl
  by_service (Some m) = only.served m

  by_issue : (by : By) (b : Bool) (o : Option service.Moment) → told_in (cond b (Some (Issued by)) (option_map Served o)) ≡ None
  by_issue by true o = only.issued by
  by_issue by false o = by_service o

  by_reply : (by : By) (number : Option ℕ) (given : Option JobReply) (o : Option service.Moment) → told_in (option_map_or (λ r. Some (Replied by r number)) given (option_map Served o)) ≡ None
  by_reply by number None o = by_service o
  by_reply by number (Some r) o = only.replied by r number

  by_child : (b : Bool) (m : Moment) → told m ≡ None → told_in (cond b (Some m) None) ≡ None
  by_child true m e = e
  by_child false m e = refl

  entry_tells : (work : Workload) (c : List Entry) (e : Entry) → told_in (happening_of work c e) ≡ told_of told e
  entry_tells work c (entry.Issued actor number) =
      by_issue (record { actor = actor; command = number }) (is_some (job_ask_at work (record { actor = actor; command = number }))) (moment_of work top c (entry.Issued actor number))
  entry_tells work c (entry.Replied actor number given at_) =
      by_reply (record { actor = actor; command = number }) at_ (job_reply_of given) (moment_of work top c (entry.Replied actor number given at_))
  entry_tells work c (entry.Ticked second) = only.ticked second
  entry_tells work c (entry.Born child parent job label second grant) = by_child (parent == top) (Born job) (only.born job)
  entry_tells work c (entry.Gone child parent job shut) = by_child (parent == top) (Gone job shut) (only.gone job shut)
  entry_tells work c (entry.Watched actor command number first count) = refl
  entry_tells work c e = by_service (moment_of work top c e)

-- the number of the last feed, behind a further entry
pub last_push : (work : Workload) (c : List Entry) (by : By) (e : Entry) → last_fed by (log_in work (c ++ e ∷ [])) ≡ unwrap_or (told_of (fed_at by) e) (last_fed by (log_in work c))
last_push work c by e =
    ap (last_fed by) (happenings_after-append work [] c (e ∷ [])) ∙ at (happening_of work c e)
    ∙ ap (λ o. unwrap_or o (last_fed by (log_in work c))) (entry_tells (fed_at by) only work c e)
  where
    only : OnlyFeeds (fed_at by)
    only = record { served = λ m. refl; issued = λ b. refl; replied = λ b r n. refl; ticked = λ s. refl; born = λ j. refl; gone = λ j shut. refl }

    at : (o : Option Moment) → last_fed by (log_in work c ++ cons_option o []) ≡ unwrap_or (option_and_then (fed_at by) o) (last_fed by (log_in work c))
    at None = ap (last_fed by) (append-nil (log_in work c))
    at (Some m) = latest_push (fed_at by) None (log_in work c) m

-- and how many events were fed in all
pub all_push : (work : Workload) (c : List Entry) (by : By) (e : Entry) → fed_in_all by (log_in work (c ++ e ∷ [])) ≡ fed_in_all by (log_in work c) + unwrap_or (told_of (fed_with by) e) 0
all_push work c by e =
    ap (fed_in_all by) (happenings_after-append work [] c (e ∷ [])) ∙ at (happening_of work c e)
    ∙ ap (λ o. fed_in_all by (log_in work c) + unwrap_or o 0) (entry_tells (fed_with by) only work c e)
  where
    only : OnlyFeeds (fed_with by)
    only = record { served = λ m. refl; issued = λ b. refl; replied = λ b r n. refl; ticked = λ s. refl; born = λ j. refl; gone = λ j shut. refl }

    one : (counts : List ℕ) (o : Option ℕ) → sum (counts ++ cons_option o []) ≡ sum counts + unwrap_or o 0
    one counts None = ap sum (append-nil counts) ∙ omega arith
    one counts (Some n) = sum_by_push (λ k. k) counts n

    at : (o : Option Moment) → fed_in_all by (log_in work c ++ cons_option o []) ≡ fed_in_all by (log_in work c) + unwrap_or (option_and_then (fed_with by) o) 0
    at None = ap (fed_in_all by) (append-nil (log_in work c)) ∙ omega arith
    at (Some m) = ap sum (filter_map-append (fed_with by) (log_in work c) (m ∷ [])) ∙ one (filter_map (fed_with by) (log_in work c)) (fed_with by m)

-- ---- what a watch was fed last

module _ (set : Setup) (by : By) where
  pub record WasFed (c : List Entry) (number : ℕ) : Type 0 where
    pub issued : is_issued by c ≡ true
    pub seen : IsSeenFeed set c by number
    pub known : number ≤ landed (log_of set.work top c) primary

  AllFed : List Entry → Type 0
  AllFed c = (number : ℕ) → last_fed by (log_in set.work c) ≡ Some number → WasFed c number

  stays : (c : List Entry) (e : Entry) → IsLegal set (c ++ e ∷ []) → (number : ℕ) → WasFed c number → WasFed (c ++ e ∷ []) number
  stays c e legal number h = record {
    issued = list_any-append (issues by) c (e ∷ []) ∙ ap (λ b. b || (issues by e || false)) h.issued;
    seen = subst (λ d. floor set.work d by.actor primary ≤ number) (sym (until-append (issues by) c (e ∷ []) h.issued)) h.seen;
    known = let rises = chronicle_landed_rises set c (e ∷ []) primary legal in let low = h.known in omega (arith, rises, low);
  }

  -- a legal feed is at a root that has landed, and which its actor had not yet passed
  pub fed_now : (c : List Entry) → IsLegal set c → (number first count : ℕ) → IsSeenFeed set c by number → IsLegalFeed (instance_of set) (log_in set.work c) by number first count → WasFed c number
  fed_now c legal number first count seen feed =
      let asks : is_some (job_ask_at set.work by) ≡ true = ap is_some feed.asks in
      let log = service_of (log_in set.work c) in
      let kept = service_kept set.work c in
      let sound : IsLegalLog (setting_of set) log = subst (IsLegalLog (setting_of set)) (sym kept) (service_legal set c legal) in
      let here : number ≤ landed log primary = at_most_landed (heard log (broker_of set.work by.actor) primary) number _ (heard_within_landed (setting_of set) (broker_of set.work by.actor) primary log sound) feed.known in
      record {
        issued = sym (issued_alike set.work by asks c) ∙ feed.waits.issued;
        seen = seen;
        known = subst (λ l. number ≤ landed l primary) kept here;
      }

  some_number : (a b : ℕ) → ◌≡◌ {A = Option ℕ} (Some a) (Some b) → a ≡ b
  some_number a b e = cc

  step : (c : List Entry) (e : Entry) → EachAfter (IsLegalEntry set) [] c → IsLegalEntry set c e → AllFed c → AllFed (c ++ e ∷ [])
  unfolding AllFed
  step c e before legal again number is = stays c e (each_push (IsLegalEntry set) c e before legal) number (on e legal (sym (last_push set.work c by e) ∙ is))
    where
      on : (e : Entry) → IsLegalEntry set c e → unwrap_or (told_of (fed_at by) e) (last_fed by (log_in set.work c)) ≡ Some number → WasFed c number
      on (entry.Watched actor command root first count) fits h = at (same_command by (record { actor = actor; command = command })) refl h
        where
          at : (b : Bool) → same_command by (record { actor = actor; command = command }) ≡ b → unwrap_or (cond b (Some (Some root)) None) (last_fed by (log_in set.work c)) ≡ Some number → WasFed c number
          at false e h = again number h
          at true e h =
              let own = command_is by (record { actor = actor; command = command }) e in
              let same = some_number root number h in
              let seen : IsSeenFeed set c by root = subst (λ b. IsSeenFeed set c b root) (sym own) fits.grounds.0 in
              let feed : IsLegalFeed (instance_of set) (log_in set.work c) by root first count = subst (λ b. IsLegalFeed (instance_of set) (log_in set.work c) b root first count) (sym own) fits.grounds.1 in
              subst (WasFed c) same (fed_now c before root first count seen feed)
      on e fits h = again number h

  pub all_fed : (c : List Entry) → IsLegal set c → (number : ℕ) → last_fed by (log_in set.work c) ≡ Some number → WasFed c number
  unfolding AllFed
  all_fed c legal = each_along (IsLegalEntry set) AllFed step [] c tt legal (λ number none. absurd (never none))
    where
      never : {number : ℕ} → ◌≡◌ {A = Option ℕ} None (Some number) → ⊥
      never e = cc
