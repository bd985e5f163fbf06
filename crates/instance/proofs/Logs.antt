-- How the log of the top instance grows with its chronicle, and what it says of commands.
use Rattle.std.proofs.Common.{◌≡◌, ℕ, ◌==◌, ◌&&◌, ◌||◌, List, [], ◌∷◌, ◌++◌, Bool, true, false, cond, Option, Some, None, is_some, option_map, map, count_by, refl, sym, ap, ◌∙◌, append_assoc, append-nil, true≢false}
use Rattle.std.specs.Prelude.{IsSome, IsTrue}
use Rattle.std.specs.Option.{option_map_or}
use Rattle.std.specs.List.{AllByRecursion as Each, cons_option, list_any}
use Rattle.services.specs.kvs_rules.declared.events.KvsAnswer.{KvsAnswer}
use Rattle.services.specs.kvs_rules.declared.events.KvsAnswer.TheVariants as answer
use Rattle.services.specs.kvs_rules.declared.events.KvsAsk.{KvsAsk}
use Rattle.services.specs.kvs_rules.declared.events.KvsEvent.{KvsEvent}
use Rattle.services.specs.kvs_rules.declared.events.KvsEvent.TheVariants as event
use Rattle.services.specs.kvs_rules.Log as service
use Rattle.services.specs.kvs_rules.Log.{Happened, same_command}
use Rattle.services.specs.kvs_rules.Namespaces.{Request}
use Rattle.services.specs.kvs_txn.declared.txn.By.{By}
use Rattle.services.specs.instance_rules.Log as rules
use Rattle.services.specs.instance_rules.Log.{IsOpen, JobReply, Log, Moment, Born, Gone, Issued, Replied, Served, Ticked, issues_now, replies_now, service_of}
use Rattle.services.specs.answers.declared.chronicle.Entry.{Entry}
use Rattle.services.specs.answers.declared.chronicle.Entry.TheVariants as entry
use Rattle.services.specs.answers.declared.chronicle.Reply.{Reply}
use Rattle.services.specs.answers.declared.chronicle.Reply.TheVariants as reply
use Rattle.services.specs.answers.Chronicle.{is_issued, is_replied, issues, replies_to, top}
use Rattle.services.specs.answers.Commands.{ask_at, broker_of, subject_at}
use Rattle.services.specs.answers.Entering.{entered, reply_of}
use Rattle.services.specs.answers.Jobs.{happening_of, happenings_after, job_ask_at, job_reply_of, log_in}
use Rattle.services.specs.answers.Services.{asked_at, log_of, moment_of}
use Rattle.services.specs.answers.Whole.{IsClosingEntry, is_closing}
use Rattle.services.proofs.answers_proofs.JobLogs.{asks_no_service, issued_alike, service_kept}
use Rattle.services.specs.workload.declared.work.Workload.{Workload}
use Rattle.instance.proofs.Listing.{none_counted}

-- the log of the service in it
pub served_log : (work : Workload) (c : List Entry) → service_of (log_in work c) ≡ log_of work top c
served_log work c = service_kept work c

-- ---- entries at the end

cons_append : (o : Option Moment) (xs ys : Log) → cons_option o xs ++ ys ≡ cons_option o (xs ++ ys)
cons_append None xs ys = refl
cons_append (Some x) xs ys = refl

pub after_joined : (work : Workload) (c xs ys : List Entry) → happenings_after work c (xs ++ ys) ≡ happenings_after work c xs ++ happenings_after work (c ++ xs) ys
after_joined work c [] ys = ap (λ b. happenings_after work b ys) (sym (append-nil c))
after_joined work c (x ∷ xs) ys =
    ap (cons_option (happening_of work c x)) (after_joined work (c ++ x ∷ []) xs ys ∙ ap (λ b. happenings_after work (c ++ x ∷ []) xs ++ happenings_after work b ys) (append_assoc c (x ∷ []) xs))
    ∙ sym (cons_append (happening_of work c x) _ _)

-- several entries more, and one
pub log_joined : (work : Workload) (c es : List Entry) → log_in work (c ++ es) ≡ log_in work c ++ happenings_after work c es
log_joined work c es = after_joined work [] c es

pub log_grown : (work : Workload) (c : List Entry) (e : Entry) → log_in work (c ++ e ∷ []) ≡ log_in work c ++ cons_option (happening_of work c e) []
log_grown work c e = log_joined work c (e ∷ [])

-- one that is this moment, and one that is none
pub log_with : (work : Workload) (c : List Entry) (e : Entry) (m : Moment) → happening_of work c e ≡ Some m → log_in work (c ++ e ∷ []) ≡ log_in work c ++ m ∷ []
log_with work c e m is = log_grown work c e ∙ ap (λ o. log_in work c ++ cons_option o []) is

pub log_without : (work : Workload) (c : List Entry) (e : Entry) → happening_of work c e ≡ None → log_in work (c ++ e ∷ []) ≡ log_in work c
log_without work c e is = log_grown work c e ∙ ap (λ o. log_in work c ++ cons_option o []) is ∙ append-nil (log_in work c)

-- ---- events of the service

-- an event that answers no command
abbrev pub IsNews : KvsEvent → Type 0
IsNews (event.Answered by number given) = ⊥
IsNews _ = Unit {0}

pub news_is : (work : Workload) (c : List Entry) (e : KvsEvent) → IsNews e → happening_of work c (entered 0 e) ≡ Some (Served (Happened e))
news_is work c (event.Landed space number authors groups) n = refl
news_is work c (event.Denied space authors group refusal) n = refl
news_is work c (event.Heard b space number) n = refl
news_is work c (event.Got b reference) n = refl
news_is work c (event.Dropped b reference) n = refl
news_is work c (event.Answered by number given) n = absurd n

pub news_are : (work : Workload) (c : List Entry) (es : List KvsEvent) → Each IsNews es → happenings_after work c (map (entered 0) es) ≡ map (λ e. Served (Happened e)) es
news_are work c [] n = refl
news_are work c (e ∷ es) n =
    ap (λ o. cons_option o (happenings_after work (c ++ entered 0 e ∷ []) (map (entered 0) es))) (news_is work c e n.0)
    ∙ ap (λ l. Served (Happened e) ∷ l) (news_are work (c ++ entered 0 e ∷ []) es n.1)

pub log_of_news : (work : Workload) (c : List Entry) (es : List KvsEvent) → Each IsNews es → log_in work (c ++ map (entered 0) es) ≡ log_in work c ++ map (λ e. Served (Happened e)) es
log_of_news work c es n = log_joined work c (map (entered 0) es) ∙ ap (λ l. log_in work c ++ l) (news_are work c es n)

-- ---- issues

-- a command on jobs or on time asks nothing of the service
pub job_asks_nothing : (work : Workload) (by : By) → IsSome (job_ask_at work by) → ask_at work by ≡ None
job_asks_nothing work by some = on (ask_at work by) (asks_no_service work by some)
  where
    on : (o : Option KvsAsk) → ◌≡◌ {A = Option Request} (option_map (λ a. record { broker = broker_of work by.actor; namespace = subject_at work by; ask = a }) o) None → o ≡ None
    on None e = refl
    on (Some a) e = cc

-- and one that asks the service is none on jobs
pub asks_no_job : (work : Workload) (by : By) → IsSome (ask_at work by) → job_ask_at work by ≡ None
asks_no_job work by some = on (job_ask_at work by) refl
  where
    on : (o : Option rules.JobAsk) → job_ask_at work by ≡ o → o ≡ None
    on None e = refl
    on (Some a) e = absurd (true≢false (sym some ∙ ap is_some (job_asks_nothing work by (ap is_some e))))

pub job_issued : (work : Workload) (c : List Entry) (by : By) → IsSome (job_ask_at work by) → happening_of work c (entry.Issued by.actor by.command) ≡ Some (Issued by)
job_issued work c by some = ap (λ b. cond b (Some (Issued by)) (option_map Served (moment_of work top c (entry.Issued by.actor by.command)))) some

-- what is issued besides is what it is to the service
pub other_issued : (work : Workload) (c : List Entry) (by : By) → job_ask_at work by ≡ None → happening_of work c (entry.Issued by.actor by.command) ≡ option_map Served (moment_of work top c (entry.Issued by.actor by.command))
other_issued work c by none = ap (λ o. cond (is_some o) (Some (Issued by)) (option_map Served (moment_of work top c (entry.Issued by.actor by.command)))) none

pub service_issued : (work : Workload) (c : List Entry) (by : By) → IsSome (ask_at work by) → happening_of work c (entry.Issued by.actor by.command) ≡ Some (Served (asked_at work c by))
service_issued work c by some =
    other_issued work c by (asks_no_job work by some)
    ∙ ap (λ b. option_map Served (cond (b && (top == top)) (Some (asked_at work c by)) None)) some

pub nothing_issued : (work : Workload) (c : List Entry) (by : By) → job_ask_at work by ≡ None → ask_at work by ≡ None → happening_of work c (entry.Issued by.actor by.command) ≡ None
nothing_issued work c by none asked =
    other_issued work c by none
    ∙ ap (λ o. option_map Served (cond (is_some o && (top == top)) (Some (asked_at work c by)) None)) asked

-- ---- replies

pub job_replied : (work : Workload) (c : List Entry) (by : By) (given : Reply) (number : Option ℕ) (r : JobReply) → job_reply_of given ≡ Some r → happening_of work c (entry.Replied by.actor by.command given number) ≡ Some (Replied by r number)
job_replied work c by given number r is = ap (λ o. option_map_or (λ x. Some (Replied by x number)) o (option_map Served (moment_of work top c (entry.Replied by.actor by.command given number)))) is

answer_handed : (work : Workload) (c : List Entry) (by : By) (number : Option ℕ) (given : KvsAnswer) → happening_of work c (entry.Replied by.actor by.command (reply_of given) number) ≡ Some (Served (Happened (event.Answered by number given)))
answer_handed work c by number answer.Committed = refl
answer_handed work c by number answer.Fenced = refl
answer_handed work c by number (answer.Refused refusal) = refl
answer_handed work c by number (answer.CountDiffers kept) = refl
answer_handed work c by number (answer.Read found uses) = refl
answer_handed work c by number (answer.NoTarget space uses) = refl
answer_handed work c by number (answer.Root reference) = refl
answer_handed work c by number answer.Reached = refl
answer_handed work c by number answer.NoNamespace = refl
answer_handed work c by number answer.Created = refl
answer_handed work c by number answer.Exists = refl
answer_handed work c by number answer.TooMany = refl
answer_handed work c by number answer.Removed = refl
answer_handed work c by number answer.IsPrimary = refl
answer_handed work c by number (answer.Stored reference) = refl
answer_handed work c by number (answer.Blob bytes) = refl
answer_handed work c by number answer.NoBlob = refl
answer_handed work c by number answer.Flushed = refl
answer_handed work c by number (answer.Clashed reference) = refl
answer_handed work c by number answer.Dropped = refl

pub service_replied : (work : Workload) (c : List Entry) (by : By) (given : Reply) (number : Option ℕ) (handed : KvsAnswer) → given ≡ reply_of handed → happening_of work c (entry.Replied by.actor by.command given number) ≡ Some (Served (Happened (event.Answered by number handed)))
service_replied work c by given number handed is = ap (λ g. happening_of work c (entry.Replied by.actor by.command g number)) is ∙ answer_handed work c by number handed

-- closing replies, and the end
pub closing_is : (work : Workload) (c : List Entry) (actor number : ℕ) (given : Reply) (at_ : Option ℕ) → IsTrue (is_closing given) → happening_of work c (entry.Replied actor number given at_) ≡ None
closing_is work c actor number (reply.UnfinishedFence have want) at_ h = refl
closing_is work c actor number (reply.UnfinishedWait had wanted) at_ h = refl
closing_is work c actor number (reply.UnfinishedJob where_) at_ h = refl
closing_is work c actor number reply.UnfinishedUnborn at_ h = refl
closing_is work c actor number reply.NotReached at_ h = refl
closing_is work c actor number _ at_ h = absurd (true≢false (sym h))

entry_closes : (work : Workload) (c : List Entry) (e : Entry) → IsClosingEntry e → happening_of work c e ≡ None
entry_closes work c (entry.Replied actor number given at_) h = closing_is work c actor number given at_ h.0
entry_closes work c (entry.Issued a k) h = absurd h
entry_closes work c (entry.Landed i space number authors groups) h = absurd h
entry_closes work c (entry.Denied i space authors group refusal) h = absurd h
entry_closes work c (entry.Heard i b space number) h = absurd h
entry_closes work c (entry.Got i b reference) h = absurd h
entry_closes work c (entry.Dropped i b reference) h = absurd h
entry_closes work c (entry.Told from to) h = absurd h
entry_closes work c (entry.Watched actor command number first count) h = absurd h
entry_closes work c (entry.Ticked second) h = absurd h
entry_closes work c (entry.Born child parent job label second grant) h = absurd h
entry_closes work c (entry.Gone child parent job shut) h = absurd h
entry_closes work c entry.Closed h = absurd h

pub log_closing : (work : Workload) (c es : List Entry) → Each IsClosingEntry es → log_in work (c ++ es) ≡ log_in work c
log_closing work c [] h = ap (log_in work) (append-nil c)
log_closing work c (e ∷ es) h =
    ap (log_in work) (sym (append_assoc c (e ∷ []) es))
    ∙ log_closing work (c ++ e ∷ []) es h.1
    ∙ log_without work c e (entry_closes work c e h.0)

pub log_closed : (work : Workload) (c es : List Entry) → Each IsClosingEntry es → log_in work (c ++ es ++ entry.Closed ∷ []) ≡ log_in work c
log_closed work c es h =
    log_without work (c ++ es) entry.Closed refl ∙ log_closing work c es h

-- ---- what the log says of commands

abbrev replies_in : By → Option Moment → Bool
replies_in by None = false
replies_in by (Some m) = replies_now by m

abbrev issues_in : By → Option Moment → Bool
issues_in by None = false
issues_in by (Some m) = issues_now by m

or_none : (a b : Bool) → (a || b) ≡ false → (a ≡ false) × (b ≡ false)
or_none true b e = absurd (true≢false e)
or_none false b e = (refl, e)

none_or : (a b : Bool) → a ≡ false → b ≡ false → (a || b) ≡ false
none_or true b e f = absurd (true≢false e)
none_or false b e f = f

module _ (work : Workload) (by : By) where
  served_replies : (o : Option service.Moment) → replies_in by (option_map Served o) ≡ false
  served_replies None = refl
  served_replies (Some m) = refl

  served_issues : (o : Option service.Moment) → issues_in by (option_map Served o) ≡ false
  served_issues None = refl
  served_issues (Some m) = refl

  issued_replies : (other : By) (b : Bool) (o : Option service.Moment) → replies_in by (cond b (Some (Issued other)) (option_map Served o)) ≡ false
  issued_replies other true o = refl
  issued_replies other false o = served_replies o

  issued_issues : (other : By) (b : Bool) (o : Option service.Moment) → same_command by other ≡ false → issues_in by (cond b (Some (Issued other)) (option_map Served o)) ≡ false
  issued_issues other true o e = e
  issued_issues other false o e = served_issues o

  told_replies : (other : By) (number : Option ℕ) (r : Option JobReply) (o : Option service.Moment) → same_command by other ≡ false → replies_in by (option_map_or (λ x. Some (Replied other x number)) r (option_map Served o)) ≡ false
  told_replies other number None o e = served_replies o
  told_replies other number (Some x) o e = e

  told_issues : (other : By) (number : Option ℕ) (r : Option JobReply) (o : Option service.Moment) → issues_in by (option_map_or (λ x. Some (Replied other x number)) r (option_map Served o)) ≡ false
  told_issues other number None o = served_issues o
  told_issues other number (Some x) o = refl

  child_replies : (b : Bool) (m : Moment) → replies_now by m ≡ false → replies_in by (cond b (Some m) None) ≡ false
  child_replies true m e = e
  child_replies false m e = refl

  child_issues : (b : Bool) (m : Moment) → issues_now by m ≡ false → issues_in by (cond b (Some m) None) ≡ false
  child_issues true m e = e
  child_issues false m e = refl

  entry_replies : (c : List Entry) (e : Entry) → replies_to by e ≡ false → replies_in by (happening_of work c e) ≡ false
  entry_replies c (entry.Issued a k) h = issued_replies (record { actor = a; command = k }) (is_some (job_ask_at work (record { actor = a; command = k }))) (moment_of work top c (entry.Issued a k))
  entry_replies c (entry.Replied a k given at_) h = told_replies (record { actor = a; command = k }) at_ (job_reply_of given) (moment_of work top c (entry.Replied a k given at_)) h
  entry_replies c (entry.Watched actor command number first count) h = refl
  entry_replies c (entry.Ticked second) h = refl
  entry_replies c (entry.Born child parent job label second grant) h = child_replies (parent == top) (Born job) refl
  entry_replies c (entry.Gone child parent job shut) h = child_replies (parent == top) (Gone job shut) refl
  entry_replies c e h = served_replies (moment_of work top c e)

  entry_issues : (c : List Entry) (e : Entry) → issues by e ≡ false → issues_in by (happening_of work c e) ≡ false
  entry_issues c (entry.Issued a k) h = issued_issues (record { actor = a; command = k }) (is_some (job_ask_at work (record { actor = a; command = k }))) (moment_of work top c (entry.Issued a k)) h
  entry_issues c (entry.Replied a k given at_) h = told_issues (record { actor = a; command = k }) at_ (job_reply_of given) (moment_of work top c (entry.Replied a k given at_))
  entry_issues c (entry.Watched actor command number first count) h = refl
  entry_issues c (entry.Ticked second) h = refl
  entry_issues c (entry.Born child parent job label second grant) h = child_issues (parent == top) (Born job) refl
  entry_issues c (entry.Gone child parent job shut) h = child_issues (parent == top) (Gone job shut) refl
  entry_issues c e h = served_issues (moment_of work top c e)

  any_replies : (o : Option Moment) (log : Log) → list_any (replies_now by) (cons_option o log) ≡ (replies_in by o || list_any (replies_now by) log)
  any_replies None log = refl
  any_replies (Some m) log = refl

  any_issues : (o : Option Moment) (log : Log) → list_any (issues_now by) (cons_option o log) ≡ (issues_in by o || list_any (issues_now by) log)
  any_issues None log = refl
  any_issues (Some m) log = refl

  none_replies : (c xs : List Entry) → list_any (replies_to by) xs ≡ false → list_any (replies_now by) (happenings_after work c xs) ≡ false
  none_replies c [] h = refl
  none_replies c (e ∷ xs) h =
      let parts = or_none (replies_to by e) (list_any (replies_to by) xs) h in
      any_replies (happening_of work c e) (happenings_after work (c ++ e ∷ []) xs)
      ∙ none_or _ _ (entry_replies c e parts.0) (none_replies (c ++ e ∷ []) xs parts.1)

  none_issues : (c xs : List Entry) → list_any (issues by) xs ≡ false → list_any (issues_now by) (happenings_after work c xs) ≡ false
  none_issues c [] h = refl
  none_issues c (e ∷ xs) h =
      let parts = or_none (issues by e) (list_any (issues by) xs) h in
      any_issues (happening_of work c e) (happenings_after work (c ++ e ∷ []) xs)
      ∙ none_or _ _ (entry_issues c e parts.0) (none_issues (c ++ e ∷ []) xs parts.1)

  -- what no entry replies to, no moment does
  pub log_unreplied : (c : List Entry) → count_by (replies_to by) c ≡ 0 → rules.is_replied by (log_in work c) ≡ false
  log_unreplied c none = none_replies [] c (none_counted (replies_to by) c none)

  pub log_unanswered : (c : List Entry) → is_replied by c ≡ false → rules.is_replied by (log_in work c) ≡ false
  log_unanswered c none = none_replies [] c none

  -- what isn't issued there isn't here
  pub log_unissued : (c : List Entry) → is_issued by c ≡ false → rules.is_issued by (log_in work c) ≡ false
  log_unissued c none = none_issues [] c none

  -- a command on jobs is issued in the one where it is in the other
  pub log_issued : (c : List Entry) → IsSome (job_ask_at work by) → rules.is_issued by (log_in work c) ≡ is_issued by c
  log_issued c some = issued_alike work by some c

  -- and is open where nothing replies to it
  pub log_open : (c : List Entry) → IsSome (job_ask_at work by) → is_issued by c ≡ true → count_by (replies_to by) c ≡ 0 → IsOpen by (log_in work c)
  log_open c some issued none = record { issued = log_issued c some ∙ issued; unanswered = log_unreplied c none }
