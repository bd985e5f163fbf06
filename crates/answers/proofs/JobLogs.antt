-- The log of the top instance has the log of its service in it, and the issues of its job commands.
use Rattle.std.proofs.Common.{◌≡◌, ℕ, zero, suc, ◌≤◌, ◌==◌, ◌&&◌, ◌||◌, List, [], ◌∷◌, ◌++◌, Bool, true, false, cond, Option, Some, None, is_some, option_map, filter_map, refl, sym, ap, ap₂, ◌∙◌, subst, arith, append-nil, append_assoc, true≢false}
use Rattle.std.specs.Prelude.{Contains, slice_get}
use Rattle.std.specs.Option.{option_and_then, option_map_or}
use Rattle.std.specs.List.{AllByRecursion as Each, cons_option, list_any}
use Rattle.kvs_model.specs.Store.{Name}
use Rattle.kvs_rules.specs.Log.{same_command}
use Rattle.kvs_rules.specs.Namespaces.{Base, fresh, primary}
use Rattle.kvs_rules.specs.Sequence.{until}
use Rattle.kvs_rules.proofs.Asking.{command_is}
use Rattle.kvs_txn.specs.declared.txn.By.{By}
use Rattle.kvs_txn.specs.declared.txn.Txn.{Txn}
use Rattle.kvs_rules.specs.Log as service
use Rattle.instance_rules.specs.Log as rules
use Rattle.instance_rules.specs.Log.{IsBuilt, IsInstance, JobReply, Moment, Log, Served, Issued, Replied, Born, Gone, issues_now, served, service_of}
use Rattle.answers.specs.declared.chronicle.Entry.{Entry}
use Rattle.answers.specs.declared.chronicle.Entry.TheVariants as entry
use Rattle.answers.specs.declared.chronicle.Reply.{Reply}
use Rattle.answers.specs.declared.chronicle.Reply.TheVariants as reply
use Rattle.workload.specs.declared.work.Command.{Command}
use Rattle.workload.specs.declared.work.Command.TheVariants as command
use Rattle.workload.specs.declared.work.Line.{Line}
use Rattle.workload.specs.declared.work.Workload.{Workload}
use Rattle.answers.specs.Chronicle.{Checkpoint, Setup, top, before_issue, is_issued, issues}
use Rattle.answers.specs.Commands.{ask_of, broker_of, command_at, namespace_at, subject_at, subject_of}
use Rattle.answers.specs.Services.{asked_at, base_of, moment_of, moments_after, log_of, request_of}
use Rattle.answers.specs.Jobs.{HasNoAdvance, IsSetup, IsWithoutJobs, instance_of, job_ask_of, job_ask_at, job_reply_of, happening_of, happenings_after, log_in}

-- what the service has of a moment, if there is one
abbrev in_service : Option Moment → Option service.Moment
in_service None = None
in_service (Some m) = served m

-- a moment of the service is one again
kept : (o : Option service.Moment) → in_service (option_map Served o) ≡ o
kept None = refl
kept (Some m) = refl

-- a command on jobs or on time asks nothing of the service
apart_of : (txn : Txn) (c : Command) → is_some (job_ask_of c) ≡ true → ask_of txn c ≡ None
apart_of txn (command.Submit label urgency depends spec) h = refl
apart_of txn (command.Cancel label) h = refl
apart_of txn (command.Raise label kind severity note) h = refl
apart_of txn (command.Urgency label urgency) h = refl
apart_of txn (command.StateOf label) h = refl
apart_of txn (command.Info label shown) h = refl
apart_of txn command.Jobs h = refl
apart_of txn (command.Why label) h = refl
apart_of txn (command.ResultOf label) h = refl
apart_of txn (command.Watch label) h = refl
apart_of txn (command.Advance seconds) h = refl
apart_of txn command.Shutdown h = refl
apart_of txn c h = absurd (true≢false (sym h))

apart : (txn : Txn) (o : Option Command) → is_some (option_and_then job_ask_of o) ≡ true
    → option_and_then (λ c. ask_of txn c) o ≡ None
apart txn None h = refl
apart txn (Some c) h = apart_of txn c h

issued_kept : (work : Workload) (c : List Entry) (by : By) (b : Bool) → is_some (job_ask_at work by) ≡ b
    → in_service (cond b (Some (Issued by)) (option_map Served (moment_of work top c (entry.Issued by.actor by.command))))
    ≡ moment_of work top c (entry.Issued by.actor by.command)
issued_kept work c by false e = kept (moment_of work top c (entry.Issued by.actor by.command))
issued_kept work c by true e =
    sym (ap (λ o. cond (is_some o && (top == top)) (Some (asked_at work c by)) None)
    (apart _ (command_at work by) e))

replied_kept : (work : Workload) (c : List Entry) (actor number : ℕ) (given : Reply) (at_ : Option ℕ)
    → in_service (happening_of work c (entry.Replied actor number given at_))
    ≡ moment_of work top c (entry.Replied actor number given at_)
replied_kept work c actor number (reply.Submitted id) at_ = refl
replied_kept work c actor number (reply.BadSpec fault) at_ = refl
replied_kept work c actor number (reply.Checked reason) at_ = refl
replied_kept work c actor number reply.NoJob at_ = refl
replied_kept work c actor number reply.Raised at_ = refl
replied_kept work c actor number reply.Ended at_ = refl
replied_kept work c actor number (reply.NotWaiting where_) at_ = refl
replied_kept work c actor number (reply.StateIs where_) at_ = refl
replied_kept work c actor number (reply.Info shown) at_ = refl
replied_kept work c actor number (reply.Jobs jobs) at_ = refl
replied_kept work c actor number (reply.Busy ids) at_ = refl
replied_kept work c actor number (reply.Behind id) at_ = refl
replied_kept work c actor number reply.Held at_ = refl
replied_kept work c actor number reply.Ready at_ = refl
replied_kept work c actor number (reply.EndedWith status) at_ = refl
replied_kept work c actor number (reply.Watched shown) at_ = refl
replied_kept work c actor number (reply.Advanced second) at_ = refl
replied_kept work c actor number reply.Shut at_ = refl
replied_kept work c actor number given at_ = kept (moment_of work top c (entry.Replied actor number given at_))

-- births and ends are none of the service
unserved : (b : Bool) (m : Moment) → served m ≡ None → in_service (cond b (Some m) None) ≡ None
unserved true m e = e
unserved false m e = refl

entry_kept : (work : Workload) (c : List Entry) (e : Entry) → in_service (happening_of work c e) ≡ moment_of work top c e
entry_kept work c (entry.Issued actor number) =
    issued_kept work c (record { actor = actor; command = number }) _ refl
entry_kept work c (entry.Replied actor number given at_) = replied_kept work c actor number given at_
entry_kept work c (entry.Ticked second) = refl
entry_kept work c (entry.Born child parent job label second grant) = unserved (parent == top) (Born job) refl
entry_kept work c (entry.Gone child parent job shut) = unserved (parent == top) (Gone job shut) refl
entry_kept work c (entry.Watched actor command number first count) = refl
entry_kept work c e = kept (moment_of work top c e)

-- the moments of further entries stand behind those of the first
pub happenings_after-append : (work : Workload) (c xs ys : List Entry) → happenings_after work c (xs ++ ys) ≡ happenings_after work c xs ++ happenings_after work (c ++ xs) ys
happenings_after-append work c [] ys = ap (λ b. happenings_after work b ys) (sym (append-nil c))
happenings_after-append work c (x ∷ xs) ys =
    ap (cons_option (happening_of work c x)) (happenings_after-append work (c ++ x ∷ []) xs ys ∙ ap (λ b. happenings_after work (c ++ x ∷ []) xs ++ happenings_after work b ys) (append_assoc c (x ∷ []) xs))
    ∙ sym (joined (happening_of work c x) _ _)
  where
    joined : (o : Option Moment) (xs ys : Log) → cons_option o xs ++ ys ≡ cons_option o (xs ++ ys)
    joined None xs ys = refl
    joined (Some m) xs ys = refl

pub only : {A : Type 0} (x y : A) → Contains (x ∷ []) y → y ≡ x
only x y (zero, low, e) = sym e
only x y (suc k, low, e) = absurd (omega arith)

serve : (o : Option Moment) (log : Log) → service_of (cons_option o log) ≡ cons_option (in_service o) (service_of log)
serve None log = refl
serve (Some m) log = refl

after_kept : (work : Workload) (c more : List Entry) → service_of (happenings_after work c more) ≡ moments_after work top c more
after_kept work c [] = refl
after_kept work c (e ∷ more) =
    serve (happening_of work c e) (happenings_after work (c ++ e ∷ []) more)
    ∙ ap (λ o. cons_option o (service_of (happenings_after work (c ++ e ∷ []) more))) (entry_kept work c e)
    ∙ ap (cons_option (moment_of work top c e)) (after_kept work (c ++ e ∷ []) more)

pub service_kept : (work : Workload) (c : List Entry) → service_of (log_in work c) ≡ log_of work top c
service_kept work c = after_kept work [] c

-- a command on jobs or on time is about `primary`, and asks nothing of the service
in_primary : (c : Command) (own : Name) → is_some (job_ask_of c) ≡ true → subject_of c own ≡ primary
in_primary (command.Submit label urgency depends spec) own h = refl
in_primary (command.Cancel label) own h = refl
in_primary (command.Raise label kind severity note) own h = refl
in_primary (command.Urgency label urgency) own h = refl
in_primary (command.StateOf label) own h = refl
in_primary (command.Info label shown) own h = refl
in_primary command.Jobs own h = refl
in_primary (command.Why label) own h = refl
in_primary (command.ResultOf label) own h = refl
in_primary (command.Watch label) own h = refl
in_primary (command.Advance seconds) own h = refl
in_primary command.Shutdown own h = refl
in_primary c own h = absurd (true≢false (sym h))

pub about_primary : (work : Workload) (by : By) → is_some (job_ask_at work by) ≡ true → subject_at work by ≡ primary
about_primary work by h = on (command_at work by) h
  where
    on : (o : Option Command) → is_some (option_and_then job_ask_of o) ≡ true → option_map_or (λ c. subject_of c (namespace_at work by)) o primary ≡ primary
    on None h = refl
    on (Some c) h = in_primary c (namespace_at work by) h

pub asks_no_service : (work : Workload) (by : By) → is_some (job_ask_at work by) ≡ true → request_of work by ≡ None
asks_no_service work by h = ap (option_map (λ a. record { broker = broker_of work by.actor; namespace = subject_at work by; ask = a })) (apart _ (command_at work by) h)

-- ---- when a command on jobs or on time was issued

abbrev issues_in : By → Option Moment → Bool
issues_in by None = false
issues_in by (Some m) = issues_now by m

module _ (work : Workload) (by : By) (asks : is_some (job_ask_at work by) ≡ true) where
  served_none : (o : Option service.Moment) → issues_in by (option_map Served o) ≡ false
  served_none None = refl
  served_none (Some m) = refl

  told_none : (other : By) (number : Option ℕ) (o : Option JobReply) (m : Option service.Moment) → issues_in by (option_map_or (λ r. Some (Replied other r number)) o (option_map Served m)) ≡ false
  told_none other number None m = served_none m
  told_none other number (Some r) m = refl

  other_command : (other : By) → is_some (job_ask_at work other) ≡ false → same_command by other ≡ false
  other_command other none = on (same_command by other) refl
    where
      on : (b : Bool) → same_command by other ≡ b → b ≡ false
      on false e = refl
      on true e = absurd (true≢false (sym asks ∙ ap (λ x. is_some (job_ask_at work x)) (command_is by other e) ∙ none))

  issued_as : (c : List Entry) (other : By) (b : Bool) → is_some (job_ask_at work other) ≡ b
      → issues_in by (cond b (Some (Issued other)) (option_map Served (moment_of work top c (entry.Issued other.actor other.command)))) ≡ same_command by other
  issued_as c other true e = refl
  issued_as c other false e = served_none (moment_of work top c (entry.Issued other.actor other.command)) ∙ sym (other_command other e)

  unissued : (b : Bool) (m : Moment) → issues_now by m ≡ false → issues_in by (cond b (Some m) None) ≡ false
  unissued true m e = e
  unissued false m e = refl

  entry_issues : (c : List Entry) (e : Entry) → issues_in by (happening_of work c e) ≡ issues by e
  entry_issues c (entry.Issued actor number) = issued_as c (record { actor = actor; command = number }) _ refl
  entry_issues c (entry.Replied actor number given at_) = told_none (record { actor = actor; command = number }) at_ (job_reply_of given) (moment_of work top c (entry.Replied actor number given at_))
  entry_issues c (entry.Ticked second) = refl
  entry_issues c (entry.Born child parent job label second grant) = unissued (parent == top) (Born job) refl
  entry_issues c (entry.Gone child parent job shut) = unissued (parent == top) (Gone job shut) refl
  entry_issues c (entry.Watched actor command number first count) = refl
  entry_issues c e = served_none (moment_of work top c e)

  until_option : (o : Option Moment) (log : Log) (b : Bool) → issues_in by o ≡ b → until (issues_now by) (cons_option o log) ≡ cond b [] (cons_option o (until (issues_now by) log))
  until_option None log true e = absurd (true≢false (sym e))
  until_option None log false e = refl
  until_option (Some m) log b e = ap (λ x. cond x [] (m ∷ until (issues_now by) log)) e

  cond_after : (c xs : List Entry) (e : Entry) (b : Bool) → cond b [] (cons_option (happening_of work c e) (happenings_after work (c ++ e ∷ []) xs)) ≡ happenings_after work c (cond b [] (e ∷ xs))
  cond_after c xs e true = refl
  cond_after c xs e false = refl

  until_after : (c xs : List Entry) → until (issues_now by) (happenings_after work c xs) ≡ happenings_after work c (until (issues by) xs)
  until_after c [] = refl
  until_after c (e ∷ xs) =
      until_option (happening_of work c e) (happenings_after work (c ++ e ∷ []) xs) (issues by e) (entry_issues c e)
      ∙ ap (λ l. cond (issues by e) [] (cons_option (happening_of work c e) l)) (until_after (c ++ e ∷ []) xs)
      ∙ cond_after c (until (issues by) xs) e (issues by e)

  -- the log before its issue is that of the chronicle before its issue
  pub log_before_issue : (c : List Entry) → rules.before_issue by (log_in work c) ≡ log_in work (before_issue by c)
  log_before_issue c = until_after [] c

  any_option : (o : Option Moment) (log : Log) → list_any (issues_now by) (cons_option o log) ≡ (issues_in by o || list_any (issues_now by) log)
  any_option None log = refl
  any_option (Some m) log = refl

  any_after : (c xs : List Entry) → list_any (issues_now by) (happenings_after work c xs) ≡ list_any (issues by) xs
  any_after c [] = refl
  any_after c (e ∷ xs) =
      any_option (happening_of work c e) (happenings_after work (c ++ e ∷ []) xs)
      ∙ ap₂ (λ a b. a || b) (entry_issues c e) (any_after (c ++ e ∷ []) xs)

  -- it is issued in the one where it is in the other
  pub issued_alike : (c : List Entry) → rules.is_issued by (log_in work c) ≡ is_issued by c
  issued_alike c = any_after [] c

-- ---- workloads without such commands

nothing_asked : (actor k : ℕ) (lines : List Line) → Each (λ line. job_ask_of line.command ≡ None) lines
    → option_and_then job_ask_of (slice_get (filter_map (λ line. cond (line.actor == actor) (Some line.command) None) lines) k) ≡ None
nothing_asked actor k [] h = refl
nothing_asked actor k (line ∷ lines) h = on (line.actor == actor) k (λ k. nothing_asked actor k lines h.1)
  where
    more : List Command
    more = filter_map (λ line. cond (line.actor == actor) (Some line.command) None) lines

    on : (b : Bool) (k : ℕ) → ((k : ℕ) → option_and_then job_ask_of (slice_get more k) ≡ None) → option_and_then job_ask_of (slice_get (cons_option (cond b (Some line.command) None) more) k) ≡ None
    on true zero again = h.0
    on true (suc k) again = again k
    on false k again = again k

pub asks_nothing : (work : Workload) → IsWithoutJobs work → (by : By) → job_ask_at work by ≡ None
asks_nothing work h by = nothing_asked by.actor by.command work.lines h

-- no advance waits there
pub no_advance : (set : Setup) → IsWithoutJobs set.work → (c : List Entry) → HasNoAdvance set c
no_advance set h c target waits = let never : None ≡ Some (rules.Advance waits.seconds) = sym (asks_nothing set.work h waits.by) ∙ waits.asks in cc

-- the top instance of a run that begins anew is built
pub built_instance : (set : Setup) → set.base ≡ None → IsBuilt (instance_of set)
built_instance set anew = record {
  start = ap (λ o. option_map_or (λ (kept : Checkpoint). kept.second) o set.birth) anew;
}

-- its service begins with the grant's text
pub begins_anew : (set : Setup) → set.base ≡ None → base_of set ≡ fresh set.grant
begins_anew set anew = ap (λ o. option_map_or (λ (kept : Checkpoint). let base : Base = record { number = kept.number; store = kept.store } in base) o (fresh set.grant)) anew

-- the top instance keeps what an instance does
pub is_instance : (set : Setup) → IsSetup set → IsInstance (instance_of set)
is_instance set h = record {
  answers = λ ask. (omega arith, omega arith);
  since = subst (λ o. set.birth ≤ option_map_or (λ (kept : Checkpoint). kept.second) o set.birth) (sym h.anew) (omega arith);
  grant = h.grant;
  text = begins_anew set h.anew ∙ ap fresh h.text;
  apart = λ by some. asks_no_service set.work by some;
  asks = h.asks;
}
