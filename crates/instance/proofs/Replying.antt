-- What a reply leaves of a world.
use Rattle.std.proofs.Common.{◌≡◌, ◌≢◌, ℕ, ◌+◌, ◌-◌, ◌<◌, ◌≤◌, ◌==◌, inl, inr, max, List, [], ◌∷◌, ◌++◌, length, Bool, true, false, ◌&&◌, ◌||◌, cond, refl, sym, ap, ap₂, ◌∙◌, subst, arith, map, append-nil, append_assoc, Option, Some, None, is_some, eq-eqb, ne_eqb, true≢false, set, get_or}
use Rattle.std.specs.Prelude.{IsSome, slice_get, nat_lt}
use Rattle.std.specs.Option.{option_map, option_map_or}
use Rattle.std.specs.List.{cons_option}
use Rattle.std.specs.List.{AllByRecursion as Each}
use Rattle.std.proofs.lemmas.List.Folds.{list_any-append}
use Rattle.std.proofs.lemmas.List.Elements.{Contains-get_or}
use Rattle.std.proofs.lemmas.Bool.{cases_eq, cases_lt, lt-ltb, le-ltb}
use Rattle.std.proofs.lemmas.Option.{slice_get-get_or, slice_get_within}
use Rattle.std.proofs.Math.ListN.{length-set}
use Rattle.services.specs.kvs_txn.declared.txn.By.{By}
use Rattle.services.specs.kvs_rules.declared.events.KvsAnswer.{KvsAnswer}
use Rattle.services.specs.kvs_rules.declared.events.KvsAnswer.TheVariants as answer
use Rattle.services.specs.kvs_rules.declared.events.KvsEvent.TheVariants as event
use Rattle.services.specs.kvs_rules.Brokers.{HasHeard}
use Rattle.services.specs.kvs_rules.Namespaces.{primary}
use Rattle.services.specs.kvs_rules.Log.{Log, Moment, Happened, is_asked, is_answered, answers_now, same_command}
use Rattle.services.specs.kvs_model.Store.{Name}
use Rattle.services.specs.kvs_rules.Sequence.{EachAfter}
use Rattle.services.proofs.kvs_rules_proofs.Sequences.{each_joined, each_push}
use Rattle.services.specs.instance_rules.Log as rules
use Rattle.services.specs.instance_rules.Log.{JobReply}
use Rattle.services.specs.instance_rules.Replies.{IsLegalReply}
use Rattle.services.specs.job_service.Times.{KeepsCounts}
use Rattle.services.specs.Agrees.{AgreesServices}
use Rattle.services.specs.Asks.{Answers}
use Rattle.services.specs.Value.{ServicesValue}
use Rattle.services.specs.answers.declared.chronicle.Entry.{Entry}
use Rattle.services.specs.answers.declared.chronicle.Entry.TheVariants as entry
use Rattle.services.specs.answers.declared.chronicle.Reply.{Reply}
use Rattle.services.specs.answers.declared.chronicle.Reply.TheVariants as reply
use Rattle.services.specs.answers.declared.steps.Step.{Step}
use Rattle.services.specs.answers.declared.steps.Step.TheVariants as step
use Rattle.services.specs.answers.Chronicle.{Setup, top, issues, issues_of, is_issued, is_replied, replies_to, answer_of, uses_of}
use Rattle.services.specs.workload.declared.work.Command.TheVariants as command
use Rattle.services.specs.answers.Commands.{broker_of, command_at, subject_at}
use Rattle.services.specs.answers.Entering.{reply_of}
use Rattle.services.specs.answers.Floors.{floor}
use Rattle.services.specs.answers.Jobs.{happening_of, instance_of, job_ask_at, job_reply_of, log_in, state_by}
use Rattle.services.specs.answers.Legal.{HasReplyGrounds, IsLegal, IsLegalEntry, IsLegalIn, SettlesFirst}
use Rattle.services.specs.answers.Stretches.{ComesBeforeReply, IsStretch, is_seen}
use Rattle.services.specs.answers.Services.{setting_of, log_of, moment_of}
use Rattle.services.specs.kvs_rules.Answers.{IsLegalEvent}
use Rattle.services.specs.answers.Whole.{is_closing, IsEarlierEntry}
use Rattle.services.proofs.answers_proofs.Services.{log_push, asks_of, moment_asks}
use Rattle.services.proofs.answers_proofs.Floors.{floor_push}
use Rattle.instance.specs.declared.seats.Seat.{Seat}
use Rattle.instance.specs.declared.seats.Waiting.{Waiting}
use Rattle.instance.specs.declared.seats.Waiting.TheVariants as waiting
use Rattle.instance.specs.Floors.{Floors, floor_in, seen_in}
use Rattle.services.specs.answers.Floors.{number_in, roots_named}
use Rattle.instance.proofs.Seeing.{none_seen}
use Rattle.instance.specs.Replies.{IsGiven}
use Rattle.instance.specs.Seats.{is_free, last_command, has_come, raised, with_floors}
use Rattle.instance.specs.Steps.{can_answer}
use Rattle.instance.specs.Makes.{Follows}
use Rattle.instance.specs.Value.{InstanceValue}
use Rattle.instance.specs.Agrees.{AgreesOwn, command_of, Stands, Waits, IsSeat, ActorStands}
use Rattle.instance.proofs.Owning.{Own, DoesAgree}
use Rattle.instance.proofs.Listing.{count-push, any_left, each_append, none_counted, get-set_same, get-set_other}
use Rattle.instance.proofs.Pushing.{IsOthers, actor_other, actor_raised, asked_push, answered_push, stands_other}
use Rattle.instance.proofs.Going.{unended}
use Rattle.instance.proofs.Looking.{sees_root}
use Rattle.instance.proofs.Lining.{HaveSameLines, next_at, same_lines, tallied_on}
use Rattle.instance.proofs.Logs.{job_replied, log_grown, log_issued, log_unanswered, log_without, served_log, service_replied}

-- a reply that hands on the service's answer is that answer again, is not of the end, and rests on it
answered_back : (a : KvsAnswer) → answer_of (reply_of a) ≡ Some a
answered_back answer.Committed = refl
answered_back answer.Fenced = refl
answered_back (answer.Refused refusal) = refl
answered_back (answer.CountDiffers kept) = refl
answered_back (answer.Read found uses) = refl
answered_back (answer.NoTarget space uses) = refl
answered_back (answer.Root reference) = refl
answered_back answer.Reached = refl
answered_back answer.NoNamespace = refl
answered_back answer.Created = refl
answered_back answer.Exists = refl
answered_back answer.TooMany = refl
answered_back answer.Removed = refl
answered_back answer.IsPrimary = refl
answered_back (answer.Stored reference) = refl
answered_back (answer.Blob bytes) = refl
answered_back answer.NoBlob = refl
answered_back answer.Flushed = refl
answered_back (answer.Clashed reference) = refl
answered_back answer.Dropped = refl

goes_on : (a : KvsAnswer) → is_closing (reply_of a) ≡ false
goes_on answer.Committed = refl
goes_on answer.Fenced = refl
goes_on (answer.Refused refusal) = refl
goes_on (answer.CountDiffers kept) = refl
goes_on (answer.Read found uses) = refl
goes_on (answer.NoTarget space uses) = refl
goes_on (answer.Root reference) = refl
goes_on answer.Reached = refl
goes_on answer.NoNamespace = refl
goes_on answer.Created = refl
goes_on answer.Exists = refl
goes_on answer.TooMany = refl
goes_on answer.Removed = refl
goes_on answer.IsPrimary = refl
goes_on (answer.Stored reference) = refl
goes_on (answer.Blob bytes) = refl
goes_on answer.NoBlob = refl
goes_on answer.Flushed = refl
goes_on (answer.Clashed reference) = refl
goes_on answer.Dropped = refl

unseen_of : (a : KvsAnswer) → is_seen (reply_of a) ≡ false
unseen_of answer.Committed = refl
unseen_of answer.Fenced = refl
unseen_of (answer.Refused refusal) = refl
unseen_of (answer.CountDiffers kept) = refl
unseen_of (answer.Read found uses) = refl
unseen_of (answer.NoTarget space uses) = refl
unseen_of (answer.Root reference) = refl
unseen_of answer.Reached = refl
unseen_of answer.NoNamespace = refl
unseen_of answer.Created = refl
unseen_of answer.Exists = refl
unseen_of answer.TooMany = refl
unseen_of answer.Removed = refl
unseen_of answer.IsPrimary = refl
unseen_of (answer.Stored reference) = refl
unseen_of (answer.Blob bytes) = refl
unseen_of answer.NoBlob = refl
unseen_of answer.Flushed = refl
unseen_of (answer.Clashed reference) = refl
unseen_of answer.Dropped = refl

rests : (set : Setup) (c : List Entry) (by : By) (number : Option ℕ) (a : KvsAnswer) → IsLegalIn set c top (event.Answered by number a) → HasReplyGrounds set c by number (reply_of a)
rests set c by number answer.Committed h = h
rests set c by number answer.Fenced h = h
rests set c by number (answer.Refused refusal) h = h
rests set c by number (answer.CountDiffers kept) h = h
rests set c by number (answer.Read found uses) h = h
rests set c by number (answer.NoTarget space uses) h = h
rests set c by number (answer.Root reference) h = h
rests set c by number answer.Reached h = h
rests set c by number answer.NoNamespace h = h
rests set c by number answer.Created h = h
rests set c by number answer.Exists h = h
rests set c by number answer.TooMany h = h
rests set c by number answer.Removed h = h
rests set c by number answer.IsPrimary h = h
rests set c by number (answer.Stored reference) h = h
rests set c by number (answer.Blob bytes) h = h
rests set c by number answer.NoBlob h = h
rests set c by number answer.Flushed h = h
rests set c by number (answer.Clashed reference) h = h
rests set c by number answer.Dropped h = h

-- a reply of the job manager or of time is no answer of the service, is not of the end, and rests on it
pub record IsOfJobs (given : Reply) (told : JobReply) : Type 0 where
  pub unanswered : answer_of given ≡ None
  pub early : is_closing given ≡ false
  pub unseen : is_seen given ≡ false
  pub rests : (set : Setup) (c : List Entry) (by : By) (number : Option ℕ) → IsLegalReply (instance_of set) (log_in set.work c) by told number → HasReplyGrounds set c by number given

none_told : {A : Type 0} (told : JobReply) → ◌≡◌ {A = Option JobReply} None (Some told) → A
none_told told e = cc

same_told : (x y : JobReply) → Some x ≡ Some y → x ≡ y
same_told x y e = cc

-- where what it rests on computes
hands_on : (given : Reply) (x told : JobReply) → answer_of given ≡ None → is_closing given ≡ false → is_seen given ≡ false
    → ((set : Setup) (c : List Entry) (by : By) (number : Option ℕ) → IsLegalReply (instance_of set) (log_in set.work c) by x number → HasReplyGrounds set c by number given)
    → Some x ≡ Some told → IsOfJobs given told
hands_on given x told unanswered early unseen rests e = record {
  unanswered = unanswered;
  early = early;
  unseen = unseen;
  rests = λ set c by number h. rests set c by number (subst (λ r. IsLegalReply (instance_of set) (log_in set.work c) by r number) (sym (same_told x told e)) h);
}

pub of_jobs : (given : Reply) (told : JobReply) → job_reply_of given ≡ Some told → IsOfJobs given told
of_jobs (reply.Submitted id) told e = hands_on (reply.Submitted id) (rules.Submitted id) told refl refl refl (λ set c by number h. h) e
of_jobs (reply.BadSpec fault) told e = hands_on (reply.BadSpec fault) (rules.BadSpec fault) told refl refl refl (λ set c by number h. h) e
of_jobs (reply.Checked reason) told e = hands_on (reply.Checked reason) (rules.Checked reason) told refl refl refl (λ set c by number h. h) e
of_jobs reply.NoJob told e = hands_on reply.NoJob rules.NoJob told refl refl refl (λ set c by number h. h) e
of_jobs reply.Raised told e = hands_on reply.Raised rules.Raised told refl refl refl (λ set c by number h. h) e
of_jobs reply.Ended told e = hands_on reply.Ended rules.Ended told refl refl refl (λ set c by number h. h) e
of_jobs (reply.NotWaiting where_) told e = hands_on (reply.NotWaiting where_) (rules.NotWaiting where_) told refl refl refl (λ set c by number h. h) e
of_jobs (reply.StateIs where_) told e = hands_on (reply.StateIs where_) (rules.StateIs where_) told refl refl refl (λ set c by number h. h) e
of_jobs (reply.Info shown) told e = hands_on (reply.Info shown) (rules.Shown shown) told refl refl refl (λ set c by number h. h) e
of_jobs (reply.Jobs jobs) told e = hands_on (reply.Jobs jobs) (rules.Listed (map state_by jobs)) told refl refl refl (λ set c by number h. h) e
of_jobs (reply.Busy ids) told e = hands_on (reply.Busy ids) (rules.Busy ids) told refl refl refl (λ set c by number h. h) e
of_jobs (reply.Behind id) told e = hands_on (reply.Behind id) (rules.Behind id) told refl refl refl (λ set c by number h. h) e
of_jobs reply.Held told e = hands_on reply.Held rules.Held told refl refl refl (λ set c by number h. h) e
of_jobs reply.Ready told e = hands_on reply.Ready rules.Ready told refl refl refl (λ set c by number h. h) e
of_jobs (reply.EndedWith status) told e = hands_on (reply.EndedWith status) (rules.EndedWith status) told refl refl refl (λ set c by number h. h) e
of_jobs (reply.Watched shown) told e = hands_on (reply.Watched shown) (rules.Watched shown) told refl refl refl (λ set c by number h. h) e
of_jobs (reply.Advanced second) told e = hands_on (reply.Advanced second) (rules.Advanced second) told refl refl refl (λ set c by number h. h) e
of_jobs reply.Shut told e = hands_on reply.Shut rules.Shut told refl refl refl (λ set c by number h. h) e
of_jobs _ told e = none_told told e

pub same_self : (by : By) → same_command by by ≡ true
same_self by = ap₂ (λ a b. a && b) (eq-eqb by.actor by.actor refl) (eq-eqb by.command by.command refl)

-- what is needed of a reply, of the moment of the service that it makes and of that of the instance
pub record IsReply (set : Setup) (log : Log) (c : List Entry) (services : ServicesValue) (by : By) (given : Reply) (number : Option ℕ) (o : Option Moment) (p : Option rules.Moment) : Type 0 where
  pub moment : moment_of set.work top c (entry.Replied by.actor by.command given number) ≡ o
  pub happens : happening_of set.work c (entry.Replied by.actor by.command given number) ≡ p
  pub legal : HasReplyGrounds set c by number given
  pub early : is_closing given ≡ false
  pub agrees : AgreesServices services (instance_of set) (log_in set.work c ++ cons_option p [])
  pub told : is_asked by log ≡ true → is_answered by (log ++ cons_option o []) ≡ true

pub record IsThere (set : Setup) (log : Log) (c : List Entry) (services : ServicesValue) (by : By) (given : Reply) (number : Option ℕ) : Type 0 where
  pub moment : Option Moment
  pub happening : Option rules.Moment
  pub is : IsReply set log c services by given number moment happening

-- a reply that no service gives
nothing_told : (set : Setup) (c : List Entry) (services : ServicesValue) (by : By) (given : Reply) (number : Option ℕ) → answer_of given ≡ None → job_reply_of given ≡ None → is_closing given ≡ false →
    AgreesServices services (instance_of set) (log_in set.work c) → HasReplyGrounds set c by number given → is_asked by (log_of set.work top c) ≡ false → IsThere set (log_of set.work top c) c services by given number
nothing_told set c services by given number none alone early agree legal unasked = record {
  moment = None;
  happening = None;
  is = record {
    moment = no_moment;
    happens = ap₂ (λ r o. option_map_or (λ x. Some (rules.Replied by x number)) r (option_map rules.Served o)) alone no_moment;
    legal = legal;
    early = early;
    agrees = subst (AgreesServices services (instance_of set)) (sym (append-nil (log_in set.work c))) agree;
    told = λ asked. absurd (true≢false (sym asked ∙ unasked));
  };
}
  where
    no_moment : moment_of set.work top c (entry.Replied by.actor by.command given number) ≡ None
    no_moment = ap (option_map (λ a. Happened (event.Answered by number a))) none

module _ (set : Setup) (c : List Entry) (old : ServicesValue) (agree : AgreesServices old (instance_of set) (log_in set.work c)) (a issued : ℕ)
    (begun : is_issued (command_of a (issued - 1)) c ≡ true) (unreplied : is_replied (command_of a (issued - 1)) c ≡ false) where
  abbrev spoken : By
  spoken = command_of a (issued - 1)

  abbrev Stays : ServicesValue → Reply → Option ℕ → Type 0
  Stays services given number = IsThere set (log_of set.work top c) c services spoken given number

  -- one that its actor is told at once
  at_once : (services : ServicesValue) (given plain : Reply) (number told : Option ℕ) → (given ≡ plain) × (number ≡ told) × (services ≡ old) → answer_of plain ≡ None → job_reply_of plain ≡ None → is_closing plain ≡ false →
      HasReplyGrounds set c spoken told plain → is_asked spoken (log_of set.work top c) ≡ false → Stays services given number
  at_once services given plain number told h none alone early legal unasked =
      subst (λ g. Stays services g number) (sym h.0) (subst (Stays services plain) (sym h.1)
      (nothing_told set c services spoken plain told none alone early (subst (λ v. AgreesServices v (instance_of set) (log_in set.work c)) (sym h.2) agree) legal unasked))

  last : (x y : Bool) → y ≡ true → (x || (y || false)) ≡ true
  last true y e = refl
  last false true e = refl
  last false false e = absurd (true≢false (sym e))

  there : (services : ServicesValue) (w : Waiting) (given : Reply) (number : Option ℕ) →
      Waits set (log_of set.work top c) a issued w → IsGiven old services spoken w given number → Stays services given number
  there services waiting.Nothing given number waits h = absurd h
  there services waiting.Staged given number waits h =
      at_once services given reply.Staged number None h refl refl refl ((begun, unreplied), refl, waits.2) waits.1
  there services waiting.TxnFull given number waits h =
      at_once services given reply.TxnFull number None h refl refl refl ((begun, unreplied), refl, waits.2) waits.1
  there services (waiting.Tell to) given number waits h = absurd h
  there services waiting.Using given number waits h =
      at_once services given reply.Using number None h refl refl refl ((begun, unreplied), refl, waits.2) waits.1
  there services waiting.Look given number waits h = absurd h
  there services waiting.Service given number waits h =
      let m : Moment = Happened (event.Answered spoken number h.answer) in
      let legal = (h.tells.legal (instance_of set) (log_in set.work c) agree).0 in
      subst (λ g. Stays services g number) (sym h.handed) (record {
        moment = Some m;
        happening = Some (rules.Served m);
        is = record {
          moment = ap (option_map (λ x. Happened (event.Answered spoken number x))) (answered_back h.answer);
          happens = service_replied set.work c spoken (reply_of h.answer) number h.answer refl;
          legal = rests set c spoken number h.answer (refl, subst (λ l. IsLegalEvent (setting_of set) l (event.Answered spoken number h.answer)) (served_log set.work c) legal);
          early = goes_on h.answer;
          agrees = h.tells.agrees (instance_of set) (log_in set.work c) agree;
          told = λ _. list_any-append (answers_now spoken) (log_of set.work top c) (m ∷ []) ∙ last (is_answered spoken (log_of set.work top c)) (answers_now spoken m) (same_self spoken);
        };
      })
  there services waiting.Jobs given number waits h =
      let t : Answers services (instance_of set) (log_in set.work c) spoken given number = h (instance_of set) (log_in set.work c) agree in
      let of = of_jobs given t.reply t.hands in
      record {
        moment = None;
        happening = Some (rules.Replied spoken t.reply number);
        is = record {
          moment = ap (option_map (λ x. Happened (event.Answered spoken number x))) of.unanswered;
          happens = job_replied set.work c spoken given number t.reply t.hands;
          legal = of.rests set c spoken number t.legal;
          early = of.early;
          agrees = t.agrees;
          told = λ asked. absurd (true≢false (sym asked ∙ waits.1));
        };
      }
  there services waiting.Shutdown given number waits h =
      subst (λ g. Stays services g number) (sym h.0) (subst (Stays services reply.Shut) (sym h.1) (subst (λ v. Stays v reply.Shut None) (sym h.2) shut_there))
    where
      asks : IsSome (job_ask_at set.work spoken)
      asks = ap is_some waits.2

      waiting_so : rules.IsOpen spoken (log_in set.work c)
      waiting_so = record { issued = log_issued set.work spoken c asks ∙ begun; unanswered = log_unanswered set.work spoken c unreplied }

      shut_there : Stays old reply.Shut None
      shut_there = record {
        moment = None;
        happening = Some (rules.Replied spoken rules.Shut None);
        is = record {
          moment = refl;
          happens = job_replied set.work c spoken reply.Shut None rules.Shut refl;
          legal = record { ask = rules.Shutdown; made = waits.2; waits = waiting_so; tells = agree.jobs.shutdowns spoken waits.2; grounds = (refl, refl) };
          early = refl;
          agrees = h.3 (instance_of set) (log_in set.work c) agree waits.2 waiting_so;
          told = λ asked. absurd (true≢false (sym asked ∙ waits.1));
        };
      }

-- a reply is no moment at which a command asks
replied_asks : (set : Setup) (c : List Entry) (a k : ℕ) (given : Reply) (number : Option ℕ) (by : By) → asks_of by (moment_of set.work top c (entry.Replied a k given number)) ≡ false
replied_asks set c a k given number by = on (asks_of by (moment_of set.work top c (entry.Replied a k given number))) refl
  where
    on : (b : Bool) → asks_of by (moment_of set.work top c (entry.Replied a k given number)) ≡ b → b ≡ false
    on true e = absurd (true≢false (sym (moment_asks set.work top c (entry.Replied a k given number) by e)))
    on false e = refl

-- how many replies to a command of the actor there are, with one reply more to the last one issued
counted_more : (a issued k n : ℕ) → 0 < issued → n ≡ cond (nat_lt k (issued - 1)) 1 0 → n + cond ((a == a) && (k == issued - 1)) 1 0 ≡ cond (nat_lt k issued) 1 0
counted_more a issued k n some e = elim (cases_eq k (issued - 1)) [
  | inl same ↦
      let old : n ≡ 0 = e ∙ ap (λ b. cond b 1 0) (le-ltb k (issued - 1) (omega arith)) in
      let more : cond {A = ℕ} ((a == a) && (k == issued - 1)) 1 0 ≡ 1 = ap (λ b. cond b 1 0) (ap₂ (λ x y. x && y) (eq-eqb a a refl) (eq-eqb k (issued - 1) same)) in
      let new : cond {A = ℕ} (nat_lt k issued) 1 0 ≡ 1 = ap (λ b. cond b 1 0) (lt-ltb k issued (omega arith)) in
      omega arith
  | inr other ↦
      let more : cond {A = ℕ} ((a == a) && (k == issued - 1)) 1 0 ≡ 0 = ap (λ b. cond b 1 0) (ap₂ (λ x y. x && y) (eq-eqb a a refl) (ne_eqb k (issued - 1) other)) in
      let kept : cond {A = ℕ} (nat_lt k (issued - 1)) 1 0 ≡ cond (nat_lt k issued) 1 0 = same_bound other in
      omega (arith, e)
]
  where
    same_bound : k ≢ issued - 1 → cond {A = ℕ} (nat_lt k (issued - 1)) 1 0 ≡ cond (nat_lt k issued) 1 0
    same_bound other = elim (cases_lt k (issued - 1)) [
      | inl below ↦ ap (λ b. cond b 1 0) (lt-ltb k (issued - 1) below ∙ sym (lt-ltb k issued (omega arith)))
      | inr above ↦ ap (λ b. cond b 1 0) (le-ltb k (issued - 1) above ∙ sym (le-ltb k issued (omega arith)))
    ]

stands_replied : (set : Setup) (log : Log) (c : List Entry) (services : ServicesValue) (a issued : ℕ) (given : Reply) (number : Option ℕ) (o : Option Moment) (p : Option rules.Moment) → 0 < issued →
    IsReply set log c services (command_of a (issued - 1)) given number o p → ((by : By) → asks_of by o ≡ false) →
    Stands log c a issued (issued - 1) → Stands (log ++ cons_option o []) (c ++ entry.Replied a (issued - 1) given number ∷ []) a issued issued
stands_replied set log c services a issued given number o p some r unasked h = record {
  counted = count-push (issues_of a) c (entry.Replied a (issued - 1) given number) ∙ plus_none _ ∙ h.counted;
  begun = λ k below. any_left (issues (command_of a k)) c (entry.Replied a (issued - 1) given number ∷ []) (h.begun k below);
  ended = λ k. count-push (replies_to (command_of a k)) c (entry.Replied a (issued - 1) given number) ∙ counted_more a issued k _ some (h.ended k);
  answered = λ k asked below. told k (sym (asked_push (command_of a k) log o (unasked (command_of a k))) ∙ asked) below;
}
  where
    plus_none : (n : ℕ) → n + 0 ≡ n
    plus_none n = omega arith

    told : (k : ℕ) → is_asked (command_of a k) log ≡ true → k < issued → is_answered (command_of a k) (log ++ cons_option o []) ≡ true
    told k asked below = elim (cases_eq k (issued - 1)) [
      | inl same ↦ subst (λ n. is_answered (command_of a n) (log ++ cons_option o []) ≡ true) (sym same) (r.told (subst (λ n. is_asked (command_of a n) log ≡ true) same asked))
      | inr other ↦ answered_push (command_of a k) log o (h.answered k asked (omega arith))
    ]

-- the floors of the actors
own_floor : (set : Setup) (c : List Entry) (a k : ℕ) (given : Reply) (number : Option ℕ) (floors : Floors) (subject : Name) → subject_at set.work (command_of a k) ≡ subject →
    ((space : Name) → floor set.work c a space ≡ floor_in floors space) → (space : Name) → floor set.work (c ++ entry.Replied a k given number ∷ []) a space ≡ seen_in floors subject number (uses_of given) space
own_floor set c a k given number floors subject about floored space =
    let named : Name → ℕ = λ about. number_in space (cons_option (option_map (λ n. record { namespace = about; number = n }) number) (uses_of given)) in
    floor_push set.work c (entry.Replied a k given number) a space
    ∙ ap (λ b. cond b (max (floor set.work c a space) (named (subject_at set.work (command_of a k)))) (floor set.work c a space)) (eq-eqb a a refl)
    ∙ ap₂ (λ f about. max f (named about)) (floored space) about

others_floor : (set : Setup) (c : List Entry) (a b k : ℕ) (given : Reply) (number : Option ℕ) → b ≢ a → (space : Name) → floor set.work (c ++ entry.Replied a k given number ∷ []) b space ≡ floor set.work c b space
others_floor set c a b k given number other space =
    floor_push set.work c (entry.Replied a k given number) b space
    ∙ ap (λ t. cond t (max (floor set.work c b space) (number_in space (roots_named set.work (command_of a k) given number))) (floor set.work c b space)) (ne_eqb b a other)

-- the actor's seat behind the reply
abbrev pub replied_seat : Seat → Floors → Seat
replied_seat seat floors = record { broker = seat.broker; next = seat.next; last = seat.last; issued = seat.issued; waiting = waiting.Nothing; staged = seat.staged; space = seat.space; subject = seat.subject; floors = floors }

-- how far the actor has seen then
abbrev pub HasSeen : Seat → Reply → Option ℕ → Floors → Type 0
HasSeen seat given number floors = (space : Name) → floor_in floors space ≡ seen_in seat.floors seat.subject number (uses_of given) space

seat_replied : (set : Setup) (log later : Log) (c : List Entry) (a : ℕ) (seat : Seat) (given : Reply) (number : Option ℕ) (floors : Floors) → HasSeen seat given number floors → 0 < seat.issued →
    IsSeat set log c a seat → IsSeat set later (c ++ entry.Replied a (seat.issued - 1) given number ∷ []) a (replied_seat seat floors)
seat_replied set log later c a seat given number floors seen some h = record {
  home = h.home;
  inside = h.inside;
  author = h.author;
  placed = record { within = h.placed.within; passed = h.placed.passed; here = h.placed.here };
  opened = h.opened;
  staged = h.staged;
  works = h.works;
  about = h.about;
  floored = λ space. own_floor set c a (seat.issued - 1) given number seat.floors seat.subject (h.about some) h.floored space ∙ sym (seen space);
  waits = tt;
}

-- a seat is there for each actor of the workload, and what is said of it can be taken
pub seat_stands : (v : Own) → DoesAgree v → (a : ℕ) (seat : Seat) → slice_get v.instance.seats a ≡ Some seat → ActorStands v.set (log_of v.set.work top v.chronicle) v.chronicle a (Some seat)
seat_stands v h a seat e = subst (ActorStands v.set (log_of v.set.work top v.chronicle) v.chronicle a) e (h.actors a)

replied_waiting : (issued : ℕ) (w : Waiting) → is_free w ≡ false → cond (is_free w) issued (issued - 1) ≡ issued - 1
replied_waiting issued w e = ap (λ b. cond b issued (issued - 1)) e

given_waits : (old core : ServicesValue) (by : By) (w : Waiting) (given : Reply) (number : Option ℕ) → IsGiven old core by w given number → is_free w ≡ false
given_waits old core by waiting.Nothing given number h = absurd h
given_waits old core by waiting.Staged given number h = refl
given_waits old core by waiting.TxnFull given number h = refl
given_waits old core by (waiting.Tell to) given number h = absurd h
given_waits old core by waiting.Using given number h = refl
given_waits old core by waiting.Look given number h = absurd h
given_waits old core by waiting.Service given number h = refl
given_waits old core by waiting.Jobs given number h = refl
given_waits old core by waiting.Shutdown given number h = refl

-- no look is told so
given_unseen : (old core : ServicesValue) (inst : rules.Instance) (log : rules.Log) → AgreesServices old inst log → (by : By) (w : Waiting) (given : Reply) (number : Option ℕ) → IsGiven old core by w given number → is_seen given ≡ false
given_unseen old core inst log agrees by waiting.Nothing given number h = absurd h
given_unseen old core inst log agrees by waiting.Staged given number h = ap is_seen h.0
given_unseen old core inst log agrees by waiting.TxnFull given number h = ap is_seen h.0
given_unseen old core inst log agrees by (waiting.Tell to) given number h = absurd h
given_unseen old core inst log agrees by waiting.Using given number h = ap is_seen h.0
given_unseen old core inst log agrees by waiting.Look given number h = absurd h
given_unseen old core inst log agrees by waiting.Service given number h = ap is_seen h.handed ∙ unseen_of h.answer
given_unseen old core inst log agrees by waiting.Jobs given number h =
    let t : Answers core inst log by given number = h inst log agrees in
    (of_jobs given t.reply t.hands).unseen
given_unseen old core inst log agrees by waiting.Shutdown given number h = ap is_seen h.0

some_issued : (set : Setup) (log : Log) (a issued : ℕ) (w : Waiting) → is_free w ≡ false → Waits set log a issued w → 0 < issued
some_issued set log a issued waiting.Nothing e h = absurd (true≢false e)
some_issued set log a issued waiting.Staged e h = h.0
some_issued set log a issued waiting.TxnFull e h = h.0
some_issued set log a issued (waiting.Tell to) e h = h.0
some_issued set log a issued waiting.Using e h = h.0
some_issued set log a issued waiting.Look e h = h.0
some_issued set log a issued waiting.Service e h = h.0
some_issued set log a issued waiting.Jobs e h = h.0
some_issued set log a issued waiting.Shutdown e h = h.0

-- the instance behind a reply to the actor, where the actors stood so
abbrev pub replied : ℕ → List Seat → Seat → ServicesValue → Floors → InstanceValue
replied a seats seat services floors = record { spent = false; seats = set seats a (replied_seat seat floors); services = services }

-- an instance's chronicle, with what comes before a reply to the actor, and where the actors then stand
pub record IsReady (v : Own) (a : ℕ) (c : List Entry) (seats : List Seat) : Type 0 where
  pub before : List Entry
  pub split : c ≡ v.chronicle ++ before
  pub others : Each (ComesBeforeReply v.set.work a) before
  pub legal_before : EachAfter (IsLegalEntry v.set) v.chronicle before
  pub quiet : EachAfter (SettlesFirst v.set) v.chronicle before
  pub legal : IsLegal v.set c
  pub early : Each IsEarlierEntry c
  pub seated : length seats ≡ length v.instance.seats
  pub lines : HaveSameLines v.instance.seats seats
  pub agrees : AgreesServices v.instance.services (instance_of v.set) (log_in v.set.work c)
  pub actors : (b : ℕ) → ActorStands v.set (log_of v.set.work top c) c b (slice_get seats b)

-- a reply that tells nobody else comes at once
ready_now : (v : Own) → DoesAgree v → (a : ℕ) → IsReady v a v.chronicle v.instance.seats
ready_now v h a = record {
  before = [];
  split = sym (append-nil v.chronicle);
  others = tt;
  legal_before = tt;
  quiet = tt;
  legal = h.legal;
  early = h.early;
  seated = refl;
  lines = same_lines v.instance.seats;
  agrees = h.agrees;
  actors = h.actors;
}

-- the actor at a seat whose command is open
module _ (v : Own) (a : ℕ) (c : List Entry) (seats : List Seat) (r : IsReady v a c seats) (seat : Seat) (sits : slice_get seats a ≡ Some seat) (busy : is_free seat.waiting ≡ false) where
  abbrev log : Log
  log = log_of v.set.work top c

  mine : ActorStands v.set log c a (Some seat)
  mine = subst (ActorStands v.set log c a) sits (r.actors a)

  some : 0 < seat.issued
  some = some_issued v.set log a seat.issued seat.waiting busy mine.1.waits

  before : Stands log c a seat.issued (seat.issued - 1)
  before = subst (λ n. Stands log c a seat.issued n) (replied_waiting seat.issued seat.waiting busy) mine.0

  begun : is_issued (command_of a (seat.issued - 1)) c ≡ true
  begun = before.begun (seat.issued - 1) (omega (arith, some))

  unreplied : is_replied (command_of a (seat.issued - 1)) c ≡ false
  unreplied = none_counted (replies_to (command_of a (seat.issued - 1))) c (before.ended (seat.issued - 1) ∙ ap (λ b. cond b 1 0) (le-ltb (seat.issued - 1) (seat.issued - 1) (omega arith)))

  -- the reply, with its grounds
  module _ (h : DoesAgree v) (services : ServicesValue) (given : Reply) (number : Option ℕ) (kept : KeepsCounts v.instance.services.jobs services.jobs) (found : IsThere v.set log c services (command_of a (seat.issued - 1)) given number)
      (floors : Floors) (seen : HasSeen seat given number floors) where
    abbrev e : Entry
    e = entry.Replied a (seat.issued - 1) given number

    log_served : log_of v.set.work top (c ++ e ∷ []) ≡ log ++ cons_option found.moment []
    log_served = log_push v.set.work top c e ∙ ap (λ o. log ++ cons_option o []) found.is.moment

    log_happened : log_in v.set.work (c ++ e ∷ []) ≡ log_in v.set.work c ++ cons_option found.happening []
    log_happened = log_grown v.set.work c e ∙ ap (λ o. log_in v.set.work c ++ cons_option o []) found.is.happens

    -- the actor's next line stays where it is
    lines_so : HaveSameLines v.instance.seats (set seats a (replied_seat seat floors))
    lines_so b = elim (cases_eq b a) [
      | inl same ↦
          ap (next_at (set seats a (replied_seat seat floors))) same
          ∙ ap (option_map (λ s. s.next)) (get-set_same seats a seat (replied_seat seat floors) sits)
          ∙ ap (option_map (λ s. s.next)) (sym sits)
          ∙ r.lines a
          ∙ ap (next_at v.instance.seats) (sym same)
      | inr other ↦ ap (option_map (λ s. s.next)) (get-set_other seats a b (replied_seat seat floors) other) ∙ r.lines b
    ]

    unasked : (by : By) → asks_of by found.moment ≡ false
    unasked by = subst (λ o. asks_of by o ≡ false) found.is.moment (replied_asks v.set c a (seat.issued - 1) given number by)

    actors_so : (b : ℕ) → ActorStands v.set (log ++ cons_option found.moment []) (c ++ e ∷ []) b (slice_get (set seats a (replied_seat seat floors)) b)
    actors_so b = elim (cases_eq b a) [
      | inl same ↦
          subst (λ n. ActorStands v.set (log ++ cons_option found.moment []) (c ++ e ∷ []) n (slice_get (set seats a (replied_seat seat floors)) n)) (sym same)
          (subst (ActorStands v.set (log ++ cons_option found.moment []) (c ++ e ∷ []) a) (sym (get-set_same seats a seat (replied_seat seat floors) sits)) (
            stands_replied v.set log c services a seat.issued given number found.moment found.happening some found.is unasked before,
            seat_replied v.set log (log ++ cons_option found.moment []) c a seat given number floors seen some mine.1,
          ))
      | inr other ↦
          subst (ActorStands v.set (log ++ cons_option found.moment []) (c ++ e ∷ []) b) (sym (get-set_other seats a b (replied_seat seat floors) other))
          (actor_other v.set log c e found.moment b (slice_get seats b)
          (record {
            unissued = refl;
            unreplied = λ k. ap (λ t. t && (k == seat.issued - 1)) (ne_eqb b a other);
            unasked = λ k. unasked (command_of b k);
          })
          (others_floor v.set c a b (seat.issued - 1) given number other)
          (r.actors b))
    ]

    whole : c ++ e ∷ [] ≡ v.chronicle ++ (r.before ++ e ∷ [])
    whole = ap (λ x. x ++ e ∷ []) r.split ∙ append_assoc v.chronicle r.before (e ∷ [])

    legal_here : IsLegalEntry v.set c e
    legal_here = record { goes_on = unended c r.early; grounds = found.is.legal }

    reply_agrees : AgreesOwn (replied a seats seat services floors) v.set (c ++ e ∷ [])
    reply_agrees = record {
      within = h.within;
      known = h.known;
      few = h.few;
      tallied = tallied_on v.instance (replied a seats seat services floors) v.set.work.lines kept lines_so h.tallied;
      seated = length-set seats a (replied_seat seat floors) ∙ r.seated ∙ h.seated;
      legal = each_push (IsLegalEntry v.set) c e r.legal legal_here;
      early = each_append IsEarlierEntry c (e ∷ []) r.early (found.is.early, tt);
      agrees = subst (AgreesServices services (instance_of v.set)) (sym log_happened) found.is.agrees;
      actors = λ b. subst (λ l. ActorStands v.set l (c ++ e ∷ []) b (slice_get (set seats a (replied_seat seat floors)) b)) (sym log_served) (actors_so b);
    }

    reply_follows : (s : Step) → IsStretch v.set.work v.chronicle s (r.before ++ e ∷ []) → (es : List Entry) → es ≡ r.before ++ e ∷ [] → Follows v.set v.chronicle s (replied a seats seat services floors) es
    reply_follows s made es eq = subst (Follows v.set v.chronicle s (replied a seats seat services floors)) (sym eq) (record {
      made = made;
      legal = each_joined (IsLegalEntry v.set) v.chronicle r.before (e ∷ []) r.legal_before (subst (λ x. IsLegalEntry v.set x e) r.split legal_here, tt);
      agrees = subst (AgreesOwn (replied a seats seat services floors) v.set) whole reply_agrees;
      settled = λ told. each_joined (SettlesFirst v.set) v.chronicle r.before (e ∷ []) r.quiet (tt, tt);
    })

-- what is known of a reply that is handed over
pub record IsAnswering (v : Own) (a : ℕ) (seat : Seat) (services : ServicesValue) (given : Reply) (number : Option ℕ) : Type 0 where
  pub sits : slice_get v.instance.seats a ≡ Some seat
  pub kept : KeepsCounts v.instance.services.jobs services.jobs
  pub said : IsGiven v.instance.services services (last_command a seat) seat.waiting given number

pub answer_follows : (v : Own) → DoesAgree v → (a : ℕ) (seat : Seat) (services : ServicesValue) (given : Reply) (number : Option ℕ) → IsAnswering v a seat services given number →
    (floors : Floors) → HasSeen seat given number floors → (es : List Entry) → es ≡ entry.Replied a (seat.issued - 1) given number ∷ [] →
    Follows v.set v.chronicle (step.Answer a) (replied a v.instance.seats seat services floors) es
unfolding ready_now
answer_follows v h a seat services given number is floors seen es eq =
    let r = ready_now v h a in
    let busy = given_waits v.instance.services services (last_command a seat) seat.waiting given number is.said in
    let unseen = given_unseen v.instance.services services (instance_of v.set) (log_in v.set.work v.chronicle) h.agrees (last_command a seat) seat.waiting given number is.said in
    reply_follows v a v.chronicle v.instance.seats r seat is.sits busy h services given number is.kept
    (there v.set v.chronicle v.instance.services r.agrees a seat.issued (begun v a v.chronicle v.instance.seats r seat is.sits busy) (unreplied v a v.chronicle v.instance.seats r seat is.sits busy) services seat.waiting given number
    (mine v a v.chronicle v.instance.seats r seat is.sits busy).1.waits is.said) floors seen
    (step.Answer a) (record { before = []; reply = entry.Replied a (seat.issued - 1) given number; split = refl; replies = (refl, unseen); others = tt }) es eq

-- ---- a look is recorded

pub look_follows : (v : Own) (h : DoesAgree v) (a : ℕ) (seat : Seat) → slice_get v.instance.seats a ≡ Some seat → seat.waiting ≡ waiting.Look → (number : ℕ)
    → floor_in seat.floors seat.subject ≤ number → HasHeard (log_of v.set.work top v.chronicle) (broker_of v.set.work a) primary number
    → (floors : Floors) → HasSeen seat reply.Seen (Some number) floors → (es : List Entry) → es ≡ entry.Replied a (seat.issued - 1) reply.Seen (Some number) ∷ []
    → Follows v.set v.chronicle (step.Record a) (replied a v.instance.seats seat v.instance.services floors) es
unfolding ready_now
look_follows v h a seat sits looks number least known floors seen es eq =
    let r = ready_now v h a in
    let busy : is_free seat.waiting ≡ false = ap is_free looks in
    let waits = subst (Waits v.set (log_of v.set.work top v.chronicle) a seat.issued) looks (mine v a v.chronicle v.instance.seats r seat sits busy).1.waits in
    let told = nothing_told v.set v.chronicle v.instance.services (command_of a (seat.issued - 1)) reply.Seen (Some number) refl refl refl r.agrees
    ((begun v a v.chronicle v.instance.seats r seat sits busy, unreplied v a v.chronicle v.instance.seats r seat sits busy), sees_root v h a seat sits looks number least known) waits.1 in
    reply_follows v a v.chronicle v.instance.seats r seat sits busy h v.instance.services reply.Seen (Some number) (record { size = refl; submitted = refl; span = refl }) told floors seen
    (step.Record a) (record { command = seat.issued - 1; number = number; split = refl }) es eq

-- what the actor at the seat of an actor that can be replied to waits for has come
pub come_so : (v : Own) (a : ℕ) (seat : Seat) → slice_get v.instance.seats a ≡ Some seat → can_answer v.instance a ≡ true → has_come v.instance.services (last_command a seat) seat.waiting ≡ true
come_so v a seat sits can = ap (λ o. option_map_or (λ s. has_come v.instance.services (last_command a s) s.waiting) o false) (sym sits) ∙ can

-- each actor sits at a broker of the service
pub seats_inside : (v : Own) → DoesAgree v → (k : ℕ) (d : Seat) → k < length v.instance.seats → (get_or v.instance.seats k d).broker < v.instance.services.size
seats_inside v h k d low =
    let sits : slice_get v.instance.seats k ≡ Some (get_or v.instance.seats k d) = slice_get-get_or v.instance.seats k d low in
    subst (λ n. (get_or v.instance.seats k d).broker < n) h.agrees.size (seat_stands v h k (get_or v.instance.seats k d) sits).1.inside

-- ---- an actor tells another

-- the seats that are raised are in their order, and wait as before
raised_other : (seats : List Seat) (to : ℕ) (floors : Floors) (b : ℕ) → b ≢ to → slice_get (raised seats to floors) b ≡ slice_get seats b
raised_other seats to floors b other = on (slice_get seats to)
  where
    on : (o : Option Seat) → slice_get (option_map_or (λ seat. set seats to (with_floors floors seat)) o seats) b ≡ slice_get seats b
    on None = refl
    on (Some seat) = get-set_other seats to b (with_floors floors seat) other

raised_here : (seats : List Seat) (to : ℕ) (floors : Floors) (seat : Seat) → slice_get seats to ≡ Some seat → slice_get (raised seats to floors) to ≡ Some (with_floors floors seat)
raised_here seats to floors seat at =
    ap (λ o. slice_get (option_map_or (λ seat. set seats to (with_floors floors seat)) o seats) to) at
    ∙ get-set_same seats to seat (with_floors floors seat) at

raised_none : (seats : List Seat) (to : ℕ) (floors : Floors) → slice_get seats to ≡ None → slice_get (raised seats to floors) to ≡ None
raised_none seats to floors at = ap (λ o. slice_get (option_map_or (λ seat. set seats to (with_floors floors seat)) o seats) to) at ∙ at

pub raised_length : (seats : List Seat) (to : ℕ) (floors : Floors) → length (raised seats to floors) ≡ length seats
raised_length seats to floors = on (slice_get seats to)
  where
    on : (o : Option Seat) → length (option_map_or (λ seat. set seats to (with_floors floors seat)) o seats) ≡ length seats
    on None = refl
    on (Some seat) = length-set seats to (with_floors floors seat)

raised_waits : (seats : List Seat) (to : ℕ) (floors : Floors) (a : ℕ) (seat later : Seat) → slice_get seats a ≡ Some seat → slice_get (raised seats to floors) a ≡ Some later → (later.waiting ≡ seat.waiting) × (later.issued ≡ seat.issued)
raised_waits seats to floors a seat later at then = elim (cases_eq a to) [
  | inl same ↦
      let now : slice_get (raised seats to floors) a ≡ Some (with_floors floors seat) = subst (λ n. slice_get (raised seats to floors) n ≡ Some (with_floors floors seat)) (sym same) (raised_here seats to floors seat (ap (slice_get seats) (sym same) ∙ at)) in
      let is : later ≡ with_floors floors seat = one later (with_floors floors seat) (sym then ∙ now) in
      (ap (λ s. s.waiting) is, ap (λ s. s.issued) is)
  | inr other ↦
      let is : later ≡ seat = one later seat (sym then ∙ raised_other seats to floors a other ∙ at) in
      (ap (λ s. s.waiting) is, ap (λ s. s.issued) is)
]
  where
    one : (x y : Seat) → ◌≡◌ {A = Option Seat} (Some x) (Some y) → x ≡ y
    one x y e = cc

module _ (v : Own) (h : DoesAgree v) (a : ℕ) (seat : Seat) (to : ℕ) (sits : slice_get v.instance.seats a ≡ Some seat) (tells : seat.waiting ≡ waiting.Tell to)
    (floors : Floors) (joined : (teller s : Seat) → slice_get v.instance.seats a ≡ Some teller → slice_get v.instance.seats to ≡ Some s → (space : Name) → floor_in floors space ≡ max (floor_in s.floors space) (floor_in teller.floors space)) where
  abbrev told : Entry
  told = entry.Told a to

  abbrev told_log : Log
  told_log = log_of v.set.work top v.chronicle

  now : IsReady v a v.chronicle v.instance.seats
  now = ready_now v h a

  engaged : is_free seat.waiting ≡ false
  engaged = ap is_free tells

  sure : ActorStands v.set told_log v.chronicle a (Some seat)
  sure = mine v a v.chronicle v.instance.seats now seat sits engaged

  command_so : command_at v.set.work (command_of a (seat.issued - 1)) ≡ Some (command.Tell to)
  command_so = (subst (Waits v.set told_log a seat.issued) tells sure.1.waits).2

  quiet_so : is_asked (command_of a (seat.issued - 1)) told_log ≡ false
  quiet_so = (subst (Waits v.set told_log a seat.issued) tells sure.1.waits).1

  legal_told : IsLegalEntry v.set v.chronicle told
  legal_told = record {
    goes_on = unended v.chronicle h.early;
    grounds = record {
      number = seat.issued - 1;
      asked = command_so;
      waits = (begun v a v.chronicle v.instance.seats now seat sits engaged, unreplied v a v.chronicle v.instance.seats now seat sits engaged);
    };
  }

  same_log : log_of v.set.work top (v.chronicle ++ told ∷ []) ≡ told_log
  same_log = log_push v.set.work top v.chronicle told ∙ append-nil told_log

  same_moments : log_in v.set.work (v.chronicle ++ told ∷ []) ≡ log_in v.set.work v.chronicle
  same_moments = log_without v.set.work v.chronicle told refl

  same_next : HaveSameLines v.instance.seats (raised v.instance.seats to floors)
  same_next b = elim (cases_eq b to) [
    | inl same ↦ ap (next_at (raised v.instance.seats to floors)) same ∙ at_told (slice_get v.instance.seats to) refl ∙ ap (next_at v.instance.seats) (sym same)
    | inr other ↦ ap (option_map (λ s. s.next)) (raised_other v.instance.seats to floors b other)
  ]
    where
      at_told : (o : Option Seat) → slice_get v.instance.seats to ≡ o → next_at (raised v.instance.seats to floors) to ≡ next_at v.instance.seats to
      at_told None at = ap (option_map (λ s. s.next)) (raised_none v.instance.seats to floors at ∙ sym at)
      at_told (Some s) at = ap (option_map (λ s. s.next)) (raised_here v.instance.seats to floors s at) ∙ ap (option_map (λ s. s.next)) (sym at)

  others_so : (b : ℕ) → IsOthers b told None
  others_so b = record { unissued = refl; unreplied = λ k. refl; unasked = λ k. refl }

  floor_told : (b : ℕ) (space : Name) → floor v.set.work (v.chronicle ++ told ∷ []) b space ≡ cond (b == to) (max (floor v.set.work v.chronicle b space) (floor v.set.work v.chronicle a space)) (floor v.set.work v.chronicle b space)
  floor_told b space = floor_push v.set.work v.chronicle told b space

  told_actors : (b : ℕ) → ActorStands v.set (told_log ++ cons_option None []) (v.chronicle ++ told ∷ []) b (slice_get (raised v.instance.seats to floors) b)
  told_actors b = elim (cases_eq b to) [
    | inl same ↦ subst (λ n. ActorStands v.set (told_log ++ cons_option None []) (v.chronicle ++ told ∷ []) n (slice_get (raised v.instance.seats to floors) n)) (sym same) (at_told (slice_get v.instance.seats to) refl)
    | inr other ↦
        subst (ActorStands v.set (told_log ++ cons_option None []) (v.chronicle ++ told ∷ []) b) (sym (raised_other v.instance.seats to floors b other))
        (actor_other v.set told_log v.chronicle told None b (slice_get v.instance.seats b) (others_so b)
        (λ space. floor_told b space ∙ ap (λ t. cond t (max (floor v.set.work v.chronicle b space) (floor v.set.work v.chronicle a space)) (floor v.set.work v.chronicle b space)) (ne_eqb b to other))
        (h.actors b))
  ]
    where
      at_told : (o : Option Seat) → slice_get v.instance.seats to ≡ o → ActorStands v.set (told_log ++ cons_option None []) (v.chronicle ++ told ∷ []) to (slice_get (raised v.instance.seats to floors) to)
      at_told None at =
          subst (ActorStands v.set (told_log ++ cons_option None []) (v.chronicle ++ told ∷ []) to) (sym (raised_none v.instance.seats to floors at))
          (stands_other told_log v.chronicle told None to 0 0 (others_so to) (subst (ActorStands v.set told_log v.chronicle to) at (h.actors to)))
      at_told (Some s) at =
          let stands = subst (ActorStands v.set told_log v.chronicle to) at (h.actors to) in
          subst (ActorStands v.set (told_log ++ cons_option None []) (v.chronicle ++ told ∷ []) to) (sym (raised_here v.instance.seats to floors s at))
          (actor_raised v.set told_log v.chronicle told None to s floors (others_so to)
          (λ space. floor_told to space
          ∙ ap (λ t. cond t (max (floor v.set.work v.chronicle to space) (floor v.set.work v.chronicle a space)) (floor v.set.work v.chronicle to space)) (eq-eqb to to refl)
          ∙ ap₂ max (stands.1.floored space) (sure.1.floored space)
          ∙ sym (joined seat s sits at space))
          stands)

  ready_told : IsReady v a (v.chronicle ++ told ∷ []) (raised v.instance.seats to floors)
  ready_told = record {
    before = told ∷ [];
    split = refl;
    others = (refl, tt);
    legal_before = (legal_told, tt);
    quiet = (tt, tt);
    legal = each_push (IsLegalEntry v.set) v.chronicle told h.legal legal_told;
    early = each_append IsEarlierEntry v.chronicle (told ∷ []) h.early (tt, tt);
    seated = raised_length v.instance.seats to floors;
    lines = same_next;
    agrees = subst (AgreesServices v.instance.services (instance_of v.set)) (sym same_moments) h.agrees;
    actors = λ b. subst (λ l. ActorStands v.set l (v.chronicle ++ told ∷ []) b (slice_get (raised v.instance.seats to floors) b)) (append-nil told_log ∙ sym same_log) (told_actors b);
  }

  -- the seat as the code finds it then
  module _ (later : Seat) (sits_on : slice_get (raised v.instance.seats to floors) a ≡ Some later) where
    same : (later.waiting ≡ seat.waiting) × (later.issued ≡ seat.issued)
    same = raised_waits v.instance.seats to floors a seat later sits sits_on

    engaged_on : is_free later.waiting ≡ false
    engaged_on = ap is_free same.0 ∙ engaged

    told_there : IsThere v.set (log_of v.set.work top (v.chronicle ++ told ∷ [])) (v.chronicle ++ told ∷ []) v.instance.services (command_of a (later.issued - 1)) reply.Told None
    told_there = nothing_told v.set (v.chronicle ++ told ∷ []) v.instance.services (command_of a (later.issued - 1)) reply.Told None refl refl refl
        ready_told.agrees (
          (begun v a (v.chronicle ++ told ∷ []) (raised v.instance.seats to floors) ready_told later sits_on engaged_on, unreplied v a (v.chronicle ++ told ∷ []) (raised v.instance.seats to floors) ready_told later sits_on engaged_on),
          refl,
          record {
            to = to;
            asked = subst (λ n. command_at v.set.work (command_of a (n - 1)) ≡ Some (command.Tell to)) (sym same.1) command_so;
            past = v.chronicle;
            later = told ∷ [];
            split = refl;
            issued = subst (λ n. is_issued (command_of a (n - 1)) v.chronicle ≡ true) (sym same.1) (begun v a v.chronicle v.instance.seats now seat sits engaged);
            told = Contains-get_or (told ∷ []) 0 told (omega arith);
          },
        )
        (ap (is_asked (command_of a (later.issued - 1))) same_log ∙ ap (λ n. is_asked (command_of a (n - 1)) told_log) same.1 ∙ quiet_so)

    pub tell_follows : (es : List Entry) → es ≡ told ∷ entry.Replied a (later.issued - 1) reply.Told None ∷ [] → Follows v.set v.chronicle (step.Answer a) (replied a (raised v.instance.seats to floors) later v.instance.services later.floors) es
    unfolding ready_told
    tell_follows es eq =
        reply_follows v a (v.chronicle ++ told ∷ []) (raised v.instance.seats to floors) ready_told later sits_on engaged_on h v.instance.services reply.Told None (record { size = refl; submitted = refl; span = refl }) told_there later.floors (λ space. none_seen later.floors space)
        (step.Answer a) (record { before = told ∷ []; reply = entry.Replied a (later.issued - 1) reply.Told None; split = refl; replies = (refl, refl); others = (refl, tt) }) es eq

-- an actor that can be replied to has a seat
pub actor_within : (v : Own) (a : ℕ) → can_answer v.instance a ≡ true → a < length v.instance.seats
actor_within v a can = on (slice_get v.instance.seats a) refl can
  where
    on : (o : Option Seat) → slice_get v.instance.seats a ≡ o → option_map_or (λ seat. has_come v.instance.services (last_command a seat) seat.waiting) o false ≡ true → a < length v.instance.seats
    on None e t = absurd (true≢false (sym t))
    on (Some seat) e t = slice_get_within v.instance.seats a seat e
