-- When a run can end, it is whole.
use Rattle.std.proofs.Common.{◌≡◌, ◌≢◌, ℕ, zero, suc, ◌-◌, ◌<◌, ◌≤◌, ◌==◌, ◌⊎◌, inl, inr, List, [], ◌∷◌, ◌++◌, length, Bool, true, false, ◌&&◌, ◌||◌, cond, refl, sym, ap, ◌∙◌, subst, arith, count_by, Option, Some, None, get_or, true≢false}
use Rattle.std.specs.Prelude.{slice_get, nat_lt, option_and_then, if◌then◌else◌, IsTrue, IsSome}
use Rattle.std.specs.Str.{bytes_eq}
use Rattle.std.specs.Option.{option_map, option_map_or, is_some}
use Rattle.std.specs.List.{list_any, cons_option}
use Rattle.std.proofs.lemmas.Bool.{cases_lt, le-ltb, lt-ltb, ltb-false}
use Rattle.services.specs.kvs_txn.declared.txn.By.{By}
use Rattle.services.specs.kvs_rules.declared.events.KvsAnswer.{KvsAnswer}
use Rattle.services.specs.kvs_rules.declared.events.KvsEvent.{KvsEvent}
use Rattle.services.specs.kvs_rules.declared.events.KvsEvent.TheVariants as event
use Rattle.services.specs.kvs_rules.Log.{IsOpen, Log, Moment, Happened, Asked, IsPending, is_asked, is_answered, answers_now, same_command}
use Rattle.services.specs.kvs_rules.Namespaces.{Request, is_live, landed}
use Rattle.services.specs.kvs_model.Store.{Name}
use Rattle.services.specs.kvs_rules.Quiet.{IsQuiet, IsShortFence}
use Rattle.services.specs.instance_rules.Log as rules
use Rattle.services.specs.instance_rules.Log.{Instance, Log as InstanceLog, service_of}
use Rattle.services.specs.job_service.Replies.{can_reply}
use Rattle.services.specs.Steps.{can_take}
use Rattle.services.proofs.Waiting.{open_asks, taken_waits}
use Rattle.services.specs.workload.declared.work.Line.{Line}
use Rattle.services.specs.workload.declared.work.Workload.{Workload}
use Rattle.services.specs.answers.declared.chronicle.Entry.{Entry}
use Rattle.services.specs.answers.declared.chronicle.Entry.TheVariants as entry
use Rattle.services.specs.answers.declared.chronicle.Reply.{Reply}
use Rattle.services.specs.answers.declared.chronicle.Reply.TheVariants as reply
use Rattle.services.specs.answers.Chronicle.{top, is_issued, issues_of, replies_to, answer_of}
use Rattle.services.specs.answers.Commands.{ask_at, broker_of, command_at, subject_at}
use Rattle.services.specs.answers.Jobs.{instance_of, job_ask_at, job_ask_of, log_in}
use Rattle.services.specs.answers.Services.{setting_of, log_of, moment_of, moments_after}
use Rattle.services.proofs.answers_proofs.JobLogs.{asks_no_service}
use Rattle.services.proofs.answers_proofs.Services.{asked_issued, issued_below, or_cases}
use Rattle.services.proofs.answers_proofs.Floors.{asked_so}
use Rattle.services.proofs.answers_proofs.Reaching.{asked_within}
use Rattle.instance.specs.declared.seats.Seat.{Seat}
use Rattle.instance.specs.declared.seats.Waiting.{Waiting}
use Rattle.instance.specs.declared.seats.Waiting.TheVariants as waiting
use Rattle.instance.specs.Seats.{is_free, replied_of, last_command, has_come}
use Rattle.instance.specs.Closings.{closings_at, closings_of, fence_at, fence_of, is_served, left_reply, open_command, unfinished_as, waits_in}
use Rattle.instance.specs.Agrees.{command_of, Waits, ActorStands, IsSeat}
use Rattle.instance.specs.Steps.{IsOver, has_answer}
use Rattle.instance.proofs.Owning.{Own, DoesAgree}
use Rattle.instance.proofs.Listing.{any_counted, none_counted}
use Rattle.instance.proofs.Logs.{log_issued, log_open, served_log}
use Rattle.instance.proofs.Looking.{looks_on}
use Rattle.instance.proofs.Leaving.{IsStuck, IsDone, IsLeft, IsServedCause, IsStuckResult, IsShortAsk, IsAboveAsk, asks_so, fence_command, wait_command, free_finished, free_unserved, in_fence, left_asks, numbers_of, seat_told, seated, states_of, unseated}
use Rattle.instance.proofs.Results.{result_uncarried}
use Rattle.instance.proofs.Waiting.{replied_alike, reply_waits}

-- a command that was answered in the log was replied to in the chronicle
abbrev answers_of : By → Option Moment → Bool
answers_of by None = false
answers_of by (Some m) = answers_now by m

any_answers : (by : By) (o : Option Moment) (log : Log) → list_any (answers_now by) (cons_option o log) ≡ (answers_of by o || list_any (answers_now by) log)
any_answers by None log = refl
any_answers by (Some m) log = refl

happened_not : (by : By) (b : Bool) (x : KvsEvent) → answers_now by (Happened x) ≡ false → answers_of by (cond b (Some (Happened x)) None) ≡ false
happened_not by true x e = e
happened_not by false x e = refl

asked_not : (by : By) (b : Bool) (other : By) (floors : Name → ℕ) → answers_of by (cond b (Some (Asked other floors)) None) ≡ false
asked_not by true other floors = refl
asked_not by false other floors = refl

answered_so : (by other : By) (number : Option ℕ) (o : Option KvsAnswer) (b : Bool) → answers_of by (cond b (option_map (λ x. Happened (event.Answered other number x)) o) None) ≡ true → same_command by other ≡ true
answered_so by other number None true h = absurd (true≢false (sym h))
answered_so by other number None false h = absurd (true≢false (sym h))
answered_so by other number (Some x) true h = h
answered_so by other number (Some x) false h = absurd (true≢false (sym h))

never : {A : Type 0} (b : Bool) → b ≡ false → b ≡ true → A
never b e h = absurd (true≢false (sym h ∙ e))

moment_answers : (work : Workload) (c : List Entry) (e : Entry) (by : By) → answers_of by (moment_of work top c e) ≡ true → replies_to by e ≡ true
moment_answers work c (entry.Issued a k) by h = never _ (asked_not by (is_some (ask_at work (record { actor = a; command = k })) && (top == top)) (record { actor = a; command = k }) _) h
moment_answers work c (entry.Landed other space number authors groups) by h = never _ (happened_not by (top == other) (event.Landed space number authors groups) refl) h
moment_answers work c (entry.Denied other space authors group refusal) by h = never _ (happened_not by (top == other) (event.Denied space authors group refusal) refl) h
moment_answers work c (entry.Heard other broker space number) by h = never _ (happened_not by (top == other) (event.Heard broker space number) refl) h
moment_answers work c (entry.Got other broker reference) by h = never _ (happened_not by (top == other) (event.Got broker reference) refl) h
moment_answers work c (entry.Dropped other broker reference) by h = never _ (happened_not by (top == other) (event.Dropped broker reference) refl) h
moment_answers work c (entry.Replied a k given number) by h = answered_so by (record { actor = a; command = k }) number (answer_of given) true h
moment_answers work c (entry.Told from to) by h = absurd (true≢false (sym h))
moment_answers work c (entry.Watched actor command number first count) by h = absurd (true≢false (sym h))
moment_answers work c (entry.Ticked second) by h = absurd (true≢false (sym h))
moment_answers work c (entry.Born child parent job label second grant) by h = absurd (true≢false (sym h))
moment_answers work c (entry.Gone child parent job shut) by h = absurd (true≢false (sym h))
moment_answers work c entry.Closed by h = absurd (true≢false (sym h))

pub answered_replied : (work : Workload) (by : By) (c xs : List Entry) → list_any (answers_now by) (moments_after work top c xs) ≡ true → list_any (replies_to by) xs ≡ true
answered_replied work by c [] h = h
answered_replied work by c (e ∷ xs) h = on (or_cases _ _ (sym (any_answers by (moment_of work top c e) _) ∙ h)) (answered_replied work by (c ++ e ∷ []) xs)
  where
    right : (a b : Bool) → b ≡ true → (a || b) ≡ true
    right true b t = refl
    right false b t = t

    on : (answers_of by (moment_of work top c e) ≡ true) ⊎ (list_any (answers_now by) (moments_after work top (c ++ e ∷ []) xs) ≡ true) → (list_any (answers_now by) (moments_after work top (c ++ e ∷ []) xs) ≡ true → list_any (replies_to by) xs ≡ true) → (replies_to by e || list_any (replies_to by) xs) ≡ true
    on (inl t) again = ap (λ b. b || list_any (replies_to by) xs) (moment_answers work c e by t)
    on (inr t) again = right (replies_to by e) _ (again t)

-- an element that passes stands somewhere
any_at : {A : Type 0} (p : A → Bool) (xs : List A) → list_any p xs ≡ true → (k : ℕ) × (k < length xs) × ((d : A) → p (get_or xs k d) ≡ true)
any_at p [] h = absurd (true≢false (sym h))
any_at p (x ∷ xs) h = on (or_cases (p x) (list_any p xs) h) (any_at p xs)
  where
    on : (p x ≡ true) ⊎ (list_any p xs ≡ true) → (list_any p xs ≡ true → (k : ℕ) × (k < length xs) × ((d : _) → p (get_or xs k d) ≡ true)) → (k : ℕ) × (k < length (x ∷ xs)) × ((d : _) → p (get_or (x ∷ xs) k d) ≡ true)
    on (inl t) again = (0, omega arith, λ d. t)
    on (inr t) again = let r = again t in (suc r.0, omega (arith, r.1), r.2)

-- the element at a place
got : {A : Type 0} (xs : List A) (k : ℕ) → k < length xs → (x : A) × ((d : A) → get_or xs k d ≡ x)
got [] k low = absurd (omega arith)
got (x ∷ xs) zero low = (x, λ d. refl)
got (x ∷ xs) (suc k) low = got xs k (omega arith)

both_first : (a b : Bool) → (a && b) ≡ true → a ≡ true
both_first true b t = refl
both_first false b t = t

-- what the seat of an actor says whose command waits in the log
module _ (v : Own) (h : DoesAgree v) where
  abbrev log : Log
  log = log_of v.set.work top v.chronicle

  abbrev inst : Instance
  inst = instance_of v.set

  -- the log of the instance
  abbrev now : InstanceLog
  now = log_in v.set.work v.chronicle

  served : service_of now ≡ log
  served = served_log v.set.work v.chronicle

  -- a command that the log has asked was issued, so its actor has a seat
  abbrev issued_of : Option Seat → ℕ
  issued_of None = 0
  issued_of (Some seat) = seat.issued

  counted_at : (a : ℕ) (o : Option Seat) → ActorStands v.set log v.chronicle a o → count_by (issues_of a) v.chronicle ≡ issued_of o
  counted_at a None s = s.counted
  counted_at a (Some seat) s = s.0.counted

  asked_low : (by : By) → is_asked by log ≡ true → (o : Option Seat) → slice_get v.instance.seats by.actor ≡ o → by.command < issued_of o
  asked_low by t o at =
      let low : by.command < count_by (issues_of by.actor) v.chronicle = issued_below v.set v.chronicle h.legal by (asked_issued v.set.work top by [] v.chronicle t) in
      let counted : count_by (issues_of by.actor) v.chronicle ≡ issued_of o = counted_at by.actor o (subst (ActorStands v.set log v.chronicle by.actor) at (h.actors by.actor)) in
      omega arith

  -- the last command of a seat that waits for the service is the one that is open
  waits_for : (a k : ℕ) (seat : Seat) → slice_get v.instance.seats a ≡ Some seat → k < seat.issued → is_asked (command_of a k) log ≡ true → is_answered (command_of a k) log ≡ false →
      has_answer v.instance.services v.instance.seats a ≡ false → can_take v.instance.services (command_of a k) ≡ false
  waits_for a k seat at low asked unanswered idle = on seat.waiting refl
    where
      mine : ActorStands v.set log v.chronicle a (Some seat)
      mine = subst (ActorStands v.set log v.chronicle a) at (h.actors a)

      last : (w : Waiting) → seat.waiting ≡ w → is_free w ≡ false → k ≡ seat.issued - 1
      last w is busy = elim (cases_lt k (seat.issued - 1)) [
        | inl below ↦
            let replied : replied_of seat ≡ seat.issued - 1 = ap (λ x. cond (is_free x) seat.issued (seat.issued - 1)) is ∙ ap (λ b. cond b seat.issued (seat.issued - 1)) busy in
            absurd (true≢false (sym (mine.0.answered k asked (omega arith)) ∙ unanswered))
        | inr above ↦ omega arith
      ]

      free_not : seat.waiting ≡ waiting.Nothing → ⊥
      free_not is =
          let replied : replied_of seat ≡ seat.issued = ap (λ x. cond (is_free x) seat.issued (seat.issued - 1)) is in
          true≢false (sym (mine.0.answered k asked (omega arith)) ∙ unanswered)

      idle_so : has_come v.instance.services (last_command a seat) seat.waiting ≡ false
      idle_so = ap (λ o. option_map_or (λ s. has_come v.instance.services (last_command a s) s.waiting) o false) (sym at) ∙ idle

      on : (w : Waiting) → seat.waiting ≡ w → can_take v.instance.services (command_of a k) ≡ false
      on waiting.Nothing is = absurd (free_not is)
      on waiting.Staged is = absurd (true≢false (ap (has_come v.instance.services (last_command a seat)) (sym is) ∙ idle_so))
      on waiting.TxnFull is = absurd (true≢false (ap (has_come v.instance.services (last_command a seat)) (sym is) ∙ idle_so))
      on (waiting.Tell to) is = absurd (true≢false (ap (has_come v.instance.services (last_command a seat)) (sym is) ∙ idle_so))
      on waiting.Using is = absurd (true≢false (ap (has_come v.instance.services (last_command a seat)) (sym is) ∙ idle_so))
      on waiting.Look is =
          let waits = subst (Waits v.set log a seat.issued) is mine.1.waits in
          absurd (true≢false (sym asked ∙ ap (λ n. is_asked (command_of a n) log) (last waiting.Look is refl) ∙ waits.1))
      on waiting.Service is = ap (λ n. can_take v.instance.services (command_of a n)) (last waiting.Service is refl) ∙ ap (has_come v.instance.services (last_command a seat)) (sym is) ∙ idle_so
      on waiting.Jobs is =
          let waits = subst (Waits v.set log a seat.issued) is mine.1.waits in
          absurd (true≢false (sym asked ∙ ap (λ n. is_asked (command_of a n) log) (last waiting.Jobs is refl) ∙ waits.1))
      on waiting.Shutdown is = absurd (true≢false (ap (has_come v.instance.services (last_command a seat)) (sym is) ∙ idle_so))

  -- where nobody can be replied to, no answer waits to be taken
  pub none_taken : ((a : ℕ) → has_answer v.instance.services v.instance.seats a ≡ false) → (by : By) → can_take v.instance.services by ≡ false
  none_taken idle by = on (can_take v.instance.services by) refl
    where
      on : (b : Bool) → can_take v.instance.services by ≡ b → b ≡ false
      on false t = refl
      on true t =
          let waits = subst (IsOpen by) served (taken_waits v.instance.services inst now h.agrees by t) in
          sit waits.asked waits.unanswered t (slice_get v.instance.seats by.actor) refl
        where
          sit : is_asked by log ≡ true → is_answered by log ≡ false → can_take v.instance.services by ≡ true → (o : Option Seat) → slice_get v.instance.seats by.actor ≡ o → true ≡ false
          sit asked unanswered t None at = let low : by.command < 0 = asked_low by asked None at in absurd (omega arith)
          sit asked unanswered t (Some seat) at = sym t ∙ waits_for by.actor by.command seat at (asked_low by asked (Some seat) at) asked unanswered (idle by.actor)

  -- a command that waits in the log of the instance is the open one of its actor
  module _ (by : By) (asks : IsSome (job_ask_at v.set.work by)) (waits : rules.IsOpen by now) where
    issued_so : is_issued by v.chronicle ≡ true
    issued_so = sym (log_issued v.set.work by v.chronicle asks) ∙ waits.issued

    unreplied : 0 < count_by (replies_to by) v.chronicle → ⊥
    unreplied some = true≢false (sym (replied_alike v.set by asks v.chronicle h.legal h.early (any_counted (replies_to by) v.chronicle some)) ∙ waits.unanswered)

    unserved : is_asked by log ≡ true → ⊥
    unserved asked = on (is_answered by log) refl
      where
        on : (b : Bool) → is_answered by log ≡ b → ⊥
        on false t =
            let (request, made) = open_asks v.instance.services inst now h.agrees by (subst (IsOpen by) (sym served) (record { asked = asked; unanswered = t })) in
            let never : ◌≡◌ {A = Option Request} None (Some request) = sym (asks_no_service v.set.work by asks) ∙ made in cc
        on true t = true≢false (sym (answered_replied v.set.work by [] v.chronicle t) ∙ none_counted (replies_to by) v.chronicle zero_replies)
          where
            zero_replies : count_by (replies_to by) v.chronicle ≡ 0
            zero_replies = elim (cases_lt 0 (count_by (replies_to by) v.chronicle)) [ inl some ↦ absurd (unreplied some) | inr none ↦ omega arith ]

    -- where its actor can't be replied to, it can't be told, and doesn't shut the instance down
    module _ (idle : has_answer v.instance.services v.instance.seats by.actor ≡ false) where
      pub record IsLeftOpen : Type 0 where
        pub untold : can_reply v.instance.services.jobs by ≡ false
        pub other : job_ask_at v.set.work by ≢ Some rules.Shutdown
        pub seat : Seat
        pub sits : slice_get v.instance.seats by.actor ≡ Some seat
        pub busy : seat.waiting ≡ waiting.Jobs
        pub last : by.command ≡ seat.issued - 1

      at_seat_of : (seat : Seat) → slice_get v.instance.seats by.actor ≡ Some seat → IsLeftOpen
      at_seat_of seat at = on seat.waiting refl
        where
          mine : ActorStands v.set log v.chronicle by.actor (Some seat)
          mine = subst (ActorStands v.set log v.chronicle by.actor) at (h.actors by.actor)

          low : by.command < seat.issued
          low =
              let below : by.command < count_by (issues_of by.actor) v.chronicle = issued_below v.set v.chronicle h.legal by issued_so in
              let counted : count_by (issues_of by.actor) v.chronicle ≡ seat.issued = mine.0.counted in
              omega arith

          past : replied_of seat ≤ by.command
          past = elim (cases_lt by.command (replied_of seat)) [
            | inl below ↦
                let one : count_by (replies_to by) v.chronicle ≡ 1 = mine.0.ended by.command ∙ ap (λ b. cond b 1 0) (lt-ltb by.command (replied_of seat) below) in
                absurd (unreplied (omega arith))
            | inr above ↦ above
          ]

          last : (w : Waiting) → seat.waiting ≡ w → is_free w ≡ false → by.command ≡ seat.issued - 1
          last w is busy =
              let replied : replied_of seat ≡ seat.issued - 1 = ap (λ x. cond (is_free x) seat.issued (seat.issued - 1)) is ∙ ap (λ b. cond b seat.issued (seat.issued - 1)) busy in
              let below = low in
              let above = past in
              omega arith

          idle_so : has_come v.instance.services (last_command by.actor seat) seat.waiting ≡ false
          idle_so = ap (λ o. option_map_or (λ s. has_come v.instance.services (last_command by.actor s) s.waiting) o false) (sym at) ∙ idle

          come : (w : Waiting) → seat.waiting ≡ w → has_come v.instance.services (last_command by.actor seat) w ≡ false
          come w is = ap (has_come v.instance.services (last_command by.actor seat)) (sym is) ∙ idle_so

          on : (w : Waiting) → seat.waiting ≡ w → IsLeftOpen
          on waiting.Nothing is =
              let replied : replied_of seat ≡ seat.issued = ap (λ x. cond (is_free x) seat.issued (seat.issued - 1)) is in
              let below = low in
              let above = past in
              absurd (omega arith)
          on waiting.Staged is = absurd (true≢false (come waiting.Staged is))
          on waiting.TxnFull is = absurd (true≢false (come waiting.TxnFull is))
          on (waiting.Tell to) is = absurd (true≢false (come (waiting.Tell to) is))
          on waiting.Using is = absurd (true≢false (come waiting.Using is))
          on waiting.Look is =
              let w = subst (Waits v.set log by.actor seat.issued) is mine.1.waits in
              absurd (true≢false (sym asks ∙ ap (λ n. is_some (job_ask_at v.set.work (command_of by.actor n))) (last waiting.Look is refl) ∙ ap (λ o. is_some (option_and_then job_ask_of o)) w.2))
          on waiting.Service is =
              let w = subst (Waits v.set log by.actor seat.issued) is mine.1.waits in
              absurd (unserved (ap (λ n. is_asked (command_of by.actor n) log) (last waiting.Service is refl) ∙ w.1))
          on waiting.Jobs is =
              let w = subst (Waits v.set log by.actor seat.issued) is mine.1.waits in
              let this : by.command ≡ seat.issued - 1 = last waiting.Jobs is refl in
              record {
                untold = ap (λ n. can_reply v.instance.services.jobs (command_of by.actor n)) this ∙ come waiting.Jobs is;
                other = λ e. w.3 (sym (ap (λ n. job_ask_at v.set.work (command_of by.actor n)) this) ∙ e);
                seat = seat;
                sits = at;
                busy = is;
                last = this;
              }
          on waiting.Shutdown is = absurd (true≢false (come waiting.Shutdown is))

      pub left_open : IsLeftOpen
      left_open = sit (slice_get v.instance.seats by.actor) refl
        where
          sit : (o : Option Seat) → slice_get v.instance.seats by.actor ≡ o → IsLeftOpen
          sit None at =
              let below : by.command < count_by (issues_of by.actor) v.chronicle = issued_below v.set v.chronicle h.legal by issued_so in
              let counted : count_by (issues_of by.actor) v.chronicle ≡ 0 = counted_at by.actor None (subst (ActorStands v.set log v.chronicle by.actor) at (h.actors by.actor)) in
              absurd (omega arith)
          sit (Some seat) at = at_seat_of seat at

  -- where nobody can be replied to, no job command can be told
  pub none_told : ((a : ℕ) → has_answer v.instance.services v.instance.seats a ≡ false) → (by : By) → can_reply v.instance.services.jobs by ≡ false
  none_told idle by = on (can_reply v.instance.services.jobs by) refl
    where
      on : (b : Bool) → can_reply v.instance.services.jobs by ≡ b → b ≡ false
      on false t = refl
      on true t =
          let w = reply_waits v.instance.services.jobs inst now h.agrees.jobs by t in
          absurd (true≢false (sym t ∙ (left_open by w.asks w.waits (idle by.actor)).untold))

  -- each open job command waits for the result of a job that isn't over
  abbrev pub AreResults : Type 0
  AreResults = (by : By) → IsSome (job_ask_at v.set.work by) → rules.IsOpen by now → IsStuckResult v by

  -- what is over: nobody waits but for what does not come, and no line of another actor is left
  module _ (over : IsOver v.set.work.lines v.instance) (quiet : IsQuiet (setting_of v.set) log) (results : AreResults) where
    waits_short : (by : By) → is_asked by log ≡ true → is_answered by log ≡ false → (request : Request) × ((setting_of v.set).asks by ≡ Some request) × IsPending by log × (IsShortAsk (setting_of v.set) log request.namespace request.ask ⊎ IsAboveAsk log request.namespace request.ask)
    waits_short by asked unanswered =
        let (request, made) = open_asks v.instance.services inst now h.agrees by (subst (IsOpen by) (sym served) (record { asked = asked; unanswered = unanswered })) in
        elim (quiet.answered by request (record { asked = asked; unanswered = unanswered }) made) [
          | inl above ↦
              let within = asked_within v.set v.chronicle h.legal by above.0 asked in
              absurd (omega (arith, above.1, within))
          | inr short ↦ (request, made, short.0, left_asks (setting_of v.set) log request.namespace request.ask short.1)
        ]

    -- an open command waits for what does not come
    pub record IsServedStuck (a : ℕ) (seat : Seat) : Type 0 where
      pub busy : seat.waiting ≡ waiting.Service
      pub stuck : IsStuck v a seat
      pub cause : IsServedCause v seat.subject (command_of a (seat.issued - 1))

    pub record IsResultStuck (a : ℕ) (seat : Seat) : Type 0 where
      pub busy : seat.waiting ≡ waiting.Jobs
      pub stuck : IsStuck v a seat
      pub cause : IsStuckResult v (command_of a (seat.issued - 1))

    stuck_so : (a : ℕ) (seat : Seat) → seat.waiting ≡ waiting.Service → subject_at v.set.work (command_of a (seat.issued - 1)) ≡ seat.subject → 0 < seat.issued → is_asked (command_of a (seat.issued - 1)) log ≡ true → is_answered (command_of a (seat.issued - 1)) log ≡ false → IsServedStuck a seat
    stuck_so a seat busy about some asked unanswered =
        let by = command_of a (seat.issued - 1) in
        let w = waits_short by asked unanswered in
        let named = (asked_so (broker_of v.set.work a) (subject_at v.set.work by) (ask_at v.set.work by) w.0 w.1).1 ∙ about in
        let asks = asks_so (broker_of v.set.work a) (subject_at v.set.work by) (ask_at v.set.work by) w.0 w.1 in
        record {
          busy = busy;
          stuck = record { some = some; subject = about; uncarried = (w.2.unlanded, w.2.undenied) };
          cause = elim w.3 [
            | inl s ↦ inl (record {
              name = s.name;
              count = s.count;
              command = fence_command v.set.work by s.name s.count s.txn (asks ∙ ap Some s.joins);
              member = (w.2, (s.txn, record { request = w.0; made = w.1; inside = named; asked = s.joins }));
              short = subst (λ (space : Name). IsShortFence (setting_of v.set) log space s.name s.count) named s.short;
            })
            | inr s ↦ inr (record {
              number = s.number;
              command = wait_command v.set.work by s.number (asks ∙ ap Some s.waits);
              living = subst (λ (space : Name). IsTrue (is_live log space)) named s.living;
              above = subst (λ (space : Name). landed log space < s.number) named s.above;
            })
          ];
        }

    -- each seat's actor waits for nothing, or for what does not come
    at_seat : (a : ℕ) (seat : Seat) → slice_get v.instance.seats a ≡ Some seat → (is_free seat.waiting ≡ true) ⊎ (IsServedStuck a seat ⊎ IsResultStuck a seat)
    at_seat a seat at = on seat.waiting refl
      where
        by : By
        by = command_of a (seat.issued - 1)

        mine : ActorStands v.set log v.chronicle a (Some seat)
        mine = subst (ActorStands v.set log v.chronicle a) at (h.actors a)

        idle_so : has_come v.instance.services (last_command a seat) seat.waiting ≡ false
        idle_so = ap (λ o. option_map_or (λ s. has_come v.instance.services (last_command a s) s.waiting) o false) (sym at) ∙ over.answers a

        come : (w : Waiting) → seat.waiting ≡ w → has_come v.instance.services (last_command a seat) w ≡ false
        come w is = ap (has_come v.instance.services (last_command a seat)) (sym is) ∙ idle_so

        none : is_free seat.waiting ≡ false → count_by (replies_to by) v.chronicle ≡ 0
        none busy =
            mine.0.ended (seat.issued - 1)
            ∙ ap (λ n. cond (nat_lt (seat.issued - 1) n) 1 0) (ap (λ b. cond b seat.issued (seat.issued - 1)) busy)
            ∙ ap (λ b. cond b 1 0) (le-ltb (seat.issued - 1) (seat.issued - 1) (omega arith))

        by_service : (0 < seat.issued) × (is_asked by log ≡ true) → seat.waiting ≡ waiting.Service → IsServedStuck a seat
        by_service waits is = stuck_so a seat is (mine.1.about waits.0) waits.0 waits.1 (open_so (is_answered by log) refl)
          where
            open_so : (b : Bool) → is_answered by log ≡ b → b ≡ false
            open_so false t = refl
            open_so true t = absurd (true≢false (sym (answered_replied v.set.work by [] v.chronicle t) ∙ none_counted (replies_to by) v.chronicle (none (ap is_free is))))

        by_jobs : (0 < seat.issued) × (is_asked by log ≡ false) × IsSome (job_ask_at v.set.work by) × (job_ask_at v.set.work by ≢ Some rules.Shutdown) → seat.waiting ≡ waiting.Jobs → IsResultStuck a seat
        by_jobs waits is =
            let some = waits.0 in
            let begun : is_issued by v.chronicle ≡ true = mine.0.begun (seat.issued - 1) (omega arith) in
            let cause = results by waits.2 (log_open v.set.work by v.chronicle waits.2 begun (none (ap is_free is))) in
            record {
              busy = is;
              stuck = record {
                some = waits.0;
                subject = mine.1.about waits.0;
                uncarried = result_uncarried v.set v.chronicle v.chronicle refl v.instance.services.jobs h.agrees.jobs by cause.where_ cause.left;
              };
              cause = cause;
            }

        on : (w : Waiting) → seat.waiting ≡ w → (is_free seat.waiting ≡ true) ⊎ (IsServedStuck a seat ⊎ IsResultStuck a seat)
        on waiting.Nothing is = inl (ap is_free is)
        on waiting.Staged is = absurd (true≢false (come waiting.Staged is))
        on waiting.TxnFull is = absurd (true≢false (come waiting.TxnFull is))
        on (waiting.Tell to) is = absurd (true≢false (come (waiting.Tell to) is))
        on waiting.Using is = absurd (true≢false (come waiting.Using is))
        on waiting.Look is = absurd (looks_on v.instance a seat at is (over.looks a))
        on waiting.Service is = inr (inl (by_service (subst (Waits v.set log a seat.issued) is mine.1.waits) is))
        on waiting.Jobs is = inr (inr (by_jobs (subst (Waits v.set log a seat.issued) is mine.1.waits) is))
        on waiting.Shutdown is = absurd (true≢false (come waiting.Shutdown is))

    -- an actor that waits for nothing has no line left
    pub past_all : (a : ℕ) (seat : Seat) → slice_get v.instance.seats a ≡ Some seat → is_free seat.waiting ≡ true → length v.set.work.lines ≤ seat.next
    past_all a seat at free =
        ltb-false seat.next (length v.set.work.lines)
        (ap (λ b. b && nat_lt seat.next (length v.set.work.lines)) (sym free)
        ∙ ap (λ o. option_map_or (λ s. is_free s.waiting && nat_lt s.next (length v.set.work.lines)) o false) (sym at)
        ∙ over.issues a)

    seat_of : (a : ℕ) (seat : Seat) → slice_get v.instance.seats a ≡ Some seat → IsSeat v.set log v.chronicle a seat
    seat_of a seat at = (subst (ActorStands v.set log v.chronicle a) at (h.actors a)).1

    -- what is left of each actor at the end
    pub left_of : (a : ℕ) → IsDone v a ⊎ IsLeft v a
    left_of a = on (slice_get v.instance.seats a) refl
      where
        lines : List Line
        lines = v.set.work.lines

        numbers : ℕ → Name → ℕ
        numbers = numbers_of v

        on : (o : Option Seat) → slice_get v.instance.seats a ≡ o → IsDone v a ⊎ IsLeft v a
        on None e = inl (record {
          free = λ seat at. absurd (no_seat seat (sym e ∙ at));
          replies = unseated numbers (states_of v) lines v.instance.seats a e;
          waits = λ space name. ap (λ o. option_map_or (λ s. option_map_or (λ fence. bytes_eq space s.subject && bytes_eq name fence.0) (fence_at lines s) false) o false) e;
        })
          where
            no_seat : (seat : Seat) → ◌≡◌ {A = Option Seat} None (Some seat) → ⊥
            no_seat seat e = cc
        on (Some seat) e = elim (at_seat a seat e) [
          | inl free ↦ inl (record {
            free = λ other at. subst (λ s. is_free s.waiting ≡ true) (same_seat seat other (sym e ∙ at)) free;
            replies = closes None (free_finished seat.waiting free had (states_of v by) lines v.instance.seats seat);
            waits = λ space name. in_seat space name ∙ fenceless (free_unserved seat.waiting free) space name;
          })
          | inr stuck ↦ elim stuck [
            | inl s ↦ inr (record {
              seat = seat;
              sits = e;
              stuck = s.stuck;
              busy = ap is_free s.busy;
              cause = inl s.cause;
              replies = closes (Some (seat_told v a seat (inl s.cause)))
                  (ap (λ w. unfinished_as w had (states_of v by) lines v.instance.seats seat) s.busy ∙ ap (option_and_then (left_reply had lines v.instance.seats seat.subject)) (opened s.stuck) ∙ ends s.cause);
              waits = λ space name. in_seat space name
                  ∙ ap (λ w. option_map_or (λ f. bytes_eq space seat.subject && bytes_eq name f.0) (if is_served w then option_and_then fence_of (open_command lines seat) else None) false) s.busy
                  ∙ ap (λ c. option_map_or (λ f. bytes_eq space seat.subject && bytes_eq name f.0) (option_and_then fence_of c) false) (opened s.stuck)
                  ∙ fences s.cause space name;
            })
            | inr s ↦ inr (record {
              seat = seat;
              sits = e;
              stuck = s.stuck;
              busy = ap is_free s.busy;
              cause = inr s.cause;
              replies = closes (Some (seat_told v a seat (inr s.cause)))
                  (ap (λ w. unfinished_as w had (states_of v by) lines v.instance.seats seat) s.busy ∙ ap (option_map reply.UnfinishedJob) s.cause.awaits);
              waits = λ space name. in_seat space name ∙ fenceless (ap is_served s.busy) space name;
            })
          ]
        ]
          where
            same_seat : (seat other : Seat) → ◌≡◌ {A = Option Seat} (Some seat) (Some other) → seat ≡ other
            same_seat seat other e = cc

            by : By
            by = command_of a (seat.issued - 1)

            had : ℕ
            had = numbers seat.broker seat.subject

            closes : (given : Option Reply) → unfinished_as seat.waiting had (states_of v by) lines v.instance.seats seat ≡ given → closings_of numbers (states_of v) lines v.instance.seats a ≡ option_map_or (closings_at lines a seat) given []
            closes given is = seated numbers (states_of v) lines v.instance.seats a seat e ∙ ap (λ o. option_map_or (closings_at lines a seat) o []) is

            in_seat : (space name : Name) → waits_in lines v.instance.seats space name a ≡ option_map_or (λ fence. bytes_eq space seat.subject && bytes_eq name fence.0) (fence_at lines seat) false
            in_seat space name = ap (λ o. option_map_or (λ s. option_map_or (λ fence. bytes_eq space s.subject && bytes_eq name fence.0) (fence_at lines s) false) o false) e

            fenceless : is_served seat.waiting ≡ false → (space name : Name) → option_map_or (λ fence. bytes_eq space seat.subject && bytes_eq name fence.0) (fence_at lines seat) false ≡ false
            fenceless none space name = ap (λ b. option_map_or (λ f. bytes_eq space seat.subject && bytes_eq name f.0) (if b then option_and_then fence_of (open_command lines seat) else None) false) none

            -- the open command is that of the actor
            opened : IsStuck v a seat → open_command lines seat ≡ command_at v.set.work by
            opened s = sym ((seat_of a seat e).opened s.some)

            ends : (cause : IsServedCause v seat.subject by) → option_and_then (left_reply had lines v.instance.seats seat.subject) (command_at v.set.work by) ≡ Some (seat_told v a seat (inl cause))
            ends (inl f) = ap (option_and_then (left_reply had lines v.instance.seats seat.subject)) f.command
            ends (inr w) = ap (option_and_then (left_reply had lines v.instance.seats seat.subject)) w.command

            fences : (cause : IsServedCause v seat.subject by) (space name : Name) → option_map_or (λ f. bytes_eq space seat.subject && bytes_eq name f.0) (option_and_then fence_of (command_at v.set.work by)) false ≡ in_fence v seat.subject by (inl cause) space name
            fences (inl f) space name = ap (λ c. option_map_or (λ f. bytes_eq space seat.subject && bytes_eq name f.0) (option_and_then fence_of c) false) f.command
            fences (inr w) space name = ap (λ c. option_map_or (λ f. bytes_eq space seat.subject && bytes_eq name f.0) (option_and_then fence_of c) false) w.command
