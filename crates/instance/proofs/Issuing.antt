-- What an issue leaves of a world.
use Rattle.std.proofs.Common.{◌≡◌, ◌≢◌, ℕ, ◌+◌, ◌-◌, ◌<◌, ◌≤◌, ◌==◌, inl, inr, List, [], ◌∷◌, ◌++◌, append-nil, length, map, Bool, true, false, ◌&&◌, ◌||◌, cond, refl, sym, ap, ap₂, ◌∙◌, subst, arith, count_by, Option, Some, None, get_or, eq-eqb, ne_eqb, true≢false, set, take, filter_map}
use Rattle.std.specs.Prelude.{IfSome, IsSome, slice_get, nat_lt}
use Rattle.std.specs.Option.{option_map, option_map_or, option_and_then, is_some}
use Rattle.std.specs.List.{cons_option, list_any}
use Rattle.std.proofs.lemmas.Bool.{cases_eq, lt-ltb, ltb-true, ltb-false}
use Rattle.std.proofs.lemmas.List.Folds.{list_any-append}
use Rattle.std.proofs.lemmas.List.{length-take}
use Rattle.std.proofs.lemmas.Option.{slice_get_within, slice_get-get_or}
use Rattle.std.proofs.lemmas.List.Sums.{count_by-le-length}
use Rattle.std.proofs.Math.ListN.{length-set}
use Rattle.services.specs.kvs_txn.declared.txn.Author.TheVariants as author
use Rattle.services.specs.kvs_txn.declared.txn.By.{By}
use Rattle.services.specs.kvs_txn.declared.txn.Op.{Op}
use Rattle.services.specs.kvs_txn.declared.txn.Op.TheVariants as op
use Rattle.services.specs.kvs_txn.declared.answers.Query.TheVariants as query
use Rattle.services.specs.kvs_txn.declared.txn.Txn.{Txn}
use Rattle.services.specs.kvs_rules.declared.events.KvsAsk.{KvsAsk}
use Rattle.services.specs.kvs_rules.declared.events.KvsAsk.TheVariants as ask
use Rattle.services.specs.kvs_rules.Log.{Log, Moment, Asked, is_asked, asks_now, same_command}
use Rattle.services.specs.kvs_model.Store.{Name}
use Rattle.services.proofs.kvs_rules_proofs.Sequences.{each_push}
use Rattle.services.specs.instance_rules.Log as rules
use Rattle.services.specs.instance_rules.Log.{Instance, Issued, Log as InstanceLog, Served, issues_now, service_of}
use Rattle.services.specs.job_commands.Asks.{told}
use Rattle.services.specs.job_commands.declared.ask.JobAsk.{JobAsk}
use Rattle.services.specs.job_commands.declared.ask.JobAsk.TheVariants as ask_of_jobs
use Rattle.services.specs.instance_rules.Desks.{is_submission}
use Rattle.services.specs.job_service.Agrees.{HasRoom, MayIssue}
use Rattle.services.specs.job_service.Times.{HasTime, KeepsCounts, jobs_asked, seconds_asked}
use Rattle.services.specs.job_service.Value.{JobServiceValue}
use Rattle.services.specs.Value.{ServicesValue}
use Rattle.services.specs.Agrees.{AgreesServices}
use Rattle.services.specs.Asks.{Keeps, MayAsk}
use Rattle.services.specs.kvs_core.Requests.{AsksAtRest}
use Rattle.services.specs.workload.declared.work.Command.{Command}
use Rattle.services.specs.workload.declared.work.Command.TheVariants as command
use Rattle.services.specs.workload.declared.work.Line.{Line}
use Rattle.services.specs.answers.declared.chronicle.Entry.{Entry}
use Rattle.services.specs.answers.declared.chronicle.Entry.TheVariants as entry
use Rattle.services.specs.answers.declared.steps.Step.TheVariants as step
use Rattle.services.specs.answers.Chronicle.{Setup, top, issues, issues_of, is_issued, replies_to}
use Rattle.services.specs.kvs_txn.Staged.{most_ops}
use Rattle.services.specs.answers.Commands.{command_at, ask_of, ask_at, subject_at, subject_of, staged_at, op_of, broker_of, since_last, takes_staged, commands_before}
use Rattle.services.specs.answers.Floors.{floor}
use Rattle.services.specs.answers.Jobs.{happening_of, instance_of, job_ask_at, job_ask_of, log_in}
use Rattle.services.specs.answers.Legal.{IsLegalEntry, IsStaging}
use Rattle.services.specs.answers.Services.{setting_of, log_of, moment_of, asked_at}
use Rattle.services.specs.answers.Whole.{IsEarlierEntry}
use Rattle.services.proofs.answers_proofs.Services.{log_push, asks_of, asked_issued, issued_below}
use Rattle.services.proofs.answers_proofs.Floors.{floor_push}
use Rattle.services.specs.run_limits.Limits.{most_seconds, most_submits}
use Rattle.instance.specs.declared.seats.Seat.{Seat}
use Rattle.instance.specs.declared.seats.Waiting.TheVariants as waiting
use Rattle.services.specs.workload.Laws.{IsBuilt}
use Rattle.instance.specs.declared.jobs.Ordered.{Ordered}
use Rattle.instance.specs.declared.jobs.Ordered.TheVariants as ordered
use Rattle.instance.specs.Jobs.{CountsIn, IfAsked, IsNewOrder, asked_in, issues_of as orders_of}
use Rattle.instance.specs.Seats.{replied_of, is_free, waiting_after, ops_after, room_behind, moment_asked, seat_floor, space_after, IsTheAsk, waits_for}
use Rattle.instance.specs.Agrees.{command_of, Stands, Waits, IsSeat, IsTallied, ActorStands}
use Rattle.instance.specs.Steps.{can_issue}
use Rattle.instance.specs.Makes.{Follows}
use Rattle.instance.specs.Value.{InstanceValue}
use Rattle.instance.proofs.Owning.{Own, DoesAgree}
use Rattle.instance.proofs.Listing.{count-push, any_left, each_append, any_counted, get-set_same, get-set_other}
use Rattle.instance.proofs.Commanding.{subject_so, space_on, placed_command, placed_on, staged_on, known_at}
use Rattle.instance.proofs.Pushing.{actor_other, asked_push, answered_push}
use Rattle.instance.proofs.Replying.{same_self, seat_stands}
use Rattle.instance.proofs.Going.{unended}
use Rattle.instance.proofs.Ahead.{MovesOn}
use Rattle.instance.proofs.Tallies.{CountsNone, room_for, tallied_job, tallied_other, time_for}
use Rattle.instance.proofs.Logs.{job_asks_nothing, job_issued, log_grown, log_unissued, other_issued, served_log}

-- the actor's next command can be issued
pub record IsIssuing (v : Own) (a : ℕ) (seat : Seat) : Type 0 where
  pub sits : slice_get v.instance.seats a ≡ Some seat
  pub free : is_free seat.waiting ≡ true
  pub below : seat.next < length v.set.work.lines

both_left : (a b : Bool) → (a && b) ≡ true → a ≡ true
both_left true b e = refl
both_left false b e = e

both_right : (a b : Bool) → (a && b) ≡ true → b ≡ true
both_right true b e = e
both_right false b e = absurd (true≢false (sym e))

-- an actor whose next command can be issued has a seat
pub issuer_within : (lines : List Line) (v : InstanceValue) (a : ℕ) → can_issue lines v a ≡ true → a < length v.seats
issuer_within lines v a can = on (slice_get v.seats a) refl can
  where
    on : (o : Option Seat) → slice_get v.seats a ≡ o → option_map_or (λ seat. is_free seat.waiting && nat_lt seat.next (length lines)) o false ≡ true → a < length v.seats
    on None e t = absurd (true≢false (sym t))
    on (Some seat) e t = slice_get_within v.seats a seat e

pub issuing_so : (v : Own) (a : ℕ) (seat : Seat) → can_issue v.set.work.lines v.instance a ≡ true → slice_get v.instance.seats a ≡ Some seat → IsIssuing v a seat
issuing_so v a seat can sits =
    let t = ap (λ o. option_map_or (λ s. is_free s.waiting && nat_lt s.next (length v.set.work.lines)) o false) (sym sits) ∙ can in
    record {
      sits = sits;
      free = both_left (is_free seat.waiting) (nat_lt seat.next (length v.set.work.lines)) t;
      below = ltb-true seat.next (length v.set.work.lines) (both_right (is_free seat.waiting) (nat_lt seat.next (length v.set.work.lines)) t);
    }

-- what a command asks, and the moment at which it asks it
asks_so : (set : Setup) (by : By) (asked : Option KvsAsk) (seat : Seat) → ask_at set.work by ≡ asked → seat.broker ≡ broker_of set.work by.actor → subject_at set.work by ≡ seat.subject → IsTheAsk (setting_of set) by seat asked
asks_so set by None seat asks home subject = tt
asks_so set by (Some x) seat asks home subject =
    ap (option_map (λ a. record { broker = broker_of set.work by.actor; namespace = subject_at set.work by; ask = a })) asks
    ∙ ap₂ (λ b n. Some (record { broker = b; namespace = n; ask = x })) (sym home) subject

moment_so : (set : Setup) (c : List Entry) (by : By) (asked : Option KvsAsk) (floors : Name → ℕ) → ask_at set.work by ≡ asked → ((space : Name) → floor set.work c by.actor space ≡ floors space) →
    moment_of set.work top c (entry.Issued by.actor by.command) ≡ option_map (λ a. Asked by floors) asked
moment_so set c by None floors asks e = ap (λ o. cond (is_some o && true) (Some (asked_at set.work c by)) None) asks
moment_so set c by (Some x) floors asks e =
    ap (λ o. cond (is_some o && true) (Some (asked_at set.work c by)) None) asks
    ∙ ap (λ (f : Name → ℕ). Some (Asked by f)) (λ i. λ space. e space i)

-- the moment is its command's own
own_moment : (by other : By) (floors : Name → ℕ) (asked : Option KvsAsk) → same_command other by ≡ false → asks_of other (option_map (λ a. Asked by floors) asked) ≡ false
own_moment by other floors None e = refl
own_moment by other floors (Some x) e = e

time_kept : (old new : JobServiceValue) → new.span ≡ old.span → (asked : JobAsk) → HasTime old asked → HasTime new asked
time_kept old new same (ask_of_jobs.Advance seconds) time = subst (λ n. n + seconds ≤ most_seconds) (sym same) time
time_kept old new same _ time = tt

module _ (v : Own) (h : DoesAgree v) (a : ℕ) (seat : Seat) (is : IsIssuing v a seat) where
  abbrev by : By
  by = command_of a seat.issued

  abbrev e : Entry
  e = entry.Issued a seat.issued

  abbrev log : Log
  log = log_of v.set.work top v.chronicle

  mine : ActorStands v.set log v.chronicle a (Some seat)
  mine = seat_stands v h a seat is.sits

  before : Stands log v.chronicle a seat.issued seat.issued
  before = subst (λ n. Stands log v.chronicle a seat.issued n) (ap (λ b. cond b seat.issued (seat.issued - 1)) is.free) mine.0

  -- the seat's bounds
  pub issued_small : seat.issued + 1 ≤ 10000
  issued_small =
      let counted = mine.1.placed.passed in
      let few = count_by-le-length (λ l. l.actor == a) (take seat.next v.set.work.lines) in
      omega (arith, is.below, h.within.lines, length-take seat.next v.set.work.lines)

  pub next_small : seat.next + 1 ≤ 10000
  next_small = omega (arith, is.below, h.within.lines)

  pub issuer : seat.staged.author ≡ author.User a
  issuer = mine.1.author

  pub issuer_broker : seat.broker < v.instance.services.size
  issuer_broker = subst (λ n. seat.broker < n) h.agrees.size mine.1.inside

  pub known_next : (d : Line) → IsBuilt (get_or v.set.work.lines seat.next d).command
  known_next d = known_at v.set.work h.known seat.next d is.below

  module _ (d : Line) where
    abbrev cmd : Command
    cmd = (get_or v.set.work.lines seat.next d).command

    at : command_at v.set.work by ≡ Some cmd
    at = placed_command v.set.work a seat mine.1.placed d is.below

    -- the seat once its command has begun
    abbrev pub begun_seat : Seat
    begun_seat = record seat {
      staged = record { author = author.User a; ops = ops_after cmd seat.staged.ops };
      waiting = waiting_after cmd seat.staged.ops;
      subject = subject_of cmd seat.space;
      space = space_after cmd seat.space;
    }

    abbrev seen : Name → ℕ
    seen = seat_floor begun_seat

    subject : subject_at v.set.work by ≡ subject_of cmd seat.space
    subject = subject_so v.set.work by cmd seat.space at mine.1.works

    abbrev txn : Txn
    txn = record { author = author.User a; ops = seat.staged.ops }

    at_most : (by : By) → length (staged_at v.set.work by) ≤ most_ops
    at_most by = bound (filter_map op_of (since_last takes_staged (commands_before v.set.work by)))
      where
        bound : (xs : List Op) → length (take most_ops xs) ≤ most_ops
        bound xs = omega (arith, length-take most_ops xs)

    asking : (asked : Option KvsAsk) → asked ≡ ask_of (record { author = author.User a; ops = seat.staged.ops }) cmd → ask_at v.set.work by ≡ asked
    asking asked eq =
        ap (option_and_then (λ c. ask_of (record { author = author.User a; ops = staged_at v.set.work by }) c)) at
        ∙ ap (λ ops. ask_of (record { author = author.User a; ops = ops }) cmd) (sym mine.1.staged)
        ∙ sym eq

    unissued : is_issued by v.chronicle ≡ false
    unissued = on (is_issued by v.chronicle) refl
      where
        on : (b : Bool) → is_issued by v.chronicle ≡ b → b ≡ false
        on true t =
            let low : seat.issued < count_by (issues_of a) v.chronicle = issued_below v.set v.chronicle h.legal by t in
            let counted : count_by (issues_of a) v.chronicle ≡ seat.issued = before.counted in
            absurd (omega arith)
        on false t = refl

    unasked : is_asked by log ≡ false
    unasked = on (is_asked by log) refl
      where
        on : (b : Bool) → is_asked by log ≡ b → b ≡ false
        on true t = absurd (true≢false (sym (asked_issued v.set.work top by [] v.chronicle t) ∙ unissued))
        on false t = refl

    abbrev inst : Instance
    inst = instance_of v.set

    abbrev now : InstanceLog
    now = log_in v.set.work v.chronicle

    -- what the service is asked
    pub issue_asks : (asked : Option KvsAsk) → asked ≡ ask_of (record { author = author.User a; ops = seat.staged.ops }) cmd → IsTheAsk inst.service by begun_seat asked × (is_asked by (service_of now) ≡ false)
    issue_asks asked eq = (
      asks_so v.set by asked begun_seat (asking asked eq) mine.1.home subject,
      ap (is_asked by) (served_log v.set.work v.chronicle) ∙ unasked,
    )

    -- the chronicle, its log and what they say of the actor
    module _ (asked : Option KvsAsk) (eq : asked ≡ ask_of (record { author = author.User a; ops = seat.staged.ops }) cmd) (job : Ordered) (jeq : asked_in job ≡ job_ask_of cmd) where
      abbrev o : Option Moment
      o = option_map (λ x. Asked by seen) asked

      log_issued : log_of v.set.work top (v.chronicle ++ e ∷ []) ≡ log ++ cons_option o []
      log_issued = log_push v.set.work top v.chronicle e ∙ ap (λ m. log ++ cons_option m []) (moment_so v.set v.chronicle by asked seen (asking asked eq) mine.1.floored)

      job_at : job_ask_at v.set.work by ≡ asked_in job
      job_at = ap (option_and_then job_ask_of) at ∙ sym jeq

      -- the log of the instance once the service is asked, if it is
      abbrev pub asked_now : InstanceLog
      asked_now = now ++ map Served (moment_asked by seen asked)

      served_one : (p : Option Moment) → cons_option (option_map Served p) [] ≡ map Served (cons_option p [])
      served_one None = refl
      served_one (Some m) = refl

      -- and once the command is issued, if it orders anything
      with_issue : IsSome (job_ask_at v.set.work by) → now ++ cons_option (happening_of v.set.work v.chronicle e) [] ≡ asked_now ++ Issued by ∷ []
      with_issue some =
          let none : asked ≡ None = sym (asking asked eq) ∙ job_asks_nothing v.set.work by some in
          ap (λ p. now ++ cons_option p []) (job_issued v.set.work v.chronicle by some)
          ∙ ap (λ l. l ++ Issued by ∷ []) (sym (append-nil now) ∙ ap (λ p. now ++ map Served (moment_asked by seen p)) (sym none))

      log_ordered : log_in v.set.work (v.chronicle ++ e ∷ []) ≡ asked_now ++ orders_of by job
      log_ordered = log_grown v.set.work v.chronicle e ∙ on job refl
        where
          on : (j : Ordered) → job ≡ j → now ++ cons_option (happening_of v.set.work v.chronicle e) [] ≡ asked_now ++ orders_of by job
          on ordered.Nothing is =
              ap (λ p. now ++ cons_option p [])
              (other_issued v.set.work v.chronicle by (job_at ∙ ap asked_in is)
              ∙ ap (option_map Served) (moment_so v.set v.chronicle by asked seen (asking asked eq) mine.1.floored))
              ∙ ap (λ l. now ++ l) (served_one o)
              ∙ sym (append-nil asked_now)
              ∙ ap (λ j. asked_now ++ orders_of by j) (sym is)
          on (ordered.Job x) is = with_issue (ap is_some (job_at ∙ ap asked_in is)) ∙ ap (λ j. asked_now ++ orders_of by j) (sym is)
          on ordered.Shutdown is = with_issue (ap is_some (job_at ∙ ap asked_in is)) ∙ ap (λ j. asked_now ++ orders_of by j) (sym is)

      none_issues : (ms : Log) → list_any (issues_now by) (map Served ms) ≡ false
      none_issues [] = refl
      none_issues (m ∷ ms) = none_issues ms

      or_no : (x y : Bool) → x ≡ false → y ≡ false → (x || y) ≡ false
      or_no true y f g = absurd (true≢false f)
      or_no false y f g = g

      new_there : rules.is_issued by asked_now ≡ false
      new_there =
          list_any-append (issues_now by) now (map Served (moment_asked by seen asked))
          ∙ or_no _ _ (log_unissued v.set.work by v.chronicle unissued) (none_issues (moment_asked by seen asked))

      -- so what is ordered may be issued
      pub new_command : IsNewOrder inst asked_now by seat.broker job
      new_command = on job refl
        where
          on : (j : Ordered) → job ≡ j → IsNewOrder inst asked_now by seat.broker job
          on ordered.Nothing is = subst (IsNewOrder inst asked_now by seat.broker) (sym is) tt
          on (ordered.Job x) is = subst (IsNewOrder inst asked_now by seat.broker) (sym is) (record { asks = job_at ∙ ap asked_in is; home = sym mine.1.home; new = new_there })
          on ordered.Shutdown is = subst (IsNewOrder inst asked_now by seat.broker) (sym is) (record { asks = job_at ∙ ap asked_in is; new = new_there })

      -- there is room for a submission, and time for an advance
      pub room_so : (middle : ServicesValue) → Keeps v.instance.services middle → IfAsked job (λ x. is_submission (Some (told x)) ≡ true → HasRoom middle.jobs)
      room_so middle keeps = on job refl
        where
          on : (j : Ordered) → job ≡ j → IfAsked j (λ x. is_submission (Some (told x)) ≡ true → HasRoom middle.jobs)
          on ordered.Nothing same = tt
          on (ordered.Job x) same = λ one. subst (λ n. n < most_submits) (sym keeps.counts.submitted)
              (room_for v.instance v.set.work.lines h.tallied h.few a seat is.sits is.below (λ l. mine.1.placed.here l is.below) d x (sym jeq ∙ ap asked_in same) one)
          on ordered.Shutdown same = tt

      pub time_so : (middle : ServicesValue) → Keeps v.instance.services middle → IfAsked job (HasTime middle.jobs)
      time_so middle keeps = on job refl
        where
          on : (j : Ordered) → job ≡ j → IfAsked j (HasTime middle.jobs)
          on ordered.Nothing same = tt
          on (ordered.Job x) same = time_kept v.instance.services.jobs middle.jobs keeps.counts.span x
              (time_for v.instance v.set.work.lines h.tallied h.few a seat is.sits is.below (λ l. mine.1.placed.here l is.below) d x (sym jeq ∙ ap asked_in same))
          on ordered.Shutdown same = tt

      legal_issue : IsLegalEntry v.set v.chronicle e
      legal_issue = record {
        goes_on = unended v.chronicle h.early;
        grounds = record {
          exists = ap is_some at;
          next = sym before.counted;
          replied = λ k low. any_counted (replies_to (command_of a k)) v.chronicle (replied_once k low);
        };
      }
        where
          replied_once : (k : ℕ) → k < seat.issued → 0 < count_by (replies_to (command_of a k)) v.chronicle
          replied_once k low =
              let one : cond {A = ℕ} (nat_lt k seat.issued) 1 0 ≡ 1 = ap (λ b. cond b 1 0) (lt-ltb k seat.issued low) in
              let counted : count_by (replies_to (command_of a k)) v.chronicle ≡ cond {A = ℕ} (nat_lt k seat.issued) 1 0 = before.ended k in
              omega arith

      same_none : (k : ℕ) → k ≢ seat.issued → same_command (command_of a k) by ≡ false
      same_none k other = ap₂ (λ x y. x && y) (eq-eqb a a refl) (ne_eqb k seat.issued other)

      stands_issued : Stands (log ++ cons_option o []) (v.chronicle ++ e ∷ []) a (seat.issued + 1) seat.issued
      stands_issued = record {
        counted = count-push (issues_of a) v.chronicle e ∙ ap₂ (λ n b. n + cond b 1 0) before.counted (eq-eqb a a refl);
        begun = begun_so;
        ended = λ k. count-push (replies_to (command_of a k)) v.chronicle e ∙ plus_none _ ∙ before.ended k;
        answered = λ k t low.
            let other : k ≢ seat.issued = λ same. absurd (omega (arith, same, low)) in
            answered_push (command_of a k) log o (before.answered k (sym (asked_push (command_of a k) log o (own_moment by (command_of a k) seen asked (same_none k other))) ∙ t) low);
      }
        where
          plus_none : (n : ℕ) → n + 0 ≡ n
          plus_none n = omega arith

          last : (x y : Bool) → y ≡ true → (x || (y || false)) ≡ true
          last true y t = refl
          last false true t = refl
          last false false t = absurd (true≢false (sym t))

          begun_so : (k : ℕ) → k < seat.issued + 1 → is_issued (command_of a k) (v.chronicle ++ e ∷ []) ≡ true
          begun_so k low = elim (cases_eq k seat.issued) [
            | inl same ↦ subst (λ n. is_issued (command_of a n) (v.chronicle ++ e ∷ []) ≡ true) (sym same)
                (list_any-append (issues by) v.chronicle (e ∷ []) ∙ last (is_issued by v.chronicle) (issues by e) (same_self by))
            | inr other ↦ any_left (issues (command_of a k)) v.chronicle (e ∷ []) (before.begun k (omega arith))
          ]

      back : seat.issued ≡ seat.issued + 1 - 1
      back = omega arith

      -- a command that asks is known to have asked
      waits_asked : (x : KvsAsk) → asked ≡ Some x → (0 < seat.issued + 1) × (is_asked (command_of a (seat.issued + 1 - 1)) (log ++ cons_option o []) ≡ true)
      waits_asked x some = (
        omega arith,
        subst (λ n. is_asked (command_of a n) (log ++ cons_option o []) ≡ true) back
            (subst (λ r. is_asked by (log ++ cons_option (option_map (λ y. Asked by seen) r) []) ≡ true) (sym some)
            (list_any-append (asks_now by) log (Asked by seen ∷ []) ∙ last (is_asked by log) (asks_now by (Asked by seen)) (same_self by))),
      )
        where
          last : (x y : Bool) → y ≡ true → (x || (y || false)) ≡ true
          last true y t = refl
          last false true t = refl
          last false false t = absurd (true≢false (sym t))

      -- an operation finds room or none, and asks nothing
      waits_staged : (c : Command) (op : Op) → op_of c ≡ Some op → c ≡ cmd → asked ≡ None → (b : Bool) → nat_lt (length seat.staged.ops) most_ops ≡ b →
          Waits v.set (log ++ cons_option o []) a (seat.issued + 1) (cond b waiting.Staged waiting.TxnFull)
      waits_staged c op stages same none true room = (
        omega arith,
        subst (λ n. is_asked (command_of a n) (log ++ cons_option o []) ≡ false) back (still none),
        subst (λ n. IsStaging v.set (command_of a n) (λ m. m < most_ops)) back (record {
          asked = c;
          named = at ∙ ap Some (sym same);
          stages = ap is_some stages;
          room = subst (λ ops. length ops < most_ops) mine.1.staged (ltb-true (length seat.staged.ops) most_ops room);
        }),
      )
        where
          still : asked ≡ None → is_asked by (log ++ cons_option o []) ≡ false
          still none = asked_push by log o (ap (λ r. asks_of by (option_map (λ y. Asked by seen) r)) none) ∙ unasked
      waits_staged c op stages same none false room = (
        omega arith,
        subst (λ n. is_asked (command_of a n) (log ++ cons_option o []) ≡ false) back (still none),
        subst (λ n. IsStaging v.set (command_of a n) (λ m. m ≡ most_ops)) back (record {
          asked = c;
          named = at ∙ ap Some (sym same);
          stages = ap is_some stages;
          room = full (ltb-false (length seat.staged.ops) most_ops room);
        }),
      )
        where
          still : asked ≡ None → is_asked by (log ++ cons_option o []) ≡ false
          still none = asked_push by log o (ap (λ r. asks_of by (option_map (λ y. Asked by seen) r)) none) ∙ unasked

          full : most_ops ≤ length seat.staged.ops → length (staged_at v.set.work by) ≡ most_ops
          full high =
              let same_length : length seat.staged.ops ≡ length (staged_at v.set.work by) = ap length mine.1.staged in
              let short : length (staged_at v.set.work by) ≤ most_ops = at_most by in
              omega arith

      -- a command on jobs or on time asks the service nothing, nor does a shutdown
      still_unasked : asked ≡ None → is_asked (command_of a (seat.issued + 1 - 1)) (log ++ cons_option o []) ≡ false
      still_unasked none =
          subst (λ n. is_asked (command_of a n) (log ++ cons_option o []) ≡ false) back
          (asked_push by log o (ap (λ r. asks_of by (option_map (λ y. Asked by seen) r)) none) ∙ unasked)

      ask_there : (c : Command) → c ≡ cmd → job_ask_at v.set.work (command_of a (seat.issued + 1 - 1)) ≡ job_ask_of c
      ask_there c same =
          subst (λ n. job_ask_at v.set.work (command_of a n) ≡ job_ask_of c) back (ap (option_and_then job_ask_of) at ∙ ap job_ask_of (sym same))

      waits_jobs : (c : Command) → IsSome (job_ask_of c) → job_ask_of c ≢ Some rules.Shutdown → c ≡ cmd → asked ≡ None → Waits v.set (log ++ cons_option o []) a (seat.issued + 1) waiting.Jobs
      waits_jobs c some other same none = (omega arith, still_unasked none, ap is_some (ask_there c same) ∙ some, λ e. other (sym (ask_there c same) ∙ e))

      waits_issued : (c : Command) → IsBuilt c → c ≡ cmd → Waits v.set (log ++ cons_option o []) a (seat.issued + 1) (waiting_after c seat.staged.ops)
      waits_issued (command.Put path bytes) known same = waits_staged (command.Put path bytes) (op.Put path bytes) refl same (eq ∙ ap (ask_of txn) (sym same)) (nat_lt (length seat.staged.ops) most_ops) refl
      waits_issued command.Commit known same = waits_asked (ask.Commit txn) (eq ∙ ap (ask_of txn) (sym same))
      waits_issued (command.Fence name count) known same = waits_asked (ask.Fence name count txn) (eq ∙ ap (ask_of txn) (sym same))
      waits_issued (command.Get path) known same = waits_asked (ask.Read query.Get path) (eq ∙ ap (ask_of txn) (sym same))
      waits_issued (command.Append path bytes) known same = waits_staged (command.Append path bytes) (op.Append path bytes) refl same (eq ∙ ap (ask_of txn) (sym same)) (nat_lt (length seat.staged.ops) most_ops) refl
      waits_issued (command.Unlink path) known same = waits_staged (command.Unlink path) (op.Unlink path) refl same (eq ∙ ap (ask_of txn) (sym same)) (nat_lt (length seat.staged.ops) most_ops) refl
      waits_issued (command.Mkdir path) known same = waits_staged (command.Mkdir path) (op.Mkdir path) refl same (eq ∙ ap (ask_of txn) (sym same)) (nat_lt (length seat.staged.ops) most_ops) refl
      waits_issued (command.Symlink path target) known same = waits_staged (command.Symlink path target) (op.Link path target) refl same (eq ∙ ap (ask_of txn) (sym same)) (nat_lt (length seat.staged.ops) most_ops) refl
      waits_issued (command.Ls path) known same = waits_asked (ask.Read query.List path) (eq ∙ ap (ask_of txn) (sym same))
      waits_issued (command.Readlink path) known same = waits_asked (ask.Read query.Link path) (eq ∙ ap (ask_of txn) (sym same))
      waits_issued (command.Wait number) known same = waits_asked (ask.Wait number) (eq ∙ ap (ask_of txn) (sym same))
      waits_issued (command.Tell to) known same = (
        omega arith,
        subst (λ n. is_asked (command_of a n) (log ++ cons_option o []) ≡ false) back
            (asked_push by log o (ap (λ r. asks_of by (option_map (λ y. Asked by seen) r)) (eq ∙ ap (ask_of txn) (sym same))) ∙ unasked),
        subst (λ n. command_at v.set.work (command_of a n) ≡ Some (command.Tell to)) back (at ∙ ap Some (sym same)),
      )
      waits_issued (command.NsCreate name) known same = waits_asked ask.Create (eq ∙ ap (ask_of txn) (sym same))
      waits_issued (command.NsRemove name) known same = waits_asked ask.Remove (eq ∙ ap (ask_of txn) (sym same))
      waits_issued (command.NsUse name) known same = (
        omega arith,
        subst (λ n. is_asked (command_of a n) (log ++ cons_option o []) ≡ false) back
            (asked_push by log o (ap (λ r. asks_of by (option_map (λ y. Asked by seen) r)) (eq ∙ ap (ask_of txn) (sym same))) ∙ unasked),
        (name, subst (λ n. command_at v.set.work (command_of a n) ≡ Some (command.NsUse name)) back (at ∙ ap Some (sym same))),
      )
      waits_issued command.Look known same = (
        omega arith,
        still_unasked (eq ∙ ap (ask_of txn) (sym same)),
        subst (λ n. command_at v.set.work (command_of a n) ≡ Some command.Look) back (at ∙ ap Some (sym same)),
      )
      waits_issued (command.ContentStore bytes) known same = waits_asked (ask.Store bytes) (eq ∙ ap (ask_of txn) (sym same))
      waits_issued (command.ContentLoad reference) known same = waits_asked (ask.Load reference) (eq ∙ ap (ask_of txn) (sym same))
      waits_issued command.ContentFlush known same = waits_asked ask.Flush (eq ∙ ap (ask_of txn) (sym same))
      waits_issued command.ContentDrop known same = waits_asked ask.DropClean (eq ∙ ap (ask_of txn) (sym same))
      waits_issued command.Getroot known same = absurd known
      waits_issued command.Shutdown known same = (omega arith, still_unasked (eq ∙ ap (ask_of txn) (sym same)), ask_there command.Shutdown same)
      waits_issued c known same = waits_jobs c refl (λ e. cc) same (eq ∙ ap (ask_of txn) (sym same))

      -- the actor's seat behind the issue
      module _ (next : ℕ) (after : seat.next + 1 ≤ next) (within : next ≤ length v.set.work.lines)
          (passed : (k : ℕ) (l : Line) → seat.next + 1 ≤ k → k < next → (get_or v.set.work.lines k l).actor ≢ a) (here : (l : Line) → next < length v.set.work.lines → (get_or v.set.work.lines next l).actor ≡ a) where
        abbrev issued_seat : Seat
        issued_seat = record { broker = seat.broker; next = next; last = seat.next; issued = seat.issued + 1; waiting = waiting_after cmd seat.staged.ops; staged = record { author = author.User a; ops = ops_after cmd seat.staged.ops }; space = begun_seat.space; subject = begun_seat.subject; floors = seat.floors }

        seat_issued : IsSeat v.set (log ++ cons_option o []) (v.chronicle ++ e ∷ []) a issued_seat
        seat_issued = record {
          home = mine.1.home;
          inside = mine.1.inside;
          author = refl;
          placed = record { within = within; passed = placed_on v.set.work.lines a seat mine.1.placed d is.below next after within passed; here = here };
          opened = λ _. ap (λ n. command_at v.set.work (command_of a n)) (sym back) ∙ at ∙ ap (option_map (λ (line : Line). line.command)) (sym (slice_get-get_or v.set.work.lines seat.next d is.below));
          staged = ap (ops_after cmd) mine.1.staged ∙ sym (staged_on v.set.work a seat.issued cmd at);
          works = space_on v.set.work a seat.issued cmd at ∙ ap (space_after cmd) mine.1.works;
          about = λ _. ap (λ n. subject_at v.set.work (command_of a n)) (sym back) ∙ subject;
          floored = λ space. floor_push v.set.work v.chronicle e a space ∙ mine.1.floored space;
          waits = waits_issued cmd (known_next d) refl;
        }

        replied_before : replied_of issued_seat ≡ seat.issued
        replied_before = ap (λ b. cond b (seat.issued + 1) (seat.issued + 1 - 1)) (busy cmd) ∙ sym back
          where
            busy_room : (b : Bool) → is_free (cond b waiting.Staged waiting.TxnFull) ≡ false
            busy_room true = refl
            busy_room false = refl

            busy_other : (c : Command) → is_free (waits_for c) ≡ false
            busy_other (command.Tell to) = refl
            busy_other (command.NsUse name) = refl
            busy_other command.Look = refl
            busy_other _ = refl

            busy_so : (c : Command) (r : Option Op) → is_free (option_map_or (λ op. room_behind seat.staged.ops) r (waits_for c)) ≡ false
            busy_so c None = busy_other c
            busy_so c (Some op) = busy_room (nat_lt (length seat.staged.ops) most_ops)

            busy : (c : Command) → is_free (waiting_after c seat.staged.ops) ≡ false
            busy c = busy_so c (op_of c)

        actors_so : (b : ℕ) → ActorStands v.set (log ++ cons_option o []) (v.chronicle ++ e ∷ []) b (slice_get (set v.instance.seats a issued_seat) b)
        actors_so b = elim (cases_eq b a) [
          | inl same ↦
              subst (λ n. ActorStands v.set (log ++ cons_option o []) (v.chronicle ++ e ∷ []) n (slice_get (set v.instance.seats a issued_seat) n)) (sym same)
              (subst (ActorStands v.set (log ++ cons_option o []) (v.chronicle ++ e ∷ []) a) (sym (get-set_same v.instance.seats a seat issued_seat is.sits))
              (subst (λ n. Stands (log ++ cons_option o []) (v.chronicle ++ e ∷ []) a (seat.issued + 1) n) (sym replied_before) stands_issued, seat_issued))
          | inr other ↦
              subst (ActorStands v.set (log ++ cons_option o []) (v.chronicle ++ e ∷ []) b) (sym (get-set_other v.instance.seats a b issued_seat other))
              (actor_other v.set log v.chronicle e o b (slice_get v.instance.seats b)
              (record {
                unissued = ne_eqb b a other;
                unreplied = λ k. refl;
                unasked = λ k. own_moment by (command_of b k) seen asked (ap (λ t. t && (k == seat.issued)) (ne_eqb b a other));
              })
              (λ space. floor_push v.set.work v.chronicle e b space)
              (h.actors b))
        ]

        -- the instance behind the issue
        abbrev pub issued_instance : ServicesValue → InstanceValue
        issued_instance services = record { spent = false; seats = set v.instance.seats a issued_seat; services = services }

        moves : MovesOn v.instance.seats v.set.work.lines a seat next
        moves = record { sits = is.sits; below = is.below; own = λ l. mine.1.placed.here l is.below; after = after; passed = passed }

        -- what was issued is counted, and no line ahead any more
        tallied_after : (middle services : ServicesValue) → Keeps v.instance.services middle → CountsIn job middle services → IsTallied (issued_instance services) v.set.work.lines
        tallied_after middle services keeps counts = on job refl counts
          where
            none_counted : CountsNone (asked_in job) → services ≡ middle → IsTallied (issued_instance services) v.set.work.lines
            none_counted none kept =
                tallied_other v.instance v.set.work.lines h.tallied a seat issued_seat moves (issued_instance services) refl d (subst CountsNone jeq none)
                (subst (λ (s : ServicesValue). KeepsCounts v.instance.services.jobs s.jobs) (sym kept) keeps.counts)

            on : (j : Ordered) → job ≡ j → CountsIn j middle services → IsTallied (issued_instance services) v.set.work.lines
            on ordered.Nothing same kept = none_counted (subst CountsNone (sym (ap asked_in same)) (refl, refl)) kept
            on (ordered.Job x) same counted =
                tallied_job v.instance v.set.work.lines h.tallied a seat issued_seat moves (issued_instance services) refl d x (sym jeq ∙ ap asked_in same) (record {
                  submitted = counted.counts.submitted ∙ ap (λ n. n + jobs_asked x) keeps.counts.submitted;
                  span = counted.counts.span ∙ ap (λ n. n + seconds_asked x) keeps.counts.span;
                })
            on ordered.Shutdown same kept = none_counted (subst CountsNone (sym (ap asked_in same)) (refl, refl)) kept

        pub issue_follows_so : (middle services : ServicesValue) → Keeps v.instance.services middle → CountsIn job middle services →
            ((i : Instance) (l : InstanceLog) → AgreesServices v.instance.services i l → IsTheAsk i.service by begun_seat asked → is_asked by (service_of l) ≡ false → AsksAtRest i.service v.instance.services.jobs.manager.core → AgreesServices middle i (l ++ map Served (moment_asked by seen asked))) →
            ((i : Instance) (l : InstanceLog) → AgreesServices middle i l → IsNewOrder i l by seat.broker job → AgreesServices services i (l ++ orders_of by job)) →
            AsksAtRest inst.service v.instance.services.jobs.manager.core → Follows v.set v.chronicle (step.Issue a) (issued_instance services) (e ∷ [])
        issue_follows_so middle services keeps counts asks orders rested = record {
          made = record { command = seat.issued; behind = []; split = refl; others = tt };
          legal = (legal_issue, tt);
          settled = λ told. (told tt, tt);
          agrees = record {
            within = h.within;
            known = h.known;
            few = h.few;
            tallied = tallied_after middle services keeps counts;
            seated = length-set v.instance.seats a issued_seat ∙ h.seated;
            legal = each_push (IsLegalEntry v.set) v.chronicle e h.legal legal_issue;
            early = each_append IsEarlierEntry v.chronicle (e ∷ []) h.early (tt, tt);
            agrees = subst (AgreesServices services inst) (sym log_ordered)
                (orders inst asked_now (asks inst now h.agrees (issue_asks asked eq).0 (issue_asks asked eq).1 rested) new_command);
            actors = λ b. subst (λ l. ActorStands v.set l (v.chronicle ++ e ∷ []) b (slice_get (set v.instance.seats a issued_seat) b)) (sym log_issued) (actors_so b);
          };
        }

-- what the code does at an issue: the seat that it begins, its next line, and what it asks of the service and of the job manager
pub record IsIssued (v : Own) (a : ℕ) (seat begun : Seat) (d : Line) (asked : Option KvsAsk) (job : Ordered) (next : ℕ) (middle services : ServicesValue) : Type 0 where
  pub is : IsIssuing v a seat
  pub eq : asked ≡ ask_of (record { author = author.User a; ops = seat.staged.ops }) (get_or v.set.work.lines seat.next d).command
  pub jeq : asked_in job ≡ job_ask_of (get_or v.set.work.lines seat.next d).command
  pub began : begun ≡ record seat {
    staged = record { author = author.User a; ops = ops_after (get_or v.set.work.lines seat.next d).command seat.staged.ops };
    waiting = waiting_after (get_or v.set.work.lines seat.next d).command seat.staged.ops;
    subject = subject_of (get_or v.set.work.lines seat.next d).command seat.space;
    space = space_after (get_or v.set.work.lines seat.next d).command seat.space;
  }
  pub after : begun.next + 1 ≤ next
  pub within : next ≤ length v.set.work.lines
  pub passed : (k : ℕ) (l : Line) → begun.next + 1 ≤ k → k < next → (get_or v.set.work.lines k l).actor ≢ a
  pub here : (l : Line) → next < length v.set.work.lines → (get_or v.set.work.lines next l).actor ≡ a
  pub keeps : Keeps v.instance.services middle
  pub counts : CountsIn job middle services
  pub asks : (i : Instance) (l : InstanceLog) → AgreesServices v.instance.services i l → IsTheAsk i.service (command_of a seat.issued) begun asked → is_asked (command_of a seat.issued) (service_of l) ≡ false
      → AsksAtRest i.service v.instance.services.jobs.manager.core → AgreesServices middle i (l ++ map Served (moment_asked (command_of a seat.issued) (seat_floor begun) asked))
  pub orders : (i : Instance) (l : InstanceLog) → AgreesServices middle i l → IsNewOrder i l (command_of a seat.issued) begun.broker job → AgreesServices services i (l ++ orders_of (command_of a seat.issued) job)

-- the same, with the seat as the code has it
pub issue_follows : (v : Own) → DoesAgree v → (a : ℕ) (seat begun : Seat) (d : Line) (asked : Option KvsAsk) (job : Ordered) (next : ℕ) (middle services : ServicesValue) → IsIssued v a seat begun d asked job next middle services →
    AsksAtRest (instance_of v.set).service v.instance.services.jobs.manager.core → (es : List Entry) → es ≡ entry.Issued a seat.issued ∷ [] →
    Follows v.set v.chronicle (step.Issue a) (record {
      spent = false;
      services = services;
      seats = set v.instance.seats a (record { broker = begun.broker; next = next; last = begun.next; issued = seat.issued + 1; waiting = begun.waiting; staged = begun.staged; space = begun.space; subject = begun.subject; floors = begun.floors });
    }) es
issue_follows v h a seat begun d asked job next middle services s rested es same =
    let begun_next : begun.next ≡ seat.next = ap (λ x. x.next) s.began in
    let by = command_of a seat.issued in
    let asks_so = subst (λ (b : Seat). (i : Instance) (l : InstanceLog) → AgreesServices v.instance.services i l → IsTheAsk i.service by b asked → is_asked by (service_of l) ≡ false → AsksAtRest i.service v.instance.services.jobs.manager.core → AgreesServices middle i (l ++ map Served (moment_asked by (seat_floor b) asked))) s.began s.asks in
    let orders_so = subst (λ (b : Seat). (i : Instance) (l : InstanceLog) → AgreesServices middle i l → IsNewOrder i l by b.broker job → AgreesServices services i (l ++ orders_of by job)) s.began s.orders in
    let after = subst (λ n. n + 1 ≤ next) begun_next s.after in
    let passed : (k : ℕ) (l : Line) → seat.next + 1 ≤ k → k < next → (get_or v.set.work.lines k l).actor ≢ a = λ k l low. s.passed k l (subst (λ n. n + 1 ≤ k) (sym begun_next) low) in
    let so = issue_follows_so v h a seat s.is d asked s.eq job s.jeq next after s.within passed s.here middle services s.keeps s.counts asks_so orders_so rested in
    subst (λ b. Follows v.set v.chronicle (step.Issue a) (record { spent = false; services = services; seats = set v.instance.seats a (record { broker = b.broker; next = next; last = b.next; issued = seat.issued + 1; waiting = b.waiting; staged = b.staged; space = b.space; subject = b.subject; floors = b.floors }) }) es) (sym s.began)
    (subst (Follows v.set v.chronicle (step.Issue a) (issued_instance v h a seat s.is d asked s.eq job s.jeq next after s.within passed s.here services)) (sym same) so)

-- what the code knows where it begins an issue
pub issuing_at : (v : Own) (lines : List Line) (a : ℕ) (seat : Seat) → v.set.work.lines ≡ lines → can_issue lines v.instance a ≡ true → seat ≡ get_or v.instance.seats a seat → IsIssuing v a seat
issuing_at v lines a seat same can at =
    let can_so = subst (λ ls. can_issue ls v.instance a ≡ true) (sym same) can in
    issuing_so v a seat can_so (slice_get-get_or v.instance.seats a seat (issuer_within v.set.work.lines v.instance a can_so) ∙ ap Some (sym at))

-- so the services may be asked
pub may_ask : (services : ServicesValue) (i : Instance) (l : InstanceLog) → AgreesServices services i l → (b : By) (seat : Seat) (asked : Option KvsAsk) → IsTheAsk i.service b seat asked → is_asked b (service_of l) ≡ false →
    AsksAtRest i.service services.jobs.manager.core → IfSome asked (MayAsk services b seat.broker seat.subject)
may_ask services i l agrees b seat None made fresh rested = tt
may_ask services i l agrees b seat (Some x) made fresh rested = record { inst = i; log = l; agrees = agrees; new = record { asks = made; new = fresh; rested = rested } }

-- and so the command may be issued, if it is one on jobs or on time
pub may_issue : (services : ServicesValue) (i : Instance) (l : InstanceLog) → AgreesServices services i l → (b : By) (broker : ℕ) (job : Ordered) → IsNewOrder i l b broker job → IfAsked job (MayIssue services.jobs b broker)
may_issue services i l agrees b broker ordered.Nothing new = tt
may_issue services i l agrees b broker (ordered.Job x) new = record { inst = i; log = l; agrees = agrees.jobs; new = new }
may_issue services i l agrees b broker ordered.Shutdown new = tt
