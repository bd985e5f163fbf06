-- What the code knows where it issues a command.
use Rattle.std.proofs.Common.{◌≡◌, ℕ, ◌+◌, ◌<◌, ◌≤◌, List, ◌++◌, length, map, true, false, Option, Some, get_or, sym, ap, ◌∙◌, subst, arith}
use Rattle.std.specs.Prelude.{IfSome}
use Rattle.services.specs.kvs_txn.declared.txn.Author.TheVariants as author
use Rattle.services.specs.kvs_rules.declared.events.KvsAsk.{KvsAsk}
use Rattle.services.specs.kvs_rules.Log.{is_asked}
use Rattle.services.specs.instance_rules.Desks.{is_submission}
use Rattle.services.specs.instance_rules.Log.{Instance, Log, Served, service_of}
use Rattle.services.specs.job_commands.Asks.{told}
use Rattle.services.specs.job_service.Agrees.{HasRoom, MayIssue}
use Rattle.services.specs.job_service.Times.{HasTime}
use Rattle.services.specs.Agrees.{AgreesServices}
use Rattle.services.specs.Asks.{Keeps, MayAsk}
use Rattle.services.specs.kvs_core.Requests.{AsksAtRest}
use Rattle.services.specs.Value.{ServicesValue}
use Rattle.services.specs.workload.declared.work.Command.{Command}
use Rattle.services.specs.workload.declared.work.Line.{Line}
use Rattle.services.specs.workload.Laws.{IsBuilt}
use Rattle.services.specs.answers.declared.chronicle.Entry.{Entry}
use Rattle.services.specs.answers.Chronicle.{Setup}
use Rattle.services.specs.answers.Commands.{ask_of, subject_of}
use Rattle.services.specs.answers.Jobs.{instance_of, job_ask_of, log_in}
use Rattle.instance.specs.declared.seats.Seat.{Seat}
use Rattle.instance.specs.declared.jobs.Ordered.{Ordered}
use Rattle.instance.specs.Jobs.{IfAsked, asked_in}
use Rattle.instance.specs.Agrees.{AgreesOwn, command_of}
use Rattle.instance.specs.Makes.{IssuesAtRest, MayIssueOf}
use Rattle.instance.specs.Seats.{IsTheAsk, moment_asked, ops_after, seat_floor, space_after, waiting_after}
use Rattle.instance.specs.Steps.{can_issue}
use Rattle.instance.specs.Value.{InstanceValue}
use Rattle.instance.proofs.Issuing.{IsIssuing, asked_now, begun_seat, issue_asks, issued_small, issuer, issuer_broker, issuing_at, known_next, may_ask, may_issue, new_command, next_small, room_so, time_so}
use Rattle.instance.proofs.Owning.{Own, DoesAgree, own_of}
use Rattle.instance.proofs.Rested.{core_rests}

-- the actor's command and its seat once that has begun
abbrev pub command_in : List Line → Seat → Line → Command
command_in lines seat d = (get_or lines seat.next d).command

abbrev pub begun_in : List Line → ℕ → Seat → Line → Seat
begun_in lines a seat d = record seat {
  staged = record { author = author.User a; ops = ops_after (command_in lines seat d) seat.staged.ops };
  waiting = waiting_after (command_in lines seat d) seat.staged.ops;
  subject = subject_of (command_in lines seat d) seat.space;
  space = space_after (command_in lines seat d) seat.space;
}

-- some chronicle agrees, and the actor at this seat can be issued its next command
pub record IsStarting (w : InstanceValue) (lines : List Line) (a : ℕ) (seat : Seat) : Type 0 where
  pub set : Setup
  pub own : List Entry
  pub agrees : DoesAgree (own_of w set own)
  pub same : set.work.lines ≡ lines
  pub is : IsIssuing (own_of w set own) a seat
  pub rested : AsksAtRest (instance_of set).service w.services.jobs.manager.core

pub starting : (w self : InstanceValue) (lines : List Line) (a : ℕ) (seat : Seat) → w ≡ self → MayIssueOf self lines → can_issue lines self a ≡ true → seat ≡ get_or w.seats a seat → IsStarting w lines a seat
starting w self lines a seat view (set, own, agrees, same, rest) can at = record {
  set = set;
  own = own;
  agrees = subst (λ x. AgreesOwn x set own) (sym view) agrees;
  same = same;
  is = issuing_at (own_of w set own) lines a seat same (subst (λ x. can_issue lines x a ≡ true) (sym view) can) at;
  rested = core_rests (own_of w set own) (subst (λ x. AgreesOwn x set own) (sym view) agrees) (subst (IssuesAtRest set) (sym view) rest);
}

module _ (w : InstanceValue) (lines : List Line) (a : ℕ) (seat : Seat) (s : IsStarting w lines a seat) where
  abbrev v : Own
  v = own_of w s.set s.own

  pub start_small : seat.issued + 1 ≤ 10000
  start_small = issued_small v s.agrees a seat s.is

  pub start_next : seat.next + 1 ≤ 10000
  start_next = next_small v s.agrees a seat s.is

  pub start_below : seat.next + 1 ≤ length lines
  start_below = subst (λ ls. seat.next + 1 ≤ length ls) s.same (let below = s.is.below in omega arith)

  pub start_author : seat.staged.author ≡ author.User a
  start_author = issuer v s.agrees a seat s.is

  pub start_broker : seat.broker < w.services.size
  start_broker = issuer_broker v s.agrees a seat s.is

  module _ (d : Line) where
    pub start_known : IsBuilt (command_in lines seat d)
    start_known = subst (λ ls. IsBuilt (command_in ls seat d)) s.same (known_next v s.agrees a seat s.is d)

    -- what is asked of the service
    module _ (begun : Seat) (began : begun ≡ begun_in lines a seat d) (asked : Option KvsAsk) (eq : asked ≡ ask_of (record { author = author.User a; ops = seat.staged.ops }) (command_in lines seat d)) where
      asked_so : asked ≡ ask_of (record { author = author.User a; ops = seat.staged.ops }) (command_in s.set.work.lines seat d)
      asked_so = eq ∙ ap (λ ls. ask_of (record { author = author.User a; ops = seat.staged.ops }) (command_in ls seat d)) (sym s.same)

      begun_so : begun ≡ begun_seat v s.agrees a seat s.is d
      begun_so = began ∙ ap (λ ls. begun_in ls a seat d) (sym s.same)

      the_ask : IsTheAsk (instance_of s.set).service (command_of a seat.issued) begun asked × (is_asked (command_of a seat.issued) (service_of (log_in s.set.work s.own)) ≡ false)
      the_ask =
          let asks = issue_asks v s.agrees a seat s.is d asked asked_so in
          (subst (λ b. IsTheAsk (instance_of s.set).service (command_of a seat.issued) b asked) (sym begun_so) asks.0, asks.1)

      pub start_asks : IfSome asked (MayAsk w.services (command_of a seat.issued) begun.broker begun.subject)
      start_asks = may_ask w.services (instance_of s.set) (log_in s.set.work s.own) s.agrees.agrees (command_of a seat.issued) begun asked the_ask.0 the_ask.1 s.rested

      -- what is asked of the job manager and of time
      module _ (job : Ordered) (jeq : asked_in job ≡ job_ask_of (command_in lines seat d)) (middle : ServicesValue) (keeps : Keeps w.services middle)
          (asks : (i : Instance) (l : Log) → AgreesServices w.services i l → IsTheAsk i.service (command_of a seat.issued) begun asked → is_asked (command_of a seat.issued) (service_of l) ≡ false
          → AsksAtRest i.service w.services.jobs.manager.core → AgreesServices middle i (l ++ map Served (moment_asked (command_of a seat.issued) (seat_floor begun) asked))) where
        job_so : asked_in job ≡ job_ask_of (command_in s.set.work.lines seat d)
        job_so = jeq ∙ ap (λ ls. job_ask_of (command_in ls seat d)) (sym s.same)

        agrees_then : AgreesServices middle (instance_of s.set) (asked_now v s.agrees a seat s.is d asked asked_so job job_so)
        agrees_then = subst (λ b. AgreesServices middle (instance_of s.set) (log_in s.set.work s.own ++ map Served (moment_asked (command_of a seat.issued) (seat_floor b) asked))) begun_so
            (asks (instance_of s.set) (log_in s.set.work s.own) s.agrees.agrees the_ask.0 the_ask.1 s.rested)

        pub start_orders : IfAsked job (MayIssue middle.jobs (command_of a seat.issued) begun.broker)
        start_orders = subst (λ b. IfAsked job (MayIssue middle.jobs (command_of a seat.issued) b)) (sym (ap (λ (x : Seat). x.broker) begun_so))
            (may_issue middle (instance_of s.set) (asked_now v s.agrees a seat s.is d asked asked_so job job_so) agrees_then (command_of a seat.issued) seat.broker job
            (new_command v s.agrees a seat s.is d asked asked_so job job_so))

        pub start_room : IfAsked job (λ x. is_submission (Some (told x)) ≡ true → HasRoom middle.jobs)
        start_room = room_so v s.agrees a seat s.is d asked asked_so job job_so middle keeps

        pub start_time : IfAsked job (HasTime middle.jobs)
        start_time = time_so v s.agrees a seat s.is d asked asked_so job job_so middle keeps
