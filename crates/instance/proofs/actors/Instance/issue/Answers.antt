use Rattle.std.proofs.Common.{◌≡◌, ◌≢◌, ◌∙◌, ℕ, ◌+◌, ◌<◌, ◌≤◌, ap, sym, subst, arith, get_or, length, true}
use Rattle.services.specs.kvs_txn.declared.txn.Author.TheVariants as author
use Rattle.services.specs.workload.declared.work.Line.{Line}
use Rattle.services.specs.answers.Commands.{ask_of}
use Rattle.services.specs.answers.Jobs.{job_ask_of}
use Rattle.instance.specs.declared.seats.Seat.{Seat}
use Rattle.instance.specs.Agrees.{AgreesOwn}
use Rattle.instance.specs.Makes.{IssuesAtRest}
use Rattle.instance.specs.Steps.{can_issue}
use Rattle.instance.specs.View.{value_of}
use Rattle.instance.proofs.Issuing.{issue_follows, issuing_at}
use Rattle.instance.proofs.Owning.{own_of}
use Rattle.instance.proofs.Rested.{core_rests}
use Rattle.instance.proofs.Starting.{begun_in, command_in, start_asks, start_author, start_below, start_broker, start_known, start_next, start_orders, start_room, start_small, start_time, starting}
use Rattle.instance.proofs.actors.Instance.issue.Goals as goal

pub bounds-lines-seat : goal.bounds-lines-seat
bounds-lines-seat c =
    let seat = c.index_mut-seat.result.now in
    let lines = c.args.lines.now in
    let s = starting (value_of c.self.inside) c.args.self.now lines c.args.actor seat c.self.view_is c.requires.lines c.requires.can c.index_mut-seat.ensures.value in
    let below : seat.next + 1 ≤ length lines = start_below (value_of c.self.inside) lines c.args.actor seat s in
    omega (arith, below)

pub begin-requires-clause-known : goal.begin-requires-clause-known
begin-requires-clause-known c =
    let seat = c.index_mut-seat.result.now in
    let lines = c.args.lines.now in
    let s = starting (value_of c.self.inside) c.args.self.now lines c.args.actor seat c.self.view_is c.requires.lines c.requires.can c.index_mut-seat.ensures.value in
    start_known (value_of c.self.inside) lines c.args.actor seat s c.index-lines-seat.result

pub begin-requires-clause-author : goal.begin-requires-clause-author
begin-requires-clause-author c =
    let seat = c.index_mut-seat.result.now in
    let lines = c.args.lines.now in
    let s = starting (value_of c.self.inside) c.args.self.now lines c.args.actor seat c.self.view_is c.requires.lines c.requires.can c.index_mut-seat.ensures.value in
    start_author (value_of c.self.inside) lines c.args.actor seat s

pub ask-requires-clause-within : goal.ask-requires-clause-within
ask-requires-clause-within c =
    let seat = c.index_mut-seat.result.now in
    let lines = c.args.lines.now in
    let s = starting (value_of c.self.inside) c.args.self.now lines c.args.actor seat c.self.view_is c.requires.lines c.requires.can c.index_mut-seat.ensures.value in
    subst (λ (b : Seat). b.broker < c.self.inside.services.size) (sym c.in_ok-asked.ensures.seat) (start_broker (value_of c.self.inside) lines c.args.actor seat s)

pub overflow_add-seat : goal.overflow_add-seat
overflow_add-seat c =
    let seat = c.index_mut-seat.result.now in
    let lines = c.args.lines.now in
    let s = starting (value_of c.self.inside) c.args.self.now lines c.args.actor seat c.self.view_is c.requires.lines c.requires.can c.index_mut-seat.ensures.value in
    let small : seat.issued + 1 ≤ 10000 = start_small (value_of c.self.inside) lines c.args.actor seat s in
    omega arith

pub overflow_add-seat-2 : goal.overflow_add-seat-2
overflow_add-seat-2 c =
    let seat = c.index_mut-seat.result.now in
    let lines = c.args.lines.now in
    let s = starting (value_of c.self.inside) c.args.self.now lines c.args.actor seat c.self.view_is c.requires.lines c.requires.can c.index_mut-seat.ensures.value in
    let small : c.begin.new.seat.next + 1 ≤ 10000 = subst (λ s. s.next + 1 ≤ 10000) (sym c.in_ok-asked.ensures.seat) (start_next (value_of c.self.inside) lines c.args.actor seat s) in
    omega arith

pub next_line-seat-requires : goal.next_line-seat-requires
next_line-seat-requires c =
    let seat = c.index_mut-seat.result.now in
    let lines = c.args.lines.now in
    let s = starting (value_of c.self.inside) c.args.self.now lines c.args.actor seat c.self.view_is c.requires.lines c.requires.can c.index_mut-seat.ensures.value in
    subst (λ s. s.next + 1 ≤ length lines) (sym c.in_ok-asked.ensures.seat) (start_below (value_of c.self.inside) lines c.args.actor seat s)

pub ask-requires-clause-may : goal.ask-requires-clause-may
ask-requires-clause-may c =
    let seat = c.index_mut-seat.result.now in
    let lines = c.args.lines.now in
    let s = starting (value_of c.self.inside) c.args.self.now lines c.args.actor seat c.self.view_is c.requires.lines c.requires.can c.index_mut-seat.ensures.value in
    start_asks (value_of c.self.inside) lines c.args.actor seat s c.index-lines-seat.result c.begin.new.seat c.in_ok-asked.ensures.seat c.in_ok-asked.asked c.in_ok-asked.ensures.asked

pub order-requires-clause-may : goal.order-requires-clause-may
order-requires-clause-may c =
    let seat = c.index_mut-seat.result.now in
    let lines = c.args.lines.now in
    let s = starting (value_of c.self.inside) c.args.self.now lines c.args.actor seat c.self.view_is c.requires.lines c.requires.can c.index_mut-seat.ensures.value in
    start_orders (value_of c.self.inside) lines c.args.actor seat s c.index-lines-seat.result c.begin.new.seat c.in_ok-asked.ensures.seat c.in_ok-asked.asked c.in_ok-asked.ensures.asked
    c.in_ok-order_of.field-0 c.in_ok-order_of.ensures c.ask.new.services c.in_ok-ask.ensures.keeps c.in_ok-ask.ensures.agrees

pub order-requires-clause-room : goal.order-requires-clause-room
order-requires-clause-room c =
    let seat = c.index_mut-seat.result.now in
    let lines = c.args.lines.now in
    let s = starting (value_of c.self.inside) c.args.self.now lines c.args.actor seat c.self.view_is c.requires.lines c.requires.can c.index_mut-seat.ensures.value in
    start_room (value_of c.self.inside) lines c.args.actor seat s c.index-lines-seat.result c.begin.new.seat c.in_ok-asked.ensures.seat c.in_ok-asked.asked c.in_ok-asked.ensures.asked
    c.in_ok-order_of.field-0 c.in_ok-order_of.ensures c.ask.new.services c.in_ok-ask.ensures.keeps c.in_ok-ask.ensures.agrees

pub order-requires-clause-time : goal.order-requires-clause-time
order-requires-clause-time c =
    let seat = c.index_mut-seat.result.now in
    let lines = c.args.lines.now in
    let s = starting (value_of c.self.inside) c.args.self.now lines c.args.actor seat c.self.view_is c.requires.lines c.requires.can c.index_mut-seat.ensures.value in
    start_time (value_of c.self.inside) lines c.args.actor seat s c.index-lines-seat.result c.begin.new.seat c.in_ok-asked.ensures.seat c.in_ok-asked.asked c.in_ok-asked.ensures.asked
    c.in_ok-order_of.field-0 c.in_ok-order_of.ensures c.ask.new.services c.in_ok-ask.ensures.keeps c.in_ok-ask.ensures.agrees

pub returns-clause-makes : goal.returns-clause-makes
returns-clause-makes c = λ set own agrees same rest.
    let w = value_of c.self.inside in
    let v = own_of w set own in
    let h = subst (λ x. AgreesOwn x set own) (sym c.self.view_is) agrees in
    let a = c.args.actor in
    let seat = c.index_mut-seat.result.now in
    let is = issuing_at v c.args.lines.now a seat same (subst (λ x. can_issue c.args.lines.now x a ≡ true) (sym c.self.view_is) c.requires.can) c.index_mut-seat.ensures.value in
    let line = c.index-lines-seat.result in
    let lines = sym same in
    let next = c.next_line-seat.result in
    issue_follows v h a seat c.begin.new.seat line c.in_ok-asked.asked c.in_ok-order_of.field-0 next c.ask.new.services c.order.new.services
    (record {
      is = is;
      eq = c.in_ok-asked.ensures.asked ∙ ap (λ ls. ask_of (record { author = author.User a; ops = seat.staged.ops }) (command_in ls seat line)) lines;
      jeq = c.in_ok-order_of.ensures ∙ ap (λ ls. job_ask_of (command_in ls seat line)) lines;
      began = c.in_ok-asked.ensures.seat ∙ ap (λ ls. begun_in ls a seat line) lines;
      after = c.next_line-seat.ensures.within.0;
      within = subst (λ ls. next ≤ length ls) lines c.next_line-seat.ensures.within.1;
      passed = subst (λ ls. (k : ℕ) (l : Line) → c.begin.new.seat.next + 1 ≤ k → k < next → (get_or ls k l).actor ≢ a) lines c.next_line-seat.ensures.passed;
      here = subst (λ ls. (l : Line) → next < length ls → (get_or ls next l).actor ≡ a) lines c.next_line-seat.ensures.here;
      keeps = c.in_ok-ask.ensures.keeps;
      counts = c.in_ok-order.ensures.counts;
      asks = c.in_ok-ask.ensures.agrees;
      orders = c.in_ok-order.ensures.agrees;
    })
    (core_rests v h (subst (IssuesAtRest set) (sym c.self.view_is) rest))
    c.in_ok-made.made c.in_ok-made.ensures

pub order_of-requires : goal.order_of-requires
order_of-requires c =
    let seat = c.index_mut-seat.result.now in
    let lines = c.args.lines.now in
    let s = starting (value_of c.self.inside) c.args.self.now lines c.args.actor seat c.self.view_is c.requires.lines c.requires.can c.index_mut-seat.ensures.value in
    start_known (value_of c.self.inside) lines c.args.actor seat s c.index-lines-seat.result
