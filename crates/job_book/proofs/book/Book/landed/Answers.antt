use Rattle.std.proofs.Common.{◌≡◌, ◌<◌, length, get_or, sym, ap, ◌∙◌, subst}
use Rattle.std.specs.Prelude.{is_some, option_map}
use Rattle.std.proofs.lemmas.List.{get_or-set_same}
use Rattle.job_book.specs.Active.{AreActive, AreEntriesOf, IsEntryOf, follow_with}
use Rattle.job_deeds.specs.Landing.{job_with}
use Rattle.job_book.specs.Contract.{WasDue, after_event}
use Rattle.job_book.specs.Kept.{IsBook}
use Rattle.job_deeds.specs.Waiting.{IsQueueOf, waits_with}
use Rattle.job_book.proofs.Actives.{active_rise}
use Rattle.job_book.proofs.Landed.{IsRead, read_active, read_after, read_entries, read_hold, read_job, read_jobs, read_land, read_rank}
use Rattle.job_book.proofs.Queues.{queue_after}
use Rattle.job_book.proofs.book.Book.landed.Goals.{After-index}
use Rattle.job_book.proofs.book.Book.landed.Goals as goal

read : (c : After-index) → IsRead (record { grant = c.self.inside.grant; policy = c.self.inside.policy; jobs = c.self.inside.rows.items }) c.self.inside.graph c.args.due.now c.place_in-at.result c.index.result.now
read c = record {
  is = c.self.invariant.0;
  was = subst (λ v. WasDue v c.args.due.now) (sym c.self.view_is) c.requires;
  within = subst (λ js. c.place_in-at.result < length js) c.deref.ensures.value c.place_in-at.ensures.within;
  named = subst (λ js. (get_or js c.place_in-at.result c.index.result.now).id ≡ c.args.due.now.job) c.deref.ensures.value (c.place_in-at.ensures.named c.index.result.now);
  read = c.index.ensures;
}

pub next_of-requires : goal.next_of-requires
next_of-requires c = read_land (read c)

pub hold-requires : goal.hold-requires
hold-requires c = read_hold (read (goal.at.hold-requires c).After-index) c.in_ok-next.next c.in_ok-next.ensures

pub follow-requires : goal.follow-requires
follow-requires c = active_rise c.self.inside.rows.items c.self.inside.active.items c.self.invariant.0.kept.rising c.self.invariant.2

pub invariant_of-self-2 : goal.invariant_of-self-2
invariant_of-self-2 c =
    let r = read (goal.at.invariant_of-self-2 c).After-index in
    let rows = c.self.inside.rows.items in
    let next = c.in_ok-next.next in
    let jobs = c.change_at.ensures c.index.result.now ∙ read_jobs r next c.in_ok-next.ensures in
    let there = c.self.invariant.1 c.args.due.now.job ∙ ap (option_map waits_with) (read_job r) in
    let place = c.place_in-at.result in
    let entry = c.entry_of-entry.result in
    let after : c.index-2.result.now ≡ job_with next c.index.result.now =
    c.index-2.ensures ∙ ap (λ js. get_or js place c.index-2.result.now) (c.change_at.ensures c.index.result.now)
    ∙ get_or-set_same rows place (job_with next (get_or rows place c.index.result.now)) c.index-2.result.now r.within
    ∙ ap (job_with next) (sym c.index.ensures) in
    let its : entry.id ≡ c.index.result.now.id = c.entry_of-entry.ensures.named ∙ ap (λ k. k.id) after in
    let follows = c.follow.ensures ∙ ap (λ over. follow_with entry over c.self.inside.active.items) c.is_over-over.ensures in
    let changes = c.set_priority.ensures.changed (c.set_priority.ensures.found ∙ ap is_some there) in (
      subst (λ js. IsBook (record { grant = c.self.inside.grant; policy = c.self.inside.policy; jobs = js }) c.hold.new.graph) (sym jobs)
          (subst (IsBook (after_event c.args.due.now (record { grant = c.self.inside.grant; policy = c.self.inside.policy; jobs = rows }))) (sym c.in_ok-hold.ensures.held) (read_after r next c.in_ok-next.ensures)),
      subst (λ js. IsQueueOf js c.set_priority.new.self.0) (sym jobs)
          (queue_after c.args.due.now rows c.self.inside.queue.0 c.set_priority.new.self.0 c.index.result.now c.rank.result c.self.invariant.1 (read_job r) (read_rank r next c.in_ok-next.ensures ∙ sym c.rank.ensures) changes),
      subst (λ js. AreActive js c.follow.new.active.items) (sym jobs)
          (read_active r next c.in_ok-next.ensures c.self.inside.active.items c.follow.new.active.items entry c.self.invariant.2 its follows),
      subst (λ js. AreEntriesOf js c.follow.new.active.items) (sym jobs)
          (read_entries r next c.in_ok-next.ensures c.self.inside.active.items c.follow.new.active.items entry c.self.invariant.3 its
          (subst (λ k. IsEntryOf k entry) after c.entry_of-entry.ensures.entry) follows),
    )

pub returns-clause-done : goal.returns-clause-done
returns-clause-done c =
    let r = read (goal.at.returns-clause-done c).After-index in
    ap (λ js. record { grant = c.self.inside.grant; policy = c.self.inside.policy; jobs = js }) (c.change_at.ensures c.index.result.now ∙ read_jobs r c.in_ok-next.next c.in_ok-next.ensures) ∙ ap (after_event c.args.due.now) c.self.view_is
