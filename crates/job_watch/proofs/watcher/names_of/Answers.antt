use Rattle.std.proofs.Common.{ℕ, ap, ◌∙◌}
use Rattle.std.specs.Fn.{FnReturnsAt}
use Rattle.event_log.specs.declared.event.Event.{Event}
use Rattle.job_watch.proofs.Shown.{shown_more, where_hidden, where_shown}
use Rattle.job_watch.proofs.watcher.names_of.Goals as goal
use Rattle.job_watch.proofs.watcher.names_of.Goals.{then-answer-eq1+in_ok-copy+in_ok-push, else-answer-eq1}

pub loop-event-preserved : goal.loop-event-preserved
loop-event-preserved g c = shown_more (λ (event : Event) (n : ℕ). FnReturnsAt g.W.Fn c.args.show.now event n) c.args.events.now c.loop-event.event-index c.event-item.result c.answer.result c.loop-event.names.items c.if-answer-eq1.names.items
    c.loop-event-test.true c.event-item.is c.loop-event.invariant c.answer.ensures.said
    (elim c.if-answer-eq1.branch [
      | then-answer-eq1+in_ok-copy+in_ok-push w ↦ ap (λ v. v.items) w.names-is ∙ w.in_ok-push.ensures.items ∙ where_shown c.answer.result c.event-item.result.name w.in_ok-copy.field-0 c.loop-event.names.items w.if-answer-eq1.true w.in_ok-copy.ensures
      | else-answer-eq1 w ↦ ap (λ v. v.items) w.names-is ∙ where_hidden c.answer.result c.event-item.result.name c.loop-event.names.items w.if-answer-eq1.false
    ])
