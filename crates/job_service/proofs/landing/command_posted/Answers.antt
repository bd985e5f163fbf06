use Rattle.std.proofs.Common.{◌∙◌, sym, ap}
use Rattle.std.specs.Option.{option_copied}
use Rattle.std.specs.Prelude.{slice_get}
use Rattle.job_service.proofs.Landed.{first_found, none_found}
use Rattle.job_service.proofs.landing.command_posted.Goals as goal

pub returns-in-Some : goal.returns-in-Some
returns-in-Some c =
    let first = first_found c.as_slice-event-items.result.now c.args.events.now c.loop-event.invariant.0 c.loop-event.event-index c.event-item.result c.in-Some.group.now c.loop-event-test.true c.event-item.is c.loop-event.invariant.1 (sym c.post_in.ensures ∙ ap option_copied c.in-Some.is) in
    c.copied.ensures ∙ c.first.ensures.value ∙ ap (λ l. slice_get l 0) c.as_slice.ensures ∙ sym first

pub loop-event-preserved : goal.loop-event-preserved
loop-event-preserved c = (
  c.loop-event.invariant.0,
  none_found c.as_slice-event-items.result.now c.args.events.now c.loop-event.invariant.0 c.loop-event.event-index c.event-item.result c.loop-event-test.true c.event-item.is c.loop-event.invariant.1 (sym c.post_in.ensures ∙ ap option_copied c.in_default.is),
)
