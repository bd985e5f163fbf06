use Rattle.std.proofs.Common.{◌∙◌, ℕ, List, Some, ap, ap₂}
use Rattle.serde_json.specs.Written.{compact_text, has_float}
use Rattle.event_log.specs.declared.event.Event.{Event}
use Rattle.job_submissions.proofs.Described.{no_floats}
use Rattle.job_submissions.proofs.events.submit_event.Goals as goal

pub returns : goal.returns
returns c =
    ap₂ (λ (name text : List ℕ). (let made : Event = record { timestamp = c.args.now; name = name; context = Some text } in made)) c.in_ok-of.ensures
    (c.from_vec.ensures ∙ c.in_ok-text.ensures.compact (ap has_float c.in_ok-context.ensures ∙ no_floats c.args.needs.now c.args.urgency c.args.userid) ∙ ap compact_text c.in_ok-context.ensures)
