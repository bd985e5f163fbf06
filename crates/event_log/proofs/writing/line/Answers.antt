use Rattle.std.proofs.Common.{[], ◌∷◌, ◌++◌, ap, ap₂, ◌∙◌}
use Rattle.std.specs.Prelude.{codes}
use Rattle.json.specs.Print.{quoted}
use Rattle.event_log.specs.Events.{context_text}
use Rattle.event_log.specs.Logs.{log_reading}
use Rattle.event_log.proofs.ReadAgain.{line_back}
use Rattle.event_log.proofs.writing.line.Goals as goal

pub returns-clause-text : goal.returns-clause-text
returns-clause-text c =
    let one = c.in_ok-extend_from_slice.ensures.items ∙ ap (λ o. o ++ 123 ∷ []) c.new-out.ensures.items in
    let two = c.in_ok-add_context.ensures ∙ ap (λ o. o ++ context_text c.args.event.now.context) one in
    let three = c.in_ok-extend_from_slice-2.ensures.items ∙ ap (λ o. o ++ codes "\"name\":") two in
    let four = c.in_ok-add_quoted.ensures ∙ ap₂ (λ o t. o ++ quoted t) three c.as_slice.ensures in
    let five = c.in_ok-extend_from_slice-3.ensures.items ∙ ap (λ o. o ++ codes ",\"timestamp\":") four in
    let six = c.in_ok-extend_from_slice-4.ensures.items ∙ ap₂ (λ o t. o ++ t) five (c.as_bytes.ensures.value ∙ c.in_ok-to_string.ensures.ok) in
    c.in_ok-extend_from_slice-5.ensures.items ∙ ap (λ o. o ++ 125 ∷ 10 ∷ []) six

pub returns-clause-reads_back : goal.returns-clause-reads_back
returns-clause-reads_back c = λ event. ap log_reading (returns-clause-text c) ∙ line_back c.args.event.now event
