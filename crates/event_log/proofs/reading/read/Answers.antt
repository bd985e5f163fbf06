use Rattle.std.proofs.Common.{◌≡◌, ◌+◌, ◌-◌, ◌<◌, ◌≤◌, ◌++◌, ◌∷◌, [], length, take, drop, sym, ap, ◌∙◌, subst, arith, length-drop}
use Rattle.std.proofs.lemmas.Bool.Decides.{nat_tests}
use Rattle.outcomes.specs.Outcomes.{Fails}
use Rattle.event_log.specs.Events.{◌>>=◌, IsEvent}
use Rattle.event_log.specs.Logs.{events_from, log_reading, lasting}
use Rattle.std.specs.List.{All}
use Rattle.std.proofs.lemmas.List.Elements.{All-nil, All-push}
use Rattle.event_log.proofs.Lines.{parts, first_len, with_front, with_later, front_none, is_reading, rest_is, log_fails, fault_gives, all_behind}
use Rattle.event_log.proofs.reading.read.Goals as goal

pub lines-init : goal.lines-init
lines-init c = record {
  within = omega arith;
  told = ap (λ es. with_front es (events_from 1 (parts c.args.text.now))) c.new-events.ensures.items ∙ front_none (events_from 1 (parts c.args.text.now)) ∙ is_reading c.args.text.now;
  valid = subst (λ es. All IsEvent es) (sym c.new-events.ensures.items) (All-nil IsEvent);
}

pub returns-in_err-event-clause-log : goal.returns-in_err-event-clause-log
returns-in_err-event-clause-log c =
    let rest = c.lines.rest.now in
    let some : 0 < length rest = grind (arith, nat_tests) in
    let first = c.split_at.result.0.now in
    let behind = c.split_at.result.1.now in
    let front : first ≡ take (first_len rest) rest = c.split_at.ensures.front ∙ ap (λ n. take n rest) c.line_len.ensures.value in
    let back : behind ≡ drop (first_len rest) rest = c.split_at.ensures.back ∙ ap (λ n. drop n rest) c.line_len.ensures.value in
    let is = sym c.lines.invariant.told ∙ rest_is c.lines.events.items (c.lines.line + 1) rest first behind some front back in
    let failed : Fails lasting c.in_err-event.field-0.0 (log_reading c.args.text.now) = log_fails _ _ (with_later c.lines.events.items (c.lines.line + 1) behind) _ is c.in_err-event.ensures.event in
    fault_gives (λ v. v.items) c.from_residual.result c.in_err-event.field-0.0 (log_reading c.args.text.now) c.from_residual.ensures.1 failed

pub lines-preserved : goal.lines-preserved
lines-preserved c =
    let rest = c.lines.rest.now in
    let some : 0 < length rest = grind (arith, nat_tests) in
    let first = c.split_at.result.0.now in
    let behind = c.split_at.result.1.now in
    let front : first ≡ take (first_len rest) rest = c.split_at.ensures.front ∙ ap (λ n. take n rest) c.line_len.ensures.value in
    let back : behind ≡ drop (first_len rest) rest = c.split_at.ensures.back ∙ ap (λ n. drop n rest) c.line_len.ensures.value in
    let left : take (length behind - 1) (drop 1 behind) ≡ drop 1 behind = all_behind behind in
    let short : length (take (length behind - 1) (drop 1 behind)) ≡ length (drop 1 behind) = ap length left in
    let within : c.lines.line + length rest ≤ length c.args.text.now = c.lines.invariant.within in
    let cut : length behind + c.line_len.result ≡ length rest = c.split_at.ensures.back_len in
    let later = with_later c.lines.events.items (c.lines.line + 1) behind in
    record {
      within = omega (arith, c.in_ok-event.ensures.newline, length-drop 1 behind);
      told = ap (λ es. with_front es (events_from (c.lines.line + 1 + 1) (parts (take (length behind - 1) (drop 1 behind))))) c.in_ok-push.ensures.items
          ∙ ap (λ t. with_front (c.lines.events.items ++ c.in_ok-event.event ∷ []) (events_from (c.lines.line + 1 + 1) (parts t))) left
          ∙ sym (ap (λ found. found >>= later) c.in_ok-event.ensures.event)
          ∙ sym (rest_is c.lines.events.items (c.lines.line + 1) rest first behind some front back)
          ∙ c.lines.invariant.told;
      valid = subst (λ es. All IsEvent es) (sym c.in_ok-push.ensures.items) (All-push IsEvent c.lines.events.items c.in_ok-event.event c.lines.invariant.valid c.in_ok-event.ensures.valid);
    }
