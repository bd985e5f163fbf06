-- What is new in a log that has grown.
use Rattle.std.proofs.Common.{◌≡◌, ℕ, ◌≤◌, List, [], ◌∷◌, ◌++◌, length, length-drop, take, drop, ◌-◌, ap, ◌∙◌, arith}
use Rattle.std.specs.Prelude.{All}
use Rattle.std.specs.List.{AllByRecursion as Each}
use Rattle.std.proofs.Math.Seq.{drop-append_seam}
use Rattle.std.proofs.lemmas.List.{take_all}
use Rattle.std.proofs.lemmas.List.Concat.{flat_map-append}
use Rattle.std.proofs.lemmas.List.Elements.{All-from_recursion, recursion_from_All}
use Rattle.event_log.specs.declared.event.Event.{Event}
use Rattle.event_log.specs.Events.{IsEvent, line_text}
use Rattle.event_log.specs.Logs.{log_text}

-- the events behind others are events
pub valid_more : (events more : List Event) → All IsEvent (events ++ more) → All IsEvent more
valid_more events more valid = All-from_recursion IsEvent more (rest events (recursion_from_All IsEvent (events ++ more) valid))
  where
    rest : (xs : List Event) → Each IsEvent (xs ++ more) → Each IsEvent more
    rest [] e = e
    rest (x ∷ xs) e = rest xs e.1

-- the text behind the events that were fed is that of the new ones
pub text_more : (fed : ℕ) (log : List ℕ) (events more : List Event) → fed ≡ length (log_text events) → log ≡ log_text (events ++ more) → drop fed log ≡ log_text more
text_more fed log events more e is =
    ap (λ n. drop n log) e ∙ ap (drop (length (log_text events))) (is ∙ flat_map-append line_text events more)
    ∙ drop-append_seam (log_text events) (log_text more)

pub text_behind : (fed : ℕ) (log : List ℕ) (events more : List Event) → fed ≡ length (log_text events) → log ≡ log_text (events ++ more) → take (length log - fed) (drop fed log) ≡ log_text more
text_behind fed log events more e is =
    let whole : length (drop fed log) ≤ length log - fed = omega (arith, length-drop fed log) in
    take_all (length log - fed) (drop fed log) whole ∙ text_more fed log events more e is
