use Rattle.std.proofs.Common.{◌≡◌, ℕ, ◌++◌, ◌∷◌, [], List, length, sym, ap, ◌∙◌}
use Rattle.std.specs.Prelude.{All}
use Rattle.std.proofs.lemmas.List.{append-nil}
use Rattle.std.proofs.lemmas.List.Concat.{flat_map-append}
use Rattle.std.proofs.lemmas.List.Elements.{All-append, All-from_recursion}
use Rattle.event_log.specs.declared.event.Event.{Event}
use Rattle.event_log.specs.Events.{IsEvent, line_text}
use Rattle.event_log.specs.Logs.{log_text}
use Rattle.job_tests.proofs.watches.watched.Goals as goal
use Rattle.job_tests.proofs.watches.watched.Goals.{then-not-is_empty+in_ok-event+in_ok-text+in_ok-extend_from_slice+in_ok-feed, else-not-is_empty}

-- a log with one more line
valid_next : (events : List Event) (event : Event) → All IsEvent events → IsEvent event → All IsEvent (events ++ event ∷ [])
valid_next events event valid one = All-append IsEvent events (event ∷ []) valid (All-from_recursion IsEvent (event ∷ []) (one, tt))

text_next : (events : List Event) (event : Event) (log text after : List ℕ) → log ≡ log_text events → text ≡ line_text event → after ≡ log ++ text → after ≡ log_text (events ++ event ∷ [])
text_next events event log text after e line is =
    is ∙ ap (λ xs. xs ++ text) e ∙ ap (λ xs. log_text events ++ xs) (line ∙ sym (append-nil (line_text event)))
    ∙ sym (flat_map-append line_text events (event ∷ []))

pub feed-requires-clause-grown : goal.feed-requires-clause-grown
feed-requires-clause-grown g c =
    let kept = c.loop-name.invariant in
    let event = c.in_ok-event.field-0 in
    record {
      events = kept.0;
      more = event ∷ [];
      valid = valid_next kept.0 event kept.1 c.in_ok-event.ensures;
      fed = kept.3;
      is = c.deref.ensures.value ∙ text_next kept.0 event c.loop-name.log.items c.as_slice.result.now c.extend_from_slice.new.self.items kept.2 (c.as_slice.ensures.value ∙ c.in_ok-text.ensures.text) c.in_ok-extend_from_slice.ensures.items;
    }

pub loop-name-preserved : goal.loop-name-preserved
loop-name-preserved g c =
    let kept = c.loop-name.invariant in
    elim c.if-not-is_empty.branch [
      | then-not-is_empty+in_ok-event+in_ok-text+in_ok-extend_from_slice+in_ok-feed w ↦
          let event = w.in_ok-event.field-0 in
          let text : w.extend_from_slice.new.self.items ≡ log_text (kept.0 ++ event ∷ []) = text_next kept.0 event c.loop-name.log.items w.as_slice.result.now w.extend_from_slice.new.self.items kept.2 (w.as_slice.ensures.value ∙ w.in_ok-text.ensures.text) w.in_ok-extend_from_slice.ensures.items in (
            kept.0 ++ event ∷ [],
            valid_next kept.0 event kept.1 w.in_ok-event.ensures,
            ap (λ v. v.items) w.log-is ∙ text,
            ap (λ x. x.fed) w.watcher-is ∙ w.in_ok-feed.ensures.read ∙ ap length (w.deref.ensures.value ∙ text),
          )
      | else-not-is_empty w ↦ (kept.0, kept.1, ap (λ v. v.items) w.log-is ∙ kept.2, ap (λ x. x.fed) w.watcher-is ∙ kept.3)
    ]
