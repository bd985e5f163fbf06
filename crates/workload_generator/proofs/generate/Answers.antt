use Rattle.std.proofs.Common.{◌≡◌, ap, sym, ◌∙◌, arith}
use Rattle.std.proofs.lemmas.List.{append-nil}
use Rattle.workload_generator.specs.Drawn.{behind_three, drawn}
use Rattle.workload_generator.specs.Texts.{actor_lines}
use Rattle.workload_generator.proofs.Counted.{behind_more, behind_none, submissions_few, submissions_next, submissions_none, text_more, words_are_drawn}
use Rattle.workload_generator.proofs.generate.Goals as goal
use Rattle.workload_generator.proofs.generate.Goals.{then-is_submission, else-is_submission}

pub loop-place-init : goal.loop-place-init
loop-place-init c = record {
  written = c.in_ok-text.ensures ∙ sym (append-nil (actor_lines 8));
  drawn = c.new-draws.ensures ∙ sym (behind_none c.args.seed);
  counted = sym (submissions_none c.args.seed);
}

pub loop-place-preserved : goal.loop-place-preserved
loop-place-preserved c =
    let seed = c.args.seed in
    let place = c.loop-place.place in
    let words_are : c.next-drawn.result ≡ drawn seed place
    = words_are_drawn seed place _ _ c.loop-place.invariant.drawn c.next-drawn.ensures.drawn in
    let counts = submissions_next seed place c.next-drawn.result c.is_submission.result words_are c.is_submission.ensures in
    record {
      written = text_more seed place _ _ _ c.next-drawn.result c.kind.result c.loop-place.invariant.written c.loop-place.invariant.counted
          words_are c.kind.ensures c.in_ok-add_command.ensures;
      drawn = c.next-drawn.ensures.behind ∙ ap behind_three c.loop-place.invariant.drawn ∙ behind_more seed place;
      counted = elim c.if-is_submission.branch [
        | then-is_submission w ↦ grind (arith, w.submissions-is, w.if-is_submission, counts, c.loop-place.invariant.counted)
        | else-is_submission w ↦ grind (arith, w.submissions-is, w.if-is_submission, counts, c.loop-place.invariant.counted)
      ];
    }

pub overflow_add-submissions : goal.overflow_add-submissions
overflow_add-submissions c = omega (arith, c.loop-place.invariant.counted, submissions_few c.args.seed c.loop-place.place)
