use Rattle.std.proofs.Common.{◌≡◌, ◌∙◌, ap, sym, true, false, arith}
use Rattle.std.specs.Prelude.{nat_lt, codes}
use Rattle.std.proofs.lemmas.Bool.Decides.{nat_tests}
use Rattle.outcomes.specs.Outcomes.{first_of}
use Rattle.workload.specs.Limits.{most_line}
use Rattle.workload_reader.specs.Lines.{TextLine}
use Rattle.workload.specs.Words.{first_word}
use Rattle.std.specs.Str.{bytes_eq}
use Rattle.workload_reader.specs.Reading.{actor_faults, begins_with, is_passed_over, with_actor}
use Rattle.workload_reader.proofs.LineLemmas.{Reads-along, actor_line, actor_value}
use Rattle.workload_reader.proofs.reader.add_line.Goals as goal

pub returns-then-eq-clause-read : goal.returns-then-eq-clause-read
returns-then-eq-clause-read c =
    let line = c.args.line.now in
    let here : TextLine = record { bytes = c.args.bytes; text = line } in
    let short : nat_lt most_line c.args.bytes ≡ false = grind (arith, nat_tests) in
    let word : is_passed_over (first_word line) ≡ false = ap is_passed_over (sym c.cut.ensures.word) ∙ sym c.passes_over.ensures ∙ c.if-passes_over.false in
    let actor : begins_with (codes "actor") line ≡ true = ap (λ w. bytes_eq w (codes "actor")) (sym c.cut.ensures.word) ∙ sym c.eq.ensures ∙ c.if-eq.true in
    Reads-along _ _ _ _ c.add_actor.result
    (ap (λ t. first_of (actor_faults c.args.size c.args.work.now.actors c.args.number t)) c.cut.ensures.behind ∙ actor_line c.args.size c.args.work.now c.args.number here short word actor)
    (λ _ h. h ∙ ap (with_actor c.args.work.now) c.cut.ensures.behind ∙ actor_value c.args.work.now here word actor) c.add_actor.ensures.read
