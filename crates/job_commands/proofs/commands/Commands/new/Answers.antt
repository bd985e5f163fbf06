use Rattle.std.proofs.Common.{◌≡◌, map, ap, ◌∙◌, arith}
use Rattle.std.specs.Prelude.{slice_index}
use Rattle.job_commands.specs.Rows.{mark_at, unmarked}
use Rattle.job_commands.specs.declared.tally.Tally.{Tally}
use Rattle.job_commands.proofs.Steps.{new_agrees}
use Rattle.job_commands.proofs.Tallies.{read_unset}
use Rattle.job_commands.proofs.commands.Commands.new.Goals as goal

abbrev unissued : Tally
unissued = record { issued = 0; mark = unmarked }

pub returns-clause-agrees : goal.returns-clause-agrees
returns-clause-agrees c = λ inst.
    new_agrees _ inst c.new.ensures c.new-2.ensures.items c.new-3.ensures.items
    (λ k. ap (λ l. slice_index (map (λ (t : Tally). t.issued) l) k) c.in_ok-unissued.ensures ∙ read_unset (λ (t : Tally). t.issued) c.args.size unissued k)
    (λ k. ap (λ l. mark_at (map (λ (t : Tally). t.mark) l) k) c.in_ok-unissued.ensures ∙ read_unset (λ (t : Tally). t.mark) c.args.size unissued k)

pub returns-clause-marked : goal.returns-clause-marked
returns-clause-marked c = λ now rank.
    let none : (mark_at (map (λ (t : Tally). t.mark) c.in_ok-unissued.field-0.items) rank).second ≡ 0 =
    ap (λ l. (mark_at (map (λ (t : Tally). t.mark) l) rank).second) c.in_ok-unissued.ensures ∙ ap (λ m. m.second) (read_unset (λ (t : Tally). t.mark) c.args.size unissued rank) in
    omega (arith, none)
