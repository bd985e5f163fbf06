use Rattle.std.proofs.Common.{◌≡◌, rules, map, string_bytes}
use Rattle.std.specs.Prelude.{None, Some}
use Rattle.flux_commands.specs.Asked.{run_options}
use Rattle.flux_commands.specs.Drawn.{generation_of}
use Rattle.flux.proofs.Apart.{run_draws_nothing, run_is_undrawn}
use Rattle.flux.proofs.call.flux.Goals as goal

-- the words of a tool aren't a run's, so that the tool's part is all of the output
pub returns-then-is_tool-clause-cut : goal.returns-then-is_tool-clause-cut
returns-then-is_tool-clause-cut g c = λ five.
    let h = c.run_tool.ensures.cut five in
    let none : run_options (map string_bytes c.args.words.now) ≡ None = search rules in
    let undrawn : generation_of (map string_bytes c.args.words.now) ≡ None = search rules in
    (h.0, record { answers = λ o is. cc; summary = λ drawn is. cc; line = λ words. h.1 }, h.2)

-- the words of a run draw nothing and aren't a tool's, so that the run's part is all of the output
pub returns-in-Some-clause-true_run : goal.returns-in-Some-clause-true_run
returns-in-Some-clause-true_run g c = λ zero.
    let h = c.run_workload.ensures.done zero in
    let runs : run_options (map string_bytes c.args.words.now) ≡ Some c.in-Some.options = search rules in
    (h.0, record { answers = search rules; summary = λ drawn is. absurd (run_draws_nothing (map string_bytes c.args.words.now) c.in-Some.options drawn runs is); line = search rules }, h.2)

pub returns-in-Some-clause-cut : goal.returns-in-Some-clause-cut
returns-in-Some-clause-cut g c = λ five.
    let h = c.run_workload.ensures.cut five in
    let runs : run_options (map string_bytes c.args.words.now) ≡ Some c.in-Some.options = search rules in
    (h.0, record { answers = search rules; summary = λ drawn is. absurd (run_draws_nothing (map string_bytes c.args.words.now) c.in-Some.options drawn runs is); line = search rules }, h.2)

pub returns-in-Some-clause-unrefused : goal.returns-in-Some-clause-unrefused
returns-in-Some-clause-unrefused g c = λ drawn.
    let runs : run_options (map string_bytes c.args.words.now) ≡ Some c.in-Some.options = search rules in
    absurd (drawn (run_is_undrawn (map string_bytes c.args.words.now) c.in-Some.options runs))

-- nor are words that draw a workload
pub returns-in-Some-generation_of-clause-cut : goal.returns-in-Some-generation_of-clause-cut
returns-in-Some-generation_of-clause-cut g c = λ five.
    let h = c.run_drawn.ensures.cut five in
    (h.0, search rules, h.2)
