use Rattle.std.proofs.Common.{◌∙◌, ap₂}
use Rattle.clap.specs.Words.{with_rule}
use Rattle.run_options.specs.Command.{run_app}
use Rattle.run_options.proofs.command.command.Goals as goal

pub returns : goal.returns
unfolding run_app
returns c =
    let size = c.in_ok-run.ensures.shape c.valued.ensures.own ∙ ap₂ with_rule c.bare.ensures c.valued.ensures.rule in
    let fanout = c.in_ok-run-2.ensures.shape c.valued-2.ensures.own ∙ ap₂ with_rule size c.valued-2.ensures.rule in
    let hash = c.in_ok-run-3.ensures.shape c.valued-3.ensures.own ∙ ap₂ with_rule fanout c.valued-3.ensures.rule in
    let shuffle = c.in_ok-run-4.ensures.shape c.valued-4.ensures.own ∙ ap₂ with_rule hash c.valued-4.ensures.rule in
    let losses = c.in_ok-run-5.ensures.shape c.valued-5.ensures.own ∙ ap₂ with_rule shuffle c.valued-5.ensures.rule in
    let workers = c.in_ok-run-6.ensures.shape c.valued-6.ensures.own ∙ ap₂ with_rule losses c.valued-6.ensures.rule in
    let journal = c.in_ok-run-7.ensures.shape c.flag.ensures.own ∙ ap₂ with_rule workers c.flag.ensures.rule in
    c.in_ok-run-8.ensures.shape c.flag-2.ensures.own ∙ ap₂ with_rule journal c.flag-2.ensures.rule
