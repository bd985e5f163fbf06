use Rattle.std.proofs.Common.{rules}
use Rattle.flux.proofs.call.run_drawn.Goals as goal

pub returns-clause-done : goal.returns-clause-done
returns-clause-done g c = λ zero.
    let played = c.in-Ok-play_drawn.ensures in (
      c.in-Ok-play_drawn.field-0.text.items,
      record {
        work = c.in-Ok.work;
        drawn = c.in-Ok.ensures.work;
        answers = played.run.0;
        ran = record { promises = played.promises; true_run = played.run.1; stretches = played.stretches; losses = played.losses };
        summary = played.summary;
      },
      search rules,
    )

pub returns-clause-cut : goal.returns-clause-cut
returns-clause-cut g c = λ five.
    let played = c.in-Ok-play_drawn.ensures in (
      c.in-Ok-play_drawn.field-0.text.items,
      record {
        work = c.in-Ok.work;
        drawn = c.in-Ok.ensures.work;
        answers = played.run.0;
        ran = record { promises = played.promises; true_run = played.run.1; stretches = played.stretches; losses = played.losses };
        summary = played.summary;
      },
      search rules,
    )
