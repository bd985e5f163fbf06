use Rattle.std.proofs.Common.{rules}
use Rattle.job_commands.proofs.Submitting.{of_ok}
use Rattle.job_service.proofs.Calls.{of_finds}
use Rattle.job_service.proofs.due.event_due.Goals as goal

pub returns : goal.returns
returns c = of_ok c.due.result
    (λ found h. of_finds c.args.terms c.args.commands.now c.args.book.now c.args.now c.in_ok-asked.asked _ (λ ask n said. search rules) c.in_ok-asked.ensures.list found h) c.due.ensures
