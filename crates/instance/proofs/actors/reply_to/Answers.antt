use Rattle.std.proofs.Common.{rules, sym, ap, subst}
use Rattle.instance.specs.declared.actors.Given.{Given}
use Rattle.instance.specs.Replies.{IsGiven}
use Rattle.instance.proofs.actors.reply_to.Goals as goal
use Rattle.instance.proofs.actors.reply_to.Goals.{in-Staged, in-TxnFull, in-Using, in-Shutdown, in-Service, in-Jobs+in_ok-told-in-Jobs}

pub returns-clause-given : goal.returns-clause-given
returns-clause-given c =
    let v = c.args.services.now in
    let by = c.args.by in
    let given = c.match-waiting.result in
    elim c.match-waiting.branch [
      | in-Staged w ↦ search rules
      | in-TxnFull w ↦ search rules
      | in-Using w ↦ search rules
      | in-Shutdown w ↦
          subst (λ waiting. IsGiven v c.match-waiting.services by waiting given.reply given.number) (sym w.in-Shutdown.is) (
            ap (λ (g : Given). g.reply) w.result-is,
            ap (λ (g : Given). g.number) w.result-is,
            w.services-is,
            λ inst log a asks waits. w.shutdowns_leave_services.ensures.replied v inst log by asks waits a,
          )
      | in-Service w ↦ search rules
      | in-Jobs+in_ok-told-in-Jobs w ↦ search rules
    ]
