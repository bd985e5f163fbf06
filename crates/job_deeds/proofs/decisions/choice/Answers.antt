use Rattle.std.proofs.Common.{subst}
use Rattle.std.specs.Prelude.{Contains}
use Rattle.job_deeds.proofs.Chosen.{chosen}
use Rattle.job_deeds.proofs.decisions.choice.Goals as goal

pub returns-clause-found : goal.returns-clause-found
returns-clause-found g c = λ s seen says.
    chosen s c.args.row.now c.in_ok-found.found (c.in_ok-found.ensures.found s seen says)
    (λ asked known may. c.in_default.ensures.none asked (subst (λ list. Contains list asked) seen.asked known) may)
