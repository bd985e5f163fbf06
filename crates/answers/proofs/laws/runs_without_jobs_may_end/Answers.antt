use Rattle.std.proofs.Common.{[], Option, ap, sym, subst}
use Rattle.instance_rules.specs.Family.{MayClose}
use Rattle.answers.specs.Chronicle.{Checkpoint, Setup}
use Rattle.answers.specs.Legal.{IsLegal}
use Rattle.answers.specs.Runs.{family_of}
use Rattle.answers.specs.Whole.{HasToldAll}
use Rattle.answers.proofs.Resting.{may_close}
use Rattle.answers.proofs.laws.runs_without_jobs_may_end.Goals as goal

pub returns : goal.returns
returns c set d anew without legal told =
    subst (λ (s : Setup). IsLegal s d → HasToldAll s d → MayClose (family_of s d) [])
    (ap (λ (base : Option Checkpoint). let s : Setup = record set { base = base } in s) (sym anew))
    (may_close set without d) legal told
