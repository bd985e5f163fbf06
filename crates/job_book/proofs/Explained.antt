-- Why a job of the book doesn't run.
use Rattle.std.proofs.Common.{◌≡◌, ℕ, [], Some}
use Rattle.std.specs.Prelude.{IfOk, Result, Ok, Err}
use Rattle.job_deeds.specs.tap.declared.Ask.{Ask}
use Rattle.job_deeds.specs.manager_rules.Dependencies.{job_at}
use Rattle.job_deeds.specs.manager_rules.Jobs.{StoredJob}
use Rattle.job_deeds.specs.manager_rules.Scene.{Scene}
use Rattle.job_deeds.specs.manager_rules.Whys.{IsSaidOf}
use Rattle.job_deeds.specs.manager_rules.declared.terms.Limits.{Limits}
use Rattle.job_deeds.specs.manager_rules.declared.why.Why.{Why}
use Rattle.job_deeds.specs.Choices.{IsSeen}
use Rattle.job_deeds.specs.declared.decisions.Desk.{Desk}
use Rattle.job_deeds.proofs.Whys.{said_why}
use Rattle.job_book.specs.Contract.{Explains}
use Rattle.job_book.specs.Value.{BookValue, scene_of}

pub explained : {E : Type 0} {desk : Desk} (book : BookValue) (now id : ℕ) (j : StoredJob) → job_at book.jobs id ≡ Some j
    → ((answer : Ask → ℕ) (limits : Limits) → IsSeen desk (scene_of book now [] answer limits))
    → (r : Result Why E) → IfOk r (λ why. (s : Scene) → IsSeen desk s → IsSaidOf s j why) → IfOk r (Explains book now id)
explained book now id j e seen (Ok why) said = λ answer limits. said_why (scene_of book now [] answer limits) j id e why (said (scene_of book now [] answer limits) (seen answer limits))
explained book now id j e seen (Err fault) said = tt
