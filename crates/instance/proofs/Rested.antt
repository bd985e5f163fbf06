-- Where an instance is at rest, the core is.
use Rattle.std.proofs.Common.{◌≡◌, ◌||◌, Bool, true, false, refl, true≢false}
use Rattle.services.specs.answers.Jobs.{instance_of}
use Rattle.services.specs.kvs_core.Requests.{AsksAtRest}
use Rattle.services.specs.kvs_keys.Steps.{can_step, can_take}
use Rattle.instance.specs.Makes.{IssuesAtRest}
use Rattle.instance.proofs.Stilling.{rested_so}
use Rattle.instance.proofs.Owning.{Own, DoesAgree}

neither : (a b : Bool) → (a || b) ≡ false → a ≡ false
neither true b e = e
neither false b e = refl

pub core_rests : (v : Own) → DoesAgree v → IssuesAtRest v.set v.instance → AsksAtRest (instance_of v.set).service v.instance.services.jobs.manager.core
core_rests v h rest settled =
    let at = rest settled in
    let rested = rested_so v h at.steps at.answers in
    record {
      steps = λ s. neither (can_step v.instance.services.jobs.manager.core.keys s) _ (rested.steps s);
      answers = λ by. neither (can_take v.instance.services.jobs.manager.core.keys by) _ (rested.answers by);
    }
