use Rattle.std.proofs.Common.{◌≡◌, ◌<◌, ℕ, [], Some, false}
use Rattle.std.specs.Prelude.{slice_get}
use Rattle.instance.specs.kvs_rules.declared.events.KvsStep.{KvsStep}
use Rattle.instance.specs.services.Order.{possible}
use Rattle.instance.specs.services.Steps.{can_step}
use Rattle.homes.specs.declared.homes.Home.{Home}
use Rattle.homes.proofs.homes.turns_are_listed.Given as goal

abbrev pub invariant-loop-home : goal.invariant-loop-home
invariant-loop-home l = (i : ℕ) (h : Home) → i < l.home-index → slice_get l.homes i ≡ Some h → possible h.instance.services ≡ []
    → (s : KvsStep) → can_step h.instance.services s ≡ false
