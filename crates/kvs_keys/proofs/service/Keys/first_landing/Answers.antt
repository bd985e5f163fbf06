use Rattle.std.proofs.Common.{◌≡◌, ◌∙◌, ℕ, ◌<◌, true, false, ap, subst}
use Rattle.kvs_rules.specs.declared.events.KvsStep.TheVariants as kvs
use Rattle.kvs_keys.specs.Steps.{can_step}
use Rattle.kvs_keys.specs.View.{value_of}
use Rattle.kvs_keys.proofs.Choosing.{ready-first, ready-lands, unready-none}
use Rattle.kvs_keys.proofs.service.Keys.first_landing.Goals as goal

pub first_landing-requires : goal.first_landing-requires
first_landing-requires c = c.self.invariant.1 (ap (λ v. v.spent) c.self.view_is ∙ c.requires)

pub returns-in-Some-clause-some : goal.returns-in-Some-clause-some
returns-in-Some-clause-some c = subst (λ v. can_step v (kvs.Land c.in-Some.place) ≡ true) c.self.view_is (ready-lands (value_of c.self.inside) c.in-Some.place c.in-Some.ensures)

pub returns-in-Some-clause-first : goal.returns-in-Some-clause-first
returns-in-Some-clause-first c = subst (λ v. (lower : ℕ) → lower < c.in-Some.place → can_step v (kvs.Land lower) ≡ false) c.self.view_is (ready-first (value_of c.self.inside) c.in-Some.place c.in-Some.ensures)

pub returns-in-None-clause-none : goal.returns-in-None-clause-none
returns-in-None-clause-none c = λ _. subst (λ v. (number : ℕ) → can_step v (kvs.Land number) ≡ false) c.self.view_is (unready-none (value_of c.self.inside) c.in-None.ensures)
