use Rattle.std.proofs.Common.{◌≡◌, ◌∙◌, ◌<◌, ◌⊎◌, ℕ, true, ap, subst}
use Rattle.kvs_rules.specs.Brokers.{parent}
use Rattle.kvs_rules.specs.declared.events.KvsStep.TheVariants as kvs
use Rattle.kvs_keys.specs.Sound.{IsSound}
use Rattle.kvs_keys.specs.Steps.{can_step}
use Rattle.kvs_keys.specs.View.{value_of}
use Rattle.kvs_keys.proofs.Choosing.{within}
use Rattle.kvs_keys.proofs.Links.{link-of}
use Rattle.kvs_keys.proofs.service.Keys.links.Goals as goal

pub returns : goal.returns
returns c =
    let v = value_of c.self.inside in
    let sound : IsSound v = c.self.invariant.0 (ap (λ v. v.spent) c.self.view_is ∙ c.requires) in
    subst (λ v. (from to : ℕ) → can_step v (kvs.Deliver from to) ≡ true → (from < v.size) × ((to ≡ parent v.fanout from) ⊎ ((0 < to) × (to < v.size) × (parent v.fanout to ≡ from)))) c.self.view_is
    (λ from to h. ((within v sound from to h).0, link-of v sound from to h))
