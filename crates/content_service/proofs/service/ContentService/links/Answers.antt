use Rattle.std.proofs.Common.{◌≡◌, ◌∙◌, ◌<◌, ◌⊎◌, ℕ, true, ap, subst}
use Rattle.kvs_rules.specs.Brokers.{parent}
use Rattle.kvs_rules.specs.declared.events.KvsStep.TheVariants as kvs
use Rattle.kvs_content.specs.Steps.{can_deliver}
use Rattle.content_service.specs.Sound.{IsSound}
use Rattle.content_service.specs.Steps.{can_step}
use Rattle.content_service.specs.View.{value_of}
use Rattle.content_service.proofs.service.ContentService.links.Goals as goal

pub returns : goal.returns
returns c =
    let v = value_of c.self.inside in
    let sound : IsSound v = c.self.invariant (ap (λ v. v.spent) c.self.view_is ∙ c.requires) in
    subst (λ v. (from to : ℕ) → can_step v (kvs.Deliver from to) ≡ true → (from < v.size) × ((to ≡ parent v.content.fanout from) ⊎ ((0 < to) × (to < v.size) × (parent v.content.fanout to ≡ from)))) c.self.view_is
    (subst (λ n. (from to : ℕ) → can_deliver v.content from to ≡ true → (from < n) × ((to ≡ parent v.content.fanout from) ⊎ ((0 < to) × (to < n) × (parent v.content.fanout to ≡ from)))) sound.size c.links.ensures)
