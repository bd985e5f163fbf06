-- Keys and contents have the links of one tree.
use Rattle.std.proofs.Common.{◌≡◌, ℕ, ◌<◌, ◌⊎◌, ◌||◌, Bool, true, false, refl, subst}
use Rattle.kvs_rules.specs.Brokers.{parent}
use Rattle.kvs_rules.specs.declared.events.KvsStep.TheVariants as kvs
use Rattle.kvs_keys.specs.Steps.{can_step as keys_can_step}
use Rattle.kvs_keys.specs.Value.{KeysValue}
use Rattle.content_service.specs.Steps.{can_step as contents_can_step}
use Rattle.content_service.specs.Value.{ContentServiceValue}
use Rattle.kvs_core.specs.View.{IsFit}
use Rattle.kvs_core.specs.Value.{CoreValue}
use Rattle.kvs_core.proofs.Links.{AreLinked, IsLink}

-- what each says of its links
abbrev pub KeysLinked : KeysValue → Type 0
KeysLinked v = (from to : ℕ) → keys_can_step v (kvs.Deliver from to) ≡ true → (from < v.size) × ((to ≡ parent v.fanout from) ⊎ ((0 < to) × (to < v.size) × (parent v.fanout to ≡ from)))

abbrev pub ContentsLinked : ContentServiceValue → Type 0
ContentsLinked v = (from to : ℕ) → contents_can_step v (kvs.Deliver from to) ≡ true → (from < v.size) × ((to ≡ parent v.content.fanout from) ⊎ ((0 < to) × (to < v.size) × (parent v.content.fanout to ≡ from)))

pub all_linked : (v : CoreValue) → IsFit v → KeysLinked v.keys → ContentsLinked v.contents → AreLinked v
all_linked v fit keys contents from to h = by (keys_can_step v.keys (kvs.Deliver from to)) refl h
  where
    by : (b : Bool) → keys_can_step v.keys (kvs.Deliver from to) ≡ b → (b || contents_can_step v.contents (kvs.Deliver from to)) ≡ true → IsLink v.fanout v.size from to
    by true e g = subst (λ f. IsLink f v.size from to) fit.keys_fanout (subst (λ n. IsLink v.keys.fanout n from to) fit.keys_size (keys from to e))
    by false e g = subst (λ f. IsLink f v.size from to) fit.contents_fanout (subst (λ n. IsLink v.contents.content.fanout n from to) fit.contents_size (contents from to g))
