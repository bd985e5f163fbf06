use Rattle.std.proofs.Common.{rules, ◌≡◌, ◌∙◌, ap}
use Rattle.std.specs.Map.{lookup}
use Rattle.lru.specs.LruCache.{lru_cache, promoted}
use Rattle.fl_digest.specs.Reference.{same_reference}
use Rattle.cache_node.proofs.Sums.{promoted_is, touched, open_promoted}
use Rattle.cache_node.proofs.use_order.UseOrder.touch.Goals as goal

pub invariant_of-self : goal.invariant_of-self
invariant_of-self c =
    let used : c.promote.new.self ≡ lru_cache (promoted (same_reference c.args.reference.now) c.self.inside.entries.entries) c.self.inside.entries.cap = search rules in
    open_promoted c.self.inside.entries c.promote.new.self c.self.inside.total c.self.inside.loose c.args.reference.now c.self.invariant used

pub returns : goal.returns
returns c =
    let used : c.promote.new.self ≡ lru_cache (promoted (same_reference c.args.reference.now) c.self.inside.entries.entries) c.self.inside.entries.cap = search rules in
    ap (λ m. m.entries) used ∙ promoted_is c.args.reference.now c.self.inside.entries.entries
    ∙ ap (λ es. touched c.args.reference.now es (lookup (same_reference c.args.reference.now) es)) c.self.view_is
