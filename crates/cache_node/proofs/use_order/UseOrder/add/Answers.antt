use Rattle.std.proofs.Common.{arith, rules, ◌≡◌, ◌∙◌, ap, refl, ◌∷◌}
use Rattle.std.specs.Map.{lookup}
use Rattle.lru.specs.LruCache.{lru_cache, put_entries}
use Rattle.fl_digest.specs.Reference.{same_reference}
use Rattle.cache_node.proofs.Sums.{unpinned_bound, size_bound, open_put}
use Rattle.cache_node.proofs.use_order.UseOrder.add.Goals as goal

pub overflow_add-loose : goal.overflow_add-loose
overflow_add-loose c =
    let all = c.self.invariant.0.total_sum in
    let part = c.self.invariant.0.loose_sum in
    omega (arith, unpinned_bound c.self.inside.entries.entries, size_bound c.args.held, c.in-Some.ensures)

pub invariant_of-self : goal.invariant_of-self
invariant_of-self c =
    let put : c.put.new.self ≡ lru_cache (put_entries same_reference c.self.inside.entries c.args.reference c.args.held) c.self.inside.entries.cap = search rules in
    (open_put c.self.inside.entries c.put.new.self c.self.inside.total c.self.inside.loose _ _ c.args.reference c.args.held c.self.invariant
    (ap (lookup (same_reference c.args.reference)) c.self.view_is ∙ c.requires.absent) c.requires.named
    (omega (arith, c.len-count.ensures.len, c.len-count.ensures.fits)) put (omega (arith, c.in-Some.ensures)) (omega arith)).0

pub returns-in-Ok-clause-added : goal.returns-in-Ok-clause-added
returns-in-Ok-clause-added c =
    let put : c.put.new.self ≡ lru_cache (put_entries same_reference c.self.inside.entries c.args.reference c.args.held) c.self.inside.entries.cap = search rules in
    (open_put c.self.inside.entries c.put.new.self c.self.inside.total c.self.inside.loose _ _ c.args.reference c.args.held c.self.invariant
    (ap (lookup (same_reference c.args.reference)) c.self.view_is ∙ c.requires.absent) c.requires.named
    (omega (arith, c.len-count.ensures.len, c.len-count.ensures.fits)) put refl refl).1
    ∙ ap (λ es. (c.args.reference, c.args.held) ∷ es) c.self.view_is
