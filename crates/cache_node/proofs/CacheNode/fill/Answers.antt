use Rattle.std.proofs.Common.{rules, ◌≡◌, ◌≤◌, List, sym, subst}
use Rattle.std.specs.Prelude.{unwrap_or}
use Rattle.std.specs.Map.{lookup, remove_entry}
use Rattle.lru.specs.LruCache.{lru_cache}
use Rattle.fl_digest.specs.Reference.{same_reference}
use Rattle.cache_node.specs.declared.TheConstants.{UNPINNED_LIMIT}
use Rattle.fl_digest.specs.declared.BlobRef.{BlobRef}
use Rattle.cache_node.specs.declared.content.Held.{Held}
use Rattle.cache_node.specs.Order.{dropped, filled, remaining, stays_within, unpinned, unpinned_bytes}
use Rattle.cache_node.specs.Cache.{Cache, HasDropped}
use Rattle.cache_node.proofs.Leaving.{has-dropped, used-once}
use Rattle.cache_node.proofs.Orders.{within_limit}
use Rattle.cache_node.proofs.Caches.{sound_moved, absent-filled}
use Rattle.cache_node.proofs.CacheNode.fill.Goals as goal

pub invariant_of-self-2 : goal.invariant_of-self-2
invariant_of-self-2 c =
    let rest : c.fill.new.self ≡ remaining (stays_within UNPINNED_LIMIT) (filled c.args.reference c.args.bytes c.self.inside.clean) = search rules in
    let out : c.pop.new.self ≡ lru_cache (remove_entry (same_reference c.args.reference) c.self.inside.dirty.entries) c.self.inside.dirty.cap = search rules in
    rw (rest, out) (
      sound_moved c.self.inside.dirty.entries c.self.inside.clean (remaining (stays_within UNPINNED_LIMIT) (filled c.args.reference c.args.bytes c.self.inside.clean)) c.args.reference c.self.invariant.0
          (λ q apart absent. absent-filled (stays_within UNPINNED_LIMIT) q c.args.reference c.args.bytes c.self.inside.clean apart absent),
      c.self.invariant.1,
    )

pub returns-clause-limit : goal.returns-clause-limit
returns-clause-limit c =
    let rest : c.fill.new.self ≡ remaining (stays_within UNPINNED_LIMIT) (filled c.args.reference c.args.bytes c.self.inside.clean) = search rules in
    subst (λ es. unpinned_bytes es ≤ UNPINNED_LIMIT) (sym rest) (within_limit UNPINNED_LIMIT (filled c.args.reference c.args.bytes c.self.inside.clean))

pub returns-clause-left : goal.returns-clause-left
returns-clause-left c =
    let all = filled c.args.reference c.args.bytes c.self.inside.clean in
    let rest : c.fill.new.self ≡ remaining (stays_within UNPINNED_LIMIT) all = search rules in
    let gone : c.in_ok-gone.gone ≡ dropped (stays_within UNPINNED_LIMIT) all = search rules in
    let kept = has-dropped (stays_within UNPINNED_LIMIT) all (used-once c.args.reference (unwrap_or (lookup (same_reference c.args.reference) c.self.inside.clean) (unpinned c.args.bytes)) c.self.inside.clean c.are_once.ensures) in
    subst (λ (v : Cache). HasDropped (filled c.args.reference c.args.bytes v.clean) c.fill.new.self c.in_ok-gone.gone) c.self.view_is
    (subst (λ (n : List (BlobRef × Held)). HasDropped all n c.in_ok-gone.gone) (sym rest) (subst (λ (g : List BlobRef). HasDropped all (remaining (stays_within UNPINNED_LIMIT) all) g) (sym gone) kept))
