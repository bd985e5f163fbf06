use Rattle.std.proofs.Common.{rules, ◌≡◌, option_copied}
use Rattle.std.specs.Map.{lookup}
use Rattle.fl_digest.specs.Reference.{same_reference}
use Rattle.cache_node.proofs.Caches.{found_dirty}
use Rattle.cache_node.proofs.CacheNode.any.Goals as goal

pub returns-in-None-clause-named : goal.returns-in-None-clause-named
returns-in-None-clause-named c =
    let found : option_copied c.peek.result ≡ lookup (same_reference c.args.reference.now) c.self.inside.dirty.entries = search rules in
    found_dirty c.self.inside.dirty.entries c.args.reference.now c.peek.result c.self.invariant.0.named found
