use Rattle.std.proofs.Common.{rules, ◌≡◌, None, sym, ap}
use Rattle.std.specs.Map.{lookup}
use Rattle.lru.specs.LruCache.{lru_cache}
use Rattle.fl_digest.specs.Reference.{same_reference}
use Rattle.cache_node.proofs.Entries.{set-none}
use Rattle.cache_node.proofs.exchange.Goals as goal

pub returns-in_err-kept-clause-entries : goal.returns-in_err-kept-clause-entries
returns-in_err-kept-clause-entries c =
    let absent : lookup (same_reference c.args.reference.now) c.args.dirty.now.entries ≡ None = search rules in
    ap (λ es. lru_cache es c.args.dirty.now.cap) (sym (set-none (same_reference c.args.reference.now) c.args.dirty.now.entries c.args.bytes absent))
