use Rattle.std.proofs.Common.{◌≡◌, ℕ, ◌<◌, IfSome, true}
use Rattle.std.specs.List.{list_any}
use Rattle.kvs_space.specs.Space.{has_news}
use Rattle.kvs_keys.specs.Order.{IsAnnouncing, Leads}
use Rattle.kvs_rules.specs.Brokers.{parent}
use Rattle.kvs_keys.proofs.order.first_announced.Given as goal

abbrev pub invariant-loop-to : goal.invariant-loop-to
invariant-loop-to l = record {
  some : IfSome l.first (λ hop. (hop.to < l.size) × IsAnnouncing l.fanout l.spaces.items hop.from hop.to);
  first : (k : ℕ) → 0 < k → k < l.to → list_any (has_news k) l.spaces.items ≡ true → Leads l.first (parent l.fanout k) k;
}
