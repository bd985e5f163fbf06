use Rattle.std.proofs.Common.{◌≡◌, ℕ, ◌<◌, true, IfSome, get_or}
use Rattle.std.specs.List.{list_any}
use Rattle.kvs_requests.specs.declared.rows.Row.{Row}
use Rattle.kvs_keys.specs.Order.{Leads}
use Rattle.kvs_requests.specs.Stages.{is_on}
use Rattle.kvs_keys.proofs.order.first_message.Given as goal

abbrev pub invariant-loop-row : goal.invariant-loop-row
invariant-loop-row l = record {
  some : IfSome l.first (λ hop. list_any (is_on hop.from hop.to) l.rows.items ≡ true);
  first : (k : ℕ) → k < l.row-index → (from to : ℕ) → ((d : Row) → is_on from to (get_or l.rows.items k d) ≡ true) → Leads l.first from to;
}
