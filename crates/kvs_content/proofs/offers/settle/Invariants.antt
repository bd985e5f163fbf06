use Rattle.std.proofs.Common.{◌≡◌, ◌<◌, ◌≤◌, ℕ, length}
use Rattle.std.specs.Prelude.{option_copied, slice_index_or}
use Rattle.kvs_content.specs.declared.offers.Offer.{Offer}
use Rattle.kvs_content.specs.Messages.{settled}
use Rattle.kvs_content.proofs.offers.settle.Given as goal

abbrev pub invariant-loop-i : goal.invariant-loop-i
invariant-loop-i l = record {
  same_len : length l.offers.items ≡ length l.fn.offers.items;
  done : (k : ℕ) (d : Offer) → k < l.i → slice_index_or l.offers.items k d ≡ settled l.fanout l.broker l.reference (option_copied l.kept) (slice_index_or l.fn.offers.items k d);
  rest : (k : ℕ) (d : Offer) → l.i ≤ k → slice_index_or l.offers.items k d ≡ slice_index_or l.fn.offers.items k d;
}
