use Rattle.std.proofs.Common.{◌≡◌, ℕ, ◌<◌, ◌≤◌, length}
use Rattle.kvs_space.specs.Space.{link_at}
use Rattle.kvs_space.specs.Links.{told}
use Rattle.kvs_space.proofs.links.announce.Given as goal

abbrev pub invariant-loop-child : goal.invariant-loop-child
invariant-loop-child l = record {
  same_len : length l.links.items ≡ length l.fn.links.items;
  so_far : (k : ℕ) → k < l.child → link_at l.links.items k ≡ told l.fanout l.from l.number k (link_at l.fn.links.items k);
  rest : (k : ℕ) → l.child ≤ k → link_at l.links.items k ≡ link_at l.fn.links.items k;
}
