use Rattle.std.proofs.Common.{◌≡◌, ◌<◌, ◌≤◌, ℕ, get_or, length}
use Rattle.kvs_space.specs.Losses.{resynced}
use Rattle.kvs_space.specs.Space.{SpaceValue}
use Rattle.kvs_space.proofs.Rolls.{upto}
use Rattle.kvs_space.proofs.roll.resync.Given as goal

abbrev pub invariant-loop-place : goal.invariant-loop-place
invariant-loop-place l = record {
  read : l.place-items ≡ l.roll.awake;
  long : length l.spaces.items ≡ length l.fn.spaces.items;
  so_far : (k : ℕ) (d : SpaceValue) → k < upto l.roll l.place-index → get_or l.spaces.items k d ≡ resynced l.fanout l.broker (get_or l.fn.spaces.items k d);
  rest : (k : ℕ) (d : SpaceValue) → upto l.roll l.place-index ≤ k → get_or l.spaces.items k d ≡ get_or l.fn.spaces.items k d;
}
