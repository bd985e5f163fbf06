use Rattle.std.proofs.Common.{◌≡◌, ◌<◌, ℕ, false, get_or}
use Rattle.kvs_space.specs.Space.{SpaceValue, is_behind}
use Rattle.kvs_space.proofs.roll.first_behind.Given as goal

abbrev pub invariant-loop-place : goal.invariant-loop-place
invariant-loop-place l = record {
  read : l.place-items ≡ l.roll.awake;
  before : (j : ℕ) (d : SpaceValue) → j < l.place-index → is_behind l.fanout l.broker (get_or l.spaces.items (get_or l.roll.awake j 0) d) ≡ false;
}
