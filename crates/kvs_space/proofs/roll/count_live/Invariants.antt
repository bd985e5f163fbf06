use Rattle.std.proofs.Common.{◌≡◌, ◌≤◌, take}
use Rattle.kvs_space.specs.Space.{live_in}
use Rattle.kvs_space.proofs.Rolls.{upto}
use Rattle.kvs_space.proofs.roll.count_live.Given as goal

abbrev pub invariant-loop-place : goal.invariant-loop-place
invariant-loop-place l = record {
  read : l.place-items ≡ l.roll.awake;
  counted : l.live ≡ live_in (take (upto l.roll l.place-index) l.spaces.items);
  low : l.live ≤ l.place-index;
}
