use Rattle.std.proofs.Common.{◌≡◌, ◌<◌, ℕ, false, get_or}
use Rattle.kvs_space.specs.Space.{SpaceValue, has_news}
use Rattle.kvs_space.proofs.roll.first_news.Given as goal

abbrev pub invariant-loop-place : goal.invariant-loop-place
invariant-loop-place l = record {
  read : l.place-items ≡ l.roll.awake;
  before : (j : ℕ) (d : SpaceValue) → j < l.place-index → has_news l.broker (get_or l.spaces.items (get_or l.roll.awake j 0) d) ≡ false;
}
