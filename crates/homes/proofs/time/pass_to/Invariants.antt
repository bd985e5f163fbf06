use Rattle.std.proofs.Common.{◌≡◌, ℕ, ◌<◌, ◌≤◌, length}
use Rattle.std.specs.Prelude.{Some, slice_get}
use Rattle.homes.specs.Tells.{HasPassedTo}
use Rattle.homes.specs.declared.homes.Home.{Home}
use Rattle.homes.proofs.time.pass_to.Given as goal

abbrev pub invariant-loop-home : goal.invariant-loop-home
invariant-loop-home l = record {
  all : length l.homes ≡ length l.fn.homes;
  passed : (i : ℕ) (h one : Home) → i < l.home-index → slice_get l.fn.homes i ≡ Some h → slice_get l.homes i ≡ Some one → HasPassedTo l.second h one;
  ahead : (i : ℕ) → l.home-index ≤ i → slice_get l.homes i ≡ slice_get l.fn.homes i;
}
