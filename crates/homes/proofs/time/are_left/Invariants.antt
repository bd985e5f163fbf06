use Rattle.std.proofs.Common.{◌≡◌, false, take}
use Rattle.std.specs.List.{list_any}
use Rattle.homes.specs.Times.{is_left}
use Rattle.homes.proofs.time.are_left.Given as goal

abbrev pub invariant-loop-place : goal.invariant-loop-place
invariant-loop-place l = list_any (is_left l.homes) (take l.place-index l.places) ≡ false
