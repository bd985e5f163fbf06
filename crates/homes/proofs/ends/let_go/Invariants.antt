use Rattle.std.proofs.Common.{◌≡◌, ◌||◌, ℕ, Some, false}
use Rattle.std.specs.Prelude.{nat_lt, slice_get, slice_index_or, if◌then◌else◌}
use Rattle.homes.specs.declared.homes.Home.{Home}
use Rattle.homes.proofs.ends.let_go.Given as goal

abbrev pub invariant-loop-at : goal.invariant-loop-at
invariant-loop-at l = (k : ℕ) (h : Home) → slice_get l.initial.homes k ≡ Some h
    → slice_get l.homes k ≡ Some (if nat_lt k l.at then record h { gone = h.gone || slice_index_or l.marks k false } else h)
