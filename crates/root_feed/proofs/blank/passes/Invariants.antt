use Rattle.std.proofs.Common.{◌≡◌, [], map, take}
use Rattle.root_feed.specs.Values.{new_pass}
use Rattle.root_feed.proofs.blank.passes.Given as goal

abbrev pub invariant-loop-rank : goal.invariant-loop-rank
invariant-loop-rank g l = (l.passes.items ≡ map new_pass (take l.rank-index l.at)) × (l.first.seen ≡ [])
