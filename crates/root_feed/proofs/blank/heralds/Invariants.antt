use Rattle.std.proofs.Common.{◌≡◌}
use Rattle.root_feed.specs.Rule.{maker_of}
use Rattle.root_feed.specs.Values.{new_heralds}
use Rattle.root_feed.proofs.blank.heralds.Given as goal

abbrev pub invariant-loop-rank : goal.invariant-loop-rank
invariant-loop-rank g l = (l.heralds.items ≡ new_heralds l.rank) × (l.first ≡ maker_of l.rank)
