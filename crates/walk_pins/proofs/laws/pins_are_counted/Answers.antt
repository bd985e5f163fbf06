use Rattle.tree_walk.proofs.Pinning.{clean_at-with_pins}
use Rattle.walk_pins.proofs.Counting.{clean-without, times-once, with-all, without-all}
use Rattle.walk_pins.proofs.laws.pins_are_counted.Goals as goal

pub returns-clause-pinned : goal.returns-clause-pinned
returns-clause-pinned c = with-all

pub returns-clause-released : goal.returns-clause-released
returns-clause-released c = without-all

pub returns-clause-kept : goal.returns-clause-kept
returns-clause-kept c = λ references cache r. clean_at-with_pins r references cache

pub returns-clause-left : goal.returns-clause-left
returns-clause-left c = clean-without

pub returns-clause-once : goal.returns-clause-once
returns-clause-once c = λ references r once. times-once r references once
