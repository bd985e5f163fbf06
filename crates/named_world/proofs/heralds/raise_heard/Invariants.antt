use Rattle.std.proofs.Common.{◌≡◌, length, take}
use Rattle.named_world.specs.Words.{AreWords}
use Rattle.named_world.proofs.heralds.raise_heard.Given as goal

abbrev pub invariant-loop-at : goal.invariant-loop-at
invariant-loop-at g l = record {
  all : length l.heralds.items ≡ length l.initial.heralds.items;
  words : AreWords (take l.at l.entries) l.heralds.items;
}
