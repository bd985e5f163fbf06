use Rattle.std.proofs.Common.{◌≡◌, ◌++◌, List}
use Rattle.instance.specs.answers.declared.chronicle.Entry.{Entry}
use Rattle.homes.specs.Closing.{AreLeft}
use Rattle.homes.proofs.closing.tell_living.Given as goal

abbrev pub invariant-loop-number : goal.invariant-loop-number
invariant-loop-number l = (told : List Entry) × (l.chronicle ≡ l.initial.chronicle ++ told) × AreLeft l.homes l.number told
