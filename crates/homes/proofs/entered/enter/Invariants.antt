use Rattle.std.proofs.Common.{◌≡◌, ◌++◌, map}
use Rattle.hierarchy.specs.Stretches.{entered_in}
use Rattle.homes.proofs.entered.enter.Given as goal

abbrev pub invariant-loop-entry : goal.invariant-loop-entry
invariant-loop-entry l = l.chronicle ++ map (entered_in l.number) l.entry-iterator.rest.items ≡ l.initial.chronicle ++ map (entered_in l.number) l.fn.made
