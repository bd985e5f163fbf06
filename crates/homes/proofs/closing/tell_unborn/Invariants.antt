use Rattle.std.proofs.Common.{◌≡◌, ◌++◌, None, map}
use Rattle.std.specs.List.{range_with_len}
use Rattle.instance.specs.answers.declared.chronicle.Entry.TheVariants as entry
use Rattle.hierarchy.specs.Closing.{unborn_reply}
use Rattle.homes.proofs.closing.tell_unborn.Given as goal

abbrev pub invariant-loop-command : goal.invariant-loop-command
invariant-loop-command l = l.chronicle ≡ l.initial.chronicle ++ map (λ command. entry.Replied l.actor command (unborn_reply command) None) (range_with_len 0 l.command)
