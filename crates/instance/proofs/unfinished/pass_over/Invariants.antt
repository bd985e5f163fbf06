use Rattle.std.proofs.Common.{◌≡◌, ◌≤◌, ◌⊎◌, ◌++◌, ◌-◌}
use Rattle.instance.specs.Closings.{not_reached}
use Rattle.instance.proofs.unfinished.pass_over.Given as goal

abbrev pub invariant-loop-command : goal.invariant-loop-command
invariant-loop-command l = record {
  chronicle : l.chronicle ≡ l.initial.chronicle ++ not_reached l.actor l.from (l.command - l.from);
  above : l.from ≤ l.command;
  within : (l.command ≤ l.to) ⊎ (l.command ≡ l.from);
}
