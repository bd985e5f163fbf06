use Rattle.std.proofs.Common.{◌≡◌, ◌++◌, take}
use Rattle.job_commands.specs.Children.{all_children}
use Rattle.job_commands.proofs.commands.add_children.Given as goal

abbrev pub invariant-loop-child : goal.invariant-loop-child
invariant-loop-child l = l.list ≡ l.fn.list ++ all_children (take l.child-index l.children)
