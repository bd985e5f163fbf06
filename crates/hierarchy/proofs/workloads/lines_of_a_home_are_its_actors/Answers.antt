use Rattle.hierarchy.proofs.Within.{no_commands, no_lines, own_commands, own_lines}
use Rattle.hierarchy.proofs.workloads.lines_of_a_home_are_its_actors.Goals as goal

pub returns : goal.returns
returns c = record {
  lines = λ work label size actor h. own_lines work label size actor h;
  commands = λ work label size by h. own_commands work label size by h;
  no_lines = λ work label size actor h. no_lines work label size actor h;
  no_commands = λ work label size by h. no_commands work label size by h;
}
