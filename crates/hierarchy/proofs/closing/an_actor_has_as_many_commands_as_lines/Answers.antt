use Rattle.hierarchy.proofs.Parts.{lines_counted}
use Rattle.hierarchy.proofs.closing.an_actor_has_as_many_commands_as_lines.Goals as goal

pub returns : goal.returns
returns c = λ work actor. lines_counted actor work.lines
