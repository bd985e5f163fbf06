use Rattle.std.proofs.Common.{◌≡◌, ◌++◌, take, flat_map}
use Rattle.answers.specs.Text.{use_text}
use Rattle.answers.proofs.printing.uses_text.Given as goal

abbrev pub invariant-loop-root : goal.invariant-loop-root
invariant-loop-root l = (l.root-items ≡ l.uses) × (l.text ≡ l.fn.text ++ flat_map use_text (take l.root-index l.root-items))
