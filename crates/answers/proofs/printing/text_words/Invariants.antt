use Rattle.std.proofs.Common.{◌≡◌, ◌++◌, take}
use Rattle.answers.specs.Text.{further}
use Rattle.answers.proofs.printing.text_words.Given as goal

abbrev pub invariant-loop-name : goal.invariant-loop-name
invariant-loop-name l = (l.name-items ≡ l.names) × (l.text ≡ l.fn.text ++ further (take l.name-index l.name-items))
