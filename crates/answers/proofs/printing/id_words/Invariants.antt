use Rattle.std.proofs.Common.{◌≡◌, ◌++◌, take, map}
use Rattle.answers.specs.Text.{further, id_text}
use Rattle.answers.proofs.printing.id_words.Given as goal

abbrev pub invariant-loop-id : goal.invariant-loop-id
invariant-loop-id l = (l.id-items ≡ l.ids) × (l.text ≡ l.fn.text ++ further (map id_text (take l.id-index l.id-items)))
