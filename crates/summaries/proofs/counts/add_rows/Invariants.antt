use Rattle.std.proofs.Common.{◌≡◌, ◌++◌, flat_map}
use Rattle.summaries.specs.Counts.{row_text}
use Rattle.summaries.proofs.counts.add_rows.Given as goal

abbrev pub invariant-loop-word : goal.invariant-loop-word
invariant-loop-word l = l.text ++ flat_map row_text l.word-iterator ≡ l.fn.text ++ flat_map row_text l.rows.entries
