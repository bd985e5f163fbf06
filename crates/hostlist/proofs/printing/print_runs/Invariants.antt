use Rattle.std.proofs.Common.{◌≡◌, ◌++◌, length, map}
use Rattle.std.specs.List.{join_with_byte}
use Rattle.hostlist.specs.Names.{follows}
use Rattle.hostlist.specs.Printing.{chunks_by, run_text}
use Rattle.hostlist.proofs.ChunkLemmas.{comma_texts}
use Rattle.hostlist.proofs.printing.print_runs.Given as goal

abbrev pub invariant-loop-rest : goal.invariant-loop-rest
invariant-loop-rest l = l.text.items ++ comma_texts run_text (chunks_by follows l.rest) ≡ l.fn.text.items ++ join_with_byte 44 (map run_text (chunks_by follows l.fn.group))

abbrev pub decreases-loop-rest : goal.decreases-loop-rest
decreases-loop-rest l = length l.rest
