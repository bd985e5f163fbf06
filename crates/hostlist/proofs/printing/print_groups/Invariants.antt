use Rattle.std.proofs.Common.{◌≡◌, ◌++◌, length, map}
use Rattle.std.specs.List.{join_with_byte}
use Rattle.hostlist.specs.Names.{shares_prefix}
use Rattle.hostlist.specs.Printing.{chunks_by, group_text}
use Rattle.hostlist.proofs.ChunkLemmas.{comma_texts}
use Rattle.hostlist.proofs.printing.print_groups.Given as goal

abbrev pub invariant-loop-rest : goal.invariant-loop-rest
invariant-loop-rest l = l.text.items ++ comma_texts group_text (chunks_by shares_prefix l.rest) ≡ l.fn.text.items ++ join_with_byte 44 (map group_text (chunks_by shares_prefix l.fn.names))

abbrev pub decreases-loop-rest : goal.decreases-loop-rest
decreases-loop-rest l = length l.rest
