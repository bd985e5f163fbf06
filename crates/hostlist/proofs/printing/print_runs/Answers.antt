use Rattle.std.proofs.Common.{◌≡◌, ◌++◌, ◌∷◌, ap, map, append_assoc, ◌∙◌, sym}
use Rattle.std.specs.List.{join_with_byte}
use Rattle.hostlist.specs.Names.{follows}
use Rattle.hostlist.specs.Printing.{chunks_by, run_text}
use Rattle.hostlist.proofs.ChunkLemmas.{comma_texts, joined_is}
use Rattle.hostlist.proofs.printing.print_runs.Goals as goal

pub loop-rest-init : goal.loop-rest-init
loop-rest-init c =
    let old = c.args.text.now.items in
    let part = c.first_chunk.result.0.now in
    let rest = chunks_by follows c.first_chunk.result.1.now in
    let whole : chunks_by follows c.args.group.now ≡ part ∷ rest = c.first_chunk.ensures.chunks in
    ap (λ x. x ++ comma_texts run_text rest) c.in_ok-print_run.ensures ∙ append_assoc old (run_text part) (comma_texts run_text rest)
    ∙ ap (λ x. old ++ x) (sym (joined_is run_text part rest)) ∙ ap (λ parts. old ++ join_with_byte 44 (map run_text parts)) (sym whole)
