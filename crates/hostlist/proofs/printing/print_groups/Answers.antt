use Rattle.std.proofs.Common.{◌≡◌, ◌++◌, ◌∷◌, ap, map, append_assoc, ◌∙◌, sym, [], arith}
use Rattle.std.proofs.lemmas.List.{append-nil, nil_from_length}
use Rattle.std.proofs.lemmas.Bool.Decides.{nat_tests}
use Rattle.std.specs.List.{join_with_byte}
use Rattle.hostlist.specs.Names.{shares_prefix}
use Rattle.hostlist.specs.Printing.{chunks_by, group_text, canonical}
use Rattle.hostlist.proofs.ChunkLemmas.{comma_texts, joined_is}
use Rattle.hostlist.proofs.printing.print_groups.Goals as goal

pub loop-rest-init : goal.loop-rest-init
loop-rest-init c =
    let old = c.args.text.now.items in
    let part = c.first_chunk.result.0.now in
    let rest = chunks_by shares_prefix c.first_chunk.result.1.now in
    let whole : chunks_by shares_prefix c.args.names.now ≡ part ∷ rest = c.first_chunk.ensures.chunks in
    ap (λ x. x ++ comma_texts group_text rest) c.in_ok-print_group.ensures ∙ append_assoc old (group_text part) (comma_texts group_text rest)
    ∙ ap (λ x. old ++ x) (sym (joined_is group_text part rest)) ∙ ap (λ parts. old ++ join_with_byte 44 (map group_text parts)) (sym whole)

pub returns : goal.returns
unfolding canonical
returns c =
    let none : c.loop-rest.rest.now ≡ [] = nil_from_length c.loop-rest.rest.now (grind (arith, nat_tests)) in
    sym (append-nil c.loop-rest.text.items) ∙ ap (λ xs. c.loop-rest.text.items ++ comma_texts group_text (chunks_by shares_prefix xs)) (sym none) ∙ c.loop-rest.invariant
