use Rattle.std.proofs.Common.{◌≡◌, ◌<◌, ◌++◌, ◌∷◌, [], ap, length, map, get_or, append_assoc, ◌∙◌, sym, arith}
use Rattle.std.specs.List.{join_with_byte}
use Rattle.std.proofs.lemmas.List.{get_or_read}
use Rattle.hostlist.specs.Names.{number_prefix, follows}
use Rattle.hostlist.specs.Printing.{chunks_by, run_text}
use Rattle.hostlist.proofs.ChunkLemmas.{group_one, group_more}
use Rattle.hostlist.proofs.printing.print_group.Goals as goal

pub returns-then-group-eq1 : goal.returns-then-group-eq1
returns-then-group-eq1 c =
    let group = c.args.group.now in
    let first : c.index-group-0.result ≡ get_or group 0 [] = get_or_read group 0 _ c.requires c.index-group-0.is [] in
    c.in_ok-extend_from_slice.ensures.items ∙ ap (λ x. c.args.text.now.items ++ x) (c.as_slice-first.ensures ∙ first ∙ sym (group_one group c.if-group-eq1.true))

pub returns : goal.returns
returns c =
    let group = c.args.group.now in
    let old = c.args.text.now.items in
    let more : 1 < length group = omega (arith, c.requires) in
    let first : c.index-group-0.result ≡ get_or group 0 [] = get_or_read group 0 _ c.requires c.index-group-0.is [] in
    let prefix = number_prefix (get_or group 0 []) in
    let inside = join_with_byte 44 (map run_text (chunks_by follows group)) in
    let front : c.split_digits.result.0.now ≡ prefix = c.split_digits.ensures.prefix ∙ ap number_prefix (c.as_slice-first.ensures ∙ first) in
    let begun : c.push.new.self.items ≡ (old ++ prefix) ++ 91 ∷ [] = c.in_ok-push.ensures.items ∙ ap (λ x. x ++ 91 ∷ []) (c.in_ok-extend_from_slice-2.ensures.items ∙ ap (λ x. old ++ x) front) in
    c.in_ok-push-2.ensures.items ∙ ap (λ x. x ++ 93 ∷ []) (c.in_ok-print_runs.ensures ∙ ap (λ x. x ++ inside) begun)
    ∙ append_assoc ((old ++ prefix) ++ 91 ∷ []) inside (93 ∷ [])
    ∙ append_assoc (old ++ prefix) (91 ∷ []) (inside ++ 93 ∷ [])
    ∙ append_assoc old prefix (91 ∷ (inside ++ 93 ∷ []))
    ∙ ap (λ x. old ++ x) (sym (append_assoc prefix (91 ∷ inside) (93 ∷ [])) ∙ sym (group_more group more))
