use Rattle.std.proofs.Common.{◌≡◌, ◌-◌, ◌<◌, ◌++◌, ◌∷◌, [], ap, ap₂, length, get_or, append_assoc, ◌∙◌, sym, arith}
use Rattle.std.proofs.lemmas.List.{get_or_read}
use Rattle.hostlist.specs.Names.{number_digits}
use Rattle.hostlist.proofs.ChunkLemmas.{run_one, run_more}
use Rattle.hostlist.proofs.printing.print_run.Goals as goal

pub returns-then-run-eq1 : goal.returns-then-run-eq1
returns-then-run-eq1 c =
    let run = c.args.run.now in
    let first : c.index-run-0.result ≡ get_or run 0 [] = get_or_read run 0 _ c.requires c.index-run-0.is [] in
    let digits : c.split_digits.result.1.now ≡ number_digits (get_or run 0 []) = c.split_digits.ensures.digits ∙ ap number_digits (c.as_slice.ensures ∙ first) in
    c.in_ok-extend_from_slice.ensures.items ∙ ap (λ x. c.args.text.now.items ++ x) (digits ∙ sym (run_one run c.if-run-eq1.true))

pub returns : goal.returns
returns c =
    let run = c.args.run.now in
    let old = c.args.text.now.items in
    let more : 1 < length run = omega (arith, c.requires) in
    let first : c.index-run-0.result ≡ get_or run 0 [] = get_or_read run 0 _ c.requires c.index-run-0.is [] in
    let last : c.index-run-run.result ≡ get_or run (length run - 1) [] = get_or_read run (length run - 1) _ (omega arith) c.index-run-run.is [] in
    let front : c.split_digits.result.1.now ≡ number_digits (get_or run 0 []) = c.split_digits.ensures.digits ∙ ap number_digits (c.as_slice.ensures ∙ first) in
    let back : c.split_digits-2.result.1.now ≡ number_digits (get_or run (length run - 1) []) = c.split_digits-2.ensures.digits ∙ ap number_digits (c.as_slice-2.ensures ∙ last) in
    c.in_ok-extend_from_slice-2.ensures.items
    ∙ ap₂ (λ x y. x ++ y) (c.in_ok-push.ensures.items ∙ ap (λ x. x ++ 45 ∷ []) (c.in_ok-extend_from_slice.ensures.items ∙ ap (λ x. old ++ x) front)) back
    ∙ append_assoc (old ++ number_digits (get_or run 0 [])) (45 ∷ []) (number_digits (get_or run (length run - 1) []))
    ∙ append_assoc old (number_digits (get_or run 0 [])) (45 ∷ number_digits (get_or run (length run - 1) []))
    ∙ ap (λ x. old ++ x) (sym (run_more run more))
