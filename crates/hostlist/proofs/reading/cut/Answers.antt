use Rattle.std.proofs.Common.{◌∷◌, ◌≤◌, ◌-◌, eqb, length, take, drop, ap, sym, ◌∙◌, arith, []}
use Rattle.std.specs.List.{slice_split}
use Rattle.std.proofs.lemmas.List.{take_all}
use Rattle.hostlist.proofs.PieceLemmas.{uncut_is, cut_is}
use Rattle.hostlist.proofs.reading.cut.Goals as goal

pub returns-in-empty-clause-pieces : goal.returns-in-empty-clause-pieces
returns-in-empty-clause-pieces c =
    let text = c.args.text.now in
    let all : length text ≤ c.before_comma.result = omega (arith, c.split_at.ensures.back_len) in
    uncut_is text (omega (arith, c.before_comma.ensures.count)) ∙ ap (λ x. x ∷ []) (sym (c.split_at.ensures.front ∙ take_all _ text all))

pub returns-in-len1-up-clause-pieces : goal.returns-in-len1-up-clause-pieces
returns-in-len1-up-clause-pieces c =
    let text = c.args.text.now in
    let rest = c.split_at.result.1.now in
    cut_is text rest c.before_comma.result c.before_comma.ensures.count c.split_at.ensures.back (omega arith)
    ∙ ap (λ x. x ∷ slice_split (λ b. eqb b 44) (take (length rest - 1) (drop 1 rest))) (sym c.split_at.ensures.front)
