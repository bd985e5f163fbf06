use Rattle.std.proofs.Common.{◌≡◌, ◌-◌, ◌<◌, suc, false, length, take, drop, get_or, ap, ap₂, ◌∷◌, [], ◌∙◌, sym, add-one, arith}
use Rattle.std.proofs.lemmas.List.{get_or_read}
use Rattle.hostlist.specs.Ties.{goes}
use Rattle.hostlist.specs.Printing.{chunks_by}
use Rattle.hostlist.proofs.ChunkLemmas.{first_part}
use Rattle.hostlist.proofs.printing.first_chunk.Goals as goal
use Rattle.hostlist.proofs.printing.first_chunk.Goals.{then-loop-at-test+else-goes, else-loop-at-test}

pub returns-clause-chunks : goal.returns-clause-chunks
returns-clause-chunks c =
    let names = c.args.names.now in
    let at = c.loop-at.at in
    let next : suc (at - 1) ≡ at = omega (arith, c.loop-at.invariant.some) in
    let off : suc (at - 1) < length names → goes c.args.tie (get_or names (at - 1) []) (get_or names (suc (at - 1)) []) ≡ false =
    elim c.loop-at-test.branch [
      | then-loop-at-test+else-goes w ↦ λ h.
          let before : w.index-names-at.result ≡ get_or names (at - 1) [] = get_or_read names (at - 1) _ (omega arith) w.index-names-at.is [] in
          let here : w.index-names-at-in-loop-at.result ≡ get_or names at [] = get_or_read names at _ (omega arith) w.index-names-at-in-loop-at.is [] in
          ap₂ (goes c.args.tie) (sym (w.as_slice.ensures ∙ before)) (ap (λ n. get_or names n []) next ∙ sym (w.as_slice-in-loop-at.ensures ∙ here)) ∙ sym w.goes.ensures ∙ w.if-goes.false
      | else-loop-at-test w ↦ λ h. absurd (omega arith)
    ] in
    let parts = first_part (goes c.args.tie) (at - 1) names (omega (arith, c.loop-at.invariant.within)) (λ k h. ap (λ n. goes c.args.tie (get_or names k []) (get_or names n [])) (sym (add-one k)) ∙ c.loop-at.invariant.on k h) off in
    parts ∙ ap₂ (λ x y. x ∷ chunks_by (goes c.args.tie) y) (ap (λ n. take n names) next ∙ sym c.split_at.ensures.front) (ap (λ n. drop n names) next ∙ sym c.split_at.ensures.back)
