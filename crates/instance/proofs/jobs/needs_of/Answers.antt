use Rattle.std.proofs.Common.{◌≡◌, ◌+◌, ◌++◌, ◌∷◌, ◌∙◌, [], map, take, sym, ap, add-one}
use Rattle.std.proofs.Math.Seq.{take-suc}
use Rattle.std.proofs.lemmas.List.{map-append}
use Rattle.services.specs.answers.Jobs.{named_by}
use Rattle.services.specs.job_commands.Asks.{named_of}
use Rattle.instance.proofs.jobs.needs_of.Goals as goal

pub loop-need-preserved : goal.loop-need-preserved
loop-need-preserved c =
    let depends = c.args.depends.now in
    let at = c.loop-need.need-index in
    let need = c.need-item.result in
    let more : take (at + 1) depends ≡ take at depends ++ need ∷ [] =
    ap (λ n. take n depends) (add-one at) ∙ take-suc depends at need c.loop-need-test.true ∙ ap (λ x. take at depends ++ x ∷ []) (sym c.need-item.is) in
    ap (map named_of) c.in_ok-push.ensures.added
    ∙ map-append named_of c.loop-need.needs _
    ∙ ap (λ xs. xs ++ map named_of (record { scheme = need.scheme; label = c.in_ok-copy.field-0 } ∷ [])) c.loop-need.invariant
    ∙ ap (λ (label : _). map named_by (take at depends) ++ record { scheme = need.scheme; label = label } ∷ []) c.in_ok-copy.ensures
    ∙ sym (map-append named_by (take at depends) (need ∷ []))
    ∙ ap (map named_by) (sym more)
