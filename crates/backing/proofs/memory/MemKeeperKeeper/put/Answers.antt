use Rattle.std.proofs.Common.{ap, subst, ◌∙◌}
use Rattle.backing.specs.Calls.{RefusesWith}
use Rattle.backing.specs.Writes.{HasOther}
use Rattle.backing.proofs.Refusals.{cause_of, nothing_clashes, wanting}
use Rattle.backing.proofs.memory.MemKeeperKeeper.put.Goals as goal

pub returns-in_err-copy-clause-fails : goal.returns-in_err-copy-clause-fails
returns-in_err-copy-clause-fails c =
    let seen = c.as_slice.ensures ∙ ap (λ k. k.writes) (c.self.view_is ∙ c.count-fails.ensures.after) in
    let other : HasOther c.as_slice.result.now c.args.reference c.args.bytes.now = (c.in-Some.kept.now, c.in-Some.ensures.other.0, c.in-Some.ensures.other.1) in
    wanting c.args.self.now c.args.self.now.writes c.args.reference c.args.bytes.now c.from_residual.result
    (subst (λ ws. HasOther ws c.args.reference c.args.bytes.now) seen other) c.from_residual.ensures.1

pub returns-then-fails-clause-cause : goal.returns-then-fails-clause-cause
returns-then-fails-clause-cause c = cause_of _ _ c.failed.result
    (subst (λ n. RefusesWith n c.failed.new.self.faults c.failed.result) (ap (λ k. k.faults) c.count-fails.ensures.after) c.failed.ensures.counted)

pub returns-then-fails-clause-clash : goal.returns-then-fails-clause-clash
returns-then-fails-clause-clash c =
    let seen = c.as_slice.ensures ∙ ap (λ k. k.writes) (c.self.view_is ∙ c.count-fails.ensures.after) in
    nothing_clashes c.args.self.now.writes c.args.reference c.args.bytes.now _
    (subst (λ ws. HasOther ws c.args.reference c.args.bytes.now → ⊥) seen c.in_default.ensures.none) (λ kept same. cc (same, c.failed.ensures.fault))

pub returns-clause-clash : goal.returns-clause-clash
returns-clause-clash c =
    let seen = c.as_slice.ensures ∙ ap (λ k. k.writes) (c.self.view_is ∙ c.count-fails.ensures.after) in
    nothing_clashes c.args.self.now.writes c.args.reference c.args.bytes.now _
    (subst (λ ws. HasOther ws c.args.reference c.args.bytes.now → ⊥) seen c.in_default.ensures.none) (λ kept same. cc same)
