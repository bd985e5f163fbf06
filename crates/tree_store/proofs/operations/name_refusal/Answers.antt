use Rattle.std.proofs.Common.{Some, None, sym, ap, ◌∙◌, cond}
use Rattle.tree_store.proofs.operations.name_refusal.Goals as goal
use Rattle.kvs_txn.specs.declared.answers.Cause.TheVariants as cause

pub returns-then-enters_full : goal.returns-then-enters_full
returns-then-enters_full c = λ h held st shows opens.
    sym (ap (λ b. cond b (Some cause.DirFull) None) (sym (c.enters_full.ensures h held st shows opens) ∙ c.if-enters_full.true))

pub returns : goal.returns
returns c = λ h held st shows opens.
    sym (ap (λ b. cond b (Some cause.DirFull) None) (sym (c.enters_full.ensures h held st shows opens) ∙ c.if-enters_full.false))
