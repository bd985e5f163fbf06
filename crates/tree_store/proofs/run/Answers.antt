use Rattle.std.proofs.Common.{◌+◌, sym, ap, ◌∙◌, drop, subst}
use Rattle.kvs_model.specs.Operation.{op_effect, ops_effect}
use Rattle.plain_store.proofs.Working.{ops_refused, ops_more, ops_end}
use Rattle.tree_store.specs.Landing.{table}
use Rattle.tree_store.specs.Shown.{Gives}
use Rattle.tree_store.proofs.run.Goals as goal

pub operate-requires : goal.operate-requires
operate-requires c =
    let now = c.loop-op.invariant c.requires.0 c.requires.1 c.requires.2 in
    (c.requires.0, now.0, now.1)

pub returns-in-Some : goal.returns-in-Some
returns-in-Some c = λ h st shows.
    let now = c.loop-op.invariant h st shows in
    let who = c.args.txn.now.author in
    let refused = subst (λ why. Gives h (table c.args.store.now) (op_effect now.0 who c.args.scope c.op-item.result) why c.operate.new.opened) c.in-Some.is (c.in_ok-cause.ensures h now.0 now.1) in
    now.2 ∙ ops_refused who c.args.scope c.loop-op.number c.as_slice-op-items.result.now c.loop-op.op-index c.op-item.result now.0 c.in-Some.cause c.loop-op-test.true c.op-item.is refused

pub loop-op-preserved : goal.loop-op-preserved
loop-op-preserved c = λ h st shows.
    let now = c.loop-op.invariant h st shows in
    let who = c.args.txn.now.author in
    let ops = c.as_slice-op-items.result.now in
    let done = subst (λ why. Gives h (table c.args.store.now) (op_effect now.0 who c.args.scope c.op-item.result) why c.operate.new.opened) c.in_default.is (c.in_ok-cause.ensures h now.0 now.1) in (
      done.0,
      done.2,
      now.2
          ∙ ops_more who c.args.scope c.loop-op.number ops c.loop-op.op-index c.op-item.result now.0 done.0 c.loop-op-test.true c.op-item.is done.1
          ∙ ap (λ n. ops_effect who c.args.scope n (drop (c.loop-op.op-index + 1) ops) done.0) (sym c.in-Some-checked_add.ensures.1),
    )

pub returns : goal.returns
returns c = λ h st shows.
    let now = c.loop-op.invariant h st shows in
    (now.0, now.2 ∙ ops_end c.args.txn.now.author c.args.scope c.loop-op.number c.as_slice-op-items.result.now c.loop-op.op-index now.0 c.loop-op-test.false, now.1)
