use Rattle.std.proofs.Common.{◌≡◌, sym, ap, ◌∙◌, subst}
use Rattle.std.specs.List.{AllByRecursion}
use Rattle.kvs_model.specs.Operation.{changed}
use Rattle.kvs_txn.specs.Keys.{IsComponent}
use Rattle.kvs_model.specs.Walk.{resolved}
use Rattle.plain_store.specs.Next.{LeadsTo}
use Rattle.tree_store.specs.Shown.{OpensAbove}
use Rattle.std.specs.Prelude.{IfOk, Ok}
use Rattle.tree_store.proofs.Found.{zero_of, more_of}
use Rattle.tree_store.proofs.Operated.{op_root, op_nowhere, op_refused, op_done, leads_below, leads_named}
use Rattle.tree_store.proofs.operations.operate.Goals as goal

pub returns-then-is_empty : goal.returns-then-is_empty
returns-then-is_empty c = λ h st shows.
    op_root st c.args.who c.args.space c.args.op.now c.as_slice-key.result.now (c.as_slice-key.ensures ∙ c.key_in-key.ensures) (zero_of _ (sym c.is_empty.ensures ∙ c.if-is_empty.true))

pub returns-in-Err : goal.returns-in-Err
returns-in-Err c = λ h st shows.
    op_nowhere st c.args.who c.args.space c.args.op.now c.as_slice-key.result.now c.in-Err.why (c.as_slice-key.ensures ∙ c.key_in-key.ensures) (more_of _ (sym c.is_empty.ensures ∙ c.if-is_empty.false))
    (subst (LeadsTo st c.as_slice-key.result.now) c.in-Err.is (c.in_ok-end.ensures.end h st shows))

pub refusal-requires : goal.refusal-requires
refusal-requires c =
    let at = c.as_slice-at.result.now in
    let st = c.requires.1 in
    let leads : resolved st c.as_slice-key.result.now ≡ Ok at = subst (LeadsTo st c.as_slice-key.result.now) c.in-Ok.is (c.in_ok-end.ensures.end c.requires.0 st c.requires.2) ∙ ap Ok (sym c.as_slice-at.ensures.value) in
    leads_below st c.as_slice-key.result.now at (more_of _ (sym c.is_empty.ensures ∙ c.if-is_empty.false)) leads

pub returns-in-Some : goal.returns-in-Some
returns-in-Some c = λ h st shows.
    let at = c.as_slice-at.result.now in
    let leads : resolved st c.as_slice-key.result.now ≡ Ok at = subst (LeadsTo st c.as_slice-key.result.now) c.in-Ok.is (c.in_ok-end.ensures.end h st shows) ∙ ap Ok (sym c.as_slice-at.ensures.value) in
    let opens : OpensAbove c.resolve.new.opened st at = subst (OpensAbove c.resolve.new.opened st) (sym c.as_slice-at.ensures.value) (subst (λ r. IfOk r (λ v. OpensAbove c.resolve.new.opened st v.items)) c.in-Ok.is (c.in_ok-end.ensures.opens h st shows)) in
    op_refused st c.args.who c.args.space c.args.op.now c.as_slice-key.result.now at (c.as_slice-key.ensures ∙ c.key_in-key.ensures) (more_of _ (sym c.is_empty.ensures ∙ c.if-is_empty.false)) leads c.in-Some.why
    (c.in-Some.ensures h st (c.in_ok-end.ensures.shown h st shows) opens)

pub change-requires-clause-named : goal.change-requires-clause-named
change-requires-clause-named c =
    let at = c.as_slice-at.result.now in
    let st = c.requires.1 in
    let leads : resolved st c.as_slice-key.result.now ≡ Ok at = subst (LeadsTo st c.as_slice-key.result.now) c.in-Ok.is (c.in_ok-end.ensures.end c.requires.0 st c.requires.2) ∙ ap Ok (sym c.as_slice-at.ensures.value) in
    leads_named st c.as_slice-key.result.now at c.requires.2.storable (subst (AllByRecursion IsComponent) (sym c.as_slice-key.ensures) c.is_key.ensures.named) leads

pub change-requires-clause-below : goal.change-requires-clause-below
change-requires-clause-below c =
    let at = c.as_slice-at.result.now in
    let st = c.requires.1 in
    let leads : resolved st c.as_slice-key.result.now ≡ Ok at = subst (LeadsTo st c.as_slice-key.result.now) c.in-Ok.is (c.in_ok-end.ensures.end c.requires.0 st c.requires.2) ∙ ap Ok (sym c.as_slice-at.ensures.value) in
    leads_below st c.as_slice-key.result.now at (more_of _ (sym c.is_empty.ensures ∙ c.if-is_empty.false)) leads

pub returns : goal.returns
returns c = λ h st shows.
    let at = c.as_slice-at.result.now in
    let leads : resolved st c.as_slice-key.result.now ≡ Ok at = subst (LeadsTo st c.as_slice-key.result.now) c.in-Ok.is (c.in_ok-end.ensures.end h st shows) ∙ ap Ok (sym c.as_slice-at.ensures.value) in
    let opens : OpensAbove c.resolve.new.opened st at = subst (OpensAbove c.resolve.new.opened st) (sym c.as_slice-at.ensures.value) (subst (λ r. IfOk r (λ v. OpensAbove c.resolve.new.opened st v.items)) c.in-Ok.is (c.in_ok-end.ensures.opens h st shows)) in
    let now = c.in_ok-end.ensures.shown h st shows in (
      changed st c.args.op.now at,
      op_done st c.args.who c.args.space c.args.op.now c.as_slice-key.result.now at (c.as_slice-key.ensures ∙ c.key_in-key.ensures) (more_of _ (sym c.is_empty.ensures ∙ c.if-is_empty.false)) leads (c.in_default.ensures h st now opens),
      c.in_ok-change.ensures h st now opens,
    )
