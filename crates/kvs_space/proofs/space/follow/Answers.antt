use Rattle.std.proofs.Common.{◌≡◌, ◌∙◌, Err, ap, sym, subst, refl, arith, length, ◌≤◌}
use Rattle.kvs_model.specs.History.{after_groups}
use Rattle.kvs_model.specs.Operation.{effect}
use Rattle.plain_store.specs.Effects.{IsRefusalOf}
use Rattle.kvs_space.proofs.Replaying.{follow-step, follow-unrefused, dropped-all}
use Rattle.kvs_space.proofs.space.follow.Goals as goal

pub loop-group-init : goal.loop-group-init
loop-group-init c = record { read = c.as_slice-group-items.ensures; so_far = refl }

pub unreachable-requires : goal.unreachable-requires
unreachable-requires c =
    let e : effect c.loop-group.store c.group-item.result.txn c.args.scope ≡ Err c.in-Err-Refused.field-0-0 =
    subst (λ f. IsRefusalOf f (effect c.loop-group.store c.group-item.result.txn c.args.scope)) c.in-Err-Refused.field-0-is c.in-Err-Refused.ensures.refused in
    follow-unrefused c.args.scope c.args.groups.now c.as_slice-group-items.result.now c.loop-group.group-index c.group-item.result c.loop-group.store c.args.store.now
    c.loop-group.invariant.read c.loop-group-test.true c.group-item.is c.loop-group.invariant.so_far c.in-Err-Refused.field-0-0 c.requires e

pub loop-group-preserved : goal.loop-group-preserved
loop-group-preserved c = record {
  read = c.loop-group.invariant.read;
  so_far = follow-step c.args.scope c.args.groups.now c.as_slice-group-items.result.now c.loop-group.group-index c.group-item.result c.loop-group.store c.args.store.now
      c.loop-group.invariant.read c.loop-group-test.true c.group-item.is c.loop-group.invariant.so_far c.apply.new.self c.in-Ok.ensures.effect;
}

pub returns : goal.returns
returns c =
    sym c.loop-group.invariant.so_far
    ∙ ap (λ gs. after_groups c.args.scope gs c.loop-group.store) (dropped-all c.args.groups.now c.loop-group.group-index (subst (λ xs. length xs ≤ c.loop-group.group-index) c.loop-group.invariant.read (omega arith)))
