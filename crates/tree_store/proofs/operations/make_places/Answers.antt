use Rattle.std.proofs.Common.{sym, subst, arith, length-take}
use Rattle.kvs_model.specs.Store.{Store}
use Rattle.tree_store.specs.Shown.{Shows, OpensAbove}
use Rattle.plain_store.proofs.Placing.{upto, upto_more, upto_all}
use Rattle.tree_store.proofs.Placed.{upto_one, in_upto, take_named, opens_within}
use Rattle.tree_store.proofs.operations.make_places.Goals as goal

pub loop-count-init : goal.loop-count-init
loop-count-init c = record {
  low = omega arith;
  shown = λ h held st shows opens. subst (Shows h held c.args.opened.now) (sym (upto_one st shows.store c.args.at.now)) shows;
  opens = λ h held st shows opens. subst (λ (s : Store). OpensAbove c.args.opened.now s c.args.at.now) (sym (upto_one st shows.store c.args.at.now)) opens;
}

pub make_place-requires : goal.make_place-requires
make_place-requires c = record {
  named = take_named c.loop-count.count c.args.at.now c.requires;
  below = omega (arith, length-take c.loop-count.count c.args.at.now, c.loop-count.invariant.low, c.loop-count-test.true);
}

pub loop-count-preserved : goal.loop-count-preserved
loop-count-preserved c =
    let at = c.args.at.now in
    let count = c.loop-count.count in
    record {
      low = omega arith;
      shown = λ h held st shows opens. (
          let shown = c.loop-count.invariant.shown h held st shows opens in
          let above = c.loop-count.invariant.opens h held st shows opens in
          subst (Shows h held c.make_place.new.opened) (sym (upto_more st at count c.loop-count-test.true))
          (c.in_ok-make_place.ensures.made h held (upto st at count) shown (opens_within c.loop-count.opened (upto st at count) at count above) (in_upto st at count c.loop-count.invariant.low c.loop-count-test.true)));
      opens = λ h held st shows opens. (
          let shown = c.loop-count.invariant.shown h held st shows opens in
          let above = c.loop-count.invariant.opens h held st shows opens in
          subst (λ (s : Store). OpensAbove c.make_place.new.opened s at) (sym (upto_more st at count c.loop-count-test.true))
          (c.in_ok-make_place.ensures.opens h held (upto st at count) at shown (opens_within c.loop-count.opened (upto st at count) at count above) (in_upto st at count c.loop-count.invariant.low c.loop-count-test.true) above));
    }

pub returns-clause-made : goal.returns-clause-made
returns-clause-made c = λ h held st shows opens.
    subst (Shows h held c.loop-count.opened) (upto_all st c.args.at.now c.loop-count.count c.loop-count-test.false) (c.loop-count.invariant.shown h held st shows opens)

pub returns-clause-opens : goal.returns-clause-opens
returns-clause-opens c = λ h held st shows opens.
    subst (λ (s : Store). OpensAbove c.loop-count.opened s c.args.at.now) (upto_all st c.args.at.now c.loop-count.count c.loop-count-test.false) (c.loop-count.invariant.opens h held st shows opens)
