use Rattle.std.proofs.Common.{◌∙◌, ◌++◌, ◌∷◌, [], ap, sym, subst, arith, length, length-append}
use Rattle.kvs_model.specs.History.{after_groups}
use Rattle.kvs_space.specs.Rulings.{IsOfFirst}
use Rattle.kvs_space.proofs.Rulings.{groups-push, first-made, one-taken}
use Rattle.kvs_space.proofs.space.take_ready.Goals as goal

pub loop-at-preserved : goal.loop-at-preserved
loop-at-preserved c =
    let ready = ap (λ m. m.ready) c.pop.ensures in
    let added = c.in_ok-push-in-None.ensures.added in
    let judged = subst (IsOfFirst c.args.scope c.loop-at.merger.ready c.loop-at.store c.try_first.new.store) c.in-None.is c.in_ok-refusal.ensures.judged in
    let effects = first-made c.args.scope c.loop-at.merger.ready c.pop.new.merger.ready c.pop.result c.loop-at.store c.try_first.new.store ready judged in
    record {
      queue = one-taken c.args.merger.now.ready c.loop-at.groups c.pop.new.merger.ready c.loop-at.merger.ready c.pop.result c.loop-at.invariant.queue ready ∙ ap (λ gs. gs ++ c.pop.new.merger.ready) (sym added);
      fences = ap (λ m. m.fences) (sym c.pop.ensures) ∙ c.loop-at.invariant.fences;
      made = ap (λ gs. after_groups c.args.scope gs c.args.store.now) added ∙ groups-push c.args.scope c.loop-at.groups c.pop.result c.args.store.now c.loop-at.store c.try_first.new.store c.loop-at.invariant.made effects;
      left = let n = length-append c.loop-at.groups (c.pop.result ∷ []) in let l = c.loop-at.invariant.left in let e = ap length added in omega arith;
    }
