use Rattle.std.proofs.Common.{◌≡◌, ◌∙◌, [], ap, sym, arith, Some}
use Rattle.std.proofs.lemmas.List.{get_or_default, get_or-set_same}
use Rattle.kvs_model.specs.History.{after}
use Rattle.kvs_space.proofs.Replaying.{catch-step, catch-some}
use Rattle.kvs_space.proofs.space.catch_up.Goals as goal

pub loop-number-init : goal.loop-number-init
loop-number-init c = λ first e. e

pub follow-requires : goal.follow-requires
follow-requires c =
    let first = c.requires.stands.0 in
    let here = c.requires.stands.1 ∙ ap Some (get_or_default c.args.stores.now.items c.args.broker [] c.index_mut-store.result.now c.requires.within ∙ sym c.index_mut-store.ensures.value) in
    catch-some c.args.scope c.args.history.now.items c.loop-number.number c.args.to c.index.result.now c.loop-number.store c.loop-number-test.true c.requires.landed c.index.ensures
    first (c.loop-number.invariant first here) c.requires.stands.2

pub loop-number-preserved : goal.loop-number-preserved
loop-number-preserved c = λ first e.
    catch-step c.args.scope c.args.history.now.items c.loop-number.number c.args.to c.index.result.now c.loop-number.store c.loop-number-test.true c.requires.landed c.index.ensures
    first c.follow.new.store (c.loop-number.invariant first e) c.in_ok-follow.ensures

pub returns-clause-follows : goal.returns-clause-follows
returns-clause-follows c = λ first e.
    let here = e ∙ ap Some (get_or_default c.args.stores.now.items c.args.broker [] c.index_mut-store.result.now c.requires.within ∙ sym c.index_mut-store.ensures.value) in
    let n : c.args.to ≡ c.loop-number.number = omega (arith, c.requires.rises) in
    ap (λ k. after c.args.scope c.args.history.now.items k first) n ∙ c.loop-number.invariant first here
    ∙ ap Some (sym (get_or-set_same c.args.stores.now.items c.args.broker c.loop-number.store [] c.requires.within))
