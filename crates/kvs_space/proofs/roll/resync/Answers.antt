use Rattle.std.proofs.Common.{◌≡◌, ◌∙◌, ◌<◌, ap, sym, subst, arith, get_or, length}
use Rattle.std.proofs.lemmas.List.{length-set}
use Rattle.kvs_space.specs.Roll.{IsRoll}
use Rattle.kvs_space.proofs.Rolls.{resynced-all, resynced-next, resynced-rest, roll-resynced}
use Rattle.kvs_space.proofs.roll.resync.Goals as goal

pub loop-place-preserved : goal.loop-place-preserved
loop-place-preserved c =
    let n = c.loop-place.place-index in
    let i = c.loop-place.invariant in
    let l = subst (λ xs. n < length xs) i.read c.loop-place-test.true in
    let at = ap (λ xs. get_or xs n 0) i.read in
    record {
      read = i.read;
      long = length-set c.loop-place.spaces.items (get_or c.deref-place-items.result.now n 0) c.resync.new.self ∙ i.long;
      so_far = resynced-next c.requires.roll c.args.fanout c.args.broker n c.loop-place.spaces.items i.long i.so_far i.rest l (get_or c.deref-place-items.result.now n 0) at c.index_mut-space.result.now c.resync.new.self c.index_mut-space.ensures.value c.in_ok-resync.ensures;
      rest = resynced-rest c.requires.roll c.args.fanout c.args.broker n c.loop-place.spaces.items i.long i.so_far i.rest l (get_or c.deref-place-items.result.now n 0) at c.index_mut-space.result.now c.resync.new.self c.index_mut-space.ensures.value c.in_ok-resync.ensures;
    }

pub returns-clause-resynced : goal.returns-clause-resynced
returns-clause-resynced c =
    let i = c.loop-place.invariant in
    resynced-all c.requires.roll c.args.fanout c.args.broker c.loop-place.place-index c.loop-place.spaces.items i.long i.so_far i.rest
    (let items = ap length i.read in let o = c.deref-place-items.ensures.len in omega (arith, items))

pub returns-clause-roll : goal.returns-clause-roll
returns-clause-roll c =
    let i = c.loop-place.invariant in
    subst (IsRoll c.args.roll.now)
    (sym (resynced-all c.requires.roll c.args.fanout c.args.broker c.loop-place.place-index c.loop-place.spaces.items i.long i.so_far i.rest
    (let items = ap length i.read in let o = c.deref-place-items.ensures.len in omega (arith, items))))
    (roll-resynced c.requires.roll c.args.fanout c.args.broker)
