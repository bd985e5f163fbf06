use Rattle.std.proofs.Common.{◌≡◌, ◌∙◌, ◌<◌, ◌≤◌, Some, ap, sym, subst, arith, get_or, length}
use Rattle.std.proofs.lemmas.List.{get_or_default}
use Rattle.kvs_space.specs.Space.{is_behind}
use Rattle.kvs_space.proofs.Rolls.{first-awake, none-awake, rests-level}
use Rattle.kvs_space.proofs.roll.first_behind.Goals as goal

pub returns-then-is_behind : goal.returns-then-is_behind
returns-then-is_behind c =
    let n = c.loop-place.place-index in
    let items = c.deref-place-items.ensures.value ∙ ap (λ v. v.awake) c.roll.view_is in
    let l = subst (λ xs. n < length xs) items c.loop-place-test.true in
    let at = ap (λ xs. get_or xs n 0) items in
    let inside = c.requires.roll.within n 0 l in
    ap Some at ∙ sym (first-awake c.requires.roll (is_behind c.args.fanout c.args.broker) (rests-level c.args.fanout c.args.broker) n l
    (λ d. ap (is_behind c.args.fanout c.args.broker) (get_or_default c.args.spaces.now.items (get_or c.args.roll.now.awake n 0) d c.index.result.now inside ∙ ap (λ k. get_or c.args.spaces.now.items k c.index.result.now) (sym at) ∙ sym c.index.ensures) ∙ sym c.is_behind.ensures ∙ c.if-is_behind.true)
    c.loop-place.invariant.before)

pub returns : goal.returns
returns c =
    let n = c.loop-place.place-index in
    let items = ap length (c.deref-place-items.ensures.value ∙ ap (λ v. v.awake) c.roll.view_is) in
    sym (none-awake c.requires.roll (is_behind c.args.fanout c.args.broker) (rests-level c.args.fanout c.args.broker) (λ j d l. c.loop-place.invariant.before j d (let o = c.deref-place-items.ensures.len in omega (arith, items))))
