use Rattle.std.proofs.Common.{◌≡◌, ◌∙◌, ◌+◌, ◌<◌, ◌≤◌, suc, not, true, false, length, refl, ap, arith, sym, subst, get_or, take}
use Rattle.std.proofs.lemmas.List.Sums.{count_by_more_yes, count_by_more_no}
use Rattle.std.proofs.lemmas.List.{get_or_default, take_all}
use Rattle.kvs_space.specs.Space.{SpaceValue, live_in}
use Rattle.kvs_space.proofs.Rolls.{awake-count, awake-next, rests-removed, upto, upto-more, upto-within}
use Rattle.kvs_space.proofs.roll.count_live.Goals.{then-not-is_removed, else-not-is_removed}
use Rattle.kvs_space.proofs.roll.count_live.Goals as goal

gone : (s : SpaceValue) → s.removed ≡ true → not s.removed ≡ false
gone s e = ap not e

pub loop-place-preserved : goal.loop-place-preserved
loop-place-preserved c =
    let n = c.loop-place.place-index in
    let roll = c.args.roll.now in
    let spaces = c.args.spaces.now.items in
    let place = get_or roll.awake n 0 in
    let i = c.loop-place.invariant in
    let l = subst (λ xs. n < length xs) i.read c.loop-place-test.true in
    let inside = c.requires.within n 0 l in
    let at = ap (λ xs. get_or xs n 0) i.read in
    let there = c.index.ensures ∙ ap (λ k. get_or spaces k c.index.result.now) at in
    let upto-next = upto-more roll n in
    let before : live_in (take place spaces) ≡ live_in (take (upto roll n) spaces) = awake-count c.requires (λ s. not s.removed) (λ s e. gone s (rests-removed s e)) n place (omega (arith, l)) (awake-next c.requires n l) (omega (arith, inside)) (λ _. omega arith) in
    elim c.if-not-is_removed.branch [
      | then-not-is_removed w ↦ record {
        read = i.read;
        counted = w.live-is ∙ ap (λ m. m + 1) (i.counted ∙ sym before)
            ∙ sym (ap (λ m. live_in (take m spaces)) upto-next ∙ count_by_more_yes (λ s. not s.removed) spaces place c.index.result.now inside (ap (λ s. not s.removed) (sym there) ∙ ap not (sym c.is_removed.ensures) ∙ ap not w.if-not-is_removed.true));
        low = let l = i.low in let e = w.live-is in omega arith;
      }
      | else-not-is_removed w ↦ record {
        read = i.read;
        counted = w.live-is ∙ i.counted ∙ sym before
            ∙ sym (ap (λ m. live_in (take m spaces)) upto-next ∙ count_by_more_no (λ s. not s.removed) spaces place c.index.result.now inside (ap (λ s. not s.removed) (sym there) ∙ ap not (sym c.is_removed.ensures) ∙ ap not w.if-not-is_removed.false));
        low = let l = i.low in let e = w.live-is in omega arith;
      }
    ]

pub returns : goal.returns
returns c =
    let n = c.loop-place.place-index in
    let roll = c.args.roll.now in
    let spaces = c.args.spaces.now.items in
    let i = c.loop-place.invariant in
    let all = ap length i.read in
    i.counted ∙ sym (awake-count c.requires (λ s. not s.removed) (λ s e. gone s (rests-removed s e)) n (length spaces) (omega (arith, all)) (upto-within c.requires n (omega (arith, all))) (omega arith) (λ q. omega (arith, all))) ∙ ap live_in (take_all (length spaces) spaces (omega arith))
