use Rattle.std.proofs.Common.{◌≡◌, ◌∙◌, ◌<◌, ap, sym, subst, arith, get_or, length}
use Rattle.std.specs.Prelude.{slice_index}
use Rattle.std.proofs.lemmas.List.{get_or_default}
use Rattle.kvs_space.specs.Space.{is_named}
use Rattle.kvs_space.proofs.Finding.{found-within}
use Rattle.kvs_space.proofs.Rolls.{known-there, unheard-none, unnamed-none}
use Rattle.kvs_space.proofs.roll.find_known.Goals as goal

pub returns-then-known-gt0 : goal.returns-then-known-gt0
returns-then-known-gt0 c =
    let at = c.in-Some.ensures.found c.args.spaces.now.items c.requires.roll in
    let inside = found-within (is_named c.args.name.now) c.args.spaces.now.items c.in-Some.place at in
    known-there c.requires.roll c.args.name.now c.args.broker c.in-Some.place at (λ d.
    let there = ap (λ s. slice_index s.known c.args.broker) (c.index.ensures ∙ get_or_default c.args.spaces.now.items c.in-Some.place c.index.result.now d inside) in
    let k = c.known.ensures in
    let t = c.if-known-gt0.true in
    omega arith)

pub returns-else-known-gt0 : goal.returns-else-known-gt0
returns-else-known-gt0 c =
    let at = c.in-Some.ensures.found c.args.spaces.now.items c.requires.roll in
    let inside = found-within (is_named c.args.name.now) c.args.spaces.now.items c.in-Some.place at in
    unheard-none c.requires.roll c.args.name.now c.args.broker c.requires.apart c.in-Some.place at (λ d.
    let there = ap (λ s. slice_index s.known c.args.broker) (c.index.ensures ∙ get_or_default c.args.spaces.now.items c.in-Some.place c.index.result.now d inside) in
    let k = c.known.ensures in
    let t = c.if-known-gt0.false in
    omega arith)

pub returns-in-None : goal.returns-in-None
returns-in-None c = unnamed-none c.requires.roll c.args.name.now c.args.broker (c.in-None.ensures.found c.args.spaces.now.items c.requires.roll)
