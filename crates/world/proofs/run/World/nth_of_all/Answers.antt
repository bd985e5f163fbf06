use Rattle.std.proofs.Common.{◌∙◌, ◌<◌, arith, get_or, length, sym}
use Rattle.std.proofs.lemmas.List.{get_or_default}
use Rattle.world.specs.Order.{kinds, steps_of}
use Rattle.world.specs.declared.run.drawing.Kind.TheVariants as kind
use Rattle.homes.proofs.Walking.{walk_here, walk_more}
use Rattle.world.proofs.run.World.nth_of_all.Goals as goal

pub returns-in-Ok : goal.returns-in-Ok
returns-in-Ok c =
    let v = c.args.self.now in
    let n = c.loop-kind.kind-index in
    let low : n < length kinds = omega (arith, c.loop-kind-test.true) in
    let x = get_or kinds n kind.Turn in
    walk_here kinds n x low (get_or_default kinds n kind.Turn x low) (steps_of v) c.loop-kind.left c.in-Ok.step (sym c.in-Ok.ensures) ∙ c.loop-kind.invariant

pub loop-kind-preserved : goal.loop-kind-preserved
loop-kind-preserved c =
    let v = c.args.self.now in
    let n = c.loop-kind.kind-index in
    let low : n < length kinds = omega (arith, c.loop-kind-test.true) in
    let x = get_or kinds n kind.Turn in
    walk_more kinds n x low (get_or_default kinds n kind.Turn x low) (steps_of v) c.loop-kind.left c.in-Err.behind (sym c.in-Err.ensures) ∙ c.loop-kind.invariant
