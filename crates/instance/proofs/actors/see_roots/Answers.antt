use Rattle.std.proofs.Common.{◌∙◌, ap, max}
use Rattle.std.proofs.lemmas.List.{take_all}
use Rattle.services.specs.answers.Floors.{number_in}
use Rattle.instance.specs.Floors.{floor_in}
use Rattle.instance.proofs.Seeing.{none_seen, root_seen}
use Rattle.instance.proofs.actors.see_roots.Goals as goal

pub loop-root-init : goal.loop-root-init
loop-root-init c = λ space. none_seen c.args.floors.now space

pub loop-root-preserved : goal.loop-root-preserved
loop-root-preserved c = λ space.
    root_seen c.args.floors.now c.loop-root.floors c.raise.new.self c.args.roots.now c.loop-root.root-index c.root-item.result c.loop-root-test.true c.root-item.is space (c.loop-root.invariant space) (c.in_ok-raise.ensures space)

pub returns : goal.returns
returns c = λ space.
    c.loop-root.invariant space ∙ ap (λ roots. max (floor_in c.args.floors.now space) (number_in space roots)) (take_all c.loop-root.root-index c.args.roots.now c.loop-root-test.false)
