use Rattle.std.proofs.Common.{◌≡◌, ◌∷◌, ◌∙◌, ap, subst}
use Rattle.std.specs.Map.{keys_of}
use Rattle.instance.proofs.Seeing.{IsJoining, joining_first, joining_on, joined_all}
use Rattle.instance.proofs.floors.Floors.join.Goals as goal

pub loop-space-init : goal.loop-space-init
loop-space-init c =
    joining_first c.args.self.now c.args.other.now c.into_iter-space-iterator.result
    (c.into_iter-space-iterator.ensures.into_iter_gives ∙ c.keys-space-items.ensures.rest ∙ ap keys_of c.other.view_is)

pub loop-space-preserved : goal.loop-space-preserved
loop-space-preserved c = λ q.
    let more : c.loop-space.space-iterator ≡ c.in-Some.space.now ∷ c.next.new.self = c.in-Some.ensures.steps in
    joining_on c.args.self.now c.args.other.now c.loop-space.self c.raise.new.self c.in-Some.space.now c.next.new.self c.of.result c.of.ensures c.in_ok-raise.ensures q
    (subst (λ rest. IsJoining c.args.self.now c.args.other.now c.loop-space.self rest q) more (c.loop-space.invariant q))

pub returns : goal.returns
returns c = λ q. joined_all c.args.self.now c.args.other.now c.loop-space.self c.loop-space.space-iterator c.in-None.ensures.steps.0 q (c.loop-space.invariant q)
