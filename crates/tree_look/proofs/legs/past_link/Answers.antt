use Rattle.std.proofs.Common.{◌≡◌, ◌-◌, sym, ap₂, ◌∙◌, List, ◌++◌, length, take, drop, arith, length-drop}
use Rattle.std.proofs.lemmas.List.{take_all}
use Rattle.tree_look.proofs.Following.{goes_left, goes_nowhere, goes_on}
use Rattle.tree_look.proofs.legs.past_link.Goals as goal

pub returns-then-leaves : goal.returns-then-leaves
returns-then-leaves c = λ h st stops.
    goes_left h st c.args.asked c.args.path.now c.args.count c.args.object stops c.requires (sym c.leaves.ensures ∙ c.if-leaves.true)

pub returns-in-None : goal.returns-in-None
returns-in-None c = λ h st stops.
    goes_nowhere h st c.args.asked c.args.path.now c.args.count c.args.object stops c.requires (sym c.leaves.ensures ∙ c.if-leaves.false) c.in-None.ensures

pub returns-in_ok-next-in-Some : goal.returns-in_ok-next-in-Some
returns-in_ok-next-in-Some c = λ h st stops.
    let path = c.args.path.now in
    let count = c.args.count in
    let whole : take (length path - count) (drop count path) ≡ drop count path = take_all (length path - count) (drop count path) (omega (arith, length-drop count path)) in
    goes_on h st c.args.asked path count c.args.object c.in-Some.target.now c.in_ok-next-in-Some.next.items stops c.requires (sym c.leaves.ensures ∙ c.if-leaves.false) c.in-Some.ensures
    (c.in_ok-next-in-Some.ensures ∙ ap₂ (λ (front back : List (List _)). front ++ back) c.as_slice.ensures whole)
