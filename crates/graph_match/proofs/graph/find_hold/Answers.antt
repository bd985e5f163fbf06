use Rattle.std.proofs.Common.{◌≤◌, length, sym, ap, ◌∙◌, arith}
use Rattle.std.proofs.lemmas.Bool.{ltb-false}
use Rattle.std.proofs.lemmas.List.{get_or_default}
use Rattle.graph_match.proofs.Holds.{new_at}
use Rattle.graph_match.proofs.graph.find_hold.Goals as goal

pub returns-in-None-clause-none : goal.returns-in-None-clause-none
returns-in-None-clause-none c =
    let past : length c.args.live.now ≤ c.hold_of-at.result = ltb-false _ _ (sym c.in-None.ensures.lookup.0) in
    new_at c.args.live.now c.args.id c.hold_of-at.result c.hold_of-at.ensures.before c.hold_of-at.ensures.after c.requires (λ d w e. let no : ⊥ = omega (arith, past, w) in no)

pub returns-else-hold-id-clause-none : goal.returns-else-hold-id-clause-none
returns-else-hold-id-clause-none c =
    new_at c.args.live.now c.args.id c.hold_of-at.result c.hold_of-at.ensures.before c.hold_of-at.ensures.after c.requires
    (λ d w e. c.if-hold-id.false (ap (λ h. h.id) (c.in-Some.ensures.lookup.1 ∙ get_or_default c.args.live.now c.hold_of-at.result c.in-Some.hold.now d w) ∙ e))
