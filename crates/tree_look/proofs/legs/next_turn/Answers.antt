use Rattle.std.proofs.Common.{subst}
use Rattle.tree_look.specs.Legs.{LegTells, StopsWithin, GoesFrom, TurnTells}
use Rattle.tree_look.specs.declared.legs.Leg.{Leg}
use Rattle.tree_look.proofs.Stored.{ok_by}
use Rattle.tree_look.proofs.Following.{turn_tells}
use Rattle.tree_look.proofs.legs.next_turn.Goals as goal

pub returns-in-Needs : goal.returns-in-Needs
returns-in-Needs g c = λ h st reads.
    subst (λ (l : Leg). LegTells h st c.args.path.now (g.T.Texts.seen c.args.texts.now) c.args.passed.now.items c.walk_leg.new.passed.items l) c.in-Needs.is (c.in_ok-leg.ensures.told h st reads)

pub past_link-requires : goal.past_link-requires
past_link-requires g c = subst (λ (l : Leg). StopsWithin c.args.path.now l) c.in-Stops.is c.in_ok-leg.ensures.within

pub returns-in-Stops : goal.returns-in-Stops
returns-in-Stops g c = λ h st reads.
    let told = subst (λ (l : Leg). LegTells h st c.args.path.now (g.T.Texts.seen c.args.texts.now) c.args.passed.now.items c.walk_leg.new.passed.items l) c.in-Stops.is (c.in_ok-leg.ensures.told h st reads) in
    ok_by (GoesFrom h st c.args.asked c.args.path.now) (TurnTells h st c.args.asked c.args.path.now (g.T.Texts.seen c.args.texts.now) c.args.passed.now.items c.walk_leg.new.passed.items)
    (λ turn goes. turn_tells h st c.args.asked c.args.path.now (g.T.Texts.seen c.args.texts.now) c.args.passed.now.items c.walk_leg.new.passed.items turn told.0 goes)
    c.past_link.result (c.past_link.ensures h st told.1)
