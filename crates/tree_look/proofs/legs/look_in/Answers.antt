use Rattle.std.proofs.Common.{subst, arith}
use Rattle.kvs_model.specs.Store.{Path}
use Rattle.kvs_model.specs.OneStore.{own_walk}
use Rattle.tree_rules.specs.OneStore.{own_needs}
use Rattle.tree_look.specs.Looks.{EndTells}
use Rattle.tree_look.specs.Legs.{TurnTells}
use Rattle.tree_look.specs.declared.legs.Turn.{Turn}
use Rattle.tree_look.specs.declared.legs.Turn.TheVariants as turn
use Rattle.tree_look.proofs.Stored.{ok_by}
use Rattle.tree_look.proofs.Ending.{AlongTells}
use Rattle.tree_look.proofs.Following.{after_none, after_more, links_miss, links_end}
use Rattle.tree_look.proofs.legs.look_in.Goals as goal

pub loop-links-init : goal.loop-links-init
loop-links-init g c = record {
  bound = omega arith;
  after = λ h st reads. after_none h st c.args.asked c.args.path.now (g.T.Texts.seen c.args.texts.now) c.args.passed.now.items c.in_ok-here.here.items c.in_ok-here.ensures;
}

pub returns-in-Needs : goal.returns-in-Needs
returns-in-Needs g c = λ h st reads.
    let texts = (g.T.Texts.seen c.args.texts.now) in
    let new = c.loop-links.passed.items in
    let more = c.next_turn.new.passed.items in
    let here = c.loop-links.here.items in
    let r = c.in-Needs.reference in
    let told = subst (λ (q : Path). TurnTells h st c.args.asked q texts new more (turn.Needs r)) c.as_slice.ensures.value
    (subst (λ (t : Turn). TurnTells h st c.args.asked c.as_slice.result.now texts new more t) c.in-Needs.is (c.in_ok-turn.ensures h st reads)) in
    links_miss h st c.args.asked c.args.path.now texts c.args.passed.now.items new more c.loop-links.links here r ((c.loop-links.invariant.after h st reads).on c.loop-links-test.true) told

pub returns-in-Ends : goal.returns-in-Ends
returns-in-Ends g c = λ h st reads.
    let texts = (g.T.Texts.seen c.args.texts.now) in
    let old = c.args.passed.now.items in
    let new = c.loop-links.passed.items in
    let more = c.next_turn.new.passed.items in
    let last = c.found.new.passed.items in
    let here = c.loop-links.here.items in
    let told = subst (λ (q : Path). TurnTells h st c.args.asked q texts new more (turn.Ends c.in-Ends.object c.in-Ends.whole)) c.as_slice.ensures.value
    (subst (λ (t : Turn). TurnTells h st c.args.asked c.as_slice.result.now texts new more t) c.in-Ends.is (c.in_ok-turn.ensures h st reads)) in
    let on = (c.loop-links.invariant.after h st reads).on c.loop-links-test.true in
    ok_by (AlongTells h st c.args.asked here texts more last) (EndTells (own_walk st c.args.asked c.args.path.now) (own_needs h st c.args.asked c.args.path.now) texts old last)
    (λ found tells. links_end h st c.args.asked c.args.path.now texts old new more last c.loop-links.links here found on told.0 told.1.0 tells)
    c.found.result (c.found.ensures h st c.args.root.now here reads told.1.1)

pub loop-links-preserved : goal.loop-links-preserved
loop-links-preserved g c = record {
  bound = omega arith;
  after = λ h st reads. (
      let texts = (g.T.Texts.seen c.args.texts.now) in
      let new = c.loop-links.passed.items in
      let more = c.next_turn.new.passed.items in
      let here = c.loop-links.here.items in
      let next = c.in-Follows.next in
      let told = subst (λ (q : Path). TurnTells h st c.args.asked q texts new more (turn.Follows next)) c.as_slice.ensures.value
      (subst (λ (t : Turn). TurnTells h st c.args.asked c.as_slice.result.now texts new more t) c.in-Follows.is (c.in_ok-turn.ensures h st reads)) in
      after_more h st c.args.asked c.args.path.now texts c.args.passed.now.items new more c.loop-links.links here next.items (c.loop-links.invariant.after h st reads) c.loop-links-test.true told.0 told.1);
}

pub returns : goal.returns
returns g c = λ h st reads. (c.loop-links.invariant.after h st reads).out (omega (arith, c.loop-links.invariant.bound, c.loop-links-test.false))
