use Rattle.std.proofs.Common.{◌≡◌, ◌+◌, ◌<◌, ◌≤◌, length, get_or, ltb, ap, sym, subst, ◌∙◌}
use Rattle.job_rules.specs.Worths.{wanted}
use Rattle.graph_match.specs.declared.place.Place.{Place}
use Rattle.graph_match.specs.Places.{free_node, node_of}
use Rattle.graph_match.specs.Rooms.{room_of, worth_of}
use Rattle.graph_match.proofs.Hosts.{free_total}
use Rattle.graph_match.proofs.Skips.{lack_end, lack_skip}
use Rattle.graph_match.proofs.Turns.{IsLacking, lack_done, lack_more, sets_at}
use Rattle.graph_match.proofs.graph.is_busy.Goals.{After-index-hosts-at, then-loop-at-test+else-lacking-gt0, else-loop-at-test}
use Rattle.graph_match.proofs.graph.is_busy.Goals as goal

-- the host that a turn reads
within : (c : After-index-hosts-at) → c.loop-at.at < length c.args.places.now
within c = subst (λ ps. c.loop-at.at < length ps) c.hosts-hosts.ensures c.loop-at-test.true

is : (c : After-index-hosts-at) → c.index-hosts-at.result ≡ get_or c.args.places.now c.loop-at.at c.index-hosts-at.result
is c = c.index-hosts-at.is ∙ ap (λ ps. get_or ps c.loop-at.at c.index-hosts-at.result) c.hosts-hosts.ensures

pub brings-requires-clause-sets : goal.brings-requires-clause-sets
brings-requires-clause-sets c =
    let s = (goal.at.brings-requires-clause-sets c).After-index-hosts-at in
    sets_at c.args.places.now c.loop-at.at c.index-hosts-at.result c.requires.grant (within s) (is s)

pub loop-at-preserved : goal.loop-at-preserved
loop-at-preserved c =
    let s = (goal.at.loop-at-preserved c).After-index-hosts-at in
    let w = λ (p : Place). worth_of c.args.spec.now (room_of (node_of p)) (room_of (free_node p)) in
    let more = lack_more w c.args.places.now c.loop-at.at c.loop-at.lacking (wanted c.args.spec.now) c.brings.result c.index-hosts-at.result (within s) (is s) c.brings.ensures c.loop-at.invariant in
    let here = subst (λ n. IsLacking w c.args.places.now (c.loop-at.at + 1) n (wanted c.args.spec.now)) (sym c.saturating_sub-lacking.ensures) more in
    subst (λ n. IsLacking w c.args.places.now (c.loop-at.at + n) c.saturating_sub-lacking.result (wanted c.args.spec.now)) (sym c.max-at.ensures)
    (lack_skip c.args.spec.now c.args.places.now c.loop-at.at c.skip.result c.saturating_sub-lacking.result (wanted c.args.spec.now) c.requires.spec (within s) c.skip.ensures.lack here)

pub returns : goal.returns
returns c =
    let w = λ (p : Place). worth_of c.args.spec.now (room_of (node_of p)) (room_of (free_node p)) in
    let all = ap (λ n. ltb n (wanted c.args.spec.now)) (free_total c.args.spec.now c.args.places.now c.requires.grant c.args.places.now (λ p i. i)) in
    elim c.loop-at-test.branch [
      | then-loop-at-test+else-lacking-gt0 b ↦ lack_end w c.args.places.now c.loop-at.at c.loop-at.lacking (wanted c.args.spec.now) b.if-lacking-gt0.false c.loop-at.invariant ∙ all
      | else-loop-at-test b ↦ lack_done w c.args.places.now c.loop-at.at c.loop-at.lacking (wanted c.args.spec.now) (subst (λ ps. length ps ≤ c.loop-at.at) c.hosts-hosts.ensures b.loop-at-test.false) c.loop-at.invariant ∙ all
    ]
