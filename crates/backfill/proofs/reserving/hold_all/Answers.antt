use Rattle.std.proofs.Common.{◌≡◌, ◌<◌, length, map, sym, subst, arith}
use Rattle.std.specs.List.{AllByRecursion as Each}
use Rattle.job_rules.specs.Fits.{AreWithin, nodes_of, without_nodes}
use Rattle.backfill.proofs.Holding.{free_before}
use Rattle.backfill.proofs.reserving.hold_all.Goals as goal

pub hold_at-requires-clause-free : goal.hold_at-requires-clause-free
hold_at-requires-clause-free c =
    let hold = c.index-live-place.result in
    let kept = c.loop-place.invariant in
    subst (λ grant. AreWithin hold.units.nodes (map (without_nodes (nodes_of c.loop-place.graph.live)) grant)) (sym kept.grant)
    (subst (λ taken. AreWithin hold.units.nodes (map (without_nodes taken) c.args.graph.now.grant)) (sym kept.nodes)
    (free_before c.args.second c.args.graph.now.grant c.args.live.now c.loop-place.place hold c.requires.held c.loop-place-test.true c.index-live-place.is))

pub returns-clause-ids : goal.returns-clause-ids
returns-clause-ids c =
    let all : c.loop-place.place ≡ length c.args.live.now = omega arith in
    subst (λ n. Each (λ h. h.id < n) c.loop-place.graph.live) all c.loop-place.invariant.ids
