use Rattle.std.proofs.Common.{◌≡◌, ◌<◌, ◌+◌, ◌-◌, drop, length, sym, subst, arith}
use Rattle.graph_match.specs.Rooms.{AreRooms}
use Rattle.job_rules.specs.Fits.{nodes_of}
use Rattle.backfill.specs.Held.{held_at}
use Rattle.backfill.proofs.Spare.{apart_behind, nodes_from}
use Rattle.backfill.proofs.reserving.fits_at.Goals as goal

pub take_at-requires-clause-left : goal.take_at-requires-clause-left
take_at-requires-clause-left c =
    let at = c.loop-at.at in
    let live = c.args.live.now in
    let second = c.args.second in
    let within : at - 1 < length live = omega (arith, c.loop-at-test.true, c.loop-at.invariant.within) in
    let follows : at - 1 + 1 ≡ at = omega (arith, c.loop-at-test.true) in (
      nodes_of (held_at second (drop at live)),
      apart_behind second live (at - 1) at c.index-live-at.result within c.index-live-at.is follows c.requires.held.apart,
      c.loop-at.invariant.rooms,
    )

pub loop-at-preserved : goal.loop-at-preserved
loop-at-preserved c =
    let at = c.loop-at.at in
    let live = c.args.live.now in
    let second = c.args.second in
    let x = c.index-live-at.result in
    let spare = c.take_at.new.spare in
    let within : at - 1 < length live = omega (arith, c.loop-at-test.true, c.loop-at.invariant.within) in
    let follows : at - 1 + 1 ≡ at = omega (arith, c.loop-at-test.true) in
    record {
      within = omega (arith, within);
      rooms = subst (λ ns. AreRooms c.args.spec.now c.args.graph.now.grant ns spare.rooms.items spare.sum) (sym (nodes_from second live (at - 1) at x within c.index-live-at.is follows))
          (c.take_at.ensures (nodes_of (held_at second (drop at live))) (apart_behind second live (at - 1) at x within c.index-live-at.is follows c.requires.held.apart) c.loop-at.invariant.rooms);
    }
