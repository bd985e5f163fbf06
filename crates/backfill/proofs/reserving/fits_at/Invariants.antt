use Rattle.std.proofs.Common.{◌≤◌, drop, length}
use Rattle.graph_match.specs.Rooms.{AreRooms}
use Rattle.job_rules.specs.Fits.{nodes_of}
use Rattle.backfill.specs.Held.{held_at}
use Rattle.backfill.proofs.reserving.fits_at.Given as goal

abbrev pub invariant-loop-at : goal.invariant-loop-at
invariant-loop-at l = record {
  within : l.at ≤ length l.live;
  rooms : AreRooms l.spec l.graph.grant (nodes_of (held_at l.second (drop l.at l.live))) l.spare.rooms.items l.spare.sum;
}

abbrev pub decreases-loop-at : goal.decreases-loop-at
decreases-loop-at l = l.at
