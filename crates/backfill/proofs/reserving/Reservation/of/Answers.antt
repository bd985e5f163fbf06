use Rattle.std.proofs.Common.{ℕ, ◌≤◌, ap, subst}
use Rattle.backfill.specs.Reserved.{FitsAt, Reserves}
use Rattle.backfill.proofs.reserving.Reservation.of.Goals as goal

pub returns-in_default : goal.returns-in_default
returns-in_default c =
    let spec = c.args.spec.now in
    let live = c.args.live.now in
    subst (λ grant. (second : ℕ) → c.args.now ≤ second → FitsAt spec grant live second → ⊥) (ap (λ g. g.grant) c.in_ok-graph.ensures)
    (subst (Reserves spec c.in_ok-graph.graph.grant live c.args.now) c.in_default.is c.in_ok-second.ensures)
