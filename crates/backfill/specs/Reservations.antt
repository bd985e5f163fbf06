-- A reserved second with what live jobs hold then.
use Rattle.std.specs.Prelude.{◌≡◌, ℕ, ◌<◌, ◌≤◌, List, length, Option, Some, None}
use Rattle.std.specs.List.{AllByRecursion as Each}
use Rattle.backfill.specs.declared.hold.Hold.{Hold}
use Rattle.backfill.specs.declared.reserving.Reservation.{Reservation}
use Rattle.backfill.specs.Held.{held_at}
use Rattle.backfill.specs.Reserved.{FitsAt, IsReserved}
use Rattle.job_rules.specs.Fits.{nodes_of}
use Rattle.job_spec.specs.declared.spec.JobSpec.{JobSpec}
use Rattle.resource_set.specs.declared.node.Node.{Node}

-- it is the job's, and has what live jobs hold at its second, under ids below their count
pub record IsReservation (spec : JobSpec) (grant : List Node)
    (live : List Hold) (now : ℕ) (r : Reservation) : Type 0 where
  pub reserved : IsReserved spec grant live now r.second
  pub whole : r.graph.grant ≡ grant
  pub nodes : nodes_of r.graph.live ≡ nodes_of (held_at r.second live)
  pub ids : Each (λ h. h.id < length live) r.graph.live

-- the job's, or none where it fits at no second from now on
abbrev pub AsReserved : JobSpec → List Node → List Hold → ℕ → Option Reservation → Type 0
AsReserved spec grant live now (Some r) = IsReservation spec grant live now r
AsReserved spec grant live now None =
    (second : ℕ) → now ≤ second → FitsAt spec grant live second → ⊥
