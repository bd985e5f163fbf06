-- The second that is reserved for a job.
use Rattle.std.specs.Prelude.{ℕ, ◌≤◌, ◌<◌, List, ◌∷◌, [], ◌++◌, Option, Some, None}
use Rattle.backfill.specs.declared.hold.Hold.{Hold}
use Rattle.backfill.specs.Held.{free_at}
use Rattle.job_rules.specs.Fits.{CanFit}
use Rattle.job_spec.specs.declared.spec.JobSpec.{JobSpec}
use Rattle.resource_set.specs.declared.node.Node.{Node}

-- some of the units that live jobs leave at a second satisfy the job
abbrev pub FitsAt : JobSpec → List Node → List Hold → ℕ → Type 0
FitsAt spec grant live second = CanFit spec grant (free_at second grant live)

-- the least second from now on at which the job fits
pub record IsReserved (spec : JobSpec) (grant : List Node)
    (live : List Hold) (now second : ℕ) : Type 0 where
  pub from : now ≤ second
  pub fits : FitsAt spec grant live second
  pub least : (sooner : ℕ) → now ≤ sooner → sooner < second → FitsAt spec grant live sooner → ⊥

-- the reserved second, or none where the job fits at no second from now on
abbrev pub Reserves : JobSpec → List Node → List Hold → ℕ → Option ℕ → Type 0
Reserves spec grant live now (Some second) = IsReserved spec grant live now second
Reserves spec grant live now None = (second : ℕ) → now ≤ second → FitsAt spec grant live second → ⊥

-- the head has a reserved second, and has the same one with one more live job
pub record KeepsReservation (head : JobSpec) (grant : List Node)
    (live : List Hold) (offer : Hold) (now : ℕ) : Type 0 where
  pub second : ℕ
  pub without : IsReserved head grant live now second
  pub beside : IsReserved head grant (live ++ offer ∷ []) now second
