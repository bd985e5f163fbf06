-- Who passes the first in the queue.
use Rattle.std.specs.Prelude.{◌≡◌, ◌≢◌, ◌<◌, ℕ, List, Option, Some, None, Contains, filter_map, option_map}
use Rattle.std.specs.List.{AllByRecursion as Each}
use Rattle.backfill.specs.declared.hold.Hold.{Hold}
use Rattle.graph_match.specs.Allotment.{Allotment}
use Rattle.graph_match.specs.Answers.{AreFirstFit}
use Rattle.job_rules.specs.Fits.{CanFit, first_fit, free_of}
use Rattle.job_spec.specs.declared.spec.JobSpec.{JobSpec}
use Rattle.resource_set.specs.declared.node.Resources.{Resources}
use Rattle.manager_rules.specs.Due.{IsBefore, LeavesReserved, Passes}
use Rattle.manager_rules.specs.Jobs.{StoredJob}
use Rattle.manager_rules.specs.Scene.{Scene}
use Rattle.job_deeds.specs.Waiting.{waits_with}
use Rattle.job_deeds.specs.declared.passing.Asks.{Asks}

-- the job that passes the first, if one does
abbrev pub IsPasserOf : Scene → Option ℕ → Type 0
IsPasserOf s None = (j : StoredJob) (r : Resources) → Contains s.jobs j → Passes s j r → ⊥
IsPasserOf s (Some id) =
    (j : StoredJob) × (r : Resources) × Contains s.jobs j × (j.id ≡ id) × Passes s j r

-- ---- what the walk over the jobs finds to that end

-- what a live job holds until its resources end
abbrev pub lease : StoredJob → Option Hold
lease j = option_map (λ r. record { id = j.id; units = r; until = r.expiration }) j.r

abbrev pub leases_of : List StoredJob → List Hold
leases_of jobs = filter_map lease jobs

-- what a job that starts at a second would hold: the units that it finds, or none where it finds
-- none
abbrev pub IsOffer : Allotment → ℕ → StoredJob → Option Hold → Type 0
IsOffer g now j None = first_fit j.spec g.grant (free_of g.grant g.live) ≡ None
IsOffer g now j (Some hold) = AreFirstFit g j.spec now hold.units × (hold.id ≡ j.id)
    × (hold.until ≡ hold.units.expiration)

-- what decides which units a job gets, and until when
abbrev pub asks_of : JobSpec → Asks
asks_of spec = record {
  nodes = spec.nodes;
  exclusive = spec.exclusive;
  slots = spec.slots;
  cores = spec.cores;
  gpus = spec.gpus;
  duration = spec.duration;
}

-- a job behind the first finds room
abbrev pub FindsRoom : Allotment → ℕ → StoredJob → Type 0
FindsRoom g head j =
    ((0 < waits_with j) × (j.id ≢ head)) × CanFit j.spec g.grant (free_of g.grant g.live)

-- a job leaves the second that is reserved for the first
abbrev pub Leaves : Scene → StoredJob → StoredJob → Type 0
Leaves s head j = (r : Resources) × LeavesReserved s head j r

-- no job that asks for so much leaves it
abbrev pub IsRefused : Scene → StoredJob → Asks → Type 0
IsRefused s head asks =
    (j : StoredJob) → Contains s.jobs j → asks_of j.spec ≡ asks → Leaves s head j → ⊥

-- of some jobs the first that leaves it, with its priority; none of them, and 0, where none does
abbrev pub IsFirstLeaving : Scene → StoredJob → List StoredJob → ℕ → Option ℕ → Type 0
IsFirstLeaving s head jobs rank None = (rank ≡ 0) × Each (λ k. Leaves s head k → ⊥) jobs
IsFirstLeaving s head jobs rank (Some id) =
    (j : StoredJob) × Contains jobs j × (j.id ≡ id) × (waits_with j ≡ rank) × Leaves s head j
    × Each (λ k. IsBefore k j → Leaves s head k → ⊥) jobs
