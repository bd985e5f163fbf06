-- How much is free in the racks of a grant.
use Rattle.std.specs.Prelude.{◌≡◌, ℕ, ◌*◌, ◌<◌, ◌≤◌, ◌⊎◌, nat_lt, List, map, length, take, drop, get_or, Option, Some, None, if◌then◌else◌}
use Rattle.job_spec.specs.declared.spec.JobSpec.{JobSpec}
use Rattle.resource_set.specs.declared.node.Node.{Node}
use Rattle.job_rules.specs.Worths.{total}
use Rattle.graph_match.specs.declared.place.Place.{Place}
use Rattle.graph_match.specs.declared.racks.Free.{Free}
use Rattle.graph_match.specs.declared.rooms.Room.{Room}
use Rattle.graph_match.specs.Places.{free_node}
use Rattle.graph_match.specs.Rooms.{room_of}

-- how many cores and GPUs hosts have
abbrev pub units_in : List Node → Free
units_in nodes = record {
  cores = total (λ n. length n.cores) nodes;
  gpus = total (λ n. length n.gpus) nodes;
}

-- how much is free on hosts
abbrev pub free_in : List Place → Free
free_in places = units_in (map free_node places)

-- what a rack of 32 hosts has, in rank order, if there is one of this number
abbrev pub rack_of : List Node → ℕ → Option Free
rack_of nodes rack = if nat_lt (rack * 32) (length nodes)
    then Some (units_in (take 32 (drop (rack * 32) nodes)))
    else None

-- counts of what is free in the first blocks of so many hosts
pub record AreBlocks (width : ℕ) (places : List Place) (counts : List Free) : Type 0 where
  pub each : (i : ℕ) (d : Free) → i < length counts
      → get_or counts i d ≡ free_in (take width (drop (i * width) places))
  pub begun : (i : ℕ) → i < length counts → i * width < length places

-- counts of all blocks
pub record AreCounts (width : ℕ) (places : List Place) (counts : List Free) : Type 0 where
  pub blocks : AreBlocks width places counts
  pub all : length places ≤ length counts * width

-- a host has too little for one slot of a job
abbrev pub Lacks : JobSpec → Place → Type 0
Lacks spec place = let free : Node = free_node place in
    (length free.cores < spec.cores) ⊎ (length free.gpus < spec.gpus)

-- so much is free on the host at a place
pub record IsRoom (places : List Place) (at : ℕ) (room : Room) : Type 0 where
  pub there : at < length places
  pub is : (d : Place) → room ≡ room_of (free_node (get_or places at d))
