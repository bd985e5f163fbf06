-- What the counts of a host's units bring to a job.
use Rattle.std.specs.Prelude.{◌≡◌, ℕ, ◌+◌, ◌/◌, List, [], ◌∷◌, map, ◌==◌, min, nat_le, Bool, not, ◌&&◌, ◌||◌, Option, Some, None, length, if◌then◌else◌}
use Rattle.job_spec.specs.declared.spec.JobSpec.{JobSpec}
use Rattle.resource_set.specs.declared.node.Node.{Node}
use Rattle.job_rules.specs.Fits.{without_nodes}
use Rattle.graph_match.specs.declared.rooms.Room.{Room}

-- how much a host has
abbrev pub room_of : Node → Room
room_of node = record { cores = length node.cores; gpus = length node.gpus }

-- how many slots have room there
abbrev pub slot_count : JobSpec → Room → ℕ
slot_count spec room = if spec.gpus == 0 then room.cores / spec.cores
    else min (room.cores / spec.cores) (room.gpus / spec.gpus)

-- whether so much serves a job that asks for hosts, of which this is the whole
abbrev pub has_enough : JobSpec → Room → Room → Bool
has_enough spec whole room = nat_le spec.slots (slot_count spec room)
    && (not spec.exclusive || (whole.cores == room.cores && whole.gpus == room.gpus))

abbrev pub worth_as : Option ℕ → JobSpec → Room → Room → ℕ
worth_as None spec whole room = slot_count spec room
worth_as (Some count) spec whole room = if has_enough spec whole room then 1 else 0

-- what a host brings to a job: slots with room, or itself where the job asks for hosts and it
-- serves
abbrev pub worth_of : JobSpec → Room → Room → ℕ
worth_of spec whole room = worth_as spec.nodes spec whole room

-- how much is left on each host without the units of these nodes
abbrev pub rooms_without : List Node → List Node → List Room
rooms_without taken grant = map room_of (map (without_nodes taken) grant)

-- what rooms on the hosts bring to a job in all
abbrev pub brought : JobSpec → List Node → List Room → ℕ
brought spec [] rooms = 0
brought spec (node ∷ nodes) [] = 0
brought spec (node ∷ nodes) (room ∷ rooms) =
    worth_of spec (room_of node) room + brought spec nodes rooms

-- rooms are what is left without these nodes' units, and the sum is what they bring
pub record AreRooms (spec : JobSpec) (grant taken : List Node)
    (rooms : List Room) (sum : ℕ) : Type 0 where
  pub rooms_are : rooms ≡ rooms_without taken grant
  pub sum_is : sum ≡ brought spec grant rooms
