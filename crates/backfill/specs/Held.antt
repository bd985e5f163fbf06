-- What live jobs hold of a grant at a second, and what they leave.
use Rattle.std.specs.Prelude.{ℕ, ◌==◌, nat_lt, ◌||◌, Bool, List, map, filter}
use Rattle.std.specs.List.{AllByRecursion as Each}
use Rattle.backfill.specs.declared.hold.Hold.{Hold}
use Rattle.job_rules.specs.declared.hold.Hold.{Hold as Held}
use Rattle.job_rules.specs.Fits.{AllApart, AreWithin, free_of}
use Rattle.resource_set.specs.declared.node.Node.{Node}

-- whether a job has its units at a second: it has no end, or it ends later
abbrev pub is_held_at : ℕ → Hold → Bool
is_held_at second hold = hold.until == 0 || nat_lt second hold.until

-- a job with the units that it holds
abbrev pub held : Hold → Held
held hold = record { id = hold.id; nodes = hold.units.nodes }

-- the jobs that have their units at a second
abbrev pub held_at : ℕ → List Hold → List Held
held_at second live = map held (filter (is_held_at second) live)

-- the grant without the units that live jobs have at a second
abbrev pub free_at : ℕ → List Node → List Hold → List Node
free_at second grant live = free_of grant (held_at second live)

-- live jobs whose units lie in the grant, by rank and name, and no two of which hold a unit in
-- common
pub record AreHeld (grant : List Node) (live : List Hold) : Type 0 where
  pub within : Each (λ hold. AreWithin hold.units.nodes grant) live
  pub apart : AllApart (map held live)
