-- What a graph keeps: its hosts are a grant, its live jobs hold units of it, and each unit is
-- marked free exactly where none of them has it.
use Rattle.std.specs.Prelude.{◌≡◌, ℕ, List, not, map}
use Rattle.std.specs.List.{AllByRecursion as Each}
use Rattle.job_rules.specs.declared.hold.Hold.{Hold}
use Rattle.job_rules.specs.Fits.{AreLive, IsGrant, has_unit, nodes_of}
use Rattle.resource_set.specs.declared.node.Node.{Node}
use Rattle.graph_match.specs.declared.place.Place.{Place}
use Rattle.graph_match.specs.declared.spot.Spot.{Spot}
use Rattle.graph_match.specs.Places.{node_of}

abbrev pub AreMarked : (Node → List ℕ) → List Node → List ℕ → List Spot → Type 0
AreMarked kind taken host spots = Each (λ s. s.free ≡ not (has_unit kind taken host s.id)) spots

abbrev pub IsMarked : List Node → Place → Type 0
IsMarked taken place = AreMarked (λ n. n.cores) taken place.host place.cores
    × AreMarked (λ n. n.gpus) taken place.host place.gpus

pub record IsKept (places : List Place) (holds : List Hold) : Type 0 where
  pub grant : IsGrant (map node_of places)
  pub live : AreLive (map node_of places) holds
  pub marks : Each (IsMarked (nodes_of holds)) places
