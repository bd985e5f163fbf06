-- The hosts of a child instance.
use Rattle.std.specs.Prelude.{ℕ, ◌+◌, List, [], ◌∷◌}
use Rattle.resource_set.specs.declared.node.Node.{Node}

-- the hosts in their order, at the ranks from a number on
abbrev pub numbered : ℕ → List Node → List Node
numbered rank [] = []
numbered rank (node ∷ more) = record node { rank = rank } ∷ numbered (rank + 1) more
