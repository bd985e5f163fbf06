-- Where in a list something stands first.
use Rattle.std.specs.Prelude.{◌≡◌, ℕ, ◌+◌, List, [], ◌∷◌, Bool, Option, Some, None, option_map, if◌then◌else◌}
use Rattle.std.specs.Ordering.{nat_cmp}
use Rattle.std.specs.Cmp.Lexicographic.{slice_cmp}
use Rattle.std.specs.BTreeMap.{BTreeMap, get}
use Rattle.resource_set.specs.declared.entries.Entry.{Entry}
use Rattle.resource_set.specs.declared.node.Node.{Node}
use Rattle.resource_set.specs.Reading.{has_rank}
use Rattle.resource_set.specs.Units.{is_named}

-- the place of the first element that passes a test
abbrev pub place_of : {A : Type 0} → (A → Bool) → List A → Option ℕ
place_of test [] = None
place_of test (x ∷ xs) = if test x then Some 0 else option_map (λ n. n + 1) (place_of test xs)

-- a map is the index of entries by their ranks, and of hosts by their names
abbrev pub IsRankIndex : BTreeMap ℕ ℕ → List Entry → Type 0
IsRankIndex places entries = (rank : ℕ) → get nat_cmp places rank ≡ place_of (has_rank rank) entries

abbrev pub IsHostIndex : BTreeMap (List ℕ) ℕ → List Node → Type 0
IsHostIndex places nodes = (name : List ℕ)
    → get (slice_cmp nat_cmp) places name ≡ place_of (is_named name) nodes
