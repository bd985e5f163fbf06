-- Sets of ids: numbers below 65,536 in rising order (Flux RFC 22).
use Rattle.std.specs.Prelude.{◌≡◌, ℕ, ◌+◌, ◌-◌, ◌<◌, ◌==◌, List, Bool, not, ◌&&◌, ◌||◌, All, filter}
use Rattle.std.specs.List.{list_any, range_with_len}
use Rattle.std.specs.List.Sorted.{IsStrictlyIncreasing}

-- the ids that pass a test, in order
unfoldable pub ids_where : (ℕ → Bool) → List ℕ
ids_where p = filter p (range_with_len 0 65536)

-- whether an id is one of these
abbrev pub has : List ℕ → ℕ → Bool
has ids id = list_any (λ i. i == id) ids

-- the numbers from one to another, both among them
abbrev pub ids_from : ℕ → ℕ → List ℕ
ids_from first last = range_with_len first (last + 1 - first)

-- these ids in order, each once
abbrev pub list_of : List ℕ → List ℕ
list_of ids = ids_where (has ids)

-- the ids of either set, and those of one that the other doesn't have
abbrev pub union_of : List ℕ → List ℕ → List ℕ
union_of a b = ids_where (λ id. has a id || has b id)

abbrev pub minus_of : List ℕ → List ℕ → List ℕ
minus_of a b = ids_where (λ id. has a id && not (has b id))

-- what every set keeps
pub record IsIdSet (ids : List ℕ) : Type 0 where
  pub rising : IsStrictlyIncreasing ids
  pub below : All (λ id. id < 65536) ids
  pub told : list_of ids ≡ ids  -- a set is told by the ids that it has
