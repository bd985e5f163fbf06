-- Ranges of ids.
use Rattle.std.specs.Prelude.{ℕ, ◌+◌, ◌-◌, ◌<◌, ◌≤◌, nat_lt, nat_le, List, [], ◌∷◌, Bool, ◌&&◌, if◌then◌else◌}
use Rattle.std.specs.List.{list_any}
use Rattle.idset.specs.Ids.{ids_where}
use Rattle.idset.specs.declared.ranges.IdRange.{IdRange}

-- a range of ids has an id
pub record IsRange (r : IdRange) : Type 0 where
  pub some : r.first ≤ r.last
  pub small : r.last < 65536

-- whether an id is in a range, and in some of these
abbrev pub is_in : IdRange → ℕ → Bool
is_in r id = nat_le r.first id && nat_le id r.last

abbrev pub are_in : List IdRange → ℕ → Bool
are_in rs id = list_any (λ r. is_in r id) rs

-- the range of one id
abbrev pub single : ℕ → IdRange
single id = record { first = id; last = id }

-- the ids of ranges, in order
abbrev pub ids_in : List IdRange → List ℕ
ids_in rs = ids_where (are_in rs)

-- ranges in order, from a number on, with an id between each two that is in none
abbrev pub AreApart : ℕ → List IdRange → Type 0
AreApart from [] = Unit {0}
AreApart from (r ∷ rs) = (from ≤ r.first) × IsRange r × AreApart (r.last + 2) rs

-- the range from a number on to the last one below another, if there is one
abbrev pub gap : ℕ → ℕ → List IdRange
gap next first = if nat_lt next first then record { first = next; last = first - 1 } ∷ [] else []

-- ranges sorted by their first ids, from a number on
abbrev pub AreSorted : ℕ → List IdRange → Type 0
AreSorted from [] = Unit {0}
AreSorted from (r ∷ rs) = (from ≤ r.first) × IsRange r × AreSorted r.first rs
