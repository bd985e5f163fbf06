-- How the heap of ranks stands to the priorities.
use Rattle.std.specs.Prelude.{◌≡◌, ◌≢◌, ℕ, List, Some, slice_get, IfSome}
use Rattle.std.specs.List.{Contains}
use Rattle.std.specs.Ordering.{nat_cmp, ordering_then}
use Rattle.std.specs.BinaryHeap.{IsHeap}
use Rattle.std.specs.BTreeMap.{BTreeMap, get}
use Rattle.std.specs.declared.cmp.Reverse.{Reverse}

-- the rank of a job at a priority
abbrev pub rank_of : ℕ → ℕ → ℕ × Reverse ℕ
rank_of id priority = (priority, record { 0 = id })

-- each job's rank is in the heap
abbrev pub IsRanked : BTreeMap ℕ ℕ → List (ℕ × Reverse ℕ) → Type 0
IsRanked priorities ranks = (id priority : ℕ) → get nat_cmp priorities id ≡ Some priority
    → Contains ranks (rank_of id priority)

-- each job's rank is in the heap, but perhaps this one's
abbrev pub IsRankedBut : ℕ → BTreeMap ℕ ℕ → List (ℕ × Reverse ℕ) → Type 0
IsRankedBut new priorities ranks = (id priority : ℕ)
    → id ≢ new → get nat_cmp priorities id ≡ Some priority → Contains ranks (rank_of id priority)

-- the rank is its job's own, and not an outdated one
abbrev pub IsLive : BTreeMap ℕ ℕ → ℕ × Reverse ℕ → Type 0
IsLive priorities rank = get nat_cmp priorities rank.1.0 ≡ Some rank.0

-- the first rank is its job's own
abbrev pub IsTopLive : BTreeMap ℕ ℕ → List (ℕ × Reverse ℕ) → Type 0
IsTopLive priorities ranks = IfSome (slice_get ranks 0) (IsLive priorities)

-- no rank is below one that follows it in the heap
abbrev pub IsInOrder : List (ℕ × Reverse ℕ) → Type 0
IsInOrder ranks = IsHeap (λ a b. ordering_then (nat_cmp a.0 b.0) (nat_cmp b.1.0 a.1.0)) ranks
