-- Numbers seen of the words of a feed, by broker, and loads of them.
use Rattle.std.specs.Prelude.{◌≡◌, ℕ, ◌<◌, ◌≤◌, max, List, [], ◌∷◌, slice_index}
use mathlib.Core.Option.{some}
use lib.ListN.{get_elem?}
use Rattle.root_feed.specs.declared.rule.Load.{Load}

-- no number is above the other list's at its broker
abbrev pub IsWithin : List ℕ → List ℕ → Type 0
IsWithin seen words = (broker : ℕ) → slice_index seen broker ≤ slice_index words broker

-- the greater number of each broker
abbrev pub greater : List ℕ → List ℕ → List ℕ
greater [] ys = ys
greater (x ∷ xs) [] = x ∷ xs
greater (x ∷ xs) (y ∷ ys) = max x y ∷ greater xs ys

abbrev pub load_of : ℕ → ℕ → Load
load_of broker number = record { broker = broker; number = number }

-- of two loads of one word the later found no smaller number
abbrev pub AreRising : List Load → Type 0
AreRising loads = (i j : ℕ) (a b : Load) → i < j → get_elem? loads i ≡ some a
    → get_elem? loads j ≡ some b → a.broker ≡ b.broker → a.number ≤ b.number
