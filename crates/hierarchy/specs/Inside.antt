-- The instances that lie within one of a run, and their ends in order.
use Rattle.std.specs.Prelude.{◌≡◌, ℕ, zero, suc, ◌<◌, ◌==◌, ◌&&◌, ◌||◌, not, List, [], ◌∷◌, ◌++◌, Bool, false, Option, IsTrue, filter_map, fold, length, option_map, if◌then◌else◌}
use Rattle.std.specs.List.{list_any}
use Rattle.std.specs.Option.{option_map_or}
use Rattle.answers.specs.Chronicle.{Setup}
use Rattle.answers.specs.declared.chronicle.Entry.{Entry}
use Rattle.answers.specs.declared.chronicle.Entry.TheVariants as entry
use Rattle.answers.specs.declared.steps.Step.TheVariants as step
use Rattle.hierarchy.specs.Births.{Birth, birth_of, lives, numbers}
use Rattle.hierarchy.specs.Families.{living_in}
use Rattle.hierarchy.specs.Grows.{GrowsByEnds}
use Rattle.hierarchy.specs.Stretches.{IsRunStretch}

-- whether an instance of this birth has its parent among these
abbrev pub is_child_of : List ℕ → Option Birth → Bool
is_child_of found birth = option_map_or (λ b. list_any (λ n. n == b.parent) found) birth false

-- the instances that are found, and before them this one where it lives and its parent is found
abbrev pub found_with : List Entry → List ℕ → ℕ → List ℕ
found_with c found i =
    if lives c i && is_child_of found (birth_of c i) then i ∷ found else found

-- the living instances that lie within this one, which comes last, each before its parent
abbrev pub inside_of : List Entry → ℕ → List ℕ
inside_of c child = fold (found_with c) (child ∷ []) (numbers c)

-- the end of an instance, if it was born
abbrev pub end_in : Setup → List Entry → ℕ → Option Entry
end_in set c i =
    option_map (λ b. entry.Gone i b.parent b.job (living_in set c i).shuts) (birth_of c i)

-- the ends of an instance and of all within it, each before that of its parent
abbrev pub ends_within : Setup → List Entry → ℕ → List Entry
ends_within set c child = filter_map (end_in set c) (inside_of c child)

-- the marked numbers below this one, the greatest first
abbrev pub marked_below : (ℕ → Bool) → ℕ → List ℕ
marked_below marked zero = []
marked_below marked (suc n) =
    if marked n then n ∷ marked_below marked n else marked_below marked n

-- whether the parent of an instance of this birth is marked
abbrev pub is_parent_marked : (ℕ → Bool) → Option Birth → Bool
is_parent_marked marked birth = option_map_or (λ b. marked b.parent) birth false

-- of the instances that were born those are marked that live and are this one, or have their
-- parent marked
abbrev pub AreMarked : List Entry → ℕ → (ℕ → Bool) → Type 0
AreMarked c child marked = (i : ℕ) → i < length (numbers c)
    → marked i ≡ (lives c i && ((i == child) || is_parent_marked marked (birth_of c i)))

-- an instance of this birth goes with all within it, and its parent is told and lives on
pub record GoesWithAll (set : Setup) (c : List Entry) (b : Birth) : Type 0 where
  pub grows : GrowsByEnds set c (ends_within set c b.child) b.child b.parent b.job
      (living_in set c b.child).shuts
  pub lives_so : (k : ℕ) → lives (c ++ ends_within set c b.child) k
      ≡ (lives c k && not (list_any (λ n. n == k) (inside_of c b.child)))
  pub bearer : IsTrue (lives (c ++ ends_within set c b.child) b.parent)
  pub stretch : IsRunStretch set c (step.End b.child) (ends_within set c b.child)
