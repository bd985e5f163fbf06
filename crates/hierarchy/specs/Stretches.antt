-- Which entries a step of a run with child instances may make.
use Rattle.std.specs.Prelude.{◌≡◌, ◌⊎◌, ℕ, ◌≤◌, List, [], ◌∷◌, ◌++◌, IsTrue, length, map, slice_range}
use Rattle.answers.specs.Chronicle.{Setup, top}
use Rattle.answers.specs.Stretches.{IsStretch}
use Rattle.answers.specs.declared.chronicle.Entry.{Entry}
use Rattle.answers.specs.declared.chronicle.Entry.TheVariants as entry
use Rattle.answers.specs.declared.steps.Step.{Step}
use Rattle.answers.specs.declared.steps.Step.TheVariants as step
use Rattle.hierarchy.specs.Births.{is_at, is_born, label_of}
use Rattle.hierarchy.specs.Own.{own_of, setup_in}

-- an entry of an own chronicle as the run has it: with the instance's number
abbrev pub entered_in : ℕ → Entry → Entry
entered_in i (entry.Landed instance space number authors groups) =
    entry.Landed i space number authors groups
entered_in i (entry.Denied instance space authors group refusal) =
    entry.Denied i space authors group refusal
entered_in i (entry.Heard instance broker space number) = entry.Heard i broker space number
entered_in i (entry.Got instance broker reference) = entry.Got i broker reference
entered_in i (entry.Dropped instance broker reference) = entry.Dropped i broker reference
entered_in i e = e

-- what an instance makes in a step of its own
pub record IsStretchOf (set : Setup) (c : List Entry)
    (i : ℕ) (s : Step) (made : List Entry) : Type 0 where
  pub born : IsTrue (is_born c i)
  pub own : List Entry
  pub entered : made ≡ map (entered_in i) own
  pub allowed : IsStretch (setup_in set c i).work (own_of set c i) s own

-- what the instance of an actor makes
pub record IsStretchFor (set : Setup) (c : List Entry)
    (actor : ℕ) (s : Step) (made : List Entry) : Type 0 where
  pub home : ℕ
  pub is : IsTrue (is_at set.work.actors (label_of c home) actor)
  pub stretch : IsStretchOf set c home s made

-- what a step may make after the chronicle of a run
abbrev pub IsRunStretch : Setup → List Entry → Step → List Entry → Type 0
IsRunStretch set c (step.Issue actor) made = IsStretchFor set c actor (step.Issue actor) made
IsRunStretch set c (step.Answer actor) made = IsStretchFor set c actor (step.Answer actor) made
IsRunStretch set c (step.Record actor) made = IsStretchFor set c actor (step.Record actor) made
IsRunStretch set c (step.Feed actor) made = IsStretchFor set c actor (step.Feed actor) made
IsRunStretch set c (step.Kvs instance s) made = IsStretchOf set c instance (step.Kvs top s) made
IsRunStretch set c s made = IsStretch set.work c s made

-- from this place on the chronicle falls into the stretches of the steps, each of which ends where
-- the list of ends says
abbrev pub FallsIntoRun : Setup → ℕ → List Step → List ℕ → List Entry → Type 0
FallsIntoRun set from [] [] c = from ≡ length c
FallsIntoRun set from (s ∷ steps) (end ∷ ends) c = (from ≤ end) × (end ≤ length c)
    × IsRunStretch set (slice_range c 0 from) s (slice_range c from end)
    × FallsIntoRun set end steps ends c
FallsIntoRun set from [] (end ∷ ends) c = ⊥
FallsIntoRun set from (s ∷ steps) [] c = ⊥

-- the steps made tell the whole chronicle
abbrev pub AreRunStretches : Setup → List Step → List ℕ → List Entry → Type 0
AreRunStretches set steps ends c = FallsIntoRun set 0 steps ends c

-- the same, but the last step may have told only a first part of what it would: a step that meets a
-- clash
abbrev pub FallsShort : Setup → ℕ → List Step → List ℕ → List Entry → Type 0
FallsShort set from (s ∷ []) (end ∷ []) c = (from ≤ end) × (end ≡ length c)
    × ((rest : List Entry)
    × IsRunStretch set (slice_range c 0 from) s (slice_range c from end ++ rest))
FallsShort set from (s ∷ (t ∷ steps)) (end ∷ ends) c = (from ≤ end) × (end ≤ length c)
    × IsRunStretch set (slice_range c 0 from) s (slice_range c from end)
    × FallsShort set end (t ∷ steps) ends c
FallsShort set from _ _ c = ⊥

-- the steps made tell the chronicle of a run that a clash has ended
abbrev pub AreStretchesShort : Setup → List Step → List ℕ → List Entry → Type 0
AreStretchesShort set steps ends c = ((steps ≡ []) × (c ≡ [])) ⊎ FallsShort set 0 steps ends c
