-- Which instances of a run are born, whose actors are theirs, and which of them live.
use Rattle.std.specs.Prelude.{ℕ, ◌==◌, ◌&&◌, ◌||◌, not, List, ◌∷◌, Bool, false, Option, Some, None, filter_map, find, is_some, map, option_map, if◌then◌else◌}
use Rattle.std.specs.List.{list_any}
use Rattle.resource_set.specs.declared.node.Resources.{Resources}
use Rattle.workload.specs.Actors.{are_together, home_of}
use Rattle.workload.specs.declared.work.Actor.{Actor}
use Rattle.answers.specs.Chronicle.{top}
use Rattle.answers.specs.declared.chronicle.Entry.{Entry}
use Rattle.answers.specs.declared.chronicle.Entry.TheVariants as entry

-- the birth of an instance, for a job of its parent with a label, at a second and with a grant
pub record Birth : Type 0 where
  pub child : ℕ
  pub parent : ℕ
  pub job : ℕ
  pub label : List ℕ
  pub second : ℕ
  pub grant : Resources

abbrev pub birth_in : Entry → Option Birth
birth_in (entry.Born child parent job label second grant) = Some (record {
  child = child;
  parent = parent;
  job = job;
  label = label;
  second = second;
  grant = grant;
})
birth_in _ = None

abbrev pub births : List Entry → List Birth
births c = filter_map birth_in c

abbrev pub is_birth_of : ℕ → Birth → Bool
is_birth_of i b = b.child == i

-- the birth of an instance; the top has none
abbrev pub birth_of : List Entry → ℕ → Option Birth
birth_of c i = if i == top then None else find (is_birth_of i) (births c)

-- the instances that are born, by their numbers
abbrev pub numbers : List Entry → List ℕ
numbers c = top ∷ map (λ b. b.child) (births c)

abbrev pub is_born : List Entry → ℕ → Bool
is_born c i = (i == top) || is_some (birth_of c i)

-- whether an entry ends the instance
abbrev pub ends : ℕ → Entry → Bool
ends i (entry.Gone child parent job shut) = i == child
ends i _ = false

abbrev pub is_gone : List Entry → ℕ → Bool
is_gone c i = list_any (ends i) c

-- an instance lives from its birth up to its end
abbrev pub lives : List Entry → ℕ → Bool
lives c i = is_born c i && not (is_gone c i)

-- the label of the job for which an instance is born; the top has none
abbrev pub label_of : List Entry → ℕ → Option (List ℕ)
label_of c i = option_map (λ b. b.label) (birth_of c i)

-- whether the actor's home is the top, or the child with this label
abbrev pub is_at : List Actor → Option (List ℕ) → ℕ → Bool
is_at actors label actor = are_together (home_of actors actor) label

-- whether the actor is one of an instance that is born and passes
abbrev pub is_homed : (ℕ → Bool) → List Actor → List Entry → ℕ → Bool
is_homed passes actors c actor =
    list_any (λ i. passes i && is_at actors (label_of c i) actor) (numbers c)

-- whether the actor's instance is born, lives or has gone
abbrev pub has_home : List Actor → List Entry → ℕ → Bool
has_home actors c actor = is_homed (is_born c) actors c actor

abbrev pub has_living_home : List Actor → List Entry → ℕ → Bool
has_living_home actors c actor = is_homed (lives c) actors c actor

abbrev pub has_lost_home : List Actor → List Entry → ℕ → Bool
has_lost_home actors c actor = is_homed (is_gone c) actors c actor
