-- What each way in which a run goes on leaves of every instance: its birth, whether it lives, what
-- it is given, and its own chronicle.
use Rattle.std.specs.Prelude.{◌≡◌, ℕ, List, [], ◌∷◌, ◌++◌, ◌&&◌, ◌||◌, Bool, false, not, Some, IsTrue, is_some, length, map}
use Rattle.std.specs.List.{list_any}
use Rattle.kvs_rules.specs.Sequence.{EachAfter}
use Rattle.answers.specs.Chronicle.{Setup, top}
use Rattle.answers.specs.declared.chronicle.Entry.{Entry}
use Rattle.answers.specs.declared.chronicle.Entry.TheVariants as entry
use Rattle.hierarchy.specs.Births.{Birth, birth_of, is_gone, lives, numbers}
use Rattle.hierarchy.specs.Families.{living_in, shuts_down}
use Rattle.hierarchy.specs.Growing.{GoesOn}
use Rattle.hierarchy.specs.Legal.{IsLegalRunEntry}
use Rattle.hierarchy.specs.Own.{child_setup, own_of, setup_in}
use Rattle.hierarchy.specs.Stretches.{entered_in}

-- ---- one instance

-- nothing of the instance changes with further entries
pub record StaysAs (set : Setup) (c more : List Entry) (i : ℕ) : Type 0 where
  pub birth : birth_of (c ++ more) i ≡ birth_of c i
  pub setup : setup_in set (c ++ more) i ≡ setup_in set c i
  pub own : own_of set (c ++ more) i ≡ own_of set c i
  pub living : living_in set (c ++ more) i ≡ living_in set c i

-- with further entries its own chronicle is longer by these, and a child shuts down where one of
-- them issues it
pub record GrowsOwn (set : Setup) (c more : List Entry) (i : ℕ) (told : List Entry) : Type 0 where
  pub birth : birth_of (c ++ more) i ≡ birth_of c i
  pub setup : setup_in set (c ++ more) i ≡ setup_in set c i
  pub own : own_of set (c ++ more) i ≡ own_of set c i ++ told
  pub shuts : (living_in set (c ++ more) i).shuts ≡ ((living_in set c i).shuts
      || (is_some (birth_of c i) && list_any (shuts_down set.work) told))

-- ---- all instances

-- with further entries the same instances are born and live
pub record LivesSo (c more : List Entry) : Type 0 where
  pub numbered : numbers (c ++ more) ≡ numbers c
  pub births : (k : ℕ) → birth_of (c ++ more) k ≡ birth_of c k
  pub lives_so : (k : ℕ) → lives (c ++ more) k ≡ lives c k

-- what an instance makes by itself is its own alone
pub record GrowsByOwn (set : Setup) (c : List Entry) (i : ℕ) (own : List Entry) : Type 0 where
  pub legal : EachAfter (IsLegalRunEntry set) c (map (entered_in i) own)
  pub on : GoesOn set (c ++ map (entered_in i) own)
  pub so : LivesSo c (map (entered_in i) own)
  pub mine : GrowsOwn set c (map (entered_in i) own) i own
  pub others : (k : ℕ) → IsTrue (lives c k) → (k ≡ i → ⊥) → StaysAs set c (map (entered_in i) own) k

-- a second is told to each instance that lives
pub record GrowsBySecond (set : Setup) (c : List Entry) (second : ℕ) : Type 0 where
  pub legal : IsLegalRunEntry set c (entry.Ticked second)
  pub on : GoesOn set (c ++ entry.Ticked second ∷ [])
  pub so : LivesSo c (entry.Ticked second ∷ [])
  pub each : (k : ℕ) → IsTrue (lives c k)
      → GrowsOwn set c (entry.Ticked second ∷ []) k (entry.Ticked second ∷ [])

-- what an actor whose instance has gone does, and is told, no living instance sees
pub record GrowsByLost (set : Setup) (c : List Entry) (e : Entry) : Type 0 where
  pub legal : IsLegalRunEntry set c e
  pub on : GoesOn set (c ++ e ∷ [])
  pub so : LivesSo c (e ∷ [])
  pub others : (k : ℕ) → IsTrue (lives c k) → StaysAs set c (e ∷ []) k

-- the entry of a birth, and as the parent has it in its own chronicle
abbrev pub born_by : Birth → Entry
born_by b = entry.Born b.child b.parent b.job b.label b.second b.grant

abbrev pub born_to : Birth → Entry
born_to b = entry.Born b.child top b.job b.label b.second b.grant

-- a child is born with the next number, and nothing has happened to it; its parent is told
pub record GrowsByBirth (set : Setup) (c : List Entry) (b : Birth) : Type 0 where
  pub legal : IsLegalRunEntry set c (born_by b)
  pub on : GoesOn set (c ++ born_by b ∷ [])
  pub next : b.child ≡ length (numbers c)
  pub numbered : numbers (c ++ born_by b ∷ []) ≡ numbers c ++ b.child ∷ []
  pub births : (k : ℕ) → (k ≡ b.child → ⊥) → birth_of (c ++ born_by b ∷ []) k ≡ birth_of c k
  pub lives_so : (k : ℕ) → (k ≡ b.child → ⊥) → lives (c ++ born_by b ∷ []) k ≡ lives c k
  pub birth : birth_of (c ++ born_by b ∷ []) b.child ≡ Some b
  pub begins : IsTrue (lives (c ++ born_by b ∷ []) b.child)
  pub given : setup_in set (c ++ born_by b ∷ []) b.child ≡ child_setup set b
  pub own : own_of set (c ++ born_by b ∷ []) b.child ≡ []
  pub shuts : (living_in set (c ++ born_by b ∷ []) b.child).shuts ≡ false
  pub parent : GrowsOwn set c (born_by b ∷ []) b.parent (born_to b ∷ [])
  pub others : (k : ℕ) → IsTrue (lives c k) → (k ≡ b.parent → ⊥)
      → StaysAs set c (born_by b ∷ []) k

-- instances go, the last of them a child of this parent, which is told if it lives on
pub record GrowsByEnds (set : Setup) (c gone : List Entry) (child parent job : ℕ)
    (shut : Bool) : Type 0 where
  pub legal : EachAfter (IsLegalRunEntry set) c gone
  pub on : GoesOn set (c ++ gone)
  pub numbered : numbers (c ++ gone) ≡ numbers c
  pub births : (k : ℕ) → birth_of (c ++ gone) k ≡ birth_of c k
  pub lives_so : (k : ℕ) → lives (c ++ gone) k ≡ (lives c k && not (is_gone gone k))
  pub told : IsTrue (lives (c ++ gone) parent)
      → GrowsOwn set c gone parent (entry.Gone child top job shut ∷ [])
  pub others : (k : ℕ) → IsTrue (lives (c ++ gone) k) → (k ≡ parent → ⊥)
      → StaysAs set c gone k
