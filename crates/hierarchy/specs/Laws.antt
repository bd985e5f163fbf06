-- What the laws speak of.
use Rattle.std.specs.Prelude.{◌≡◌, ◌≢◌, ◌<◌, ℕ, List, None, All, IsTrue}
use Rattle.std.specs.List.{AllByRecursion as Each}
use Rattle.instance_rules.specs.Log.{IsInstance}
use Rattle.run_laws.specs.Times.{KeepsTime}
use Rattle.answers.specs.Chronicle.{Setup}
use Rattle.answers.specs.Jobs.{instance_of}
use Rattle.answers.specs.declared.chronicle.Entry.{Entry}
use Rattle.answers.specs.declared.chronicle.Entry.TheVariants as entry
use Rattle.hierarchy.specs.Births.{is_born}
use Rattle.hierarchy.specs.Own.{own_of, setup_in}

-- all actors of the run are of the top, each at one of its brokers
pub record IsOfTop (set : Setup) : Type 0 where
  pub tops : All (λ a. a.of ≡ None) set.work.actors
  pub ranks : All (λ a. a.rank < set.size) set.work.actors

-- neither a birth nor an end
abbrev pub IsOfNoChild : Entry → Type 0
IsOfNoChild (entry.Born child parent job label second grant) = ⊥
IsOfNoChild (entry.Gone child parent job shut) = ⊥
IsOfNoChild _ = Unit {0}

abbrev pub IsChildless : List Entry → Type 0
IsChildless c = Each IsOfNoChild c

-- nothing of an instance which has gone: it isn't about it, and gives birth to none
abbrev pub IsOfOthers : ℕ → Entry → Type 0
IsOfOthers i (entry.Landed instance space number authors groups) = instance ≢ i
IsOfOthers i (entry.Denied instance space authors group refusal) = instance ≢ i
IsOfOthers i (entry.Heard instance broker space number) = instance ≢ i
IsOfOthers i (entry.Got instance broker reference) = instance ≢ i
IsOfOthers i (entry.Dropped instance broker reference) = instance ≢ i
IsOfOthers i (entry.Born child parent job label second grant) = parent ≢ i
IsOfOthers i (entry.Gone child parent job shut) = child ≢ i
IsOfOthers i _ = Unit {0}

-- what an instance rests on besides its legal chronicle: what it is given is within its ranges, and
-- its seconds have their place in 64 bits
pub record IsKept (set : Setup) (c : List Entry) (i : ℕ) : Type 0 where
  pub valid : IsInstance (instance_of (setup_in set c i))
  pub timely : KeepsTime (setup_in set c i) (own_of set c i)

-- what each instance that was born is given is within its ranges
abbrev pub AreValid : Setup → List Entry → Type 0
AreValid set c = (i : ℕ) → IsTrue (is_born c i) → IsInstance (instance_of (setup_in set c i))
