-- What a run asks beside what its instance does: rules over all instances that live.
use Rattle.std.specs.Prelude.{List, [], ◌∷◌}
use Rattle.kvs_rules.specs.Sequence.{EachAfter}
use Rattle.kvs_txn.specs.declared.txn.By.{By}
use Rattle.instance_rules.specs.Family.{HasToWaitIn, IsFamilyIdle, IsFamilyTold, Living, MayTick}
use Rattle.answers.specs.declared.chronicle.Entry.{Entry}
use Rattle.answers.specs.declared.chronicle.Entry.TheVariants as entry
use Rattle.answers.specs.Chronicle.{IsOpenCommand, Setup}
use Rattle.answers.specs.Jobs.{living_of, second_of}

-- the instances that live: the top one alone, until jobs have children
abbrev pub family_of : Setup → List Entry → List Living
family_of set c = living_of set c ∷ []

-- time goes on only where nothing is due and an advance is open, and to the least second that
-- anybody waits for. A run of one instance has no births and no ends
abbrev pub ComesInTime : Setup → List Entry → Entry → Type 0
ComesInTime set c (entry.Ticked second) = MayTick (family_of set c) (second_of set c) [] second
ComesInTime set c (entry.Born child parent job label second grant) = ⊥
ComesInTime set c (entry.Gone child parent job shut) = ⊥
ComesInTime set c _ = Unit {0}

-- so each entry of the chronicle
abbrev pub IsInTime : Setup → List Entry → Type 0
IsInTime set c = EachAfter (ComesInTime set) [] c

-- all instances rest: their brokers are told, nothing is due, and each open command has to wait
pub record HasFamilyRest (set : Setup) (c : List Entry) : Type 0 where
  pub told : IsFamilyTold (family_of set c)
  pub idle : IsFamilyIdle (family_of set c)
  pub waits : (by : By) → IsOpenCommand by c → HasToWaitIn (family_of set c) by

-- they do so where a command is issued or time goes on
abbrev pub FamilyRestsFirst : Setup → List Entry → Entry → Type 0
FamilyRestsFirst set c (entry.Issued actor command) = HasFamilyRest set c
FamilyRestsFirst set c (entry.Ticked second) = HasFamilyRest set c
FamilyRestsFirst set c _ = Unit {0}

-- and before each issue and each tick of a settled run
abbrev pub IsFamilySettled : Setup → List Entry → Type 0
IsFamilySettled set c = EachAfter (FamilyRestsFirst set) [] c
