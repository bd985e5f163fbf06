-- When a run of several instances is whole.
use Rattle.std.specs.Prelude.{◌≡◌, ℕ, List, [], ◌∷◌, ◌++◌, None, IsNone, IsSome, IsTrue, MatchBool, count_by, false}
use Rattle.std.specs.List.{AllByRecursion as Each}
use Rattle.kvs_txn.specs.declared.txn.By.{By}
use Rattle.instance_rules.specs.Family.{MayClose}
use Rattle.answers.specs.Chronicle.{Setup, is_issued, replies_to}
use Rattle.answers.specs.Commands.{command_at}
use Rattle.answers.specs.Whole.{IsBehindLeft, IsEarlierEntry, IsWhole, is_closing}
use Rattle.answers.specs.declared.chronicle.Entry.{Entry}
use Rattle.answers.specs.declared.chronicle.Entry.TheVariants as entry
use Rattle.answers.specs.declared.chronicle.Reply.{Reply}
use Rattle.answers.specs.declared.chronicle.Reply.TheVariants as reply
use Rattle.hierarchy.specs.Births.{has_home, has_living_home, lives}
use Rattle.hierarchy.specs.Families.{family_of, left_in}
use Rattle.hierarchy.specs.Own.{own_of, setup_in}

-- what an actor is told at the end whose instance was never born: of its first command that, and of
-- those behind it that they weren't reached
abbrev pub HasUnbornGrounds : List Entry → By → Reply → Type 0
HasUnbornGrounds closings by reply.UnfinishedUnborn = by.command ≡ 0
HasUnbornGrounds closings by reply.NotReached = IsBehindLeft closings by
HasUnbornGrounds closings by _ = ⊥

pub record IsOfUnborn (set : Setup) (c closings : List Entry)
    (by : By) (given : Reply) : Type 0 where
  pub unborn : has_home set.work.actors c by.actor ≡ false
  pub unissued : is_issued by c ≡ false
  pub grounds : HasUnbornGrounds closings by given

-- a closing reply without a number: to an actor of a living instance, whose own chronicle gives it
-- its grounds, or to one that was never born
abbrev pub IsRunClosing : Setup → List Entry → List Entry → Entry → Type 0
IsRunClosing set c closings (entry.Replied actor command given number) = (number ≡ None)
    × MatchBool (has_living_home set.work.actors c actor) (IsTrue (is_closing given))
    (IsOfUnborn set c closings (record { actor = actor; command = command }) given)
IsRunClosing set c closings _ = ⊥

-- a run that ends: every command has its one reply, the closing replies come last, the own
-- chronicle of each living instance is whole, nothing is due anywhere and no advance waits
pub record IsWholeRun (set : Setup) (c : List Entry) : Type 0 where
  pub earlier : List Entry
  pub closings : List Entry
  pub split : c ≡ earlier ++ closings ++ entry.Closed ∷ []
  pub body : Each IsEarlierEntry earlier
  pub closing : Each (IsRunClosing set c closings) closings
  pub answered : (by : By) → IsSome (command_at set.work by) → count_by (replies_to by) c ≡ 1
  pub no_other : (by : By) → IsNone (command_at set.work by) → count_by (replies_to by) c ≡ 0
  pub own : (i : ℕ) → IsTrue (lives c i) → IsWhole (setup_in set c i) (own_of set c i)
  pub closes : MayClose (family_of set c) (left_in set c)
