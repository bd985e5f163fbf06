-- The closing replies of a run: those of its living instances, and those to actors whose instances
-- were never born.
use Rattle.std.specs.Prelude.{◌≡◌, ℕ, ◌==◌, ◌++◌, ◌∷◌, [], List, None, not, IsNone, IsSome, IsTrue, Contains, count_by, filter, flat_map, length, map, if◌then◌else◌}
use Rattle.std.specs.List.{AllByRecursion as Each, range_with_len}
use Rattle.kvs_rules.specs.Sequence.{EachAfter}
use Rattle.instance_rules.specs.Family.{IsEndOf, Living}
use Rattle.workload.specs.declared.work.Workload.{Workload}
use Rattle.answers.specs.Chronicle.{Setup, replies_to}
use Rattle.answers.specs.Commands.{command_at, commands_of}
use Rattle.answers.specs.Legal.{IsLegalEntry}
use Rattle.answers.specs.Whole.{IsClosingEntry, IsWhole}
use Rattle.answers.specs.declared.chronicle.Entry.{Entry}
use Rattle.answers.specs.declared.chronicle.Entry.TheVariants as entry
use Rattle.answers.specs.declared.chronicle.Reply.{Reply}
use Rattle.answers.specs.declared.chronicle.Reply.TheVariants as reply
use Rattle.hierarchy.specs.Births.{has_home, has_lost_home, lives, numbers}
use Rattle.hierarchy.specs.Families.{family_of}
use Rattle.hierarchy.specs.Growing.{GoesOn}
use Rattle.hierarchy.specs.Own.{own_of, setup_in}

-- ---- of the living instances

-- the closing replies that an instance leaves
pub record Part : Type 0 where
  pub number : ℕ
  pub left : List Entry

-- they and the end follow its own chronicle, and make it whole
pub record EndsAs (set : Setup) (c : List Entry) (part : Part) : Type 0 where
  pub closing : Each IsClosingEntry part.left
  pub legal : EachAfter (IsLegalEntry (setup_in set c part.number)) (own_of set c part.number)
      (part.left ++ entry.Closed ∷ [])
  pub whole : IsWhole (setup_in set c part.number)
      (own_of set c part.number ++ part.left ++ entry.Closed ∷ [])

-- ---- of actors whose instances were never born

-- what such an actor is told of its command of this number
abbrev pub unborn_reply : ℕ → Reply
unborn_reply command = if command == 0 then reply.UnfinishedUnborn else reply.NotReached

-- what it is told of all its commands
abbrev pub told_unborn : Workload → ℕ → List Entry
told_unborn work actor =
    map (λ command. entry.Replied actor command (unborn_reply command) None)
    (range_with_len 0 (length (commands_of work actor)))

-- these actors
abbrev pub unborn_in : Setup → List Entry → List ℕ
unborn_in set c = filter (λ actor. not (has_home set.work.actors c actor))
    (range_with_len 0 (length set.work.actors))

-- ---- of the run

-- the closing replies of the run, where its living instances leave these
abbrev pub run_closings : Setup → List Entry → List Part → List Entry
run_closings set c parts =
    flat_map (λ part. part.left) parts ++ flat_map (told_unborn set.work) (unborn_in set c)

-- each command of the actor has its one reply, and nothing else has one
pub record IsAnswered (set : Setup) (c : List Entry) (actor : ℕ) : Type 0 where
  pub once : (k : ℕ) → IsSome (command_at set.work (record { actor = actor; command = k }))
      → count_by (replies_to (record { actor = actor; command = k })) c ≡ 1
  pub no_other : (k : ℕ) → IsNone (command_at set.work (record { actor = actor; command = k }))
      → count_by (replies_to (record { actor = actor; command = k })) c ≡ 0

-- a run that may end: each living instance does with what it leaves, the actors of those that have
-- gone are answered, and no end is due
pub record MayEnd (set : Setup) (c : List Entry) (parts : List Part) : Type 0 where
  pub on : GoesOn set c
  pub living : map (λ part. part.number) parts ≡ filter (lives c) (numbers c)
  pub ends : Each (EndsAs set c) parts
  pub lost : (actor : ℕ) → IsTrue (has_lost_home set.work.actors c actor) → IsAnswered set c actor
  pub stays : (l : Living) → Contains (family_of set c) l → IsEndOf (family_of set c) l → ⊥
