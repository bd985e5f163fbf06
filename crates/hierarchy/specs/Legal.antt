-- Which chronicles of a run with child instances are legal, and which are settled.
use Rattle.std.specs.Prelude.{◌≡◌, ℕ, ◌+◌, ◌⊎◌, List, [], ◌∷◌, ◌++◌, Bool, true, false, Option, Some, None, IsTrue, Contains, length}
use Rattle.child_grant.specs.Child.{numbered}
use Rattle.kvs_model.specs.Store.{Store}
use Rattle.kvs_rules.specs.Namespaces.{newest_store, primary}
use Rattle.kvs_rules.specs.Sequence.{EachAfter}
use Rattle.kvs_txn.specs.declared.txn.By.{By}
use Rattle.manager_rules.specs.Jobs.{AreJobsOf, StoredJob}
use Rattle.resource_set.specs.declared.node.Resources.{Resources}
use Rattle.instance_rules.specs.Desks.{Names}
use Rattle.instance_rules.specs.Family.{HasToWaitIn, IsBirthIn, IsFamilyIdle, IsFamilyTold, Living, MayGo, MayTick}
use Rattle.instance_rules.specs.Log.{service_of}
use Rattle.answers.specs.Chronicle.{IsOpenCommand, Setup}
use Rattle.answers.specs.Legal.{IsLegal, IsLegalIssue}
use Rattle.answers.specs.Whole.{has_ended}
use Rattle.answers.specs.declared.chronicle.Entry.{Entry}
use Rattle.answers.specs.declared.chronicle.Entry.TheVariants as entry
use Rattle.answers.specs.declared.chronicle.Reply.{Reply}
use Rattle.answers.specs.declared.chronicle.Reply.TheVariants as reply
use Rattle.hierarchy.specs.Births.{births, has_home, has_living_home, has_lost_home, lives}
use Rattle.hierarchy.specs.Families.{family_of, left_in, second_in}
use Rattle.hierarchy.specs.Own.{own_of, setup_in}
use Rattle.hierarchy.specs.Whole.{IsWholeRun}

-- ---- births and ends

-- the grant of the child of a job: the resources that the job holds in the newest store of its
-- instance, at ranks from 0 on
pub record IsGrantFor (l : Living) (job : ℕ) (grant : Resources) : Type 0 where
  pub store : Store
  pub standing : newest_store l.inst.service (service_of l.log) primary ≡ Some store
  pub jobs : List StoredJob
  pub are : AreJobsOf store jobs
  pub j : StoredJob
  pub known : Contains jobs j
  pub is : j.id ≡ job
  pub r : Resources
  pub held : j.r ≡ Some r
  pub given : grant ≡ record r { nodes = numbered 0 r.nodes }

-- a birth that is due in a living instance, of the next instance and now
pub record IsLegalBirth (set : Setup) (c : List Entry)
    (child parent job : ℕ) (label : List ℕ) (second : ℕ) (grant : Resources) : Type 0 where
  pub next : child ≡ length (births c) + 1
  pub now : second ≡ second_in set c
  pub due : IsBirthIn (family_of set c) parent job
  pub labelled : Names due.living.inst due.living.log label job
  pub granted : IsGrantFor due.living job grant

-- a living instance that may go, which was born for this job and shuts down or doesn't
pub record IsLegalEnd (set : Setup) (c : List Entry)
    (child parent job : ℕ) (shut : Bool) : Type 0 where
  pub living : Living
  pub named : living.number ≡ child
  pub from : living.from ≡ Some (parent, job)
  pub by : living.shuts ≡ shut
  pub may : MayGo (family_of set c) living

-- ---- entries

-- what a reply asks of its actor's instance: that it lives, has gone, or was never born
abbrev pub HasHomeFor : Setup → List Entry → By → Option ℕ → Reply → Type 0
HasHomeFor set c by number reply.Gone = (number ≡ None) × IsOpenCommand by c
    × IsTrue (has_lost_home set.work.actors c by.actor)
HasHomeFor set c by number reply.UnfinishedUnborn = (number ≡ None)
    × (has_home set.work.actors c by.actor ≡ false)
HasHomeFor set c by number reply.NotReached = (number ≡ None)
    × (IsTrue (has_living_home set.work.actors c by.actor)
    ⊎ (has_home set.work.actors c by.actor ≡ false))
HasHomeFor set c by number given = IsTrue (has_living_home set.work.actors c by.actor)

-- what an entry asks of the run, beside what it is to the instance that it is about
abbrev pub HasRunGrounds : Setup → List Entry → Entry → Type 0
HasRunGrounds set c (entry.Issued actor command) =
    IsLegalIssue set c (record { actor = actor; command = command })
    × IsTrue (has_home set.work.actors c actor)
HasRunGrounds set c (entry.Landed instance space number authors groups) = IsTrue (lives c instance)
HasRunGrounds set c (entry.Denied instance space authors group refusal) = IsTrue (lives c instance)
HasRunGrounds set c (entry.Heard instance broker space number) = IsTrue (lives c instance)
HasRunGrounds set c (entry.Got instance broker reference) = IsTrue (lives c instance)
HasRunGrounds set c (entry.Dropped instance broker reference) = IsTrue (lives c instance)
HasRunGrounds set c (entry.Replied actor command given number) =
    HasHomeFor set c (record { actor = actor; command = command }) number given
HasRunGrounds set c (entry.Told from to) = IsTrue (has_living_home set.work.actors c from)
HasRunGrounds set c (entry.Ticked second) =
    MayTick (family_of set c) (second_in set c) (left_in set c) second
HasRunGrounds set c (entry.Born child parent job label second grant) =
    IsLegalBirth set c child parent job label second grant
HasRunGrounds set c (entry.Gone child parent job shut) = IsLegalEnd set c child parent job shut
HasRunGrounds set c (entry.Watched actor command number first count) =
    IsTrue (has_living_home set.work.actors c actor)
HasRunGrounds set c entry.Closed = IsWholeRun set (c ++ entry.Closed ∷ [])

-- the own chronicle of each living instance is legal
abbrev pub AreOwnLegal : Setup → List Entry → Type 0
AreOwnLegal set c = (i : ℕ) → IsTrue (lives c i) → IsLegal (setup_in set c i) (own_of set c i)

-- whether an entry ends an instance
abbrev pub is_end : Entry → Bool
is_end (entry.Gone child parent job shut) = true
is_end _ = false

-- the entry may follow the chronicle of the run. Where an instance goes, those within it go first,
-- and of these ends the instances that go as well are told nothing: what lives behind all the ends
-- has a legal chronicle of its own
pub record IsLegalRunEntry (set : Setup) (c : List Entry) (e : Entry) : Type 0 where
  pub goes_on : has_ended c ≡ false
  pub grounds : HasRunGrounds set c e
  pub own : is_end e ≡ false → AreOwnLegal set (c ++ e ∷ [])

-- each entry of a legal run may follow those before it
abbrev pub IsLegalRun : Setup → List Entry → Type 0
IsLegalRun set c = EachAfter (IsLegalRunEntry set) [] c

-- ---- at rest

-- all living instances rest: their brokers are told, nothing is due, and each open command has to
-- wait in one of them
pub record HasRunRest (set : Setup) (c : List Entry) : Type 0 where
  pub told : IsFamilyTold (family_of set c)
  pub idle : IsFamilyIdle (family_of set c)
  pub waits : (by : By) → IsOpenCommand by c → HasToWaitIn (family_of set c) by

-- they do so where a command is issued or time goes on
abbrev pub RunRestsFirst : Setup → List Entry → Entry → Type 0
RunRestsFirst set c (entry.Issued actor command) = HasRunRest set c
RunRestsFirst set c (entry.Ticked second) = HasRunRest set c
RunRestsFirst set c _ = Unit {0}

-- a settled run: it has come to rest before each issue and each tick
abbrev pub IsSettledRun : Setup → List Entry → Type 0
IsSettledRun set c = EachAfter (RunRestsFirst set) [] c
