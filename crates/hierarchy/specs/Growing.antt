-- How a run goes on: what holds of it between its steps, and which entries an instance makes
-- itself.
use Rattle.std.specs.Prelude.{◌≡◌, ℕ, List, ◌∷◌, ◌++◌, [], false, map, Option, IsTrue, count_by}
use Rattle.std.specs.List.{AllByRecursion as Each}
use Rattle.workload.specs.Actors.{are_together}
use Rattle.workload.specs.declared.work.Actor.{Actor}
use Rattle.answers.specs.Chronicle.{Setup, is_replied, issues_of, replies_to, top}
use Rattle.answers.specs.Whole.{IsEarlierEntry}
use Rattle.answers.specs.declared.chronicle.Entry.{Entry}
use Rattle.answers.specs.declared.chronicle.Entry.TheVariants as entry
use Rattle.hierarchy.specs.Births.{birth_of, has_home, is_at, is_born, is_gone, label_of, lives}
use Rattle.hierarchy.specs.Legal.{AreOwnLegal, IsLegalRun, IsLegalRunEntry}
use Rattle.hierarchy.specs.Own.{own_of}
use Rattle.hierarchy.specs.Stretches.{entered_in}
use Rattle.kvs_rules.specs.Sequence.{EachAfter}

-- no two instances that were born are those of one label
abbrev pub AreLabelled : List Entry → Type 0
AreLabelled c = (i k : ℕ) → IsTrue (is_born c i) → IsTrue (is_born c k)
    → IsTrue (are_together (label_of c i) (label_of c k)) → i ≡ k

-- as many commands of the actor are issued in both, and the same ones are replied, as often
pub record ActsAlike (own c : List Entry) (actor : ℕ) : Type 0 where
  pub issued : count_by (issues_of actor) own ≡ count_by (issues_of actor) c
  pub replied : (k : ℕ) → is_replied (record { actor = actor; command = k }) own
      ≡ is_replied (record { actor = actor; command = k }) c
  pub counted : (k : ℕ) → count_by (replies_to (record { actor = actor; command = k })) own
      ≡ count_by (replies_to (record { actor = actor; command = k })) c

-- none of the actor's commands is issued or replied
pub record HasNotActed (c : List Entry) (actor : ℕ) : Type 0 where
  pub issued : count_by (issues_of actor) c ≡ 0
  pub replied : (k : ℕ) → is_replied (record { actor = actor; command = k }) c ≡ false

-- a run between its steps, before the end: it is legal, and so is the own chronicle of each living
-- instance; whatever the actors of one do stands there, and the others have done nothing yet
pub record GoesOn (set : Setup) (c : List Entry) : Type 0 where
  pub run : IsLegalRun set c
  pub own : AreOwnLegal set c
  pub early : Each IsEarlierEntry c
  pub labelled : AreLabelled c
  pub acts : (i actor : ℕ) → IsTrue (lives c i)
      → IsTrue (is_at set.work.actors (label_of c i) actor) → ActsAlike (own_of set c i) c actor
  pub quiet : (actor : ℕ) → has_home set.work.actors c actor ≡ false → HasNotActed c actor

-- an entry that an instance with this label makes by itself: one of its actors or of its service
abbrev pub IsMadeIn : List Actor → Option (List ℕ) → Entry → Type 0
IsMadeIn actors label (entry.Issued actor command) = IsTrue (is_at actors label actor)
IsMadeIn actors label (entry.Landed instance space number authors groups) = instance ≡ top
IsMadeIn actors label (entry.Denied instance space authors group refusal) = instance ≡ top
IsMadeIn actors label (entry.Heard instance broker space number) = instance ≡ top
IsMadeIn actors label (entry.Got instance broker reference) = instance ≡ top
IsMadeIn actors label (entry.Dropped instance broker reference) = instance ≡ top
IsMadeIn actors label (entry.Replied actor command given number) =
    IsTrue (is_at actors label actor)
IsMadeIn actors label (entry.Told from to) = IsTrue (is_at actors label from)
IsMadeIn actors label (entry.Watched actor command number first count) =
    IsTrue (is_at actors label actor)
IsMadeIn actors label _ = ⊥

-- what an instance makes, as the run has it, is legal there; the run goes on behind it, as before
-- but for the instance's own chronicle
pub record GrowsBy (set : Setup) (c : List Entry) (i : ℕ) (own : List Entry) : Type 0 where
  pub legal : EachAfter (IsLegalRunEntry set) c (map (entered_in i) own)
  pub on : GoesOn set (c ++ map (entered_in i) own)
  pub births : (k : ℕ) → birth_of (c ++ map (entered_in i) own) k ≡ birth_of c k
  pub lives_so : (k : ℕ) → lives (c ++ map (entered_in i) own) k ≡ lives c k
  pub mine : own_of set (c ++ map (entered_in i) own) i ≡ own_of set c i ++ own
  pub others : (k : ℕ) → IsTrue (lives c k) → (i ≡ k → ⊥)
      → own_of set (c ++ map (entered_in i) own) k ≡ own_of set c k

-- the entry is legal in the run, which goes on behind it
pub record GoesOnBy (set : Setup) (c : List Entry) (e : Entry) : Type 0 where
  pub legal : IsLegalRunEntry set c e
  pub on : GoesOn set (c ++ e ∷ [])

-- an entry neither issues a command nor lets time go on
abbrev pub StartsNothing : Entry → Type 0
StartsNothing (entry.Issued actor command) = ⊥
StartsNothing (entry.Ticked second) = ⊥
StartsNothing _ = Unit {0}

-- the parent of the instance that an entry ends is ended among these
abbrev pub ParentGoes : List Entry → Entry → Type 0
ParentGoes gone (entry.Gone child parent job shut) = IsTrue (is_gone gone parent)
ParentGoes gone _ = ⊥
