-- A run without children is one of its top alone.
use Rattle.std.proofs.Common.{◌≡◌, ℕ, zero, suc, ◌<◌, ◌%◌, ◌==◌, List, [], ◌∷◌, Bool, true, false, cond, not, ◌&&◌, ◌||◌, Option, Some, None, is_some, option_map, map, filter_map, refl, sym, ap, ap₂, ◌∙◌, subst, true≢false}
use Rattle.std.specs.Prelude.{◌+◌, All, filter, find, if◌then◌else◌, slice_get}
use Rattle.std.specs.Option.{option_and_then}
use Rattle.std.specs.List.{AllByRecursion as Each, cons_option, list_any}
use Rattle.std.proofs.Math.Nat.{mod-eq_of_lt}
use Rattle.std.proofs.lemmas.Bool.{eqb-true}
use Rattle.std.proofs.lemmas.List.Elements.{All-head, All-tail}
use Rattle.kvs_txn.specs.declared.txn.By.{By}
use Rattle.kvs_rules.specs.Sequence.{until}
use Rattle.workload.specs.Actors.{are_together, home_of}
use Rattle.workload.specs.declared.work.Actor.{Actor}
use Rattle.workload.specs.declared.work.Line.{Line}
use Rattle.workload.specs.declared.work.Workload.{Workload}
use Rattle.answers.specs.Chronicle.{Setup, before_issue, is_replied, top}
use Rattle.answers.specs.Commands.{command_at}
use Rattle.answers.specs.Jobs.{living_of, second_of}
use Rattle.answers.specs.Runs.{family_of as alone_in}
use Rattle.answers.specs.declared.chronicle.Entry.{Entry}
use Rattle.answers.specs.declared.chronicle.Entry.TheVariants as entry
use Rattle.hierarchy.specs.Births.{births, ends, has_home, has_living_home, has_lost_home, is_at, is_birth_of, is_born, is_gone, label_of, lives, numbers}
use Rattle.hierarchy.specs.Families.{family_of, left_by, left_in, living_in, second_in, seconds_asked}
use Rattle.hierarchy.specs.Laws.{IsChildless, IsOfNoChild, IsOfTop}
use Rattle.hierarchy.specs.Own.{own_entry, own_of, placed, setup_in, work_for}

-- ---- what the top is given

home_none : (actors : List Actor) → All (λ a. a.of ≡ None) actors → (n : ℕ) → home_of actors n ≡ None
home_none actors tops n = by (slice_get actors n) refl
  where
    by : (o : Option Actor) → slice_get actors n ≡ o → option_and_then (λ a. a.of) o ≡ None
    by None is = refl
    by (Some a) is = found actors n tops is
      where
        found : (xs : List Actor) (k : ℕ) → All (λ a. a.of ≡ None) xs → slice_get xs k ≡ Some a → a.of ≡ None
        found [] k h e = cc
        found (x ∷ xs) zero h e = let same : x ≡ a = cc in subst (λ a. a.of ≡ None) same (All-head (λ a. a.of ≡ None) x xs h)
        found (x ∷ xs) (suc k) h e = found xs k (All-tail (λ a. a.of ≡ None) x xs h) e

filter_true : {A : Type 0} (p : A → Bool) → ((x : A) → p x ≡ true) → (xs : List A) → filter p xs ≡ xs
filter_true p h [] = refl
filter_true p h (x ∷ xs) = ap (λ b. cond b (x ∷ filter p xs) (filter p xs)) (h x) ∙ ap (λ l. x ∷ l) (filter_true p h xs)

below : (n m : ℕ) → n < m → n % m ≡ n
below n m h = mod-eq_of_lt h

placed_same : (size : ℕ) (xs : List Actor) → All (λ a. a.rank < size) xs → map (placed size) xs ≡ xs
placed_same size [] h = refl
placed_same size (a ∷ xs) h =
    let here : a.rank < size = All-head (λ a. a.rank < size) a xs h in
    ap₂ (λ (rank : ℕ) (l : List Actor). (let moved : Actor = record a { rank = rank } in moved) ∷ l) (below a.rank size here)
    (placed_same size xs (All-tail (λ a. a.rank < size) a xs h))

module _ (set : Setup) (tops : IsOfTop set) where
  pub at_top : (actor : ℕ) → is_at set.work.actors None actor ≡ true
  at_top actor = ap (λ o. are_together o None) (home_none set.work.actors tops.tops actor)

  work_same : work_for set.work None set.size ≡ set.work
  work_same =
      ap₂ (λ (actors : List Actor) (lines : List Line). (let work : Workload = record set.work { actors = actors; lines = lines } in work))
      (placed_same set.size set.work.actors tops.ranks)
      (filter_true (λ line. is_at set.work.actors None line.actor) (λ line. at_top line.actor) set.work.lines)

  -- the top is given what its run is
  pub setup_same : (c : List Entry) → setup_in set c top ≡ set
  setup_same c = ap (λ (work : Workload). (let s : Setup = record set { work = work } in s)) work_same

-- ---- the chronicle of the top

-- an entry about the top, if it is about an instance
abbrev pub IsAtTop : Entry → Type 0
IsAtTop (entry.Landed instance space number authors groups) = instance ≡ top
IsAtTop (entry.Denied instance space authors group refusal) = instance ≡ top
IsAtTop (entry.Heard instance broker space number) = instance ≡ top
IsAtTop (entry.Got instance broker reference) = instance ≡ top
IsAtTop (entry.Dropped instance broker reference) = instance ≡ top
IsAtTop _ = Unit {0}

no_births : (c : List Entry) → IsChildless c → births c ≡ []
no_births [] h = refl
no_births (entry.Born child parent job label second grant ∷ c) h = absurd h.0
no_births (entry.Gone child parent job shut ∷ c) h = absurd h.0
no_births (_ ∷ c) h = no_births c h.1

no_ends : (i : ℕ) (c : List Entry) → IsChildless c → until (ends i) c ≡ c
no_ends i [] h = refl
no_ends i (entry.Born child parent job label second grant ∷ c) h = absurd h.0
no_ends i (entry.Gone child parent job shut ∷ c) h = absurd h.0
no_ends i (e ∷ c) h = ap (λ l. e ∷ l) (no_ends i c h.1)

pub none_gone : (i : ℕ) (c : List Entry) → IsChildless c → is_gone c i ≡ false
none_gone i [] h = refl
none_gone i (entry.Born child parent job label second grant ∷ c) h = absurd h.0
none_gone i (entry.Gone child parent job shut ∷ c) h = absurd h.0
none_gone i (e ∷ c) h = none_gone i c h.1

module _ (set : Setup) (tops : IsOfTop set) where
  own_same : (e : Entry) → IsOfNoChild e → IsAtTop e → own_entry set.work.actors None top e ≡ Some e
  own_same (entry.Issued actor command) h at = ap (λ b. cond b (Some (entry.Issued actor command)) None) (at_top set tops actor)
  own_same (entry.Landed instance space number authors groups) h at = rw at refl
  own_same (entry.Denied instance space authors group refusal) h at = rw at refl
  own_same (entry.Heard instance broker space number) h at = rw at refl
  own_same (entry.Got instance broker reference) h at = rw at refl
  own_same (entry.Dropped instance broker reference) h at = rw at refl
  own_same (entry.Replied actor command given number) h at = ap (λ b. cond b (Some (entry.Replied actor command given number)) None) (at_top set tops actor)
  own_same (entry.Told from to) h at = ap (λ b. cond b (Some (entry.Told from to)) None) (at_top set tops from)
  own_same (entry.Ticked second) h at = refl
  own_same (entry.Born child parent job label second grant) h at = absurd h
  own_same (entry.Gone child parent job shut) h at = absurd h
  own_same (entry.Watched actor command number first count) h at = ap (λ b. cond b (Some (entry.Watched actor command number first count)) None) (at_top set tops actor)
  own_same entry.Closed h at = refl

  own_all : (c : List Entry) → IsChildless c → Each IsAtTop c → filter_map (own_entry set.work.actors None top) c ≡ c
  own_all [] h at = refl
  own_all (e ∷ c) h at = ap₂ (λ o l. cons_option o l) (own_same e h.0 at.0) (own_all c h.1 at.1)

  -- all that happens is the top's own
  pub chronicle_same : (c : List Entry) → IsChildless c → Each IsAtTop c → own_of set c top ≡ c
  chronicle_same c h at = ap (filter_map (own_entry set.work.actors None top)) (no_ends top c h) ∙ own_all c h at

  -- ---- the family

  module _ (c : List Entry) (h : IsChildless c) (at : Each IsAtTop c) where
    pub living_same : living_in set c top ≡ living_of set c
    living_same = ap₂ living_of (setup_same set tops c) (chronicle_same c h at)

    pub one_number : numbers c ≡ top ∷ []
    one_number = ap (λ bs. top ∷ map (λ b. b.child) bs) (no_births c h)

    pub top_lives : lives c top ≡ true
    top_lives = ap not (none_gone top c h)

    pub family_same : family_of set c ≡ alone_in set c
    family_same =
        ap (λ ns. map (living_in set c) (filter (lives c) ns)) one_number
        ∙ ap (λ b. map (living_in set c) (cond b (top ∷ []) [])) top_lives
        ∙ ap (λ l. l ∷ []) living_same

    pub second_same : second_in set c ≡ second_of set c
    second_same = ap₂ second_of (setup_same set tops c) (chronicle_same c h at)

    -- ---- actors

    or_false : (b : Bool) → (b || false) ≡ b
    or_false true = refl
    or_false false = refl

    pub has_top : (actor : ℕ) → has_home set.work.actors c actor ≡ true
    has_top actor =
        ap (list_any (λ i. is_born c i && is_at set.work.actors (label_of c i) actor)) one_number
        ∙ or_false _ ∙ at_top set tops actor

    pub has_living_top : (actor : ℕ) → has_living_home set.work.actors c actor ≡ true
    has_living_top actor =
        ap (list_any (λ i. lives c i && is_at set.work.actors (label_of c i) actor)) one_number
        ∙ or_false _ ∙ ap₂ (λ a b. a && b) top_lives (at_top set tops actor)

    pub has_kept_home : (actor : ℕ) → has_lost_home set.work.actors c actor ≡ false
    has_kept_home actor =
        ap (list_any (λ i. is_gone c i && is_at set.work.actors (label_of c i) actor)) one_number
        ∙ or_false _ ∙ ap (λ a. a && is_at set.work.actors None actor) (none_gone top c h)

    none_left : (e : Entry) → left_by set c e ≡ None
    none_left (entry.Issued actor number) =
        let by : By = record { actor = actor; command = number } in
        ap (λ b. if b && not (is_replied by c)
        then option_map (λ seconds. second_in set (before_issue by c) + seconds) (option_and_then seconds_asked (command_at set.work by))
        else None) (has_kept_home actor)
    none_left _ = refl

    left_none : (xs : List Entry) → filter_map (left_by set c) xs ≡ []
    left_none [] = refl
    left_none (e ∷ xs) = ap₂ (λ o l. cons_option o l) (none_left e) (left_none xs)

    pub no_left : left_in set c ≡ []
    no_left = left_none c

-- whoever lives is the top
pub only_top : (c : List Entry) → IsChildless c → (i : ℕ) → lives c i ≡ true → i ≡ top
only_top c h i l = by (i == top) refl l
  where
    by : (b : Bool) → (i == top) ≡ b → ((b || is_some (cond b None (find (is_birth_of i) (births c)))) && not (is_gone c i)) ≡ true → i ≡ top
    by true is l = eqb-true i top is
    by false is l = absurd (true≢false (sym l ∙ ap (λ bs. is_some (find (is_birth_of i) bs) && not (is_gone c i)) (no_births c h)))
