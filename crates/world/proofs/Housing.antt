-- An actor that waits in an instance has its place there.
use Rattle.std.proofs.Common.{◌≡◌, ◌∙◌, ℕ, zero, suc, ◌+◌, ◌<◌, ◌≤◌, inl, inr, List, ◌++◌, Bool, true, false, cond, Option, Some, None, length, refl, sym, ap, subst, arith}
use Rattle.std.specs.Prelude.{count_by, drop, find, not, option_map, slice_get, slice_index_or, take}
use Rattle.std.specs.List.{range_with_len}
use Rattle.std.proofs.lemmas.Option.{slice_get_read, slice_get_within}
use Rattle.std.proofs.lemmas.List.{length-map, take-append-drop}
use Rattle.std.proofs.lemmas.List.Sums.{sum_by-append}
use Rattle.instance.specs.answers.Chronicle.{Setup, top}
use Rattle.instance.specs.answers.Services.{log_of}
use Rattle.instance.specs.answers.declared.chronicle.Entry.{Entry}
use Rattle.hierarchy.specs.Births.{Birth, birth_of, is_at, label_of, numbers}
use Rattle.hierarchy.specs.Growing.{GoesOn}
use Rattle.hierarchy.specs.Own.{own_of, placed, setup_in}
use Rattle.hierarchy.proofs.Numbering.{born_exactly, numbers_are, parents_first}
use Rattle.hierarchy.proofs.OneEntry.{one_home}
use Rattle.hierarchy.proofs.Steps.{work_in}
use Rattle.hierarchy.proofs.Within.{no_lines}
use Rattle.instance.specs.Agrees.{ActorStands, AgreesOwn, Waits, is_of}
use Rattle.instance.specs.Seats.{is_free}
use Rattle.instance.specs.declared.seats.Seat.{Seat}
use Rattle.instance.specs.declared.seats.Waiting.{Waiting}
use Rattle.instance.specs.declared.seats.Waiting.TheVariants as waiting
use Rattle.instance.specs.kvs_rules.Log.{Log}
use Rattle.instance.specs.workload.declared.work.Line.{Line}
use Rattle.homes.specs.Homes.{AreReady, home_in, living_at}
use Rattle.world.specs.Sound.{IsRunning}
use Rattle.world.specs.Value.{WorldValue}
use Rattle.world.specs.View.{IsSoundInside, value_of}
use Rattle.world.specs.declared.run.World.TheInside.{Inside}
use Rattle.homes.specs.declared.homes.Home.{Home}
use Rattle.homes.specs.declared.homes.Origin.{Origin}
use Rattle.homes.specs.declared.homes.Place.{Place}
use Rattle.homes.proofs.Members.{from_start, item_at}
use Rattle.world.proofs.Ordering.{AreOwnLines, AreSeated, is_busy, living_is, says_some}

-- ---- the one number that passes

pub find_only : (p : ℕ → Bool) (a n i : ℕ) → a ≤ i → i < a + n → p i ≡ true → ((k : ℕ) → a ≤ k → k < a + n → p k ≡ true → k ≡ i) → find p (range_with_len a n) ≡ Some i
find_only p a zero i low high is only = absurd (omega (arith, low, high))
find_only p a (suc n) i low high is only = elim (from_start a i low) [
  | inl e ↦ ap (λ b. cond b (Some a) (find p (range_with_len (a + 1) n))) (ap p e ∙ is) ∙ ap Some e
  | inr l ↦ by l (find_only p (a + 1) n i l (omega (arith, high)) is (λ k low high t. only k (omega (arith, low)) (omega (arith, high)) t)) (p a) refl
]
  where
    by : a + 1 ≤ i → find p (range_with_len (a + 1) n) ≡ Some i → (b : Bool) → p a ≡ b → cond b (Some a) (find p (range_with_len (a + 1) n)) ≡ Some i
    by l rest true e = absurd (let same = only a (omega arith) (omega arith) e in omega (arith, same, l))
    by l rest false e = rest

pub found_within : (p : ℕ → Bool) (a n i : ℕ) → find p (range_with_len a n) ≡ Some i → i < a + n
found_within p a zero i e = cc
found_within p a (suc n) i e = by (λ f. found_within p (a + 1) n i f) (p a) e
  where
    by : (find p (range_with_len (a + 1) n) ≡ Some i → i < (a + 1) + n) → (b : Bool) → cond b (Some a) (find p (range_with_len (a + 1) n)) ≡ Some i → i < a + suc n
    by rest true e = (let same : a ≡ i = cc in omega (arith, same))
    by rest false e = (let low = rest e in omega (arith, low))

module _ (set : Setup) (c : List Entry) (on : GoesOn set c) (i actor : ℕ) where
  -- the instance that was born and has the actor among its own is its home
  pub home_is : i < length (numbers c) → is_at set.work.actors (label_of c i) actor ≡ true → home_in set c actor ≡ Some i
  home_is below at =
      ap (find (λ i. is_at set.work.actors (label_of c i) actor)) (numbers_are set c on.run)
      ∙ find_only (λ i. is_at set.work.actors (label_of c i) actor) 0 (length (numbers c)) i (omega arith) (omega (arith, below)) at
      (λ k low high here. one_home set.work.actors c on.labelled k i actor ((born_exactly set c k on.run).1 (omega (arith, high))) ((born_exactly set c i on.run).1 below) here at)

-- whoever waits has a command
busy_some : (set : Setup) (log : Log) (a issued : ℕ) (w : Waiting) → Waits set log a issued w → not (is_free w) ≡ true → 0 < issued
busy_some set log a issued waiting.Nothing h e = cc
busy_some set log a issued waiting.Staged h e = h.0
busy_some set log a issued waiting.TxnFull h e = h.0
busy_some set log a issued (waiting.Tell to) h e = h.0
busy_some set log a issued waiting.Using h e = h.0
busy_some set log a issued waiting.Look h e = h.0
busy_some set log a issued waiting.Service h e = h.0
busy_some set log a issued waiting.Jobs h e = h.0
busy_some set log a issued waiting.Shutdown h e = h.0

-- a beginning of the lines has no more of an actor than all
count_front : (a : ℕ) (lines : List Line) (n : ℕ) → count_by (is_of a) (take n lines) ≤ count_by (is_of a) lines
count_front a lines n =
    let all : count_by (is_of a) (take n lines ++ drop n lines) ≡ count_by (is_of a) (take n lines) + count_by (is_of a) (drop n lines) = sum_by-append (λ x. cond (is_of a x) 1 0) (take n lines) (drop n lines) in
    let same : count_by (is_of a) (take n lines ++ drop n lines) ≡ count_by (is_of a) lines = ap (count_by (is_of a)) (take-append-drop n lines) in
    omega (arith, all, same)

module _ (set : Setup) (c : List Entry) (i actor : ℕ) where
  -- an actor with a line in an instance is one of its own
  pub at_home : 0 < count_by (is_of actor) (setup_in set c i).work.lines → is_at set.work.actors (label_of c i) actor ≡ true
  at_home some = by (is_at set.work.actors (label_of c i) actor) refl
    where
      by : (b : Bool) → is_at set.work.actors (label_of c i) actor ≡ b → is_at set.work.actors (label_of c i) actor ≡ true
      by true is = is
      by false is =
          let w = work_in set (birth_of c i) in
          let none : count_by (is_of actor) (setup_in set c i).work.lines ≡ 0 = ap (λ work. count_by (is_of actor) work.lines) w.1 ∙ no_lines set.work (label_of c i) w.0 actor is in
          absurd (omega (arith, some, none))

  -- all instances have all actors
  pub actors_of : length (setup_in set c i).work.actors ≡ length set.work.actors
  actors_of = (let w = work_in set (birth_of c i) in ap (λ work. length work.actors) w.1 ∙ length-map set.work.actors (placed w.0))

  -- an actor that waits in the instance has a line there
  pub has_line : (h : Home) (own : List Entry) → AgreesOwn h.instance (setup_in set c i) own → is_busy h.instance actor ≡ true
      → (actor < length set.work.actors) × (0 < count_by (is_of actor) (setup_in set c i).work.lines)
  has_line h own agrees busy =
      let seat = says_some (λ (seat : Seat). not (is_free seat.waiting)) (slice_get h.instance.seats actor) busy in
      let below = slice_get_within h.instance.seats actor seat.0 seat.1 in
      let stands : ActorStands (setup_in set c i) (log_of (setup_in set c i).work top own) own actor (Some seat.0) = subst (ActorStands (setup_in set c i) (log_of (setup_in set c i).work top own) own actor) seat.1 (agrees.actors actor) in
      let some = busy_some (setup_in set c i) (log_of (setup_in set c i).work top own) actor seat.0.issued seat.0.waiting stands.1.waits seat.2 in
      let passed = stands.1.placed.passed in
      let front = count_front actor (setup_in set c i).work.lines seat.0.next in
      let seated : length h.instance.seats ≡ length set.work.actors = agrees.seated ∙ actors_of in
      (omega (arith, below, seated), omega (arith, some, passed, front))

-- ---- a world that goes on

-- a world whose caller says so
pub runs_at : (w : Inside) (v : WorldValue) → value_of w ≡ v → IsSoundInside w → v.spent ≡ false → v.closed ≡ false → IsRunning (value_of w)
runs_at w v same sound ready runs = (sound (ap (λ x. x.spent) same ∙ ready)).runs (ap (λ x. x.closed) same ∙ runs)

pub runs_in : (w : Inside) (v : WorldValue) → value_of w ≡ v → IsSoundInside w → v.spent ≡ false → w.closed ≡ false → IsRunning (value_of w)
runs_in w v same sound ready runs = (sound (ap (λ x. x.spent) same ∙ ready)).runs runs

-- what is read of a list is there
pub read_there : {X : Type 0} (xs all : List X) (k : ℕ) (x : X) → all ≡ xs → k < length all → x ≡ slice_index_or all k x → slice_get xs k ≡ Some x
read_there xs all k x same below is = subst (λ ys. slice_get ys k ≡ Some x) same (slice_get_read all (length all) k x refl below is)

module _ (v : WorldValue) (runs : IsRunning v) where
  pub own_lines : AreOwnLines v
  own_lines actor p e below d = (runs.places.each actor p e).next.here d below

  pub seated : AreSeated v
  seated i actor h here alive busy =
      let lives = (runs.homes.each i h here).lives alive in
      let has = has_line v.set v.chronicle i actor h (own_of v.set v.chronicle i) lives.agrees busy in
      let born : i < length (numbers v.chronicle) = subst (λ n. i < n) runs.homes.all (slice_get_within v.homes i h here) in
      let place = item_at v.places actor (subst (λ n. actor < n) (sym runs.places.all) has.0) in
      (place.0, place.1, (runs.places.each actor place.0 place.1).home ∙ home_is v.set v.chronicle runs.on i actor born (at_home v.set v.chronicle i actor has.1))

  -- whoever was born can go on
  pub home_read : (i : ℕ) (h : Home) → i < length v.homes → h ≡ slice_index_or v.homes i h → (slice_get v.homes i ≡ Some h) × (h.instance.spent ≡ false)
  home_read i h below is = (let here = slice_get_read v.homes (length v.homes) i h refl below is in (here, (runs.homes.each i h here).ready))

  -- an actor stands in an instance that was born
  pub home_within : (actor i : ℕ) (p : Place) → slice_get v.places actor ≡ Some p → p.home ≡ Some i → i < length v.homes
  home_within actor i p here home =
      let found : find (λ i. is_at v.set.work.actors (label_of v.chronicle i) actor) (range_with_len 0 (length (numbers v.chronicle))) ≡ Some i
      = ap (find (λ i. is_at v.set.work.actors (label_of v.chronicle i) actor)) (sym (numbers_are v.set v.chronicle runs.on.run)) ∙ sym (runs.places.each actor p here).home ∙ home in
      let low = found_within (λ i. is_at v.set.work.actors (label_of v.chronicle i) actor) 0 (length (numbers v.chronicle)) i found in
      omega (arith, low, runs.homes.all)

  -- and so does the parent of one
  pub parent_within : (i : ℕ) (h : Home) (o : Origin) → slice_get v.homes i ≡ Some h → h.origin ≡ Some o → o.parent < length v.homes
  parent_within i h o here origin = by (birth_of v.chronicle i) refl (sym origin ∙ (runs.homes.each i h here).origin)
    where
      by : (b : Option Birth) → birth_of v.chronicle i ≡ b → Some o ≡ option_map (λ b. record { parent = b.parent; job = b.job; label = b.label }) (birth_of v.chronicle i) → o.parent < length v.homes
      by None is e = (let none : Some o ≡ None = e ∙ ap (option_map (λ (b : Birth). record { parent = b.parent; job = b.job; label = b.label })) is in cc)
      by (Some b) is e =
          let one : Some o ≡ Some (record { parent = b.parent; job = b.job; label = b.label }) = e ∙ ap (option_map (λ (b : Birth). record { parent = b.parent; job = b.job; label = b.label })) is in
          let same : o.parent ≡ b.parent = cc in
          let below = parents_first v.set v.chronicle runs.on.run i b is in
          let born = slice_get_within v.homes i h here in
          omega (arith, same, below, born)

  pub all_ready : AreReady v.homes
  all_ready i h here = (runs.homes.each i h here).ready

  pub living_ready : (i : ℕ) (h : Home) → Some h ≡ living_at v.homes i → h.instance.spent ≡ false
  living_ready i h is = all_ready i h (living_is (slice_get v.homes i) h (sym is)).0
