-- Where the actor and the instance of a step stand.
use Rattle.std.proofs.Common.{◌≡◌, ◌∙◌, ◌+◌, ◌<◌, ◌&&◌, ℕ, zero, suc, List, Bool, true, false, Option, Some, None, cond, get_or, is_some, length, not, refl, sym, ap, ap₂, arith}
use Rattle.std.specs.Prelude.{find, nat_lt, option_and_then, slice_get}
use Rattle.std.specs.List.{range_with_len}
use Rattle.std.specs.Option.{option_map_or}
use Rattle.std.proofs.lemmas.Bool.{and_parts, ltb-true}
use Rattle.std.proofs.lemmas.Option.{get_or_from_slice_get, slice_get_within}
use Rattle.instance.specs.Steps.{can_answer as instance_can_answer, can_feed as instance_can_feed}
use Rattle.world.specs.Acting.{IsGoneAt, IsPlacedIn}
use Rattle.hierarchy.specs.Births.{is_at, label_of, numbers}
use Rattle.hierarchy.proofs.Numbering.{numbers_are}
use Rattle.homes.specs.Homes.{home_in}
use Rattle.world.specs.Sound.{IsSound}
use Rattle.homes.specs.Times.{at_home}
use Rattle.world.specs.Steps.{can_answer, can_feed, can_issue, of_home}
use Rattle.world.specs.Value.{WorldValue}
use Rattle.homes.specs.declared.homes.Home.{Home}
use Rattle.homes.specs.declared.homes.Place.{Place}
use Rattle.homes.proofs.Finding.{option_found, item_read}
use Rattle.world.proofs.Ordering.{feed_at, living_so}

-- ---- places

pub record IsStanding (places : List Place) (actor number : ℕ) (p : Place) : Type 0 where
  pub here : slice_get places actor ≡ Some p
  pub home : p.home ≡ Some number

pub placed_at : (places : List Place) (actor number : ℕ) → IsPlacedIn places actor number → (p : Place) → p ≡ get_or places actor p → IsStanding places actor number p
placed_at places actor number e p read = by (slice_get places actor) refl e
  where
    by : (o : Option Place) → slice_get places actor ≡ o → option_and_then (λ (q : Place). q.home) o ≡ Some number → IsStanding places actor number p
    by None at e = cc
    by (Some q) at e =
        let same : q ≡ p = sym (read ∙ get_or_from_slice_get places actor q p at) in
        record { here = at ∙ ap Some same; home = ap (λ (x : Place). x.home) (sym same) ∙ e }

pub placed_there : (places : List Place) (actor number : ℕ) → IsPlacedIn places actor number → (p : Place) × (slice_get places actor ≡ Some p) × (p.home ≡ Some number)
placed_there places actor number e = by (slice_get places actor) refl e
  where
    by : (o : Option Place) → slice_get places actor ≡ o → option_and_then (λ (q : Place). q.home) o ≡ Some number → (p : Place) × (slice_get places actor ≡ Some p) × (p.home ≡ Some number)
    by None at e = cc
    by (Some q) at e = (q, at, e)

pub placed_within : (places : List Place) (actor number : ℕ) → IsPlacedIn places actor number → actor < length places
placed_within places actor number e = by (slice_get places actor) refl e
  where
    by : (o : Option Place) → slice_get places actor ≡ o → option_and_then (λ (q : Place). q.home) o ≡ Some number → actor < length places
    by None at e = cc
    by (Some q) at e = slice_get_within places actor q at

pub placed_in : (places : List Place) (actor number : ℕ) (p : Place) → slice_get places actor ≡ Some p → p.home ≡ Some number → IsPlacedIn places actor number
placed_in places actor number p here home = ap (option_and_then (λ (q : Place). q.home)) here ∙ home

pub issuer_at : (v : WorldValue) (actor : ℕ) → can_issue v actor ≡ true → (p : Place) → p ≡ get_or v.places actor p → slice_get v.places actor ≡ Some p
issuer_at v actor can p read =
    let f = option_found (slice_get v.places actor) (λ (p : Place). is_some p.home && (not p.waits && nat_lt p.next (length v.set.work.lines))) can in
    item_read v.places actor f.it p f.is read

-- an actor whose watch can be fed has a place, and lives in its instance
pub feeder_at : (v : WorldValue) (actor : ℕ) → can_feed v actor ≡ true → (p : Place) → p ≡ get_or v.places actor p → slice_get v.places actor ≡ Some p
feeder_at v actor can p read =
    let f = option_found (slice_get v.places actor) (λ (p : Place). at_home v.homes (λ h. not h.gone && instance_can_feed h.instance actor) p) can in
    item_read v.places actor f.it p f.is read

pub feeder_lives : (v : WorldValue) (actor number : ℕ) (p : Place) → slice_get v.places actor ≡ Some p → p.home ≡ Some number → can_feed v actor ≡ true
    → of_home v number (λ h. instance_can_feed h.instance actor) ≡ true
feeder_lives v actor number p here home can =
    let says : Home → Bool = λ h. not h.gone && instance_can_feed h.instance actor in
    let there : option_map_or says (slice_get v.homes number) false ≡ true =
    sym (ap (λ o. option_map_or (λ (p : Place). at_home v.homes (λ h. not h.gone && instance_can_feed h.instance actor) p) o false) here
    ∙ ap (λ o. option_map_or (λ i. option_map_or (λ (h : Home). not h.gone && instance_can_feed h.instance actor) (slice_get v.homes i) false) o false) home)
    ∙ can in
    let h = option_found (slice_get v.homes number) says there in
    let parts = and_parts (not h.it.gone) (instance_can_feed h.it.instance actor) h.so in
    ap (λ o. option_map_or (λ (h : Home). instance_can_feed h.instance actor) o false) (living_so v.homes number h.it h.is (alive h.it.gone parts.0)) ∙ parts.1
  where
    alive : (b : Bool) → not b ≡ true → b ≡ false
    alive true e = cc
    alive false e = refl

-- ---- the instance of an actor

found_below : (test : ℕ → Bool) (a n i : ℕ) → find test (range_with_len a n) ≡ Some i → i < a + n
found_below test a zero i e = cc
found_below test a (suc n) i e = by (test a) refl e (found_below test (a + 1) n i)
  where
    by : (b : Bool) → test a ≡ b → cond b (Some a) (find test (range_with_len (a + 1) n)) ≡ Some i → (find test (range_with_len (a + 1) n) ≡ Some i → i < a + 1 + n) → i < a + suc n
    by true is f more = (let same : a ≡ i = cc in omega arith)
    by false is f more = let less = more f in omega arith

-- it has its place among those that were born
pub home_below : (v : WorldValue) → IsSound v → v.closed ≡ false → (actor i : ℕ) (p : Place) → slice_get v.places actor ≡ Some p → p.home ≡ Some i → i < length v.homes
home_below v sound runs actor i p standing home =
    let on = sound.runs runs in
    let found : home_in v.set v.chronicle actor ≡ Some i = sym (on.places.each actor p standing).home ∙ home in
    let test = λ (n : ℕ). is_at v.set.work.actors (label_of v.chronicle n) actor in
    let below = found_below test 0 (length (numbers v.chronicle)) i (ap (find test) (sym (numbers_are v.set v.chronicle sound.legal)) ∙ found) in
    let all = on.homes.all in
    omega arith

pub is_gone_at : (homes : List Home) (i : ℕ) (h : Home) → slice_get homes i ≡ Some h → h.gone ≡ true → IsGoneAt homes i
is_gone_at homes i h here gone = ap (λ o. option_map_or (λ (x : Home). x.gone) o false) here ∙ gone

-- ---- the actor that can be answered

module _ (v : WorldValue) (actor i : ℕ) (p : Place) (h : Home) (standing : slice_get v.places actor ≡ Some p) (home : p.home ≡ Some i) (here : slice_get v.homes i ≡ Some h) where
  answer_so : can_answer v actor ≡ (cond h.gone p.waits (instance_can_answer h.instance actor))
  answer_so =
      ap (λ o. option_map_or (λ (p : Place). at_home v.homes (λ h. cond h.gone p.waits (instance_can_answer h.instance actor)) p) o false) standing
      ∙ ap (λ o. option_map_or (λ i. option_map_or (λ (h : Home). cond h.gone p.waits (instance_can_answer h.instance actor)) (slice_get v.homes i) false) o false) home
      ∙ ap (λ o. option_map_or (λ (h : Home). cond h.gone p.waits (instance_can_answer h.instance actor)) o false) here

  pub waits_left : h.gone ≡ true → can_answer v actor ≡ true → p.waits ≡ true
  waits_left gone can = sym (answer_so ∙ ap (λ b. cond b p.waits (instance_can_answer h.instance actor)) gone) ∙ can

  pub answers_in : h.gone ≡ false → can_answer v actor ≡ instance_can_answer h.instance actor
  answers_in living = answer_so ∙ ap (λ b. cond b p.waits (instance_can_answer h.instance actor)) living

  pub answers_left : h.gone ≡ true → p.waits ≡ true → can_answer v actor ≡ true
  answers_left gone waits = answer_so ∙ ap₂ (λ b w. cond b w (instance_can_answer h.instance actor)) gone waits

  -- that can be fed
  feed_so : can_feed v actor ≡ (not h.gone && instance_can_feed h.instance actor)
  feed_so = feed_at v actor i p h standing home here

  pub feeds_in : h.gone ≡ false → can_feed v actor ≡ instance_can_feed h.instance actor
  feeds_in living = feed_so ∙ ap (λ b. not b && instance_can_feed h.instance actor) living

  -- and for whom a command can be issued
  pub issue_so : can_issue v actor ≡ (not p.waits && nat_lt p.next (length v.set.work.lines))
  issue_so =
      ap (λ o. option_map_or (λ (p : Place). is_some p.home && (not p.waits && nat_lt p.next (length v.set.work.lines))) o false) standing
      ∙ ap (λ o. is_some o && (not p.waits && nat_lt p.next (length v.set.work.lines))) home

  pub issues_there : p.waits ≡ false → nat_lt p.next (length v.set.work.lines) ≡ true → can_issue v actor ≡ true
  issues_there free more = issue_so ∙ ap₂ (λ w m. not w && m) free more

  pub free_there : can_issue v actor ≡ true → p.waits ≡ false
  free_there can = of (and_parts (not p.waits) (nat_lt p.next (length v.set.work.lines)) (sym issue_so ∙ can)).0
    where
      of : not p.waits ≡ true → p.waits ≡ false
      of = by p.waits
        where
          by : (b : Bool) → not b ≡ true → b ≡ false
          by true e = cc
          by false e = refl

  pub more_there : can_issue v actor ≡ true → p.next < length v.set.work.lines
  more_there can = ltb-true p.next (length v.set.work.lines) (and_parts (not p.waits) (nat_lt p.next (length v.set.work.lines)) (sym issue_so ∙ can)).1
