-- Who has a look open stands in the top.
use Rattle.std.proofs.Common.{◌≡◌, ◌∙◌, ℕ, zero, suc, ◌+◌, ◌-◌, ◌%◌, ◌<◌, ◌≤◌, ◌==◌, ◌||◌, inl, inr, List, [], Bool, true, false, not, Option, Some, None, is_some, length, get_or, refl, sym, ap, subst, true≢false, arith}
use Rattle.std.specs.Prelude.{Contains, IsSomeAnd, is_none, option_and_then, option_map, slice_get, if◌then◌else◌}
use Rattle.std.specs.List.{list_any, range_with_len}
use Rattle.std.specs.Option.{option_map_or}
use Rattle.std.proofs.lemmas.Bool.{and_parts, cases_eq, eq-eqb, eqb-true, ne_eqb}
use Rattle.std.proofs.lemmas.List.Elements.{All-contains}
use Rattle.std.proofs.lemmas.Option.{get_or_from_slice_get, slice_get-get_or, slice_get_within}
use Rattle.instance.specs.kvs_rules.Brokers.{HasHeard, heard}
use Rattle.instance.specs.kvs_rules.Log.{Log}
use Rattle.instance.specs.kvs_rules.Namespaces.{primary}
use Rattle.instance.specs.workload.Actors.{are_together, home_of, is_in_place}
use Rattle.instance.specs.workload.declared.work.Command.{Command}
use Rattle.instance.specs.workload.declared.work.Command.TheVariants as command
use Rattle.instance.specs.workload.declared.work.Line.{Line}
use Rattle.instance.specs.answers.Chronicle.{Setup, top}
use Rattle.instance.specs.answers.Commands.{broker_of, command_at, commands_of}
use Rattle.instance.specs.answers.Services.{log_of}
use Rattle.hierarchy.specs.Births.{Birth, birth_of, is_at, is_born, is_gone, label_of}
use Rattle.hierarchy.specs.Heard.{heard_at}
use Rattle.hierarchy.specs.Own.{own_of, setup_in}
use Rattle.hierarchy.proofs.Numbering.{top_lives}
use Rattle.hierarchy.proofs.Steps.{command_same}
use Rattle.instance.specs.Agrees.{ActorStands, Waits, command_of}
use Rattle.instance.specs.Floors.{floor_in}
use Rattle.instance.specs.Seats.{is_free, is_look, look_in}
use Rattle.instance.specs.Steps.{look_of}
use Rattle.instance.specs.declared.seats.OpenLook.{OpenLook}
use Rattle.instance.specs.declared.seats.Seat.{Seat}
use Rattle.instance.specs.declared.seats.Waiting.{Waiting}
use Rattle.instance.specs.declared.seats.Waiting.TheVariants as waiting
use Rattle.homes.specs.declared.homes.Home.{Home}
use Rattle.homes.specs.declared.homes.Place.{Place}
use Rattle.homes.proofs.Members.{from_filter_map, from_start}
use Rattle.world.specs.Looks.{has_look, look_at, looker_of}
use Rattle.world.specs.Order.{is_own}
use Rattle.world.specs.Sound.{IsSound}
use Rattle.world.specs.Value.{WorldValue}
use Rattle.world.specs.declared.run.looking.Looker.{Looker}
use Rattle.world.proofs.Housing.{at_home, has_line, seated}
use Rattle.world.proofs.Ordering.{is_busy}
use Rattle.world.proofs.Running.{home_agrees, home_born, home_is}

-- ---- tests over numbers

-- where a test passes nowhere in a range, it doesn't here
none_in : (p : ℕ → Bool) (a n k : ℕ) → list_any p (range_with_len a n) ≡ false → a ≤ k → k < a + n → p k ≡ false
none_in p a zero k none low high = absurd (omega (arith, low, high))
none_in p a (suc n) k none low high = by (λ e above. none_in p (a + 1) n k e above (omega (arith, high))) (p a) refl none
  where
    by : (list_any p (range_with_len (a + 1) n) ≡ false → a + 1 ≤ k → p k ≡ false) → (b : Bool) → p a ≡ b → (b || list_any p (range_with_len (a + 1) n)) ≡ false → p k ≡ false
    by again true is e = absurd (true≢false e)
    by again false is e = elim (from_start a k low) [
      | inl same ↦ ap p (sym same) ∙ is
      | inr above ↦ again e above
    ]

pub any_in : (p : ℕ → Bool) (a n k : ℕ) → p k ≡ true → a ≤ k → k < a + n → list_any p (range_with_len a n) ≡ true
any_in p a n k t low high = by (list_any p (range_with_len a n)) refl
  where
    by : (b : Bool) → list_any p (range_with_len a n) ≡ b → list_any p (range_with_len a n) ≡ true
    by true is = is
    by false is = absurd (true≢false (sym t ∙ none_in p a n k is low high))

pub none_below : (p : ℕ → Bool) (a n : ℕ) → ((k : ℕ) → k < a + n → p k ≡ false) → list_any p (range_with_len a n) ≡ false
none_below p a zero none = refl
none_below p a (suc n) none = ap (λ b. b || list_any p (range_with_len (a + 1) n)) (none a (omega arith)) ∙ none_below p (a + 1) n (λ k low. none k (omega (arith, low)))

-- all actors are of the one lane
pub one_lane : (actor : ℕ) → is_own 1 0 actor ≡ true
one_lane actor = eq-eqb (actor % 1) (0 % 1) (omega arith)

-- a run that has ended has no open look
pub closed_quiet : (v : WorldValue) → v.closed ≡ true → has_look v ≡ false
closed_quiet v closed = none_below (λ a. is_some (look_at v a)) 0 (length v.places)
    (λ a low. ap (λ b. is_some (if b then None else option_and_then (λ (h : Home). option_map (looker_of a) (look_of h.instance a)) (slice_get v.homes top))) closed)

-- where the only lane has none, none is open
pub alone_quiet : (v : WorldValue) (count lane : ℕ) → count ≡ 1 → ((actor : ℕ) → actor < length v.places → is_own count lane actor ≡ true → look_at v actor ≡ None) → has_look v ≡ false
alone_quiet v count lane one none = none_below (λ a. is_some (look_at v a)) 0 (length v.places) (λ a low. ap is_some (none a (omega (arith, low)) (own a)))
  where
    own : (a : ℕ) → is_own count lane a ≡ true
    own a = ap (λ n. is_own n lane a) one ∙ eq-eqb (a % 1) (lane % 1) (omega arith)

-- ---- seats

-- the look of a seat, if its actor looks
abbrev look_there : Seat → OpenLook
look_there seat = record { broker = seat.broker; need = floor_in seat.floors seat.subject }

pub record IsLooking (seats : List Seat) (actor : ℕ) (look : OpenLook) : Type 0 where
  pub seat : Seat
  pub sits : slice_get seats actor ≡ Some seat
  pub looks : seat.waiting ≡ waiting.Look
  pub is : look ≡ look_there seat

pub looking_so : (seats : List Seat) (actor : ℕ) (look : OpenLook) → option_and_then look_in (slice_get seats actor) ≡ Some look → IsLooking seats actor look
looking_so seats actor look e = on (slice_get seats actor) refl e
  where
    waits_so : (seat : Seat) (w : Waiting) → (if is_look w then Some (look_there seat) else None) ≡ Some look → (w ≡ waiting.Look) × (look ≡ look_there seat)
    waits_so seat waiting.Look f = (refl, let same : look_there seat ≡ look = cc in sym same)
    waits_so seat _ f = cc

    on : (o : Option Seat) → slice_get seats actor ≡ o → option_and_then look_in o ≡ Some look → IsLooking seats actor look
    on None at f = cc
    on (Some seat) at f = let w = waits_so seat seat.waiting f in record { seat = seat; sits = at; looks = w.0; is = w.1 }

-- ---- a world that goes on

not_so : (b : Bool) → not b ≡ true → b ≡ false
not_so true e = cc
not_so false e = refl

module _ (v : WorldValue) (sound : IsSound v) (runs : v.closed ≡ false) where
  -- the actor of a seat that looks has a place there, and it is the top
  module _ (i : ℕ) (h : Home) (here : slice_get v.homes i ≡ Some h) (living : h.gone ≡ false) (actor : ℕ) (look : OpenLook) (open_ : look_of h.instance actor ≡ Some look) where
    abbrev given : Setup
    given = setup_in v.set v.chronicle i

    abbrev log : Log
    log = log_of given.work top (own_of v.set v.chronicle i)

    sitting : IsLooking h.instance.seats actor look
    sitting = looking_so h.instance.seats actor look open_

    busy : is_busy h.instance actor ≡ true
    busy = ap (λ o. option_map_or (λ (s : Seat). not (is_free s.waiting)) o false) sitting.sits ∙ ap (λ w. not (is_free w)) sitting.looks

    stands : ActorStands given log (own_of v.set v.chronicle i) actor (Some sitting.seat)
    stands = subst (ActorStands given log (own_of v.set v.chronicle i) actor) sitting.sits ((home_agrees v sound runs i h here living).actors actor)

    waits : Waits given log actor sitting.seat.issued waiting.Look
    waits = subst (Waits given log actor sitting.seat.issued) sitting.looks stands.1.waits

    pub placed_so : (p : Place) × (slice_get v.places actor ≡ Some p) × (p.home ≡ Some i)
    placed_so = seated v (sound.runs runs) i actor h here living busy

    at_here : is_at v.set.work.actors (label_of v.chronicle i) actor ≡ true
    at_here = at_home v.set v.chronicle i actor (has_line v.set v.chronicle i actor h (own_of v.set v.chronicle i) (home_agrees v sound runs i h here living) busy).1

    -- its command keeps to the top
    asked : command_at v.set.work (command_of actor (sitting.seat.issued - 1)) ≡ Some command.Look
    asked = sym (command_same v.set v.chronicle i (command_of actor (sitting.seat.issued - 1)) at_here) ∙ waits.2

    abbrev of_actor : Line → Option Command
    of_actor line = if line.actor == actor then Some line.command else None

    homeless : is_none (home_of v.set.work.actors actor) ≡ true
    homeless =
        let commands = commands_of v.set.work actor in
        let k = sitting.seat.issued - 1 in
        let low = slice_get_within commands k command.Look asked in
        let there : Contains commands command.Look = (k, low, (let same : Some _ ≡ Some command.Look = sym (slice_get-get_or commands k command.Look low) ∙ asked in one same)) in
        let m = from_filter_map of_actor v.set.work.lines command.Look there in
        let line = of_line m.0 (m.0.actor == actor) refl m.2 in
        subst (λ a. is_none (home_of v.set.work.actors a) ≡ true) line.0
        (subst (λ c. is_in_place v.set.work.actors m.0.actor c ≡ true) line.1
        (All-contains (λ l. is_in_place v.set.work.actors l.actor l.command ≡ true) v.set.work.lines m.0 sound.run.within.placed m.1))
      where
        one : {X : Type 0} {x y : X} → Some x ≡ Some y → x ≡ y
        one e = cc

        of_line : (line : Line) (b : Bool) → (line.actor == actor) ≡ b → (if b then Some line.command else None) ≡ Some command.Look → (line.actor ≡ actor) × (line.command ≡ command.Look)
        of_line line true is e = (eqb-true line.actor actor is, one e)
        of_line line false is e = cc

    pub in_top : i ≡ top
    in_top = elim (cases_eq i top) [
      | inl same ↦ same
      | inr other ↦ absurd (born (birth_of v.chronicle i) refl (sym (ap (λ b. b || is_some (birth_of v.chronicle i)) (ne_eqb i top other)) ∙ home_born v sound runs i h here))
    ]
      where
        apart : (o : Option (List ℕ)) (label : List ℕ) → is_none o ≡ true → are_together o (Some label) ≡ true → ⊥
        apart None label none together = true≢false (sym together)
        apart (Some x) label none together = true≢false (sym none)

        born : (o : Option Birth) → birth_of v.chronicle i ≡ o → is_some (birth_of v.chronicle i) ≡ true → ⊥
        born None is some = true≢false (sym some ∙ ap is_some is)
        born (Some b) is some = apart (home_of v.set.work.actors actor) b.label homeless (ap (λ o. are_together (home_of v.set.work.actors actor) (option_map (λ (x : Birth). x.label) o)) (sym is) ∙ at_here)

  top_alive : (h : Home) → slice_get v.homes top ≡ Some h → h.gone ≡ false
  top_alive h here = (home_is v sound runs top h here).gone ∙ not_so (is_gone v.chronicle top) (and_parts (is_born v.chronicle top) (not (is_gone v.chronicle top)) (top_lives v.set v.chronicle sound.legal)).1

  -- what is said of an actor of the top
  look_here : (h : Home) (actor : ℕ) (look : OpenLook) → slice_get v.homes top ≡ Some h → look_of h.instance actor ≡ Some look → look_at v actor ≡ Some (looker_of actor look)
  look_here h actor look here open_ =
      ap (λ b. if b then None else option_and_then (λ (h : Home). option_map (looker_of actor) (look_of h.instance actor)) (slice_get v.homes top)) runs
      ∙ ap (option_and_then (λ (h : Home). option_map (looker_of actor) (look_of h.instance actor))) here
      ∙ ap (option_map (looker_of actor)) open_

  -- where no look is open, no instance has one
  pub no_looks : has_look v ≡ false → (i : ℕ) (h : Home) → slice_get v.homes i ≡ Some h → h.gone ≡ false → (actor : ℕ) → look_of h.instance actor ≡ None
  no_looks quiet i h here living actor = by (look_of h.instance actor) refl
    where
      by : (o : Option OpenLook) → look_of h.instance actor ≡ o → look_of h.instance actor ≡ None
      by None is = is
      by (Some look) is =
          let p = placed_so i h here living actor look is in
          let inside = slice_get_within v.places actor p.0 p.1 in
          let same = in_top i h here living actor look is in
          let at = look_here h actor look (subst (λ n. slice_get v.homes n ≡ Some h) same here) is in
          absurd (true≢false (sym (ap is_some at) ∙ none_in (λ a. is_some (look_at v a)) 0 (length v.places) actor quiet (omega arith) (omega (arith, inside))))

  -- ---- an open look

  pub record IsOpenLook (actor : ℕ) (looker : Looker) : Type 0 where
    pub h : Home
    pub here : slice_get v.homes top ≡ Some h
    pub living : h.gone ≡ false
    pub look : OpenLook
    pub open_ : look_of h.instance actor ≡ Some look
    pub is : looker ≡ looker_of actor look

  pub open_look : (actor : ℕ) (looker : Looker) → look_at v actor ≡ Some looker → IsOpenLook actor looker
  open_look actor looker e = on (slice_get v.homes top) refl (sym (ap (λ b. if b then None else option_and_then (λ (h : Home). option_map (looker_of actor) (look_of h.instance actor)) (slice_get v.homes top)) runs) ∙ e)
    where
      told : (h : Home) → slice_get v.homes top ≡ Some h → (o : Option OpenLook) → look_of h.instance actor ≡ o → option_map (looker_of actor) o ≡ Some looker → IsOpenLook actor looker
      told h at None is f = cc
      told h at (Some look) is f = let same : looker_of actor look ≡ looker = cc in record { h = h; here = at; living = top_alive h at; look = look; open_ = is; is = sym same }

      on : (o : Option Home) → slice_get v.homes top ≡ o → option_and_then (λ (h : Home). option_map (looker_of actor) (look_of h.instance actor)) o ≡ Some looker → IsOpenLook actor looker
      on None at f = cc
      on (Some h) at f = told h at (look_of h.instance actor) refl f

  module _ (actor : ℕ) (looker : Looker) (e : look_at v actor ≡ Some looker) where
    abbrev is_open : IsOpenLook actor looker
    is_open = open_look actor looker e

    sits_so : IsLooking is_open.h.instance.seats actor is_open.look
    sits_so = looking_so is_open.h.instance.seats actor is_open.look is_open.open_

    abbrev own_log : Log
    own_log = log_of (setup_in v.set v.chronicle top).work top (own_of v.set v.chronicle top)

    seat_so : ActorStands (setup_in v.set v.chronicle top) own_log (own_of v.set v.chronicle top) actor (Some sits_so.seat)
    seat_so = subst (ActorStands (setup_in v.set v.chronicle top) own_log (own_of v.set v.chronicle top) actor) sits_so.sits ((home_agrees v sound runs top is_open.h is_open.here is_open.living).actors actor)

    same_broker : looker.broker ≡ sits_so.seat.broker
    same_broker = ap (λ (l : Looker). l.broker) is_open.is ∙ ap (λ (l : OpenLook). l.broker) sits_so.is

    pub broker_within : looker.broker < v.set.size
    broker_within = subst (λ n. n < v.set.size) (sym same_broker) seat_so.1.inside

    pub actor_within : actor < length v.places
    actor_within = let p = placed_so top is_open.h is_open.here is_open.living actor is_open.look is_open.open_ in slice_get_within v.places actor p.0 p.1

    pub some_look : has_look v ≡ true
    some_look = any_in (λ a. is_some (look_at v a)) 0 (length v.places) actor (ap is_some e) (omega arith) (let inside = actor_within in omega (arith, inside))

    -- what the looker's broker has heard is what the top's own log tells
    pub known_so : (heard own_log looker.broker primary ≡ Some (heard_at v.chronicle looker.broker)) → (number : ℕ) → number ≤ heard_at v.chronicle looker.broker
        → HasHeard own_log (broker_of (setup_in v.set v.chronicle top).work actor) primary number
    known_so tied number low =
        subst (λ b. HasHeard own_log b primary number) (same_broker ∙ seat_so.1.home)
        (subst (λ o. IsSomeAnd o (λ n. number ≤ n)) (sym tied) low)

-- ---- a look that may be told a number

pub still_runs : (v : WorldValue) (actor : ℕ) (P : Looker → Type 0) → IsSomeAnd (look_at v actor) P → v.closed ≡ false
still_runs v actor P t = by v.closed refl t
  where
    by : (b : Bool) → v.closed ≡ b → IsSomeAnd (if b then None else option_and_then (λ (h : Home). option_map (looker_of actor) (look_of h.instance actor)) (slice_get v.homes top)) P → v.closed ≡ false
    by true is f = absurd f
    by false is f = is

pub some_looker : (v : WorldValue) (actor : ℕ) (P : Looker → Type 0) → IsSomeAnd (look_at v actor) P → (looker : Looker) × (look_at v actor ≡ Some looker) × P looker
some_looker v actor P t = by (look_at v actor) refl t
  where
    by : (o : Option Looker) → look_at v actor ≡ o → IsSomeAnd o P → (looker : Looker) × (look_at v actor ≡ Some looker) × P looker
    by None is f = absurd f
    by (Some looker) is f = (looker, is, f)

module _ (v : WorldValue) (sound : IsSound v) (runs : v.closed ≡ false) (actor : ℕ) (looker : Looker) (e : look_at v actor ≡ Some looker) (number : ℕ) where
  -- the top as it is read, and the actor's place there
  pub record IsTopLook (h : Home) : Type 0 where
    pub here : slice_get v.homes top ≡ Some h
    pub living : h.gone ≡ false
    pub need : IsSomeAnd (look_of h.instance actor) (λ look. look.need ≤ number)
    pub p : Place
    pub standing : slice_get v.places actor ≡ Some p
    pub home : p.home ≡ Some top

  pub top_look : looker.need ≤ number → (h : Home) → h ≡ get_or v.homes top h → IsTopLook h
  top_look least h read =
      let o = open_look v sound runs actor looker e in
      let same : o.h ≡ h = sym (read ∙ get_or_from_slice_get v.homes top o.h h o.here) in
      let p = placed_so v sound runs top o.h o.here o.living actor o.look o.open_ in
      record {
        here = o.here ∙ ap Some same;
        living = ap (λ (x : Home). x.gone) (sym same) ∙ o.living;
        need = subst (λ q. IsSomeAnd q (λ look. look.need ≤ number)) (sym (ap (λ (x : Home). look_of x.instance actor) (sym same) ∙ o.open_)) (subst (λ n. n ≤ number) (ap (λ (l : Looker). l.need) o.is) least);
        p = p.0;
        standing = p.1;
        home = p.2;
      }

  pub top_within : top < length v.homes
  top_within = let o = open_look v sound runs actor looker e in slice_get_within v.homes top o.h o.here
