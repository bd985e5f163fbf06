-- Time goes on to the next second.
use Rattle.std.proofs.Common.{◌≡◌, ◌∙◌, inl, inr, ℕ, zero, suc, ◌+◌, ◌<◌, ◌≤◌, List, [], ◌∷◌, ◌++◌, Bool, true, false, not, ◌&&◌, ◌||◌, length, refl, sym, ap, ap₂, subst, true≢false, arith}
use Rattle.std.specs.Prelude.{Some, None, ◌-◌, Contains, flat_map, is_some, nat_lt, slice_get, if◌then◌else◌}
use Rattle.std.specs.List.{list_any}
use Rattle.std.specs.Option.{option_map_or}
use Rattle.std.proofs.lemmas.Bool.{and_parts, ltb-true}
use Rattle.std.proofs.lemmas.Option.{slice_get_within}
use Rattle.instance.specs.kvs_txn.declared.txn.By.{By}
use Rattle.instance.specs.answers.Chronicle.{IsOpenCommand, issues}
use Rattle.instance.specs.answers.declared.chronicle.Entry.{Entry}
use Rattle.instance.specs.answers.declared.chronicle.Entry.TheVariants as entry
use Rattle.instance.specs.answers.declared.steps.Step.{Step}
use Rattle.instance.specs.answers.declared.steps.Step.TheVariants as step
use Rattle.hierarchy.specs.Births.{birth_of, has_lost_home}
use Rattle.hierarchy.specs.Families.{family_of, left_in, living_in, second_in}
use Rattle.hierarchy.specs.Grows.{GrowsBySecond}
use Rattle.hierarchy.specs.Own.{child_setup, own_of, setup_in, work_for}
use Rattle.hierarchy.proofs.Advances.{next_within}
use Rattle.hierarchy.proofs.Growth.{second_grown}
use Rattle.hierarchy.proofs.Homes.{all_idle, in_family_only}
use Rattle.hierarchy.proofs.Nested.{in_family}
use Rattle.hierarchy.proofs.Resting.{left_answered}
use Rattle.hierarchy.proofs.Seconds.{at_once}
use Rattle.instance.specs.Family.{LivesAs, ends_left, is_due, present, targets_left}
use Rattle.instance.specs.instance_rules.Family.{EndsIn, HasTarget, IsAhead, IsTarget, Living, MayTick, OfLiving}
use Rattle.instance.proofs.job_rules_proofs.Among.{Among, all_at, all_from, among_append, among_filter, among_from, among_left, among_right, any_at, contains_from}
use Rattle.instance.specs.manager_rules.Times.{IsLeast, seconds_ahead, seconds_of}
use Rattle.world.specs.Advances.{Advances}
use Rattle.homes.specs.Homes.{AreHomes, ArePlaces, IsHome}
use Rattle.world.specs.Sound.{IsSound}
use Rattle.homes.specs.Times.{all_ends, all_targets, has_due, is_left, may_go, of_living}
use Rattle.world.specs.Steps.{can_tick, keeps_time}
use Rattle.homes.specs.Tells.{EachLiving, HasPassedTo, HavePassedTo, MayPassTo, TellAll}
use Rattle.world.specs.Value.{WorldValue}
use Rattle.homes.specs.declared.homes.Home.{Home}
use Rattle.world.proofs.Answered.{still_waits}
use Rattle.homes.proofs.Placing.{all_silent, places_stay}
use Rattle.world.proofs.Resting.{among_flat, flat_among, living_home, no_end}
use Rattle.world.proofs.Running.{home_agrees, home_lives, known}
use Rattle.homes.proofs.Standing.{grown_home, homes_told, item_at, stays_home}
use Rattle.world.proofs.Stepping.{starts_at_0, step_advances, step_sound, stepped, valid_so}

-- ---- lists

among_item : {X : Type 0} (xs : List X) (i : ℕ) (x : X) → slice_get xs i ≡ Some x → Among x xs
among_item [] i x e = cc
among_item (y ∷ ys) zero x e = (let same : y ≡ x = cc in inl same)
among_item (y ∷ ys) (suc i) x e = inr (among_item ys i x e)

item_among : {X : Type 0} (xs : List X) (x : X) → Among x xs → (i : ℕ) × (slice_get xs i ≡ Some x)
item_among [] x a = absurd a
item_among (y ∷ ys) x a = elim a [ inl same ↦ (0, ap Some same) | inr b ↦ let found = item_among ys x b in (suc found.0, found.1) ]

some_item : {X : Type 0} (xs : List X) → 0 < length xs → (x : X) × Among x xs
some_item [] some = absurd (omega arith)
some_item (x ∷ xs) some = (x, inl refl)

any_off : {X : Type 0} (test : X → Bool) (xs : List X) (i : ℕ) (x : X) → list_any test xs ≡ false → slice_get xs i ≡ Some x → test x ≡ false
any_off test xs i x none e = by (test x) refl
  where
    by : (b : Bool) → test x ≡ b → test x ≡ false
    by false is = is
    by true is = absurd (true≢false (sym (any_at test xs x (among_item xs i x e) is) ∙ none))

or_off : (a b : Bool) → (a || b) ≡ false → (a ≡ false) × (b ≡ false)
or_off false b e = (refl, e)
or_off true b e = absurd (true≢false e)

not_so : (b : Bool) → not b ≡ true → b ≡ false
not_so true e = cc
not_so false e = refl

-- ---- of the living ones

module _ (homes : List Home) (of : Home → List ℕ) where
  among_living : (n : ℕ) → Among n (flat_map (of_living of) homes) → (i : ℕ) × (h : Home) × (slice_get homes i ≡ Some h) × (h.gone ≡ false) × Among n (of h)
  among_living n a =
      let found = among_flat (of_living of) homes n a in
      let at = item_among homes found.0 found.1 in
      by at.0 found.0 at.1 found.0.gone refl found.2
    where
      by : (i : ℕ) (h : Home) → slice_get homes i ≡ Some h → (b : Bool) → h.gone ≡ b → Among n (if b then [] else of h) → (i : ℕ) × (h : Home) × (slice_get homes i ≡ Some h) × (h.gone ≡ false) × Among n (of h)
      by i h e true is a = absurd a
      by i h e false is a = (i, h, e, is, a)

  living_among : (n i : ℕ) (h : Home) → slice_get homes i ≡ Some h → h.gone ≡ false → Among n (of h) → Among n (flat_map (of_living of) homes)
  living_among n i h e living a = flat_among (of_living of) homes h n (among_item homes i h e) (subst (λ b. Among n (if b then [] else of h)) (sym living) a)

-- ---- nobody is left

module _ (v : WorldValue) (sound : IsSound v) (runs : v.closed ≡ false) where
  -- an actor whose instance has gone waits for nothing where none is left
  answered_so : list_any (is_left v.homes) v.places ≡ false → (by : By) → has_lost_home v.set.work.actors v.chronicle by.actor ≡ true → IsOpenCommand by v.chronicle → ⊥
  answered_so none by lost waiting =
      let w = still_waits v sound runs by lost waiting in
      true≢false
      (sym (ap (λ o. option_map_or (λ i. option_map_or (λ (h : Home). w.p.waits && h.gone) (slice_get v.homes i) false) o false) w.home
      ∙ ap (λ o. option_map_or (λ (h : Home). w.p.waits && h.gone) o false) w.here
      ∙ ap₂ (λ a b. a && b) w.waits w.gone)
      ∙ any_off (is_left v.homes) v.places by.actor w.p none w.standing)

  -- what the walks tell where time can go on
  record MayPass : Type 0 where
    free : EachLiving (λ h. is_due h.instance ≡ false) v.homes
    stays : EachLiving (λ h. may_go v.homes h ≡ false) v.homes
    left : left_in v.set v.chronicle ≡ []
    some : 0 < length (all_targets v.homes)

  may_so : can_tick v ≡ true → MayPass
  may_so can =
      let parts = and_parts (not (keeps_time v)) (nat_lt 0 (length (all_targets v.homes))) can in
      let off = or_off (list_any has_due v.homes || list_any (may_go v.homes) v.homes) (list_any (is_left v.homes) v.places) (not_so (keeps_time v) parts.0) in
      let both = or_off (list_any has_due v.homes) (list_any (may_go v.homes) v.homes) off.0 in
      record {
        free = λ i h e living. sym (ap (λ b. not b && is_due h.instance) living) ∙ any_off has_due v.homes i h both.0 e;
        stays = λ i h e living. any_off (may_go v.homes) v.homes i h both.1 e;
        left = left_answered v.set v.chronicle (answered_so off.1);
        some = ltb-true 0 (length (all_targets v.homes)) parts.1;
      }

  -- ---- the next second

  module _ (can : can_tick v ≡ true) (tells : TellAll v.homes) (second : ℕ) (l : IsLeast (all_targets v.homes ++ all_ends v.homes) second) where
    abbrev c : List Entry
    c = v.chronicle

    abbrev family : List Living
    family = family_of v.set c

    abbrev now : ℕ
    now = second_in v.set c

    -- it is the present second of each that lives
    now_so : (i : ℕ) (h : Home) → slice_get v.homes i ≡ Some h → h.gone ≡ false → now ≡ present h.instance
    now_so i h e living = sym (at_once v.set c sound.legal i (home_lives v sound runs i h e living)) ∙ (home_agrees v sound runs i h e living).agrees.jobs.second

    as_living : (i : ℕ) → LivesAs (setup_in v.set c i) (own_of v.set c i) (living_in v.set c i)
    as_living i = record { is = refl; logged = refl }

    -- a second that an advance waits for, and one at which something ends
    target_of : (n i : ℕ) (h : Home) → slice_get v.homes i ≡ Some h → h.gone ≡ false → Among n (targets_left h.instance) → HasTarget (living_in v.set c i) n × (now < n)
    target_of n i h e living a =
        let told = ((tells.targets i h e living).targets (setup_in v.set c i) (own_of v.set c i) (living_in v.set c i) n (home_agrees v sound runs i h e living) (as_living i)).1
        (contains_from (targets_left h.instance) n a) in
        (told.0, subst (λ m. m < n) (sym (now_so i h e living)) told.1)

    end_of : (n i : ℕ) (h : Home) → slice_get v.homes i ≡ Some h → h.gone ≡ false → Among n (ends_left h.instance) → OfLiving (living_in v.set c i) (λ desk. Contains (seconds_ahead desk.scene) n) × (now < n)
    end_of n i h e living a =
        let ahead = among_filter (λ m. nat_lt (present h.instance) m) (flat_map seconds_of h.instance.services.jobs.manager.book.jobs) n a in (
          ((tells.ends i h e living).ends (setup_in v.set c i) (own_of v.set c i) (living_in v.set c i) n (home_agrees v sound runs i h e living) (as_living i)).1 (contains_from (ends_left h.instance) n a),
          subst (λ m. m < n) (sym (now_so i h e living)) (ltb-true (present h.instance) n ahead.1),
        )

    in_here : (i : ℕ) (h : Home) → slice_get v.homes i ≡ Some h → h.gone ≡ false → Contains family (living_in v.set c i)
    in_here i h e living = in_family v.set c i (home_lives v sound runs i h e living)

    is_target : (n : ℕ) → Among n (all_targets v.homes) → IsTarget family (left_in v.set c) n × (now < n)
    is_target n a =
        let at = among_living v.homes (λ h. targets_left h.instance) n a in
        let told = target_of n at.0 at.1 at.2 at.3 at.4 in
        (inl (living_in v.set c at.0, in_here at.0 at.1 at.2 at.3, told.0), told.1)

    ends_in : (n : ℕ) → Among n (all_ends v.homes) → EndsIn family n × (now < n)
    ends_in n a =
        let at = among_living v.homes (λ h. ends_left h.instance) n a in
        let told = end_of n at.0 at.1 at.2 at.3 at.4 in
        ((living_in v.set c at.0, in_here at.0 at.1 at.2 at.3, told.0), told.1)

    ahead : IsAhead family now (left_in v.set c) second
    ahead = elim (among_append (all_targets v.homes) (all_ends v.homes) second (among_from (all_targets v.homes ++ all_ends v.homes) second l.one)) [
      | inl a ↦ (let t = is_target second a in record { above = t.1; by = inl t.0 })
      | inr a ↦ (let t = ends_in second a in record { above = t.1; by = inr t.0 })
    ]

    least_of : (n : ℕ) → Among n (all_targets v.homes ++ all_ends v.homes) → second ≤ n
    least_of n a = all_at (λ o. second ≤ o) (all_targets v.homes ++ all_ends v.homes) n l.least a

    not_before : (other : ℕ) → IsAhead family now (left_in v.set c) other → second ≤ other
    not_before other before = elim before.by [
      | inl (inl t) ↦
          let its = in_family_only v.set c t.0 t.1 in
          let h = living_home v sound runs t.0.number its.0 in
          let has : HasTarget (living_in v.set c t.0.number) other = subst (λ m. HasTarget m other) its.1 t.2 in
          let there = ((tells.targets t.0.number h.0 h.1 h.2).targets (setup_in v.set c t.0.number) (own_of v.set c t.0.number) (living_in v.set c t.0.number) other
          (home_agrees v sound runs t.0.number h.0 h.1 h.2) (as_living t.0.number)).0 (has, subst (λ m. m < other) (now_so t.0.number h.0 h.1 h.2) before.above) in
          least_of other (among_left (all_targets v.homes) (all_ends v.homes) other (living_among v.homes (λ h. targets_left h.instance) other t.0.number h.0 h.1 h.2 (among_from (targets_left h.0.instance) other there)))
      | inl (inr left) ↦ absurd (subst (Among other) (may_so can).left (among_from (left_in v.set c) other left))
      | inr t ↦
          let its = in_family_only v.set c t.0 t.1 in
          let h = living_home v sound runs t.0.number its.0 in
          let ends : OfLiving (living_in v.set c t.0.number) (λ desk. Contains (seconds_ahead desk.scene) other) = subst (λ m. OfLiving m (λ desk. Contains (seconds_ahead desk.scene) other)) its.1 t.2 in
          let there = ((tells.ends t.0.number h.0 h.1 h.2).ends (setup_in v.set c t.0.number) (own_of v.set c t.0.number) (living_in v.set c t.0.number) other
          (home_agrees v sound runs t.0.number h.0 h.1 h.2) (as_living t.0.number)).0 ends in
          least_of other (among_right (all_targets v.homes) (all_ends v.homes) other (living_among v.homes (λ h. ends_left h.instance) other t.0.number h.0 h.1 h.2 (among_from (ends_left h.0.instance) other there)))
    ]

    may_tick : MayTick family now (left_in v.set c) second
    may_tick =
        let may = may_so can in
        let target = some_item (all_targets v.homes) may.some in
        let wanted = is_target target.0 target.1 in
        record {
          idle = all_idle v.set c
              (λ i alive. let h = living_home v sound runs i alive in (tells.idle i h.0 h.1 h.2).idle (setup_in v.set c i) (own_of v.set c i) (home_agrees v sound runs i h.0 h.1 h.2))
              (no_end v sound runs may.free may.stays tells.goes);
          target = target.0;
          wanted = wanted.0;
          unreached = wanted.1;
          ahead = ahead;
          least = λ other before low. (let high = not_before other before in absurd (omega (arith, high, low)));
        }

    -- each instance can go on to it
    pub all_may_pass : EachLiving (MayPassTo second) v.homes
    all_may_pass i h e living =
        let within = next_within v.set c second sound.legal may_tick in
        let first = starts_at_0 v.set sound.run in
        let few = sound.run.few.seconds in
        let above = ahead.above in
        record {
          idle = (may_so can).free i h e living;
          above = subst (λ m. m < second) (now_so i h e living) above;
          before = all_from (λ o. second ≤ o) (ends_left h.instance)
              (λ o a. least_of o (among_right (all_targets v.homes) (all_ends v.homes) o (living_among v.homes (λ h. ends_left h.instance) o i h e living a)));
          near = omega (arith, within, first, few);
        }

    -- ---- behind it

    abbrev made : List Entry
    made = entry.Ticked second ∷ []

    module _ (new : List Home) (passed : HavePassedTo second v.homes new) where
      now_at : (i : ℕ) (h : Home) → slice_get v.homes i ≡ Some h → (one : Home) × HasPassedTo second h one
      now_at i h e =
          let low = slice_get_within v.homes i h e in
          let one = item_at new i (subst (λ n. i < n) (sym passed.all) low) in
          (one.0, passed.each i h one.0 e one.1)

      grown : GrowsBySecond v.set c second
      grown = second_grown v.set c second (sound.runs runs).on may_tick (λ i alive.
          let h = living_home v sound runs i alive in
          let one = now_at i h.0 h.1 in
          (one.1.makes h.2 (setup_in v.set c i) (own_of v.set c i) (home_agrees v sound runs i h.0 h.1 h.2)).legal.0)

      unshut : (a b : Bool) → a ≡ (a || (b && false))
      unshut true b = refl
      unshut false true = refl
      unshut false false = refl

      home_now : (k : ℕ) (h one : Home) → slice_get v.homes k ≡ Some h → HasPassedTo second h one → (b : Bool) → h.gone ≡ b → IsHome v.set (c ++ made) k one
      home_now k h one e p true gone =
          let was = known v sound runs k (subst (λ n. k < n) (sound.runs runs).homes.all (slice_get_within v.homes k h e)) in
          let old = (sound.runs runs).homes.each k h e in
          let setup_so : setup_in v.set (c ++ made) k ≡ setup_in v.set c k =
          ap (λ b. option_map_or (child_setup v.set) b (record v.set { work = work_for v.set.work None v.set.size })) (grown.so.births k) in
          let stays = stays_home v.set c made grown.so k was h (λ alive. absurd (true≢false (sym gone ∙ old.gone ∙ alive))) setup_so old in
          record {
            origin = p.origin ∙ stays.origin;
            gone = p.gone ∙ stays.gone;
            work = p.work ∙ stays.work;
            ready = p.ready;
            lives = λ living. absurd (true≢false (sym gone ∙ sym p.gone ∙ living));
          }
      home_now k h one e p false living =
          let was = known v sound runs k (subst (λ n. k < n) (sound.runs runs).homes.all (slice_get_within v.homes k h e)) in
          let old = (sound.runs runs).homes.each k h e in
          let grows = grown.each k (home_lives v sound runs k h e living) in
          let follows = p.makes living (setup_in v.set c k) (own_of v.set c k) (home_agrees v sound runs k h e living) in
          grown_home v.set c made grown.so k was h one made grows old living p.origin (p.gone ∙ living) p.work p.ready
          (p.shuts ∙ (old.lives living).shuts ∙ unshut (living_in v.set c k).shuts (is_some (birth_of c k)) ∙ sym grows.shuts)
          follows.agrees

      homes_now : AreHomes v.set (c ++ made) new
      homes_now = homes_told v.set c made v.homes (sound.runs runs).homes (known v sound runs) grown.so new passed.all
          (λ k h one e f. home_now k h one e (passed.each k h one e f) h.gone refl)

      places_now : ArePlaces v.set (c ++ made) v.places
      places_now = places_stay v.set c made grown.so.numbered grown.so.births v.places (sound.runs runs).places (λ actor. all_silent actor made (record { issues = refl; replies = λ k. refl }, tt))

      module _ (d : List Entry) (steps : List Step) (ends : List ℕ) (ed : d ≡ c ++ made) (es : steps ≡ v.steps ++ step.Tick ∷ []) (ee : ends ≡ v.ends ++ length d ∷ []) where
        pub tick_sound : IsSound (stepped v d steps ends new v.places)
        tick_sound = step_sound v step.Tick made (record { second = second; split = refl }) d steps ends new v.places ed es ee sound runs (grown.legal, tt)
            (valid_so v.set c made grown.so sound.valid) (record { on = grown.on; homes = homes_now; places = places_now })

        pub tick_advances : Advances v step.Tick (stepped v d steps ends new v.places)
        tick_advances = step_advances v step.Tick made (record { second = second; split = refl }) d steps ends new v.places ed es ee (λ told. (told tt, tt))
