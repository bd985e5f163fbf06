-- Where the first step that can be made issues a command or lets time go on, the run has come to
-- rest.
use Rattle.std.proofs.Common.{◌≡◌, ◌∙◌, inl, inr, ℕ, ◌+◌, ◌<◌, ◌==◌, List, [], ◌∷◌, ◌++◌, Bool, true, false, not, ◌&&◌, ◌||◌, length, map, Option, refl, sym, ap, ap₂, subst, true≢false, arith}
use Rattle.std.specs.Prelude.{Ok, Some, None, Contains, IsTrue, flat_map, is_some, slice_get, option_map, if◌then◌else◌}
use Rattle.std.specs.List.{cons_option, enumerate_from, range_with_len}
use Rattle.std.specs.Option.{option_map_or}
use Rattle.std.proofs.lemmas.Bool.{and_parts, eq-eqb}
use Rattle.std.proofs.lemmas.Option.{slice_get_within}
use Rattle.instance.specs.kvs_txn.declared.txn.By.{By}
use Rattle.instance.specs.answers.Chronicle.{IsOpenCommand}
use Rattle.instance.specs.answers.declared.steps.Step.{Step}
use Rattle.instance.specs.answers.declared.steps.Step.TheVariants as step
use Rattle.hierarchy.specs.Births.{Birth, birth_of, has_lost_home, is_born, is_gone, lives}
use Rattle.hierarchy.specs.Families.{family_of, living_in}
use Rattle.hierarchy.specs.Legal.{HasRunRest}
use Rattle.hierarchy.specs.Own.{own_of, setup_in}
use Rattle.hierarchy.proofs.Homes.{in_family_only}
use Rattle.hierarchy.proofs.Numbering.{born_exactly}
use Rattle.hierarchy.proofs.Resting.{all_rest}
use Rattle.instance.specs.Family.{OfOwn, bearing, is_due, is_end_due, may_end}
use Rattle.instance.specs.Order.{answers, feeds}
use Rattle.instance.specs.Seats.{has_come, is_fed_next, last_command}
use Rattle.instance.specs.Steps.{IsAtRest, IsStart, can_answer, can_feed, can_post}
use Rattle.instance.specs.Value.{InstanceValue}
use Rattle.instance.specs.declared.seats.Seat.{Seat}
use Rattle.instance.specs.instance_rules.Family.{IsEndOf, Living, OfLiving}
use Rattle.instance.specs.job_manager.Posts.{is_posted_for}
use Rattle.instance.proofs.job_rules_proofs.Among.{Among, among_append, among_from, among_kept, among_left, among_map, among_right}
use Rattle.instance.specs.kvs_keys.Walk.{nth}
use Rattle.instance.specs.manager_rules.Times.{IsEndDue}
use Rattle.instance.specs.services.Order.{possible, possible_losses}
use Rattle.homes.specs.Homes.{ListTurns}
use Rattle.world.specs.Looks.{has_look}
use Rattle.world.specs.Order.{by_instances, kinds, left_in, only_if, steps_at, steps_in, steps_left, steps_of, waits_in}
use Rattle.world.specs.Sound.{IsSound}
use Rattle.homes.specs.Times.{may_go}
use Rattle.homes.specs.Tells.{EachLiving, TellsEndIn, TellsRest}
use Rattle.world.specs.Value.{WorldValue}
use Rattle.homes.specs.declared.homes.Home.{Home}
use Rattle.homes.specs.declared.homes.Origin.{Origin}
use Rattle.homes.specs.declared.homes.Place.{Place}
use Rattle.world.specs.declared.run.drawing.Kind.{Kind}
use Rattle.world.specs.declared.run.drawing.Kind.TheVariants as kind
use Rattle.homes.proofs.Members.{in_enumerated, in_range}
use Rattle.world.proofs.Answered.{still_waits}
use Rattle.world.proofs.Lookers.{no_looks}
use Rattle.world.proofs.Ordering.{says_some}
use Rattle.world.proofs.Running.{home_agrees}
use Rattle.homes.proofs.Standing.{item_at}

-- ---- lists

append_none : {X : Type 0} (xs ys : List X) → xs ++ ys ≡ [] → (xs ≡ []) × (ys ≡ [])
append_none [] ys e = (refl, e)
append_none (x ∷ xs) ys e = cc

map_none : {X Y : Type 0} (f : X → Y) (xs : List X) → map f xs ≡ [] → xs ≡ []
map_none f [] e = refl
map_none f (x ∷ xs) e = cc

flat_none : {X Y : Type 0} (f : X → List Y) (xs : List X) (x : X) → Among x xs → flat_map f xs ≡ [] → f x ≡ []
flat_none f [] x i e = absurd i
flat_none f (y ∷ ys) x i e =
    let parts = append_none (f y) (flat_map f ys) e in
    elim i [ inl same ↦ ap f (sym same) ∙ parts.0 | inr j ↦ flat_none f ys x j parts.1 ]

pub among_flat : {X Y : Type 0} (f : X → List Y) (xs : List X) (y : Y) → Among y (flat_map f xs) → (x : X) × Among x xs × Among y (f x)
among_flat f [] y i = absurd i
among_flat f (x ∷ xs) y i = elim (among_append (f x) (flat_map f xs) y i) [
  | inl j ↦ (x, inl refl, j)
  | inr j ↦ let found = among_flat f xs y j in (found.0, inr found.1, found.2)
]

pub flat_among : {X Y : Type 0} (f : X → List Y) (xs : List X) (x : X) (y : Y) → Among x xs → Among y (f x) → Among y (flat_map f xs)
flat_among f [] x y i j = absurd i
flat_among f (z ∷ xs) x y i j = elim i [
  | inl same ↦ among_left (f z) (flat_map f xs) y (subst (λ w. Among y (f w)) (sym same) j)
  | inr k ↦ among_right (f z) (flat_map f xs) y (flat_among f xs x y k j)
]

-- ---- the steps of instances issue nothing

only_plain : (can : Bool) (s t : Step) → (IsStart s → ⊥) → Among t (only_if can s) → IsStart t → ⊥
only_plain true s t plain i issue = elim i [ inl e ↦ plain (subst IsStart (sym e) issue) | inr none ↦ absurd none ]
only_plain false s t plain i issue = absurd i

born_plain : (i : ℕ) (o : Option ℕ) (t : Step) → Among t (cons_option (option_map (step.Birth i) o) []) → IsStart t → ⊥
born_plain i None t a issue = absurd a
born_plain i (Some job) t a issue = elim a [ inl e ↦ subst IsStart (sym e) issue | inr none ↦ absurd none ]

module _ (v : WorldValue) where
  in_plain : (k : Kind) (i : ℕ) (h : Home) (t : Step) → Among t (steps_in v k i h) → IsStart t → ⊥
  in_plain kind.Turn i h t a issue = (let m = among_map (step.Kvs i) (possible h.instance.services) t a in subst IsStart (sym m.2) issue)
  in_plain kind.Feed i h t a issue = (let m = among_map step.Feed (feeds h.instance) t a in subst IsStart (sym m.2) issue)
  in_plain kind.Reply i h t a issue = (let m = among_map step.Answer (answers h.instance) t a in subst IsStart (sym m.2) issue)
  in_plain kind.Post i h t a issue = only_plain (can_post h.instance) (step.Post i) t (λ bad. bad) a issue
  in_plain kind.Birth i h t a issue = born_plain i (bearing h.instance) t a issue
  in_plain kind.End i h t a issue = only_plain (may_go v.homes h) (step.End i) t (λ bad. bad) a issue
  in_plain kind.Loss i h t a issue = (let m = among_map (step.Kvs i) (possible_losses h.instance.services) t a in subst IsStart (sym m.2) issue)

  left_plain : (k : Kind) (i : ℕ) (t : Step) → Among t (steps_left v k i) → IsStart t → ⊥
  left_plain kind.Turn i t a issue = absurd a
  left_plain kind.Feed i t a issue = absurd a
  left_plain kind.Reply i t a issue = (let m = among_map step.Answer (left_in v.places i) t a in subst IsStart (sym m.2) issue)
  left_plain kind.Post i t a issue = absurd a
  left_plain kind.Birth i t a issue = absurd a
  left_plain kind.End i t a issue = absurd a
  left_plain kind.Loss i t a issue = absurd a

  at_plain : (k : Kind) (i : ℕ) (h : Home) (t : Step) (b : Bool) → Among t (if b then steps_left v k i else steps_in v k i h) → IsStart t → ⊥
  at_plain k i h t true a issue = left_plain k i t a issue
  at_plain k i h t false a issue = in_plain k i h t a issue

  all_plain : (t : Step) → Among t (by_instances v) → IsStart t → ⊥
  all_plain t a issue =
      let m = among_flat (steps_of v) kinds t a in
      let n = among_flat (steps_at v m.0) (enumerate_from 0 v.homes) t m.2 in
      at_plain m.0 n.0.0 n.0.1 t n.0.1.gone n.2 issue

  pub first_plain : (s : Step) → nth (by_instances v) 0 ≡ Ok s → IsStart s → ⊥
  first_plain s e issue = by (by_instances v) refl e
    where
      by : (steps : List Step) → by_instances v ≡ steps → nth steps 0 ≡ Ok s → ⊥
      by [] is f = cc
      by (t ∷ more) is f =
          let same : t ≡ s = cc in
          all_plain t (subst (Among t) (sym is) (inl refl)) (subst IsStart (sym same) issue)

  -- so where the first step issues a command they have none
  pub nothing_else : (rest : List Step) (s : Step) → IsStart s → nth (by_instances v ++ rest) 0 ≡ Ok s → by_instances v ≡ []
  nothing_else rest s issue e = by (by_instances v) refl
    where
      by : (steps : List Step) → by_instances v ≡ steps → by_instances v ≡ []
      by [] is = is
      by (t ∷ more) is =
          let first : nth ((t ∷ more) ++ rest) 0 ≡ Ok s = ap (λ xs. nth (xs ++ rest) 0) (sym is) ∙ e in
          let same : t ≡ s = cc in
          absurd (all_plain t (subst (Among t) (sym is) (inl refl)) (subst IsStart (sym same) issue))

  module _ (none : by_instances v ≡ []) where
    kind_none : (k : Kind) → Among k kinds → (i : ℕ) (h : Home) → slice_get v.homes i ≡ Some h → h.gone ≡ false → steps_in v k i h ≡ []
    kind_none k known i h e living =
        let zeroth : 0 + i ≡ i = omega arith in
        let here : Among (i, h) (enumerate_from 0 v.homes) = subst (λ n. Among (n, h) (enumerate_from 0 v.homes)) zeroth (among_from (enumerate_from 0 v.homes) (0 + i, h) (in_enumerated 0 v.homes i h e)) in
        sym (ap (λ b. if b then steps_left v k i else steps_in v k i h) living)
        ∙ flat_none (steps_at v k) (enumerate_from 0 v.homes) (i, h) here (flat_none (steps_of v) kinds k known none)

    -- no actor waits whose instance has gone
    none_left : (i : ℕ) (h : Home) → slice_get v.homes i ≡ Some h → h.gone ≡ true → left_in v.places i ≡ []
    none_left i h e gone =
        let zeroth : 0 + i ≡ i = omega arith in
        let here : Among (i, h) (enumerate_from 0 v.homes) = subst (λ n. Among (n, h) (enumerate_from 0 v.homes)) zeroth (among_from (enumerate_from 0 v.homes) (0 + i, h) (in_enumerated 0 v.homes i h e)) in
        map_none step.Answer (left_in v.places i)
        (sym (ap (λ b. if b then steps_left v kind.Reply i else steps_in v kind.Reply i h) gone)
        ∙ flat_none (steps_at v kind.Reply) (enumerate_from 0 v.homes) (i, h) here (flat_none (steps_of v) kinds kind.Reply (inr (inr (inl refl))) none))

    module _ (i : ℕ) (h : Home) (e : slice_get v.homes i ≡ Some h) (living : h.gone ≡ false) where
      no_turn : possible h.instance.services ≡ []
      no_turn = map_none (step.Kvs i) (possible h.instance.services) (kind_none kind.Turn (inl refl) i h e living)

      no_feed : (actor : ℕ) → can_feed h.instance actor ≡ false
      no_feed actor = by (can_feed h.instance actor) refl
        where
          by : (b : Bool) → can_feed h.instance actor ≡ b → can_feed h.instance actor ≡ false
          by false is = is
          by true is =
              let seat = says_some (λ (seat : Seat). is_fed_next h.instance.services (last_command actor seat) seat) (slice_get h.instance.seats actor) is in
              let low = slice_get_within h.instance.seats actor seat.0 seat.1 in
              let there = among_kept (can_feed h.instance) (range_with_len 0 (length h.instance.seats)) actor
              (among_from (range_with_len 0 (length h.instance.seats)) actor (in_range 0 (length h.instance.seats) actor (omega arith) (omega (arith, low)))) is in
              absurd (subst (Among actor) (map_none step.Feed (feeds h.instance) (kind_none kind.Feed (inr (inl refl)) i h e living)) there)

      no_answer : (actor : ℕ) → can_answer h.instance actor ≡ false
      no_answer actor = by (can_answer h.instance actor) refl
        where
          by : (b : Bool) → can_answer h.instance actor ≡ b → can_answer h.instance actor ≡ false
          by false is = is
          by true is =
              let seat = says_some (λ (seat : Seat). has_come h.instance.services (last_command actor seat) seat.waiting) (slice_get h.instance.seats actor) is in
              let low = slice_get_within h.instance.seats actor seat.0 seat.1 in
              let there = among_kept (can_answer h.instance) (range_with_len 0 (length h.instance.seats)) actor
              (among_from (range_with_len 0 (length h.instance.seats)) actor (in_range 0 (length h.instance.seats) actor (omega arith) (omega (arith, low)))) is in
              absurd (subst (Among actor) (map_none step.Answer (answers h.instance) (kind_none kind.Reply (inr (inr (inl refl))) i h e living)) there)

      no_post : can_post h.instance ≡ false
      no_post = by (can_post h.instance) (kind_none kind.Post (inr (inr (inr (inl refl)))) i h e living)
        where
          by : (b : Bool) → only_if b (step.Post i) ≡ [] → b ≡ false
          by false is = refl
          by true is = cc

      no_birth : bearing h.instance ≡ None
      no_birth = by (bearing h.instance) (kind_none kind.Birth (inr (inr (inr (inr (inl refl))))) i h e living)
        where
          by : (o : Option ℕ) → cons_option (option_map (step.Birth i) o) [] ≡ [] → o ≡ None
          by None is = refl
          by (Some job) is = cc

      pub no_going : may_go v.homes h ≡ false
      no_going = by (may_go v.homes h) (kind_none kind.End (inr (inr (inr (inr (inr (inl refl)))))) i h e living)
        where
          by : (b : Bool) → only_if b (step.End i) ≡ [] → b ≡ false
          by false is = refl
          by true is = cc

-- ---- ends that are due

unposted : (job : ℕ) (v : InstanceValue) → is_due v ≡ false → is_posted_for job v.services.jobs.manager.posted ≡ false
unposted job v free = by v.services.jobs.manager.posted (is_some v.services.jobs.found) (is_some v.services.jobs.bearing) free
  where
    by : (o : Option _) (found bearing : Bool) → ((is_some o || found) || bearing) ≡ false → is_posted_for job o ≡ false
    by None found bearing e = refl
    by (Some post) found bearing e = absurd (true≢false e)

may_so : (v : InstanceValue) (job : ℕ) (shut : Bool) → is_due v ≡ false → is_end_due v job shut ≡ true → may_end v job shut ≡ true
may_so v job shut free due = ap₂ (λ posted end. not posted && end) (unposted job v free) due

origin_from : (o : Option Birth) (parent job : ℕ) → (let from : Option (ℕ × ℕ) = Some (parent, job) in option_map (λ b. (b.parent, b.job)) o ≡ from)
    → (label : List ℕ) × (let origin : Option Origin = Some (record { parent = parent; job = job; label = label }) in option_map (λ b. record { parent = b.parent; job = b.job; label = b.label }) o ≡ origin)
origin_from None parent job e = cc
origin_from (Some b) parent job e =
    let both : (b.parent, b.job) ≡ (parent, job) = cc in
    (b.label, ap (λ (q : ℕ × ℕ). Some (record { parent = q.0; job = q.1; label = b.label })) both)

not_so : (b : Bool) → not b ≡ true → b ≡ false
not_so true e = cc
not_so false e = refl

module _ (v : WorldValue) (sound : IsSound v) (runs : v.closed ≡ false) where
  -- the instance of a number that lives
  pub living_home : (i : ℕ) → lives v.chronicle i ≡ true → (h : Home) × (slice_get v.homes i ≡ Some h) × (h.gone ≡ false)
  living_home i alive =
      let homes = (sound.runs runs).homes in
      let parts = and_parts (is_born v.chronicle i) (not (is_gone v.chronicle i)) alive in
      let low = (born_exactly v.set v.chronicle i sound.legal).0 parts.0 in
      let h = item_at v.homes i (subst (λ n. i < n) (sym homes.all) low) in
      (h.0, h.1, (homes.each i h.0 h.1).gone ∙ not_so (is_gone v.chronicle i) parts.1)

  -- no end is due where nothing else is and no child may go
  pub no_end : EachLiving (λ h. is_due h.instance ≡ false) v.homes → EachLiving (λ h. may_go v.homes h ≡ false) v.homes → EachLiving (TellsEndIn v.homes) v.homes
      → (l : Living) → Contains (family_of v.set v.chronicle) l → IsEndOf (family_of v.set v.chronicle) l → ⊥
  no_end free stays goes l here end =
      let set = v.set in
      let c = v.chronicle in
      let mine = in_family_only set c l here in
      let theirs = in_family_only set c end.parent end.lives in
      let k = l.number in
      let p = end.parent.number in
      let x = living_home k mine.0 in
      let y = living_home p theirs.0 in
      let is = (sound.runs runs).homes.each k x.0 x.1 in
      let origin = origin_from (birth_of c k) p end.job (sym (ap (λ m. m.from) mine.1) ∙ end.from) in
      let o : Origin = record { parent = p; job = end.job; label = origin.0 } in
      let eo : x.0.origin ≡ Some o = is.origin ∙ origin.1 in
      let told = (goes k x.0 x.1 x.2).due o y.0 eo y.1 (setup_in set c p) (own_of set c p) (home_agrees v sound runs p y.0 y.1 y.2) in
      let shuts : l.shuts ≡ x.0.shuts = ap (λ m. m.shuts) mine.1 ∙ sym (is.lives x.2).shuts in
      let due : OfLiving (living_in set c p) (λ desk. IsEndDue desk.scene (IsTrue l.shuts) end.job) = subst (λ m. OfLiving m (λ desk. IsEndDue desk.scene (IsTrue l.shuts) end.job)) theirs.1 end.due in
      let own : OfOwn (setup_in set c p) (own_of set c p) (λ desk. IsEndDue desk.scene (IsTrue x.0.shuts) end.job) =
      subst (λ b. OfOwn (setup_in set c p) (own_of set c p) (λ desk. IsEndDue desk.scene (IsTrue b) end.job)) shuts due in
      let may : may_end y.0.instance end.job x.0.shuts ≡ true = may_so y.0.instance end.job x.0.shuts (free p y.0 y.1 y.2) (told.1 own) in
      let may_now : may_go v.homes x.0 ≡ true =
      ap (λ q. option_map_or (λ (o : Origin). option_map_or (λ (parent : Home). not x.0.gone && may_end parent.instance o.job x.0.shuts) (slice_get v.homes o.parent) false) q false) eo
      ∙ ap (λ q. option_map_or (λ (parent : Home). not x.0.gone && may_end parent.instance end.job x.0.shuts) q false) y.1
      ∙ ap (λ b. not b && may_end y.0.instance end.job x.0.shuts) x.2
      ∙ may in
      true≢false (sym may_now ∙ stays k x.0 x.1 x.2)

  -- where no instance can make a step, each that lives is at rest
  pub each_rests : ListTurns v.homes → EachLiving TellsRest v.homes → by_instances v ≡ [] → has_look v ≡ false → EachLiving (λ h. IsAtRest h.instance) v.homes
  each_rests listed rest none quiet i h e living = record {
    steps = listed i h e (no_turn v none i h e living);
    feeds = no_feed v none i h e living;
    answers = no_answer v none i h e living;
    looks = no_looks v sound runs quiet i h e living;
    due = (rest i h e living).free (setup_in v.set v.chronicle i) (own_of v.set v.chronicle i) (home_agrees v sound runs i h e living)
        (listed i h e (no_turn v none i h e living)) (no_answer v none i h e living) (no_post v none i h e living) (no_birth v none i h e living);
  }

  -- the run has come to rest where no instance can make a step
  pub rested : ListTurns v.homes → EachLiving TellsRest v.homes → EachLiving (TellsEndIn v.homes) v.homes → by_instances v ≡ [] → has_look v ≡ false → HasRunRest v.set v.chronicle
  rested listed rest goes none quiet = all_rest v.set v.chronicle (sound.runs runs).on
      (λ i alive. let h = living_home i alive in (rest i h.0 h.1 h.2).rests (setup_in v.set v.chronicle i) (own_of v.set v.chronicle i) (home_agrees v sound runs i h.0 h.1 h.2) (each_rests listed rest none quiet i h.0 h.1 h.2))
      answered
      (no_end free (no_going v none) goes)
    where
      free : EachLiving (λ h. is_due h.instance ≡ false) v.homes
      free i h e living = (rest i h e living).free (setup_in v.set v.chronicle i) (own_of v.set v.chronicle i) (home_agrees v sound runs i h e living)
          (listed i h e (no_turn v none i h e living)) (no_answer v none i h e living) (no_post v none i h e living) (no_birth v none i h e living)

      answered : (by : By) → has_lost_home v.set.work.actors v.chronicle by.actor ≡ true → IsOpenCommand by v.chronicle → ⊥
      answered by lost waiting =
          let w = still_waits v sound runs by lost waiting in
          let low = slice_get_within v.places by.actor w.p w.standing in
          let waits : waits_in v.places w.i by.actor ≡ true =
          ap (λ o. option_map_or (λ (p : Place). p.waits && option_map_or (λ home. home == w.i) p.home false) o false) w.standing
          ∙ ap₂ (λ b o. b && option_map_or (λ home. home == w.i) o false) w.waits w.home
          ∙ eq-eqb w.i w.i refl in
          let there = among_kept (waits_in v.places w.i) (range_with_len 0 (length v.places)) by.actor
          (among_from (range_with_len 0 (length v.places)) by.actor (in_range 0 (length v.places) by.actor (omega arith) (omega (arith, low)))) waits in
          absurd (subst (Among by.actor) (none_left v none w.i w.h w.here w.gone) there)
