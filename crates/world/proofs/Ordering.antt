-- The steps that are listed before the end are exactly those that can be made.
use Rattle.std.proofs.Common.{◌≡◌, ◌∙◌, ℕ, ◌+◌, ◌<◌, ◌==◌, inl, inr, List, [], ◌∷◌, ◌++◌, map, Bool, true, false, ◌&&◌, Option, Some, None, length, is_err, refl, sym, ap, subst, true≢false, arith}
use Rattle.std.specs.Prelude.{Result, not, is_some, nat_lt, option_and_then, option_map, slice_get, slice_index_or, unwrap_or, Contains, if◌then◌else◌}
use Rattle.std.specs.List.{cons_option, enumerate_from, range_with_len}
use Rattle.std.specs.Option.{option_map_or}
use Rattle.std.proofs.lemmas.Bool.{eq-eqb, eqb-true, ltb-true, or_left}
use Rattle.std.proofs.lemmas.Option.{slice_get_within, unwrap_or-slice_get}
use Rattle.std.proofs.lemmas.List.Elements.{Contains-append_left, Contains-append_right, Contains-append_cases}
use Rattle.instance.specs.kvs_keys.Order.{all_steps, losses}
use Rattle.instance.specs.kvs_keys.Steps.{can_step as keys_can_step}
use Rattle.instance.specs.kvs_keys.Walk.{nth}
use Rattle.instance.specs.kvs_rules.declared.events.KvsStep.{KvsStep}
use Rattle.instance.specs.services.Order.{possible as turns, possible_losses}
use Rattle.instance.specs.services.job_service.kvs_space.declared.links.Loss.TheVariants as loss
use Rattle.instance.specs.services.Steps.{can_step}
use Rattle.instance.specs.workload.declared.work.Line.{Line}
use Rattle.instance.specs.answers.declared.steps.Step.{Step}
use Rattle.instance.specs.answers.declared.steps.Step.TheVariants as step
use Rattle.instance.specs.Family.{bearing, may_end}
use Rattle.instance.specs.Order.{answers, feeds}
use Rattle.instance.specs.Seats.{has_come, is_at_jobs, is_fed_next, is_free, last_command}
use Rattle.instance.specs.Steps.{can_answer as instance_can_answer, can_feed as instance_can_feed, can_post}
use Rattle.instance.specs.Value.{InstanceValue}
use Rattle.instance.specs.declared.seats.Seat.{Seat}
use Rattle.instance.specs.declared.seats.Waiting.{Waiting}
use Rattle.instance.specs.declared.seats.Waiting.TheVariants as waiting
use Rattle.instance.specs.kvs_txn.declared.txn.By.{By}
use Rattle.instance.specs.services.Value.{ServicesValue}
use Rattle.homes.specs.Homes.{ListTurns, if_living, living_at}
use Rattle.world.specs.Looks.{has_look}
use Rattle.world.specs.Order.{before_end, is_next, issue_at, issues, left_in, only_if, steps_at, steps_in, steps_left, steps_of, waits_in}
use Rattle.homes.specs.Times.{at_home, may_go}
use Rattle.world.specs.Steps.{IsOver, can_answer, can_feed, can_issue, can_make, can_tick, is_job, of_home}
use Rattle.world.specs.Value.{WorldValue}
use Rattle.homes.specs.declared.homes.Home.{Home}
use Rattle.homes.specs.declared.homes.Origin.{Origin}
use Rattle.homes.specs.declared.homes.Place.{Place}
use Rattle.world.specs.declared.run.drawing.Kind.{Kind}
use Rattle.world.specs.declared.run.drawing.Kind.TheVariants as kind
use Rattle.homes.proofs.Members.{first, split, from_filter, from_filter_map, from_flat_map, from_map, from_enumerated, in_enumerated, in_filter, in_filter_map, in_flat_map, in_map, in_range, item_at, nobody, some}

-- ---- tests

-- whatever says so of an option that isn't there says no
pub says_some : {X : Type 0} (says : X → Bool) (o : Option X) → option_map_or says o false ≡ true → (x : X) × (o ≡ Some x) × (says x ≡ true)
says_some says None h = cc
says_some says (Some x) h = (x, refl, h)

pub both : (a b : Bool) → (a && b) ≡ true → (a ≡ true) × (b ≡ true)
both true true h = (refl, refl)
both true false h = cc
both false b h = cc

-- a living instance is one that was born and hasn't gone
pub living_is : (o : Option Home) (h : Home) → option_and_then if_living o ≡ Some h → (o ≡ Some h) × (h.gone ≡ false)
living_is None h e = cc
living_is (Some x) h e = by x.gone refl e
  where
    by : (b : Bool) → x.gone ≡ b → (if b then None else Some x) ≡ Some h → (Some x ≡ Some h) × (h.gone ≡ false)
    by true is f = cc
    by false is f = (f, let same : x ≡ h = cc in ap (λ (y : Home). y.gone) (sym same) ∙ is)

pub living_so : (homes : List Home) (i : ℕ) (h : Home) → slice_get homes i ≡ Some h → h.gone ≡ false → living_at homes i ≡ Some h
living_so homes i h e alive = ap (option_and_then if_living) e ∙ ap (λ b. if b then None else Some h) alive

-- a living child may go by what its parent says
pub go_at : (homes : List Home) (h : Home) (o : Origin) (parent : Home) → h.origin ≡ Some o → slice_get homes o.parent ≡ Some parent → h.gone ≡ false
    → may_go homes h ≡ may_end parent.instance o.job h.shuts
go_at homes h o parent origin here alive =
    ap (λ x. option_map_or (λ o. option_map_or (λ parent. not h.gone && may_end parent.instance o.job h.shuts) (slice_get homes o.parent) false) x false) origin
    ∙ ap (λ x. option_map_or (λ parent. not h.gone && may_end parent.instance o.job h.shuts) x false) here
    ∙ ap (λ b. not b && may_end parent.instance o.job h.shuts) alive

-- ---- what is asked of the lists

-- whether the actor waits for something in its instance
abbrev pub is_busy : InstanceValue → ℕ → Bool
is_busy v actor = option_map_or (λ seat. not (is_free seat.waiting)) (slice_get v.seats actor) false

come_busy : (services : ServicesValue) (by : By) (w : Waiting) → has_come services by w ≡ true → not (is_free w) ≡ true
come_busy services by waiting.Nothing e = cc
come_busy services by _ e = refl

jobs_busy : (w : Waiting) → is_at_jobs w ≡ true → not (is_free w) ≡ true
jobs_busy waiting.Nothing e = cc
jobs_busy _ e = refl

-- one that can be replied to does, and one that can be fed
pub answered_busy : (v : InstanceValue) (actor : ℕ) → instance_can_answer v actor ≡ true → is_busy v actor ≡ true
answered_busy v actor can =
    let seat = says_some (λ (seat : Seat). has_come v.services (last_command actor seat) seat.waiting) (slice_get v.seats actor) can in
    ap (λ o. option_map_or (λ (s : Seat). not (is_free s.waiting)) o false) seat.1 ∙ come_busy v.services (last_command actor seat.0) seat.0.waiting seat.2

pub fed_busy : (v : InstanceValue) (actor : ℕ) → instance_can_feed v actor ≡ true → is_busy v actor ≡ true
fed_busy v actor can =
    let seat = says_some (λ (seat : Seat). is_fed_next v.services (last_command actor seat) seat) (slice_get v.seats actor) can in
    ap (λ o. option_map_or (λ (s : Seat). not (is_free s.waiting)) o false) seat.1 ∙ jobs_busy seat.0.waiting (both (is_at_jobs seat.0.waiting) _ seat.2).0

-- an actor that waits in an instance has its place there
abbrev pub AreSeated : WorldValue → Type 0
AreSeated v = (i actor : ℕ) (h : Home) → slice_get v.homes i ≡ Some h → h.gone ≡ false → is_busy h.instance actor ≡ true
    → (p : Place) × (slice_get v.places actor ≡ Some p) × (p.home ≡ Some i)

-- the next line of each actor is one of its own
abbrev pub AreOwnLines : WorldValue → Type 0
AreOwnLines v = (actor : ℕ) (p : Place) → slice_get v.places actor ≡ Some p → p.next < length v.set.work.lines
    → (d : Line) → (slice_index_or v.set.work.lines p.next d).actor ≡ actor

-- not a kind of losses, which stand behind all other steps
abbrev pub IsBefore : Kind → Type 0
IsBefore kind.Loss = ⊥
IsBefore _ = Unit {0}

-- not a step of an instance's services
abbrev pub IsNoTurn : Step → Type 0
IsNoTurn (step.Kvs instance s) = ⊥
IsNoTurn _ = Unit {0}

module _ (v : WorldValue) where
  -- ---- where a step stands in the list

  abbrev pub issued : List Step
  issued = map step.Issue (issues v)

  abbrev pub timed : List Step
  timed = only_if (can_tick v) step.Tick ++ issued

  abbrev ended : List Step
  ended = steps_of v kind.End ++ timed

  abbrev born : List Step
  born = steps_of v kind.Birth ++ ended

  abbrev posted : List Step
  posted = steps_of v kind.Post ++ born

  abbrev replied : List Step
  replied = steps_of v kind.Reply ++ posted

  abbrev fed : List Step
  fed = steps_of v kind.Feed ++ replied

  -- what comes behind the steps of the services
  in_fed : (s : Step) → Contains fed s → Contains (before_end v) s
  in_fed s c = Contains-append_right (steps_of v kind.Turn) fed s c

  in_replied : (s : Step) → Contains replied s → Contains (before_end v) s
  in_replied s c = in_fed s (Contains-append_right (steps_of v kind.Feed) replied s c)

  in_kind : (k : Kind) → IsBefore k → (s : Step) → Contains (steps_of v k) s → Contains (before_end v) s
  in_kind kind.Turn b s c = Contains-append_left (steps_of v kind.Turn) fed s c
  in_kind kind.Feed b s c = in_fed s (Contains-append_left (steps_of v kind.Feed) replied s c)
  in_kind kind.Reply b s c = in_replied s (Contains-append_left (steps_of v kind.Reply) posted s c)
  in_kind kind.Post b s c = in_replied s (Contains-append_right (steps_of v kind.Reply) posted s
      (Contains-append_left (steps_of v kind.Post) born s c))
  in_kind kind.Birth b s c = in_replied s (Contains-append_right (steps_of v kind.Reply) posted s
      (Contains-append_right (steps_of v kind.Post) born s (Contains-append_left (steps_of v kind.Birth) ended s c)))
  in_kind kind.End b s c = in_replied s (Contains-append_right (steps_of v kind.Reply) posted s
      (Contains-append_right (steps_of v kind.Post) born s (Contains-append_right (steps_of v kind.Birth) ended s
      (Contains-append_left (steps_of v kind.End) timed s c))))
  in_kind kind.Loss b s c = absurd b

  in_timed : (s : Step) → Contains timed s → Contains (before_end v) s
  in_timed s c = in_replied s (Contains-append_right (steps_of v kind.Reply) posted s
      (Contains-append_right (steps_of v kind.Post) born s (Contains-append_right (steps_of v kind.Birth) ended s
      (Contains-append_right (steps_of v kind.End) timed s c))))

  -- a step of an instance, as one of its kind
  in_steps : (k : Kind) → IsBefore k → (i : ℕ) (h : Home) (s : Step) → slice_get v.homes i ≡ Some h → Contains (steps_at v k (i, h)) s → Contains (before_end v) s
  in_steps k b i h s here c = in_kind k b s (in_flat_map (steps_at v k) (enumerate_from 0 v.homes) (i, h) s
      (subst (λ n. Contains (enumerate_from 0 v.homes) (n, h)) (let same : 0 + i ≡ i = omega arith in same) (in_enumerated 0 v.homes i h here)) c)

  in_living : (k : Kind) → IsBefore k → (i : ℕ) (h : Home) (s : Step) → slice_get v.homes i ≡ Some h → h.gone ≡ false → Contains (steps_in v k i h) s → Contains (before_end v) s
  in_living k b i h s here alive c = in_steps k b i h s here (subst (λ b. Contains (if b then steps_left v k i else steps_in v k i h) s) (sym alive) c)

  in_only : (can : Bool) (s : Step) → can ≡ true → Contains (only_if can s) s
  in_only can s is = subst (λ b. Contains (only_if b s) s) (sym is) (first s [])

  pub from_only : (can : Bool) (s t : Step) → Contains (only_if can s) t → (can ≡ true) × (s ≡ t)
  from_only true s t c = (refl, elim (split s [] t c) [ inl e ↦ e | inr d ↦ absurd (nobody t d) ])
  from_only false s t c = absurd (nobody t c)

  pub from_steps : (k : Kind) (s : Step) → Contains (steps_of v k) s → (i : ℕ) × (h : Home) × (slice_get v.homes i ≡ Some h) × Contains (steps_at v k (i, h)) s
  from_steps k s c =
      let m = from_flat_map (steps_at v k) (enumerate_from 0 v.homes) s c in
      let at = from_enumerated 0 v.homes m.0 m.1 in
      let same : at.0 ≡ m.0.0 = omega (arith, at.1) in
      (m.0.0, m.0.1, subst (λ n. slice_get v.homes n ≡ Some m.0.1) same at.2, m.2)

  -- what holds of the steps of each kind but losses, of the tick and of issues holds of all that are
  -- listed
  pub each_listed : (P : Step → Type 0) → ((k : Kind) → IsBefore k → (s : Step) → Contains (steps_of v k) s → P s) → ((s : Step) → Contains timed s → P s)
      → (s : Step) → Contains (before_end v) s → P s
  each_listed P of_kind of_timed s c = elim (Contains-append_cases (steps_of v kind.Turn) fed s c) [
    | inl d ↦ of_kind kind.Turn tt s d
    | inr c ↦ elim (Contains-append_cases (steps_of v kind.Feed) replied s c) [
      | inl d ↦ of_kind kind.Feed tt s d
      | inr c ↦ elim (Contains-append_cases (steps_of v kind.Reply) posted s c) [
        | inl d ↦ of_kind kind.Reply tt s d
        | inr c ↦ elim (Contains-append_cases (steps_of v kind.Post) born s c) [
          | inl d ↦ of_kind kind.Post tt s d
          | inr c ↦ elim (Contains-append_cases (steps_of v kind.Birth) ended s c) [
            | inl d ↦ of_kind kind.Birth tt s d
            | inr c ↦ elim (Contains-append_cases (steps_of v kind.End) timed s c) [
              | inl d ↦ of_kind kind.End tt s d
              | inr d ↦ of_timed s d
            ]
          ]
        ]
      ]
    ]
  ]

  -- ---- what is said of an instance

  of_is : (i : ℕ) (h : Home) (says : Home → Bool) → slice_get v.homes i ≡ Some h → h.gone ≡ false → says h ≡ true → of_home v i says ≡ true
  of_is i h says here alive is = ap (λ o. option_map_or says o false) (living_so v.homes i h here alive) ∙ is

  is_of : (i : ℕ) (says : Home → Bool) → of_home v i says ≡ true → (h : Home) × (slice_get v.homes i ≡ Some h) × (h.gone ≡ false) × (says h ≡ true)
  is_of i says e =
      let m = says_some says (living_at v.homes i) e in
      let l = living_is (slice_get v.homes i) m.0 m.1 in
      (m.0, l.0, l.1, m.2)

  -- what is said where an actor stands
  pub answer_at : (actor i : ℕ) (p : Place) (h : Home) → slice_get v.places actor ≡ Some p → p.home ≡ Some i → slice_get v.homes i ≡ Some h
      → can_answer v actor ≡ (if h.gone then p.waits else instance_can_answer h.instance actor)
  answer_at actor i p h place home here =
      ap (λ o. option_map_or (λ p. at_home v.homes (λ h. if h.gone then p.waits else instance_can_answer h.instance actor) p) o false) place
      ∙ ap (λ o. option_map_or (λ i. option_map_or (λ h. if h.gone then p.waits else instance_can_answer h.instance actor) (slice_get v.homes i) false) o false) home
      ∙ ap (λ o. option_map_or (λ h. if h.gone then p.waits else instance_can_answer h.instance actor) o false) here

  pub feed_at : (actor i : ℕ) (p : Place) (h : Home) → slice_get v.places actor ≡ Some p → p.home ≡ Some i → slice_get v.homes i ≡ Some h
      → can_feed v actor ≡ (not h.gone && instance_can_feed h.instance actor)
  feed_at actor i p h place home here =
      ap (λ o. option_map_or (λ p. at_home v.homes (λ h. not h.gone && instance_can_feed h.instance actor) p) o false) place
      ∙ ap (λ o. option_map_or (λ i. option_map_or (λ h. not h.gone && instance_can_feed h.instance actor) (slice_get v.homes i) false) o false) home
      ∙ ap (λ o. option_map_or (λ h. not h.gone && instance_can_feed h.instance actor) o false) here

  -- ---- what is listed can be made

  module _ (seated : AreSeated v) where
    module _ (i : ℕ) (h : Home) (here : slice_get v.homes i ≡ Some h) (s : Step) where
      told : h.gone ≡ true → (actor : ℕ) → waits_in v.places i actor ≡ true → can_answer v actor ≡ true
      told gone actor w =
          let p = says_some (λ (p : Place). p.waits && option_map_or (λ home. home == i) p.home false) (slice_get v.places actor) w in
          let parts = both p.0.waits (option_map_or (λ home. home == i) p.0.home false) p.2 in
          let at = says_some (λ home. home == i) p.0.home parts.1 in
          answer_at actor i p.0 h p.1 (at.1 ∙ ap Some (eqb-true at.0 i at.2)) here
          ∙ ap (λ b. if b then p.0.waits else instance_can_answer h.instance actor) gone ∙ parts.0

      left : h.gone ≡ true → (k : Kind) → Contains (steps_left v k i) s → can_make v s ≡ true
      left gone kind.Turn c = absurd (nobody s c)
      left gone kind.Feed c = absurd (nobody s c)
      left gone kind.Reply c =
          let m = from_map step.Answer (left_in v.places i) s c in
          let w = from_filter (waits_in v.places i) (range_with_len 0 (length v.places)) m.0 m.1 in
          subst (λ t. can_make v t ≡ true) m.2 (told gone m.0 w.1)
      left gone kind.Post c = absurd (nobody s c)
      left gone kind.Birth c = absurd (nobody s c)
      left gone kind.End c = absurd (nobody s c)
      left gone kind.Loss c = absurd (nobody s c)

      module _ (alive : h.gone ≡ false) where
        bears : (o : Option ℕ) → bearing h.instance ≡ o → Contains (cons_option (option_map (step.Birth i) o) []) s → can_make v s ≡ true
        bears None is c = absurd (nobody s c)
        bears (Some job) is c = elim (split (step.Birth i job) [] s c) [
          | inl e ↦ subst (λ t. can_make v t ≡ true) e (of_is i h (λ h. is_job job (bearing h.instance)) here alive (ap (is_job job) is ∙ eq-eqb job job refl))
          | inr d ↦ absurd (nobody s d)
        ]

        lived : (k : Kind) → Contains (steps_in v k i h) s → can_make v s ≡ true
        lived kind.Turn c =
            let m = from_map (step.Kvs i) (turns h.instance.services) s c in
            let w = from_filter (can_step h.instance.services) (all_steps h.instance.services.size (length h.instance.services.jobs.manager.core.keys.spaces)) m.0 m.1 in
            subst (λ t. can_make v t ≡ true) m.2 (of_is i h (λ h. can_step h.instance.services m.0) here alive w.1)
        lived kind.Feed c =
            let m = from_map step.Feed (feeds h.instance) s c in
            let w = from_filter (instance_can_feed h.instance) (range_with_len 0 (length h.instance.seats)) m.0 m.1 in
            let p = seated i m.0 h here alive (fed_busy h.instance m.0 w.1) in
            subst (λ t. can_make v t ≡ true) m.2
            (feed_at m.0 i p.0 h p.1 p.2 here ∙ ap (λ b. not b && instance_can_feed h.instance m.0) alive ∙ w.1)
        lived kind.Reply c =
            let m = from_map step.Answer (answers h.instance) s c in
            let w = from_filter (instance_can_answer h.instance) (range_with_len 0 (length h.instance.seats)) m.0 m.1 in
            let p = seated i m.0 h here alive (answered_busy h.instance m.0 w.1) in
            subst (λ t. can_make v t ≡ true) m.2
            (answer_at m.0 i p.0 h p.1 p.2 here ∙ ap (λ b. if b then p.0.waits else instance_can_answer h.instance m.0) alive ∙ w.1)
        lived kind.Post c =
            let m = from_only (can_post h.instance) (step.Post i) s c in
            subst (λ t. can_make v t ≡ true) m.1 (of_is i h (λ h. can_post h.instance) here alive m.0)
        lived kind.Birth c = bears (bearing h.instance) refl c
        lived kind.End c =
            let m = from_only (may_go v.homes h) (step.End i) s c in
            subst (λ t. can_make v t ≡ true) m.1 (of_is i h (may_go v.homes) here alive m.0)
        lived kind.Loss c =
            let m = from_map (step.Kvs i) (possible_losses h.instance.services) s c in
            let keys = h.instance.services.jobs.manager.core.keys in
            let w = from_filter (keys_can_step keys) (losses keys.size loss.Lost ++ (losses keys.size loss.Repeated ++ losses keys.size loss.Swapped)) m.0 m.1 in
            let can : can_step h.instance.services m.0 ≡ true = or_left (keys_can_step keys m.0) _ w.1 in
            subst (λ t. can_make v t ≡ true) m.2 (of_is i h (λ h. can_step h.instance.services m.0) here alive can)

    made_of : (k : Kind) (s : Step) → Contains (steps_of v k) s → can_make v s ≡ true
    made_of k s c =
        let m = from_steps k s c in
        by m.0 m.1 m.2 m.1.gone refl m.3
      where
        by : (i : ℕ) (h : Home) → slice_get v.homes i ≡ Some h → (b : Bool) → h.gone ≡ b
            → Contains (if b then steps_left v k i else steps_in v k i h) s → can_make v s ≡ true
        by i h here true gone c = left i h here s gone k c
        by i h here false alive c = lived i h here s alive k c

    issue_made : (at actor : ℕ) → issue_at v at ≡ Some actor → can_issue v actor ≡ true
    issue_made at actor e = by (slice_get v.set.work.lines at) e
      where
        on : (line : Line) (b : Bool) → is_next v at line.actor ≡ b → (if b then Some line.actor else None) ≡ Some actor → can_issue v actor ≡ true
        on line true is f =
            let same : line.actor ≡ actor = cc in
            subst (λ a. can_issue v a ≡ true) same (both (can_issue v line.actor) (option_map_or (λ p. p.next == at) (slice_get v.places line.actor) false) is).0
        on line false is f = cc

        by : (o : Option Line) → option_and_then (λ (line : Line). if is_next v at line.actor then Some line.actor else None) o ≡ Some actor → can_issue v actor ≡ true
        by None f = cc
        by (Some line) f = on line (is_next v at line.actor) refl f

    pub issue_able : (actor : ℕ) → Contains (issues v) actor → can_issue v actor ≡ true
    issue_able actor c = (let w = from_filter_map (issue_at v) (range_with_len 0 (length v.set.work.lines)) actor c in issue_made w.0 actor w.2)

    made_timed : (s : Step) → Contains timed s → can_make v s ≡ true
    made_timed s c = elim (Contains-append_cases (only_if (can_tick v) step.Tick) issued s c) [
      | inl d ↦ (let m = from_only (can_tick v) step.Tick s d in subst (λ t. can_make v t ≡ true) m.1 m.0)
      | inr d ↦
          let m = from_map step.Issue (issues v) s d in
          let w = from_filter_map (issue_at v) (range_with_len 0 (length v.set.work.lines)) m.0 m.1 in
          subst (λ t. can_make v t ≡ true) m.2 (issue_made w.0 m.0 w.2)
    ]

    -- what is listed can be made
    pub possible : (s : Step) → Contains (before_end v) s → can_make v s ≡ true
    possible = each_listed (λ s. can_make v s ≡ true) (λ k before. made_of k) made_timed

    pub loss_possible : (s : Step) → Contains (steps_of v kind.Loss) s → can_make v s ≡ true
    loss_possible = made_of kind.Loss

  -- ---- what can be made is listed

  -- an actor whose instance has gone is told so
  listed_left : (actor i : ℕ) (p : Place) (h : Home) → slice_get v.places actor ≡ Some p → p.home ≡ Some i → slice_get v.homes i ≡ Some h
      → h.gone ≡ true → p.waits ≡ true → Contains (before_end v) (step.Answer actor)
  listed_left actor i p h place home here gone waits =
      let w : waits_in v.places i actor ≡ true = ap (λ o. option_map_or (λ (p : Place). p.waits && option_map_or (λ home. home == i) p.home false) o false) place
      ∙ ap (λ b. b && option_map_or (λ home. home == i) p.home false) waits
      ∙ ap (λ o. option_map_or (λ home. home == i) o false) home ∙ eq-eqb i i refl in
      let below = slice_get_within v.places actor p place in
      let c : Contains (steps_left v kind.Reply i) (step.Answer actor) = in_map step.Answer (left_in v.places i) actor
      (in_filter (waits_in v.places i) (range_with_len 0 (length v.places)) actor w (in_range 0 (length v.places) actor (omega arith) (omega (arith, below)))) in
      in_steps kind.Reply tt i h (step.Answer actor) here (subst (λ b. Contains (if b then steps_left v kind.Reply i else steps_in v kind.Reply i h) (step.Answer actor)) (sym gone) c)

  listed_answer : (actor i : ℕ) (h : Home) → slice_get v.homes i ≡ Some h → h.gone ≡ false → instance_can_answer h.instance actor ≡ true → Contains (before_end v) (step.Answer actor)
  listed_answer actor i h here alive can =
      let seat = says_some (λ (seat : Seat). has_come h.instance.services (last_command actor seat) seat.waiting) (slice_get h.instance.seats actor) can in
      let below = slice_get_within h.instance.seats actor seat.0 seat.1 in
      in_living kind.Reply tt i h (step.Answer actor) here alive (in_map step.Answer (answers h.instance) actor
      (in_filter (instance_can_answer h.instance) (range_with_len 0 (length h.instance.seats)) actor can (in_range 0 (length h.instance.seats) actor (omega arith) (omega (arith, below)))))

  listed_feed : (actor i : ℕ) (h : Home) → slice_get v.homes i ≡ Some h → h.gone ≡ false → instance_can_feed h.instance actor ≡ true → Contains (before_end v) (step.Feed actor)
  listed_feed actor i h here alive can =
      let seat = says_some (λ (seat : Seat). is_fed_next h.instance.services (last_command actor seat) seat) (slice_get h.instance.seats actor) can in
      let below = slice_get_within h.instance.seats actor seat.0 seat.1 in
      in_living kind.Feed tt i h (step.Feed actor) here alive (in_map step.Feed (feeds h.instance) actor
      (in_filter (instance_can_feed h.instance) (range_with_len 0 (length h.instance.seats)) actor can (in_range 0 (length h.instance.seats) actor (omega arith) (omega (arith, below)))))

  pub issue_listed : AreOwnLines v → (actor : ℕ) → can_issue v actor ≡ true → Contains (issues v) actor
  issue_listed own actor can =
      let p = says_some (λ (p : Place). is_some p.home && (not p.waits && nat_lt p.next (length v.set.work.lines))) (slice_get v.places actor) can in
      let below = ltb-true p.0.next (length v.set.work.lines) (both (not p.0.waits) (nat_lt p.0.next (length v.set.work.lines)) (both (is_some p.0.home) (not p.0.waits && nat_lt p.0.next (length v.set.work.lines)) p.2).1).1 in
      let line = item_at v.set.work.lines p.0.next below in
      let is : line.0.actor ≡ actor = ap (λ o. (unwrap_or o line.0).actor) (sym line.1) ∙ ap (λ (l : Line). l.actor) (unwrap_or-slice_get v.set.work.lines p.0.next line.0) ∙ own actor p.0 p.1 below line.0 in
      let next : is_next v p.0.next actor ≡ true = ap (λ b. b && option_map_or (λ (q : Place). q.next == p.0.next) (slice_get v.places actor) false) can
      ∙ ap (λ o. option_map_or (λ (q : Place). q.next == p.0.next) o false) p.1 ∙ eq-eqb p.0.next p.0.next refl in
      let at : issue_at v p.0.next ≡ Some actor = ap (option_and_then (λ (line : Line). if is_next v p.0.next line.actor then Some line.actor else None)) line.1
      ∙ ap (λ a. if is_next v p.0.next a then Some a else None) is ∙ ap (λ b. if b then Some actor else None) next in
      in_filter_map (issue_at v) (range_with_len 0 (length v.set.work.lines)) p.0.next actor (in_range 0 (length v.set.work.lines) p.0.next (omega arith) (omega (arith, below))) at

  listed_issue : AreOwnLines v → (actor : ℕ) → can_issue v actor ≡ true → Contains (before_end v) (step.Issue actor)
  listed_issue own actor can =
      in_timed (step.Issue actor) (Contains-append_right (only_if (can_tick v) step.Tick) issued (step.Issue actor) (in_map step.Issue (issues v) actor (issue_listed own actor can)))

  -- what can be made is listed, if it isn't a step of a service
  pub listed : AreOwnLines v → (s : Step) → IsNoTurn s → can_make v s ≡ true → Contains (before_end v) s
  listed own (step.Issue actor) other can = listed_issue own actor can
  listed own (step.Kvs i s) other can = absurd other
  listed own (step.Feed actor) other can =
      let p = says_some (λ (p : Place). at_home v.homes (λ h. not h.gone && instance_can_feed h.instance actor) p) (slice_get v.places actor) can in
      let i = says_some (λ i. option_map_or (λ (h : Home). not h.gone && instance_can_feed h.instance actor) (slice_get v.homes i) false) p.0.home p.2 in
      let h = says_some (λ (h : Home). not h.gone && instance_can_feed h.instance actor) (slice_get v.homes i.0) i.2 in
      by i.0 h.0 h.1 h.0.gone refl h.2
    where
      by : (i : ℕ) (h : Home) → slice_get v.homes i ≡ Some h → (b : Bool) → h.gone ≡ b → (not b && instance_can_feed h.instance actor) ≡ true → Contains (before_end v) (step.Feed actor)
      by i h here true gone is = cc
      by i h here false alive is = listed_feed actor i h here alive is
  listed own (step.Answer actor) other can =
      let p = says_some (λ (p : Place). at_home v.homes (λ h. if h.gone then p.waits else instance_can_answer h.instance actor) p) (slice_get v.places actor) can in
      let i = says_some (λ i. option_map_or (λ (h : Home). if h.gone then p.0.waits else instance_can_answer h.instance actor) (slice_get v.homes i) false) p.0.home p.2 in
      let h = says_some (λ (h : Home). if h.gone then p.0.waits else instance_can_answer h.instance actor) (slice_get v.homes i.0) i.2 in
      by p.0 i.0 h.0 p.1 i.1 h.1 h.0.gone refl h.2
    where
      by : (p : Place) (i : ℕ) (h : Home) → slice_get v.places actor ≡ Some p → p.home ≡ Some i → slice_get v.homes i ≡ Some h
          → (b : Bool) → h.gone ≡ b → (if b then p.waits else instance_can_answer h.instance actor) ≡ true → Contains (before_end v) (step.Answer actor)
      by p i h place home here true gone is = listed_left actor i p h place home here gone is
      by p i h place home here false alive is = listed_answer actor i h here alive is
  listed own (step.Post i) other can =
      let h = is_of i (λ h. can_post h.instance) can in
      in_living kind.Post tt i h.0 (step.Post i) h.1 h.2 (in_only (can_post h.0.instance) (step.Post i) h.3)
  listed own (step.Birth i job) other can =
      let h = is_of i (λ h. is_job job (bearing h.instance)) can in
      let b = says_some (λ other. other == job) (bearing h.0.instance) h.3 in
      let is : bearing h.0.instance ≡ Some job = b.1 ∙ ap Some (eqb-true b.0 job b.2) in
      in_living kind.Birth tt i h.0 (step.Birth i job) h.1 h.2 (subst (λ o. Contains (cons_option (option_map (step.Birth i) o) []) (step.Birth i job)) (sym is) (first (step.Birth i job) []))
  listed own (step.End i) other can =
      let h = is_of i (may_go v.homes) can in
      in_living kind.End tt i h.0 (step.End i) h.1 h.2 (in_only (may_go v.homes h.0) (step.End i) h.3)
  listed own (step.Record actor) other can = cc
  listed own step.Tick other can = in_timed step.Tick (Contains-append_left (only_if (can_tick v) step.Tick) issued step.Tick (in_only (can_tick v) step.Tick can))
  listed own step.Close other can = cc

  -- where nothing is listed nothing can be made
  pub over : AreOwnLines v → ListTurns v.homes → before_end v ≡ [] → has_look v ≡ false → IsOver v
  over own turns_listed none quiet = (λ s. by s (can_make v s) refl, quiet)
    where
      served : (i : ℕ) (s : KvsStep) → can_make v (step.Kvs i s) ≡ true → ⊥
      served i s can =
          let h = is_of i (λ h. can_step h.instance.services s) can in
          from h.0 h.1 h.2 h.3 (turns h.0.instance.services) refl
        where
          from : (h : Home) → slice_get v.homes i ≡ Some h → h.gone ≡ false → can_step h.instance.services s ≡ true → (l : List KvsStep) → turns h.instance.services ≡ l → ⊥
          from h here alive can [] is = true≢false (sym can ∙ turns_listed i h here is s)
          from h here alive can (t ∷ more) is =
              some (before_end v) (step.Kvs i t)
              (in_living kind.Turn tt i h (step.Kvs i t) here alive (subst (λ l. Contains (map (step.Kvs i) l) (step.Kvs i t)) (sym is) (first (step.Kvs i t) (map (step.Kvs i) more)))) none

      never : (s : Step) → can_make v s ≡ true → ⊥
      never (step.Issue actor) can = some (before_end v) (step.Issue actor) (listed own (step.Issue actor) tt can) none
      never (step.Kvs i s) can = served i s can
      never (step.Feed actor) can = some (before_end v) (step.Feed actor) (listed own (step.Feed actor) tt can) none
      never (step.Answer actor) can = some (before_end v) (step.Answer actor) (listed own (step.Answer actor) tt can) none
      never (step.Record actor) can = cc
      never (step.Post i) can = some (before_end v) (step.Post i) (listed own (step.Post i) tt can) none
      never (step.Birth i job) can = some (before_end v) (step.Birth i job) (listed own (step.Birth i job) tt can) none
      never (step.End i) can = some (before_end v) (step.End i) (listed own (step.End i) tt can) none
      never step.Tick can = some (before_end v) step.Tick (listed own step.Tick tt can) none
      never step.Close can = cc

      by : (s : Step) (b : Bool) → can_make v s ≡ b → can_make v s ≡ false
      by s true is = absurd (never s is)
      by s false is = is

  -- where nothing can be made nothing is listed
  pub emptied : AreSeated v → IsOver v → before_end v ≡ []
  emptied seated over = by (before_end v) refl
    where
      by : (l : List Step) → before_end v ≡ l → before_end v ≡ []
      by [] is = is
      by (s ∷ more) is = absurd (true≢false (sym (possible seated s (subst (λ l. Contains l s) (sym is) (first s more))) ∙ over.0 s))

  -- the end can be made exactly where no step has the number 0
  pub close_so : AreSeated v → AreOwnLines v → ListTurns v.homes → has_look v ≡ false → (r : Result Step ℕ) → r ≡ nth (before_end v) 0 → (is_err r ≡ true → IsOver v) × (IsOver v → is_err r ≡ true)
  close_so seated own turns_listed quiet r is = (λ e. over own turns_listed (none_left (before_end v) (sym (ap is_err is) ∙ e)) quiet, λ o. ap is_err (is ∙ ap (λ l. nth l 0) (emptied seated o)))
    where
      none_left : (l : List Step) → is_err (nth l 0) ≡ true → l ≡ []
      none_left [] e = refl
      none_left (s ∷ more) e = cc
