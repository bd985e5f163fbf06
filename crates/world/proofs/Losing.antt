-- Losses of announcements among the steps of a run.
use Rattle.std.proofs.Common.{◌≡◌, ◌∙◌, ℕ, inl, inr, List, [], ◌∷◌, ◌++◌, map, Bool, true, false, Option, Some, None, length, refl, sym, ap, ap₂, subst}
use Rattle.std.specs.Prelude.{Contains, IfOk, Result, Ok, Err, flat_map, nat_lt, option_map, slice_get, if◌then◌else◌}
use Rattle.std.specs.List.{cons_option, range_with_len}
use Rattle.std.proofs.lemmas.Bool.{ltb-true}
use Rattle.std.proofs.lemmas.List.Elements.{Contains-append_cases}
use Rattle.instance.specs.kvs_keys.Order.{all_steps}
use Rattle.instance.specs.kvs_keys.Walk.{nth}
use Rattle.instance.specs.kvs_rules.declared.events.KvsStep.{KvsStep}
use Rattle.instance.specs.kvs_rules.declared.events.KvsStep.TheVariants as kvs
use Rattle.instance.specs.services.Order.{possible as turns}
use Rattle.instance.specs.answers.declared.steps.Step.{Step}
use Rattle.instance.specs.answers.declared.steps.Step.TheVariants as step
use Rattle.instance.specs.Family.{bearing}
use Rattle.instance.specs.Order.{answers, feeds}
use Rattle.instance.specs.Steps.{can_post}
use Rattle.homes.specs.Times.{may_go}
use Rattle.homes.specs.declared.homes.Home.{Home}
use Rattle.homes.proofs.Members.{split, from_filter, from_flat_map, from_map, nobody}
use Rattle.world.specs.Choice.{MayLose, is_loss, losses_left}
use Rattle.world.specs.Order.{all_before_end, before_end, issues, left_in, losses, only_if, or_close, free_steps, steps_in, steps_left, steps_of}
use Rattle.world.specs.Sound.{IsRunning}
use Rattle.world.specs.Steps.{CanMake, can_tick}
use Rattle.world.specs.Value.{WorldValue}
use Rattle.world.specs.declared.order.Order.TheVariants as order
use Rattle.world.specs.declared.run.drawing.Kind.{Kind}
use Rattle.world.specs.declared.run.drawing.Kind.TheVariants as kind
use Rattle.world.proofs.Choosing.{listed_at, now_made}
use Rattle.world.proofs.Housing.{seated}
use Rattle.world.proofs.Ordering.{IsBefore, each_listed, from_only, from_steps, issued, loss_possible, timed}

-- ---- the steps of a service in their order are none

kept : (brokers spaces i : ℕ) (s : KvsStep) → Contains (all_steps brokers spaces) s → is_loss (step.Kvs i s) ≡ false
kept brokers spaces i s c = elim (Contains-append_cases (flat_map links below) (map kvs.Serve below ++ (map kvs.Land lands ++ map kvs.Resync below)) s c) [
  | inl d ↦
      let m = from_flat_map links below s d in
      let n = from_map (kvs.Deliver m.0) below s m.2 in
      subst (λ t. is_loss (step.Kvs i t) ≡ false) n.2 refl
  | inr d ↦ elim (Contains-append_cases (map kvs.Serve below) (map kvs.Land lands ++ map kvs.Resync below) s d) [
    | inl d ↦ (let m = from_map kvs.Serve below s d in subst (λ t. is_loss (step.Kvs i t) ≡ false) m.2 refl)
    | inr d ↦ elim (Contains-append_cases (map kvs.Land lands) (map kvs.Resync below) s d) [
      | inl d ↦ (let m = from_map kvs.Land lands s d in subst (λ t. is_loss (step.Kvs i t) ≡ false) m.2 refl)
      | inr d ↦ (let m = from_map kvs.Resync below s d in subst (λ t. is_loss (step.Kvs i t) ≡ false) m.2 refl)
    ]
  ]
]
  where
    below : List ℕ
    below = range_with_len 0 brokers

    lands : List ℕ
    lands = range_with_len 0 spaces

    links : ℕ → List KvsStep
    links from = map (kvs.Deliver from) below

module _ (v : WorldValue) where
  -- ---- nor is any that stands before the losses

  born_kept : (i : ℕ) (o : Option ℕ) (s : Step) → Contains (cons_option (option_map (step.Birth i) o) []) s → is_loss s ≡ false
  born_kept i None s c = absurd (nobody s c)
  born_kept i (Some job) s c = elim (split (step.Birth i job) [] s c) [ inl e ↦ subst (λ t. is_loss t ≡ false) e refl | inr d ↦ absurd (nobody s d) ]

  in_kept : (k : Kind) → IsBefore k → (i : ℕ) (h : Home) (s : Step) → Contains (steps_in v k i h) s → is_loss s ≡ false
  in_kept kind.Turn before i h s c =
      let m = from_map (step.Kvs i) (turns h.instance.services) s c in
      let w = from_filter _ _ m.0 m.1 in
      subst (λ t. is_loss t ≡ false) m.2 (kept h.instance.services.size (length h.instance.services.jobs.manager.core.keys.spaces) i m.0 w.0)
  in_kept kind.Feed before i h s c = (let m = from_map step.Feed (feeds h.instance) s c in subst (λ t. is_loss t ≡ false) m.2 refl)
  in_kept kind.Reply before i h s c = (let m = from_map step.Answer (answers h.instance) s c in subst (λ t. is_loss t ≡ false) m.2 refl)
  in_kept kind.Post before i h s c = (let m = from_only v (can_post h.instance) (step.Post i) s c in subst (λ t. is_loss t ≡ false) m.1 refl)
  in_kept kind.Birth before i h s c = born_kept i (bearing h.instance) s c
  in_kept kind.End before i h s c = (let m = from_only v (may_go v.homes h) (step.End i) s c in subst (λ t. is_loss t ≡ false) m.1 refl)
  in_kept kind.Loss before i h s c = absurd before

  left_kept : (k : Kind) (i : ℕ) (s : Step) → Contains (steps_left v k i) s → is_loss s ≡ false
  left_kept kind.Turn i s c = absurd (nobody s c)
  left_kept kind.Feed i s c = absurd (nobody s c)
  left_kept kind.Reply i s c = (let m = from_map step.Answer (left_in v.places i) s c in subst (λ t. is_loss t ≡ false) m.2 refl)
  left_kept kind.Post i s c = absurd (nobody s c)
  left_kept kind.Birth i s c = absurd (nobody s c)
  left_kept kind.End i s c = absurd (nobody s c)
  left_kept kind.Loss i s c = absurd (nobody s c)

  at_kept : (k : Kind) → IsBefore k → (i : ℕ) (h : Home) (s : Step) (b : Bool) → Contains (if b then steps_left v k i else steps_in v k i h) s → is_loss s ≡ false
  at_kept k before i h s true c = left_kept k i s c
  at_kept k before i h s false c = in_kept k before i h s c

  timed_kept : (s : Step) → Contains (timed v) s → is_loss s ≡ false
  timed_kept s c = elim (Contains-append_cases (only_if (can_tick v) step.Tick) (issued v) s c) [
    | inl d ↦ (let m = from_only v (can_tick v) step.Tick s d in subst (λ t. is_loss t ≡ false) m.1 refl)
    | inr d ↦ (let m = from_map step.Issue (issues v) s d in subst (λ t. is_loss t ≡ false) m.2 refl)
  ]

  pub unlost : (s : Step) → Contains (before_end v) s → is_loss s ≡ false
  unlost = each_listed v (λ s. is_loss s ≡ false)
      (λ k before s c. let m = from_steps v k s c in at_kept k before m.0 m.1 s m.1.gone m.3) timed_kept

  -- ---- losses stand where some are left

  pub no_losses : losses_left v.order ≡ 0 → losses v ≡ []
  no_losses none = ap (λ n. if nat_lt 0 n then steps_of v kind.Loss else []) none

  pub some_losses : nat_lt 0 (losses_left v.order) ≡ true → losses v ≡ steps_of v kind.Loss
  some_losses some = ap (λ b. if b then steps_of v kind.Loss else []) some

  pub settled_none : v.order ≡ order.Settled → losses v ≡ []
  settled_none settled = no_losses (ap losses_left settled)

  lost : (s : Step) → Contains (losses v) s → (nat_lt 0 (losses_left v.order) ≡ true) × Contains (steps_of v kind.Loss) s
  lost s c = by (nat_lt 0 (losses_left v.order)) refl c
    where
      by : (b : Bool) → nat_lt 0 (losses_left v.order) ≡ b → Contains (if b then steps_of v kind.Loss else []) s → (nat_lt 0 (losses_left v.order) ≡ true) × Contains (steps_of v kind.Loss) s
      by true is c = (is, c)
      by false is c = absurd (nobody s c)

  module _ (number : ℕ) where
    pub loss_can : v.closed ≡ false → IsRunning v → (r : Result Step ℕ) → r ≡ nth (losses v) number → IfOk r (λ s. CanMake v s)
    loss_can runs running (Ok s) e = now_made v runs s (loss_possible v (seated v running) s (lost s (listed_at (losses v) number s (sym e))).1)
    loss_can runs running (Err left) e = tt

    pub loss_may : (r : Result Step ℕ) → r ≡ nth (losses v) number → IfOk r (MayLose v.order)
    loss_may (Ok s) e = λ _. ltb-true 0 (losses_left v.order) (lost s (listed_at (losses v) number s (sym e))).0
    loss_may (Err left) e = tt

  -- ---- the first of all

  pub none_before : all_before_end v ≡ [] → before_end v ≡ []
  none_before = by (before_end v)
    where
      by : (l : List Step) → l ++ losses v ≡ [] → l ≡ []
      by [] e = refl
      by (s ∷ more) e = cc

  module _ (runs : v.closed ≡ false) where
    going : free_steps v ≡ or_close (all_before_end v)
    going = ap (λ b. if b then [] else or_close (all_before_end v)) runs

    pub first_of : (s : Step) → nth (before_end v) 0 ≡ Ok s → Some s ≡ slice_get (free_steps v) 0
    first_of s e = by (before_end v) refl e
      where
        by : (l : List Step) → before_end v ≡ l → nth l 0 ≡ Ok s → Some s ≡ slice_get (free_steps v) 0
        by [] is f = cc
        by (t ∷ more) is f =
            let same : t ≡ s = cc in
            sym (ap (λ l. slice_get l 0) going ∙ ap (λ l. slice_get (or_close (l ++ losses v)) 0) is ∙ ap Some same)

    pub close_first : before_end v ≡ [] → losses v ≡ [] → Some step.Close ≡ slice_get (free_steps v) 0
    close_first none unlosing = sym (ap (λ l. slice_get l 0) going ∙ ap₂ (λ l m. slice_get (or_close (l ++ m)) 0) none unlosing)
