-- What the workers of a run may make.
use Rattle.std.proofs.Common.{◌≡◌, ◌∙◌, ℕ, zero, suc, ◌%◌, ◌<◌, List, [], ◌∷◌, ◌++◌, map, filter, Bool, true, false, Option, Some, None, length, refl, sym, ap, ap₂, subst, true≢false, arith}
use Rattle.std.specs.Prelude.{Contains, IfSome, slice_get, if◌then◌else◌}
use Rattle.std.proofs.lemmas.Bool.{eq-eqb}
use Rattle.std.proofs.lemmas.List.Elements.{Contains-append_left, Contains-append_right}
use Rattle.std.proofs.lemmas.Nat.{mod_below}
use Rattle.instance.specs.answers.declared.steps.Step.{Step}
use Rattle.instance.specs.answers.declared.steps.Step.TheVariants as step
use Rattle.homes.proofs.Members.{first, in_filter, in_map, later}
use Rattle.world.specs.Choice.{chosen, is_in_lanes, is_settled, lanes_of}
use Rattle.world.specs.Looks.{has_look}
use Rattle.world.specs.Order.{before_end, by_instances, end_behind, free_steps, is_own, issues, lane_steps, last_steps, next_step, only_if, own_issues, possible_by, possible_in, possible_steps}
use Rattle.instance.specs.Steps.{IsStart}
use Rattle.world.specs.Steps.{MayStart, can_issue, can_tick}
use Rattle.world.specs.Value.{WorldValue}
use Rattle.world.specs.declared.order.Order.{Order}
use Rattle.world.specs.declared.order.Order.TheVariants as order
use Rattle.world.proofs.Choosing.{both_parts}
use Rattle.world.proofs.Ordering.{AreOwnLines, AreSeated, issue_able, issue_listed}

-- ---- steps that begin nothing

pub plain_some : (P : Step → Type 0) (o : Option Step) → IfSome o (λ s. ¬ IsStart s) → IfSome o (λ s. IsStart s → P s)
plain_some P None h = tt
plain_some P (Some s) h = λ start. absurd (h start)

pub plain_may : (v : WorldValue) (o : Option Step) → IfSome o (λ s. ¬ IsStart s) → IfSome o (λ s. MayStart v s)
plain_may v None h = tt
plain_may v (Some s) h = λ settled start. absurd (h start)

-- lanes are no settled run
pub lane_may : (v : WorldValue) → v.set.settled ≡ is_settled v.order → is_in_lanes v.order ≡ true → (o : Option Step) → IfSome o (λ s. MayStart v s)
lane_may v same lanes None = tt
lane_may v same lanes (Some s) = λ settled start. absurd (never v.order lanes (sym same ∙ settled))
  where
    never : (o : Order) → is_in_lanes o ≡ true → is_settled o ≡ true → ⊥
    never order.Settled e f = true≢false (sym e)
    never (order.Shuffled draws word losses) e f = true≢false (sym f)
    never (order.Lanes count) e f = true≢false (sym f)

pub lane_untold : (v : WorldValue) → is_in_lanes v.order ≡ true → v.order ≡ order.Settled → ⊥
lane_untold v lanes settled = true≢false (sym lanes ∙ ap is_in_lanes settled)

-- ---- the step of a number

pub got_listed : {X : Type 0} (xs : List X) (n : ℕ) (x : X) → slice_get xs n ≡ Some x → Contains xs x
got_listed [] n x e = cc
got_listed (y ∷ xs) zero x e = (let same : y ≡ x = cc in subst (Contains (y ∷ xs)) same (first y xs))
got_listed (y ∷ xs) (suc n) x e = later y xs x (got_listed xs n x e)

pub any_listed : {X : Type 0} (xs : List X) (n : ℕ) (o : Option X) → o ≡ slice_get xs n → IfSome o (Contains xs)
any_listed xs n None e = tt
any_listed xs n (Some x) e = got_listed xs n x (sym e)

pub none_got : {X : Type 0} (xs : List X) → None ≡ slice_get xs 0 → xs ≡ []
none_got [] e = refl
none_got (x ∷ xs) e = cc

none_at : {X : Type 0} (xs : List X) (n : ℕ) → n < length xs → None ≡ slice_get xs n → ⊥
none_at [] n low e = absurd (omega (arith, low))
none_at (x ∷ xs) zero low e = cc
none_at (x ∷ xs) (suc n) low e = none_at xs n (omega (arith, low)) e

chosen_listed : (o : Order) (xs : List Step) (r : Option Step) → r ≡ chosen o xs → IfSome r (Contains xs)
chosen_listed order.Settled xs r e = any_listed xs 0 r e
chosen_listed (order.Shuffled draws word losses) xs r e = any_listed xs (word % length xs) r e
chosen_listed (order.Lanes count) xs r e = any_listed xs 0 r e

chosen_none : (o : Order) (xs : List Step) → None ≡ chosen o xs → xs ≡ []
chosen_none order.Settled xs e = none_got xs e
chosen_none (order.Lanes count) xs e = none_got xs e
chosen_none (order.Shuffled draws word losses) [] e = refl
chosen_none (order.Shuffled draws word losses) (x ∷ xs) e =
    absurd (none_at (x ∷ xs) (word % length (x ∷ xs)) (mod_below word (length (x ∷ xs)) (omega arith)) e)

module _ (v : WorldValue) where
  -- ---- in one lane

  pub looking_next : has_look v ≡ true → next_step v ≡ slice_get (by_instances v) 0
  looking_next looks = ap (λ b. if b then slice_get (by_instances v) 0 else chosen v.order (free_steps v)) looks

  pub free_next : has_look v ≡ false → next_step v ≡ chosen v.order (free_steps v)
  free_next free = ap (λ b. if b then slice_get (by_instances v) 0 else chosen v.order (free_steps v)) free

  pub next_listed : (r : Option Step) → r ≡ next_step v → IfSome r (Contains (possible_steps v))
  next_listed r e = by (has_look v) e
    where
      by : (b : Bool) → r ≡ (if b then slice_get (by_instances v) 0 else chosen v.order (free_steps v)) → IfSome r (Contains (if b then by_instances v else free_steps v))
      by true e = any_listed (by_instances v) 0 r e
      by false e = chosen_listed v.order (free_steps v) r e

  pub next_none : None ≡ next_step v → possible_steps v ≡ []
  next_none e = by (has_look v) e
    where
      by : (b : Bool) → None ≡ (if b then slice_get (by_instances v) 0 else chosen v.order (free_steps v)) → (if b then by_instances v else free_steps v) ≡ []
      by true e = none_got (by_instances v) e
      by false e = chosen_none v.order (free_steps v) e

  pub alone_in : (lane : ℕ) → v.closed ≡ false → is_in_lanes v.order ≡ false → possible_in v lane ≡ possible_steps v
  alone_in lane runs alone = ap (λ b. if b then [] else possible_by v.order v lane) runs ∙ by v.order alone
    where
      by : (o : Order) → is_in_lanes o ≡ false → possible_by o v lane ≡ possible_steps v
      by order.Settled e = refl
      by (order.Shuffled draws word losses) e = refl
      by (order.Lanes count) e = absurd (true≢false e)

  -- ---- in lanes

  pub lanes_in : (lane : ℕ) → v.closed ≡ false → is_in_lanes v.order ≡ true → possible_in v lane ≡ lane_steps v (lanes_of v.order) lane
  lanes_in lane runs lanes = ap (λ b. if b then [] else possible_by v.order v lane) runs ∙ by v.order lanes
    where
      by : (o : Order) → is_in_lanes o ≡ true → possible_by o v lane ≡ lane_steps v (lanes_of o) lane
      by order.Settled e = absurd (true≢false (sym e))
      by (order.Shuffled draws word losses) e = absurd (true≢false (sym e))
      by (order.Lanes count) e = refl

  pub closed_none : (lane : ℕ) → v.closed ≡ true → possible_in v lane ≡ []
  closed_none lane closed = ap (λ b. if b then [] else possible_by v.order v lane) closed

  module _ (count lane : ℕ) where
    pub own_listed : AreOwnLines v → (actor : ℕ) → can_issue v actor ≡ true → is_own count lane actor ≡ true → Contains (lane_steps v count lane) (step.Issue actor)
    own_listed own actor can is = Contains-append_left (map step.Issue (own_issues v count lane)) (by_instances v ++ last_steps v) (step.Issue actor)
        (in_map step.Issue (own_issues v count lane) actor (in_filter (is_own count lane) (issues v) actor is (issue_listed v own actor can)))

    pub others_listed : (s : Step) → Contains (by_instances v) s → Contains (lane_steps v count lane) s
    others_listed s c = Contains-append_right (map step.Issue (own_issues v count lane)) (by_instances v ++ last_steps v) s (Contains-append_left (by_instances v) (last_steps v) s c)

    pub last_listed : (s : Step) → Contains (last_steps v) s → Contains (lane_steps v count lane) s
    last_listed s c = Contains-append_right (map step.Issue (own_issues v count lane)) (by_instances v ++ last_steps v) s (Contains-append_right (by_instances v) (last_steps v) s c)

    pub any_last : (o : Option Step) → o ≡ slice_get (last_steps v) 0 → IfSome o (λ s. Contains (lane_steps v count lane) s)
    any_last None e = tt
    any_last (Some s) e = last_listed s (got_listed (last_steps v) 0 s (sym e))

    -- none of the lane's actors can be issued a command
    none_kept : (xs : List ℕ) → ((a : ℕ) → Contains xs a → can_issue v a ≡ true) → ((a : ℕ) → is_own count lane a ≡ true → can_issue v a ≡ false) → filter (is_own count lane) xs ≡ []
    none_kept [] can none = refl
    none_kept (x ∷ xs) can none = by (is_own count lane x) refl (none_kept xs (λ a c. can a (later x xs a c)) none)
      where
        by : (b : Bool) → is_own count lane x ≡ b → filter (is_own count lane) xs ≡ [] → (if b then x ∷ filter (is_own count lane) xs else filter (is_own count lane) xs) ≡ []
        by true is again = absurd (true≢false (sym (can x (first x xs)) ∙ none x is))
        by false is again = again

    pub no_own : AreSeated v → ((a : ℕ) → is_own count lane a ≡ true → can_issue v a ≡ false) → own_issues v count lane ≡ []
    no_own seated none = none_kept (issues v) (λ a c. issue_able v seated a c) none

    pub nothing_in : own_issues v count lane ≡ [] → by_instances v ≡ [] → last_steps v ≡ [] → lane_steps v count lane ≡ []
    nothing_in own others last = ap₂ (λ a b. map step.Issue a ++ b) own (ap₂ (λ a b. a ++ b) others last)

  -- where one lane has nothing to make, and no look is open, the run has ended
  pub alone_over : (lane : ℕ) → own_issues v 1 lane ≡ [] → by_instances v ≡ [] → last_steps v ≡ [] → has_look v ≡ true
  alone_over lane own others last = by (has_look v) refl last
    where
      all_own : (xs : List ℕ) → filter (is_own 1 lane) xs ≡ xs
      all_own [] = refl
      all_own (x ∷ xs) = ap (λ b. if b then x ∷ filter (is_own 1 lane) xs else filter (is_own 1 lane) xs) (eq-eqb (x % 1) (lane % 1) (omega arith)) ∙ ap (λ ys. x ∷ ys) (all_own xs)

      split : (xs ys : List Step) → xs ++ ys ≡ [] → (xs ≡ []) × (ys ≡ [])
      split [] ys e = (refl, e)
      split (x ∷ xs) ys e = cc

      behind : (xs : List Step) → xs ≡ [] → end_behind xs ≡ [] → ⊥
      behind xs none e = let more : step.Close ∷ [] ≡ [] = sym (ap end_behind none) ∙ e in cc

      by : (b : Bool) → has_look v ≡ b → (if b then [] else only_if (can_tick v) step.Tick ++ end_behind (before_end v)) ≡ [] → has_look v ≡ true
      by true is e = is
      by false is e =
          let parts = split (only_if (can_tick v) step.Tick) (end_behind (before_end v)) e in
          let none : before_end v ≡ [] = sym (both_parts v) ∙ ap₂ (λ a b. a ++ b) others (ap₂ (λ a b. a ++ map step.Issue b) parts.0 (sym (all_own (issues v)) ∙ own)) in
          absurd (behind (before_end v) none parts.1)

  -- ---- a tick or the end

  pub looks_last : has_look v ≡ true → None ≡ slice_get (last_steps v) 0
  looks_last looks = sym (ap (λ b. slice_get (if b then [] else only_if (can_tick v) step.Tick ++ end_behind (before_end v)) 0) looks)

  pub tick_last : has_look v ≡ false → can_tick v ≡ true → Some step.Tick ≡ slice_get (last_steps v) 0
  tick_last free ticks =
      sym (ap (λ b. slice_get (if b then [] else only_if (can_tick v) step.Tick ++ end_behind (before_end v)) 0) free
      ∙ ap (λ b. slice_get (only_if b step.Tick ++ end_behind (before_end v)) 0) ticks)

  pub end_last : has_look v ≡ false → can_tick v ≡ false → before_end v ≡ [] → Some step.Close ≡ slice_get (last_steps v) 0
  end_last free ticks none =
      sym (ap (λ b. slice_get (if b then [] else only_if (can_tick v) step.Tick ++ end_behind (before_end v)) 0) free
      ∙ ap₂ (λ b xs. slice_get (only_if b step.Tick ++ end_behind xs) 0) ticks none)

  pub none_last : has_look v ≡ false → can_tick v ≡ false → (before_end v ≡ [] → ⊥) → None ≡ slice_get (last_steps v) 0
  none_last free ticks some =
      sym (ap (λ b. slice_get (if b then [] else only_if (can_tick v) step.Tick ++ end_behind (before_end v)) 0) free
      ∙ ap (λ b. slice_get (only_if b step.Tick ++ end_behind (before_end v)) 0) ticks
      ∙ by (before_end v) refl)
    where
      by : (xs : List Step) → before_end v ≡ xs → slice_get (end_behind xs) 0 ≡ None
      by [] is = absurd (some is)
      by (s ∷ more) is = refl
