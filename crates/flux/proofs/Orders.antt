-- The order in which a run makes its steps, by its options.
use Rattle.std.proofs.Common.{◌≡◌, ◌∙◌, ◌&&◌, ℕ, ◌≤◌, Bool, true, false, not, Option, Some, None, is_some, refl, ap, sym, true≢false, arith}
use Rattle.std.specs.Prelude.{IsTrue, nat_lt, if◌then◌else◌}
use Rattle.std.proofs.lemmas.Bool.Decides.{nat_tests}
use Rattle.run_options.specs.declared.Options.{Options}
use Rattle.world.specs.Choice.{is_alone, is_settled as is_settled_order, losses_left, order_of}
use Rattle.world.specs.declared.order.Order.{Order}
use Rattle.world.specs.declared.order.Order.TheVariants as order
use Rattle.world.specs.declared.order.Schedule.TheVariants as schedule
use Rattle.flux.specs.Runs.{has_several, is_settled, order_alone, schedule_of}

-- that of several workers, or of one
abbrev order_by : Options → Bool → Option ℕ → Order
order_by o several shuffle = order_of (if several then schedule.Lanes o.workers else order_alone o.losses shuffle)

-- it is as settled as the options
pub settled_so : (o : Options) → is_settled_order (order_of (schedule_of o)) ≡ is_settled o
settled_so o = by (has_several o) o.shuffle
  where
    by : (b : Bool) (shuffle : Option ℕ) → is_settled_order (order_by o b shuffle) ≡ (not (is_some shuffle) && not b)
    by true None = refl
    by true (Some seed) = refl
    by false None = refl
    by false (Some seed) = refl

-- a run that is to be settled draws nothing
pub calm_order : (o : Options) → IsTrue (is_settled o) → order_of (schedule_of o) ≡ order.Settled
calm_order o calm = by (has_several o) o.shuffle calm
  where
    by : (b : Bool) (shuffle : Option ℕ) → (not (is_some shuffle) && not b) ≡ true → order_by o b shuffle ≡ order.Settled
    by true None e = absurd (true≢false (sym e))
    by true (Some seed) e = absurd (true≢false (sym e))
    by false None e = refl
    by false (Some seed) e = absurd (true≢false (sym e))

-- and has one worker
pub calm_alone : (o : Options) → 1 ≤ o.workers → IsTrue (is_settled o) → o.workers ≡ 1
calm_alone o some calm = by (has_several o) refl o.shuffle calm
  where
    few : (n : ℕ) → nat_lt 1 n ≡ false → n ≤ 1
    few n e = grind (arith, nat_tests)

    by : (b : Bool) → has_several o ≡ b → (shuffle : Option ℕ) → (not (is_some shuffle) && not b) ≡ true → o.workers ≡ 1
    by false is shuffle e = (let low = few o.workers is in omega (arith, low, some))
    by true is None e = absurd (true≢false (sym e))
    by true is (Some seed) e = absurd (true≢false (sym e))

-- one worker has one lane
pub one_lane : (o : Options) → o.workers ≡ 1 → is_alone (order_of (schedule_of o)) ≡ true
one_lane o one = ap (λ n. is_alone (order_by o (nat_lt 1 n) o.shuffle)) one ∙ by o.shuffle
  where
    by : (shuffle : Option ℕ) → is_alone (order_by o false shuffle) ≡ true
    by None = refl
    by (Some seed) = refl

-- a run begins with no more losses than its options allow
pub few_left : (o : Options) → losses_left (order_of (schedule_of o)) ≤ o.losses
few_left o = by (has_several o) o.shuffle
  where
    by : (b : Bool) (shuffle : Option ℕ) → losses_left (order_by o b shuffle) ≤ o.losses
    by true shuffle = omega arith
    by false None = omega arith
    by false (Some seed) = omega arith
