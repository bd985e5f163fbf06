-- The losses that were made, and those that may still be.
use Rattle.std.proofs.Common.{◌≡◌, ◌∙◌, ℕ, ◌+◌, ◌-◌, List, [], ◌∷◌, ◌++◌, Bool, true, false, cond, count_by, ap, ap₂, arith, refl, sym, true≢false}
use Rattle.std.proofs.lemmas.List.Sums.{sum_by_push}
use Rattle.world.specs.Advances.{Advances}
use Rattle.world.specs.Choice.{MayLose, behind, is_loss, joined, losses_left}
use Rattle.world.specs.Value.{WorldValue}
use Rattle.world.specs.declared.order.Order.{Order}
use Rattle.world.specs.declared.order.Order.TheVariants as order
use Rattle.world.specs.answers.declared.steps.Step.{Step}
use Rattle.world.specs.answers.declared.steps.Step.TheVariants as step
use Rattle.named_world.specs.Value.{all_losses}

-- both come to the same behind each step
counted : (o : Order) (s : Step) (steps : List Step) → MayLose o s
    → count_by is_loss (steps ++ s ∷ []) + losses_left (behind s o) ≡ count_by is_loss steps + losses_left o
counted o s steps may = by o (is_loss s) refl may
  where
    one : Bool → ℕ
    one b = cond b 1 0

    joined_so : count_by is_loss (steps ++ s ∷ []) ≡ count_by is_loss steps + one (is_loss s)
    joined_so = sum_by_push (λ x. one (is_loss x)) steps s

    by : (o : Order) (b : Bool) → is_loss s ≡ b → MayLose o s → count_by is_loss (steps ++ s ∷ []) + losses_left (behind s o) ≡ count_by is_loss steps + losses_left o
    by order.Settled true is may = absurd (let some = may is in omega (arith, some))
    by order.Settled false is may = (let last : one (is_loss s) ≡ 0 = ap one is in omega (arith, joined_so, last))
    by (order.Lanes count) true is may = absurd (let some = may is in omega (arith, some))
    by (order.Lanes count) false is may = (let last : one (is_loss s) ≡ 0 = ap one is in omega (arith, joined_so, last))
    by (order.Shuffled draws word losses) true is may =
        let last : one (is_loss s) ≡ 1 = ap one is in
        let some = may is in
        let left : losses_left (behind s (order.Shuffled draws word losses)) ≡ losses - 1 = ap (λ b. cond b (losses - 1) losses) is in
        omega (arith, joined_so, last, some, left)
    by (order.Shuffled draws word losses) false is may =
        let last : one (is_loss s) ≡ 0 = ap one is in
        let left : losses_left (behind s (order.Shuffled draws word losses)) ≡ losses = ap (λ b. cond b (losses - 1) losses) is in
        omega (arith, joined_so, last, left)

pub losses_kept : (old : WorldValue) (s : Step) (new : WorldValue) → Advances old s new → new.order ≡ behind s old.order → MayLose old.order s → all_losses new ≡ all_losses old
losses_kept old s new advances ordered may = ap₂ (λ steps o. count_by is_loss steps + losses_left o) advances.steps ordered ∙ counted old.order s old.steps may

-- a look that is recorded is no loss
pub losses_recorded : (old : WorldValue) (actor : ℕ) (new : WorldValue) → Advances old (step.Record actor) new → new.order ≡ behind (step.Record actor) old.order → all_losses new ≡ all_losses old
losses_recorded old actor new advances ordered = losses_kept old (step.Record actor) new advances ordered (λ lost. absurd (true≢false (sym lost)))

joined_left : (o : Order) → losses_left (joined o) ≡ losses_left o
joined_left order.Settled = refl
joined_left (order.Shuffled draws word losses) = refl
joined_left (order.Lanes count) = refl

-- lanes that are made one leave them as they were
pub losses_joined : (v : WorldValue) → all_losses (record v { order = joined v.order }) ≡ all_losses v
losses_joined v = ap (λ n. count_by is_loss v.steps + n) (joined_left v.order)
