-- Which of the steps that can be made comes next.
use Rattle.std.specs.Prelude.{◌≡◌, ◌==◌, ℕ, ◌%◌, ◌-◌, ◌<◌, max, Bool, true, false, List, length, Option, slice_get, if◌then◌else◌}
use Rattle.rand_pcg.specs.Pcg.{pcg32}
use Rattle.instance.specs.workload.Draws.{seeded}
use Rattle.instance.specs.kvs_rules.declared.events.KvsStep.TheVariants as kvs
use Rattle.instance.specs.answers.declared.steps.Step.{Step}
use Rattle.instance.specs.answers.declared.steps.Step.TheVariants as step
use Rattle.world.specs.declared.order.Order.{Order}
use Rattle.world.specs.declared.order.Order.TheVariants as order
use Rattle.world.specs.declared.order.Schedule.{Schedule}
use Rattle.world.specs.declared.order.Schedule.TheVariants as schedule

-- of the steps that can be made, in their fixed order, the first,
-- or in a shuffled run the one whose number is the drawn word modulo their count
abbrev pub chosen : Order → List Step → Option Step
chosen order.Settled steps = slice_get steps 0
chosen (order.Shuffled draws word losses) steps = slice_get steps (word % length steps)
chosen (order.Lanes count) steps = slice_get steps 0

-- whether nothing is drawn, so that a command is issued once nothing else can be done
abbrev pub is_settled : Order → Bool
is_settled order.Settled = true
is_settled (order.Shuffled draws word losses) = false
is_settled (order.Lanes count) = false

-- whether a step loses, repeats or swaps an announcement between brokers
abbrev pub is_loss : Step → Bool
is_loss (step.Kvs i (kvs.Lose from to)) = true
is_loss (step.Kvs i (kvs.Repeat from to)) = true
is_loss (step.Kvs i (kvs.Swap from to)) = true
is_loss _ = false

-- how many losses may still be made: none in a settled run and in lanes
abbrev pub losses_left : Order → ℕ
losses_left order.Settled = 0
losses_left (order.Shuffled draws word losses) = losses
losses_left (order.Lanes count) = 0

-- a step that is a loss may be made while some are left
abbrev pub MayLose : Order → Step → Type 0
MayLose o s = is_loss s ≡ true → 0 < losses_left o

-- the order behind a step: a shuffled run draws its next word, and may make a loss less where the
-- step was one
abbrev pub behind : Step → Order → Order
behind s order.Settled = order.Settled
behind s (order.Shuffled draws word losses) = order.Shuffled (pcg32 draws).1 (pcg32 draws).0
    (if is_loss s then losses - 1 else losses)
behind s (order.Lanes count) = order.Lanes count

-- the order of a run that has made no step
abbrev pub order_of : Schedule → Order
order_of schedule.Settled = order.Settled
order_of (schedule.Shuffled seed losses) = order.Shuffled (pcg32 (seeded seed)).1 (pcg32 (seeded seed)).0
    losses
order_of (schedule.Lanes count) = order.Lanes count

-- how many lanes there are
abbrev pub lanes_of : Order → ℕ
lanes_of (order.Lanes count) = max count 1
lanes_of _ = 1

-- whether the steps are made in lanes
abbrev pub is_in_lanes : Order → Bool
is_in_lanes (order.Lanes count) = true
is_in_lanes _ = false

-- whether there is one lane
abbrev pub is_alone : Order → Bool
is_alone o = lanes_of o == 1

-- the order once all lanes are one
abbrev pub joined : Order → Order
joined (order.Lanes count) = order.Lanes 1
joined o = o
