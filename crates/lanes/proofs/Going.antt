-- On worlds that go on.
use Rattle.std.proofs.Common.{◌≡◌, ◌∙◌, true, false, ap, refl}
use Rattle.world.specs.hierarchy.Legal.{HasRunRest}
use Rattle.instance.specs.Steps.{IsStart}
use Rattle.world.specs.Advances.{Advances}
use Rattle.world.specs.Choice.{behind, is_alone, joined}
use Rattle.world.specs.Value.{WorldValue}
use Rattle.world.specs.declared.order.Order.{Order}
use Rattle.world.specs.declared.order.Order.TheVariants as order
use Rattle.world.specs.answers.declared.steps.Step.{Step}
use Rattle.lanes.specs.Runs.{GoesOn}

-- a step leaves one lane as it was
alone_behind : (s : Step) (o : Order) → is_alone (behind s o) ≡ is_alone o
alone_behind s order.Settled = refl
alone_behind s (order.Shuffled draws word losses) = refl
alone_behind s (order.Lanes count) = refl

pub goes_same : (v : WorldValue) → v.spent ≡ false → is_alone v.order ≡ true → GoesOn v v
goes_same v live alone = record {
  live = live;
  alone = alone;
  set = refl;
  ordered = λ is. is;
  settled = λ is h. h;
}

pub goes_then : (a b c : WorldValue) → GoesOn a b → GoesOn b c → GoesOn a c
goes_then a b c one two = record {
  live = two.live;
  alone = two.alone;
  set = two.set ∙ one.set;
  ordered = λ is. two.ordered (one.ordered is);
  settled = λ is h. two.settled (one.ordered is) (one.settled is h);
}

-- a step that begins something only where a settled run rests
pub goes_by : (old : WorldValue) (s : Step) (new : WorldValue) → is_alone old.order ≡ true → Advances old s new → new.order ≡ behind s old.order
    → (old.order ≡ order.Settled → IsStart s → HasRunRest old.set old.chronicle) → GoesOn old new
goes_by old s new alone advances ordered rests = record {
  live = advances.ready;
  alone = ap is_alone ordered ∙ alone_behind s old.order ∙ alone;
  set = advances.set;
  ordered = λ is. ordered ∙ ap (behind s) is;
  settled = λ is h. advances.settled h (rests is);
}

pub joined_alone : (o : Order) → is_alone (joined o) ≡ true
joined_alone order.Settled = refl
joined_alone (order.Shuffled draws word losses) = refl
joined_alone (order.Lanes count) = refl
