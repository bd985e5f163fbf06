-- What is left of a world that goes on.
use Rattle.std.specs.Prelude.{◌≡◌, true, false}
use Rattle.world.specs.hierarchy.Legal.{IsSettledRun}
use Rattle.world.specs.Choice.{is_alone}
use Rattle.world.specs.Value.{WorldValue}
use Rattle.world.specs.declared.order.Order.TheVariants as order

-- it can go on in one lane, the run is given what it was, and a settled run stays settled
pub record GoesOn (old new : WorldValue) : Type 0 where
  pub live : new.spent ≡ false
  pub alone : is_alone new.order ≡ true
  pub set : new.set ≡ old.set
  pub ordered : old.order ≡ order.Settled → new.order ≡ order.Settled
  pub settled : old.order ≡ order.Settled → IsSettledRun old.set old.chronicle
      → IsSettledRun new.set new.chronicle
