-- What callers see of the world of a named run.
use Rattle.std.specs.Prelude.{ℕ, ◌+◌, ◌==◌, ◌&&◌, nat_le, not, List, Bool, count_by, false}
use Rattle.std.specs.Option.{option_map_or}
use Rattle.root_feed.specs.Values.{HeraldValue}
use Rattle.world.specs.Choice.{is_loss, losses_left}
use Rattle.world.specs.Looks.{look_at}
use Rattle.world.specs.Value.{WorldValue}

-- the world, and the heralds of the top's brokers
pub record NamedValue : Type 0 where
  pub world : WorldValue
  pub heralds : List HeraldValue

-- the losses that were made and those that may still be
abbrev pub all_losses : WorldValue → ℕ
all_losses w = count_by is_loss w.steps + losses_left w.order

-- whether what was seen is what the open look of an actor asks for: the number is of the actor's
-- broker, and no less than the least that the look may tell
abbrev pub is_open : NamedValue → ℕ → ℕ × ℕ → Bool
is_open w actor seen = not w.world.spent && option_map_or
    (λ looker. (looker.broker == seen.0) && nat_le looker.need seen.1)
    (look_at w.world actor) false
