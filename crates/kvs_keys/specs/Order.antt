-- Which steps can be made, in the order in which they are made.
use Rattle.std.specs.Prelude.{◌≡◌, ℕ, ◌<◌, ◌≤◌, ◌⊎◌, ◌++◌, List, true, Option, None, Some, length, map, flat_map}
use Rattle.std.specs.List.{list_any, filter, range_with_len}
use Rattle.kvs_rules.specs.declared.events.KvsStep.{KvsStep}
use Rattle.kvs_rules.specs.declared.events.KvsStep.TheVariants as kvs
use Rattle.kvs_keys.specs.declared.order.Hop.{Hop}
use Rattle.kvs_rules.specs.Brokers.{parent}
use Rattle.kvs_keys.specs.Steps.{can_step}
use Rattle.kvs_space.specs.Space.{SpaceValue, has_news}
use Rattle.kvs_space.specs.declared.links.Loss.{Loss}
use Rattle.kvs_space.specs.declared.links.Loss.TheVariants as loss
use Rattle.kvs_keys.specs.Value.{KeysValue}

-- the steps of so many brokers and namespaces in order, but for losses: deliveries by sender, then by
-- receiver, then services by broker, then landings by the namespace's place, then resyncs by broker
abbrev pub all_steps : ℕ → ℕ → List KvsStep
all_steps brokers spaces = flat_map links below ++ (map kvs.Serve below
    ++ (map kvs.Land (range_with_len 0 spaces) ++ map kvs.Resync below))
  where
    below : List ℕ
    below = range_with_len 0 brokers

    links : ℕ → List KvsStep
    links from = map (kvs.Deliver from) below

-- the steps that can be made, in order
abbrev pub possible : KeysValue → List KvsStep
possible v = filter (can_step v) (all_steps v.size (length v.spaces))

-- the step by which an announcement between two brokers is lost, repeated or moved
abbrev pub loss_step : Loss → ℕ → ℕ → KvsStep
loss_step loss.Lost from to = kvs.Lose from to
loss_step loss.Repeated from to = kvs.Repeat from to
loss_step loss.Swapped from to = kvs.Swap from to

-- the losses of one kind between so many brokers, by sender, then by receiver
abbrev pub losses : ℕ → Loss → List KvsStep
losses brokers kind = flat_map links (range_with_len 0 brokers)
  where
    links : ℕ → List KvsStep
    links from = map (loss_step kind from) (range_with_len 0 brokers)

-- the losses that can be made: those that lose, then those that repeat, then those that swap
abbrev pub possible_losses : KeysValue → List KvsStep
possible_losses v = filter (can_step v)
    (losses v.size loss.Lost ++ (losses v.size loss.Repeated ++ losses v.size loss.Swapped))

-- an announcement is on the way from a broker to one of its children
pub record IsAnnouncing (fanout : ℕ) (spaces : List SpaceValue) (from to : ℕ) : Type 0 where
  pub above : 0 < to
  pub sender : parent fanout to ≡ from
  pub some : list_any (has_news to) spaces ≡ true

-- a link was found that is no later than the one between two brokers: by sender, then by receiver
abbrev pub Leads : Option Hop → ℕ → ℕ → Type 0
Leads None from to = ⊥
Leads (Some hop) from to = (hop.from < from) ⊎ ((hop.from ≡ from) × (hop.to ≤ to))
