-- Which steps a service of keys can make, and what each does at least.
use Rattle.std.specs.Prelude.{◌≡◌, ℕ, ◌+◌, ◌<◌, ◌≤◌, ◌⊎◌, ◌==◌, ◌&&◌, ◌||◌, not, nat_lt, List, Bool, true, false, length, count_by, slice_get}
use Rattle.std.specs.List.{list_any, sum_by}
use Rattle.std.specs.Option.{option_map_or}
use Rattle.kvs_txn.specs.declared.txn.By.{By}
use Rattle.kvs_rules.specs.Log.{same_command}
use Rattle.kvs_rules.specs.declared.events.KvsEvent.{KvsEvent}
use Rattle.kvs_rules.specs.declared.events.KvsStep.{KvsStep}
use Rattle.kvs_rules.specs.declared.events.KvsStep.TheVariants as kvs
use Rattle.kvs_space.specs.Space.{SpaceValue, has_news, is_behind, is_ready, link_at}
use Rattle.kvs_rules.specs.Brokers.{parent}
use Rattle.kvs_keys.specs.Value.{KeysValue}
use Rattle.kvs_requests.specs.Stages.{is_on, may_serve, is_held, all_services}

-- whether an announcement is on the way between two brokers
abbrev pub is_announced : KeysValue → ℕ → ℕ → Bool
is_announced v from to = nat_lt 0 to && nat_lt to v.size
    && (parent v.fanout to == from) && list_any (has_news to) v.spaces

-- whether the broker has missed an announcement: it is behind the broker above it, and none is on
-- the way to it
abbrev pub has_missed : KeysValue → ℕ → Bool
has_missed v broker = nat_lt broker v.size && not (list_any (has_news broker) v.spaces)
    && list_any (is_behind v.fanout broker) v.spaces

-- whether the step can be made
abbrev pub can_step : KeysValue → KvsStep → Bool
can_step v (kvs.Deliver from to) = is_announced v from to || list_any (is_on from to) v.rows
can_step v (kvs.Land number) = option_map_or is_ready (slice_get v.spaces number) false
can_step v (kvs.Serve broker) = nat_lt broker v.size && list_any (may_serve v.spaces broker) v.rows
can_step v (kvs.Lose from to) = is_announced v from to
can_step v (kvs.Repeat from to) = is_announced v from to
can_step v (kvs.Swap from to) = is_announced v from to
can_step v (kvs.Resync broker) = has_missed v broker

-- whether the command's answer waits to be taken
abbrev pub can_take : KeysValue → By → Bool
can_take v by = list_any (λ row. same_command by row.by && is_held row) v.rows

-- no step can be made, and no answer waits to be taken
pub record IsStill (v : KeysValue) : Type 0 where
  pub steps : (step : KvsStep) → can_step v step ≡ false
  pub answers : (by : By) → can_take v by ≡ false

-- how many announcements are on the way to the broker
abbrev pub news : List SpaceValue → ℕ → ℕ
news spaces broker = sum_by (λ s. length (link_at s.links broker)) spaces

-- the messages on the link between two brokers
abbrev pub messages : KeysValue → ℕ → ℕ → ℕ
messages v from to =
    (if_on (parent v.fanout to == from) (news v.spaces to)) + count_by (is_on from to) v.rows
  where
    if_on : Bool → ℕ → ℕ
    if_on true n = n
    if_on false n = 0

-- what a step does at least: a message leaves its link, a landing or a denial happens, a request is
-- taken up or answered, or a namespace is opened or removed; a loss takes a message from its link,
-- adds one, or leaves as many, and after a resync one is on the way
abbrev pub DoesStep : KvsStep → KeysValue → KeysValue → List KvsEvent → Type 0
DoesStep (kvs.Deliver from to) old new events = messages new from to < messages old from to
DoesStep (kvs.Land number) old new events = 1 ≤ length events
DoesStep (kvs.Serve broker) old new events =
    (all_services new.rows < all_services old.rows) ⊎ (1 ≤ length events)
DoesStep (kvs.Lose from to) old new events = messages new from to < messages old from to
DoesStep (kvs.Repeat from to) old new events = messages old from to < messages new from to
DoesStep (kvs.Swap from to) old new events = messages new from to ≡ messages old from to
DoesStep (kvs.Resync broker) old new events =
    is_announced new (parent old.fanout broker) broker ≡ true
