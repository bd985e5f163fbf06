-- What losses and resyncs leave of a namespace.
use Rattle.std.specs.Prelude.{ℕ, if◌then◌else◌, [], ◌∷◌, ◌++◌, slice_index, slice_set}
use Rattle.kvs_rules.specs.Brokers.{parent}
use Rattle.kvs_space.specs.Links.{after_loss}
use Rattle.kvs_space.specs.Space.{SpaceValue, is_behind, link_at}
use Rattle.kvs_space.specs.declared.links.Loss.{Loss}

-- the namespace after a loss on the way to the broker
abbrev pub with_loss : Loss → ℕ → SpaceValue → SpaceValue
with_loss loss broker s = record s {
  links = slice_set s.links broker (after_loss loss (link_at s.links broker));
}

-- the namespace in which the broker above announces its newest root anew, if this one is behind it
abbrev pub resynced : ℕ → ℕ → SpaceValue → SpaceValue
resynced fanout broker s = if is_behind fanout broker s then record s {
  links = slice_set s.links broker
      (link_at s.links broker ++ slice_index s.known (parent fanout broker) ∷ []);
} else s
