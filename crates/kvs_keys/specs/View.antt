-- A service's value, from its fields.
use Rattle.std.specs.Prelude.{◌≡◌, false}
use Rattle.kvs_keys.specs.declared.service.Keys.TheInside.{Inside}
use Rattle.kvs_keys.specs.Value.{KeysValue}
use Rattle.kvs_keys.specs.Sound.{IsSound}
use Rattle.kvs_space.specs.Roll.{IsRoll}

abbrev pub value_of : Inside → KeysValue
value_of c = record {
  spent = c.spent;
  size = c.size;
  fanout = c.fanout;
  grant = c.grant;
  spaces = c.spaces.items;
  rows = c.rows.items;
}

-- a service of keys is sound, and its roll is that of its namespaces, unless it is spent
abbrev pub IsSoundInside : Inside → Type 0
IsSoundInside c = (c.spent ≡ false → IsSound (value_of c))
    × (c.spent ≡ false → IsRoll c.roll c.spaces.items)
