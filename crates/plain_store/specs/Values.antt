-- The value at a place of a store.
use Rattle.std.specs.Prelude.{ℕ, List, Option, Some, None}
use Rattle.kvs_model.specs.Store.{Node, Value, Directory, Link}

-- the bytes of a value, if a value stands there
abbrev pub value_in : Option Node → Option (List ℕ)
value_in None = None
value_in (Some (Value bytes)) = Some bytes
value_in (Some Directory) = None
value_in (Some (Link target)) = None
