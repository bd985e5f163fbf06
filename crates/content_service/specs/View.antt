-- A content service's value, from its fields.
use Rattle.std.specs.Prelude.{◌≡◌, false}
use Rattle.content_service.specs.declared.service.ContentService.TheInside.{Inside}
use Rattle.content_service.specs.Value.{ContentServiceValue}
use Rattle.content_service.specs.Sound.{IsSound}

abbrev pub value_of : Inside → ContentServiceValue
value_of s = record { spent = s.spent; size = s.size; content = s.contents; rows = s.rows.items }

-- a content service is sound unless it is spent
abbrev pub IsSoundInside : Inside → Type 0
IsSoundInside s = s.spent ≡ false → IsSound (value_of s)
