-- What a text is read as, and what an object has under a key.
use Rattle.std.specs.Prelude.{ℕ, List, Option, Some, None, option_and_then, Result, Err, is_some, if◌then◌else◌}
use Rattle.std.specs.Option.{ok_or}
use Rattle.std.specs.Str.{is_utf8}
use Rattle.serde_json.specs.Data.{Data}
use Rattle.serde_json.specs.Find.{get, as_object, as_number, as_u64}
use Rattle.serde_json.specs.Read.{read}
use Rattle.fl_json.specs.Numbers.{first_bad_number, rewritten}
use Rattle.fl_json.specs.declared.faults.JsonFault.{JsonFault}
use Rattle.fl_json.specs.declared.faults.JsonFault.TheVariants.{NoMemory, BadNumber, NotJson, Missing, WrongKind}

-- the value of a text that is UTF-8, by the grammar of `serde_json`
abbrev pub json_value : List ℕ → Option Data
json_value text = if is_utf8 text then read text else None

-- the first bad number counts before all else
abbrev pub unless_bad : {T : Type 0} → Option ℕ → Result T JsonFault → Result T JsonFault
unless_bad (Some place) found = Err (BadNumber place)
unless_bad None found = found

-- the value of a text in which numbers are whole, or its fault
unfoldable pub reading : List ℕ → Result Data JsonFault
reading text = unless_bad (first_bad_number text) (ok_or (json_value (rewritten text)) NotJson)

-- the faults that tell of what is read: all but want of memory
abbrev pub lasting : JsonFault → Option JsonFault
lasting NoMemory = None
lasting fault = Some fault

-- ---- fields

-- a value seen as one kind of value, or this fault where there is none
abbrev pub of_kind : {Y : Type 0} → (Data → Option Y) → Option Data → JsonFault → Result Y JsonFault
of_kind kind None absent = Err absent
of_kind kind (Some d) absent = ok_or (kind d) WrongKind

-- what an object has under a key, seen as one kind of value; only of an object it can be missing
abbrev pub field_as : {Y : Type 0} → (Data → Option Y) → List ℕ → Data → Result Y JsonFault
field_as kind key d =
    of_kind kind (get key d) (if is_some (as_object d) then Missing else WrongKind)

-- any value
abbrev pub as_any : Data → Option Data
as_any d = Some d

-- a whole number of at least 0
abbrev pub as_natural : Data → Option ℕ
as_natural d = option_and_then as_u64 (as_number d)
