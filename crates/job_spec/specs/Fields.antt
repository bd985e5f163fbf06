-- What stands in a JSON value, and the faults that a jobspec has there.
use Rattle.std.specs.Prelude.{ℕ, ◌&&◌, nat_le, List, [], ◌∷◌, Bool, Option, Some, None, option_map, option_and_then, Result, Ok, Err, if◌then◌else◌}
use Rattle.std.specs.Option.{ok_or}
use Rattle.serde_json.specs.Data.{Data, Num, Items}
use Rattle.serde_json.specs.Data as json
use Rattle.serde_json.specs.Find.{get, as_number, as_u64, as_array}
use Rattle.job_spec.specs.declared.faults.Place.{Place}
use Rattle.job_spec.specs.declared.faults.SpecFault.{SpecFault}
use Rattle.job_spec.specs.declared.faults.SpecFault.TheVariants.{NoMemory, BadField, BadShape, BadCount}

infixl 10 ◌>>=◌
abbrev pub ◌>>=◌ : {A B E : Type 0} → Result A E → (A → Result B E) → Result B E
(Ok x) >>= f = f x
(Err e) >>= f = Err e

-- nothing where a test holds, and else a fault
abbrev pub unless : SpecFault → Bool → Result (Unit {0}) SpecFault
unless fault test = if test then Ok tt else Err fault

-- what is made of each element, or the first fault
abbrev pub each : {A B E : Type 0} → (A → Result B E) → List A → Result (List B) E
each f [] = Ok []
each f (x ∷ xs) = do
  y ← f x
  ys ← each f xs
  Ok (y ∷ ys)

-- ---- values

-- a value of any kind
abbrev pub as_any : Data → Option Data
as_any d = Some d

-- a whole number of at least 0
abbrev pub as_natural : Data → Option ℕ
as_natural d = option_and_then as_u64 (as_number d)

abbrev pub list_of : Items → List Data
list_of json.no_items = []
list_of (json.item d ds) = d ∷ list_of ds

-- a list of values
abbrev pub as_list : Data → Option (List Data)
as_list d = option_map list_of (as_array d)

-- an object, seen as itself
abbrev pub as_map : Data → Option Data
as_map json.null = None
as_map (json.boolean b) = None
as_map (json.number n) = None
as_map (json.string s) = None
as_map (json.array ds) = None
as_map (json.object ms) = Some (json.object ms)

-- a value of one kind
abbrev pub of_kind : {Y : Type 0} → (Data → Option Y) → Place → Data → Result Y SpecFault
of_kind kind place d = ok_or (kind d) (BadField place)

-- a field of one kind that must be there
abbrev pub field : {Y : Type 0} → (Data → Option Y) → Place → List ℕ → Data → Result Y SpecFault
field kind place key d = ok_or (option_and_then kind (get key d)) (BadField place)

-- a field of one kind that may be missing
abbrev pub field_or : {Y : Type 0} → Y → (Data → Option Y)
    → Place → Option Data → Result Y SpecFault
field_or absent kind place None = Ok absent
field_or absent kind place (Some d) = of_kind kind place d

-- the one element of a list
abbrev pub only : Place → List Data → Result Data SpecFault
only place [] = Err (BadShape place)
only place (d ∷ []) = Ok d
only place (d ∷ e ∷ ds) = Err (BadShape place)

-- a number from 1 to 65,536
abbrev pub as_count : Num → Option ℕ
as_count number =
    option_and_then (λ n. if nat_le 1 n && nat_le n 65536 then Some n else None) (as_u64 number)

-- a count: a number, and one of these
abbrev pub count_of : Place → Data → Result ℕ SpecFault
count_of place d = of_kind as_number place d >>= λ number. ok_or (as_count number) (BadCount place)

abbrev pub count_at : Place → List ℕ → Data → Result ℕ SpecFault
count_at place key d = field as_any place key d >>= count_of place

-- ---- answers of calls

-- the faults that tell of what is read: all but want of memory
abbrev pub lasting : SpecFault → Option SpecFault
lasting NoMemory = None
lasting fault = Some fault
