-- The values that texts with whole numbers have.
use Rattle.std.specs.Prelude.{◌^◌, ◌<◌, ℕ, ℤ, pos, negsuc, List, ⊤, IsTrue}
use Rattle.std.specs.Ordering.{nat_cmp, is_lt}
use Rattle.std.specs.Cmp.Lexicographic.{slice_cmp}
use Rattle.serde_json.specs.Data.{Num, unsigned, negative, float, Data, null, boolean, number, string, array, object, Items, no_items, item, Members, no_members, member}

-- a number from -2^63 to 2^64 - 1
abbrev pub IsBelowZero : ℤ → Type 0
IsBelowZero (pos n) = ⊥
IsBelowZero (negsuc n) = n < 2 ^ 63

abbrev pub IsWhole : Num → Type 0
IsWhole (unsigned n) = n < 2 ^ 64
IsWhole (negative z) = IsBelowZero z
IsWhole (float x) = ⊥

-- the first key of the members, if there is one, stands behind this key in the order of bytes
abbrev pub IsBefore : List ℕ → Members → Type 0
IsBefore key no_members = ⊤
IsBefore key (member next d ms) = IsTrue (is_lt (slice_cmp nat_cmp key next))

-- numbers are whole, and the keys of each object rise
abbrev mutual
  pub IsValid : Data → Type 0
  IsValid null = ⊤
  IsValid (boolean b) = ⊤
  IsValid (number n) = IsWhole n
  IsValid (string s) = ⊤
  IsValid (array ds) = AreValid ds
  IsValid (object ms) = HaveValid ms

  pub AreValid : Items → Type 0
  AreValid no_items = ⊤
  AreValid (item d ds) = IsValid d × AreValid ds

  pub HaveValid : Members → Type 0
  HaveValid no_members = ⊤
  HaveValid (member key d ms) = IsBefore key ms × IsValid d × HaveValid ms
