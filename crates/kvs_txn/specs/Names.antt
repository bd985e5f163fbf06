-- Names of namespaces.
use Rattle.std.specs.Prelude.{ℕ, ◌==◌, List, length, Bool, not, ◌&&◌, ◌||◌, nat_le}
use Rattle.std.specs.Char.{is_ascii_alphanumeric}
use Rattle.std.specs.List.{list_all}
use Rattle.lists.specs.Ascii.{dash, underscore}

-- the most bytes of a name
abbrev pub most_name : ℕ
most_name = 64

-- a letter, a digit, a dash or an underscore of ASCII
abbrev pub is_name_byte : ℕ → Bool
is_name_byte b = is_ascii_alphanumeric b || b == dash || b == underscore

-- a name is 1 to 64 of these bytes
abbrev pub is_name : List ℕ → Bool
is_name name =
    not (length name == 0) && nat_le (length name) most_name && list_all is_name_byte name
