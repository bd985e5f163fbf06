-- Names of hosts, and the numbers that they end in (Flux RFC 29).
use Rattle.std.specs.Prelude.{ℕ, ◌≡◌, ◌+◌, ◌-◌, ◌==◌, ◌&&◌, ◌||◌, nat_lt, nat_le, List, ◌++◌, Bool, true, not, length, take, drop, replicate, bytes_eq}
use Rattle.std.specs.List.{list_all, suffix_len}
use Rattle.std.specs.Char.{is_ascii_alphanumeric, is_ascii_digit}
use Rattle.std.specs.Str.Parse.{digits_value}
use Rattle.std.specs.Fmt.{decimal}
use Rattle.lists.specs.Ascii.{dash, digit_zero, dot, underscore}

-- a letter, a digit, `-`, `.` or `_`
abbrev pub is_name_byte : ℕ → Bool
is_name_byte b = is_ascii_alphanumeric b || b == dash || b == dot || b == underscore

-- one or more of these bytes
abbrev pub is_host_name : List ℕ → Bool
is_host_name name = not (length name == 0) && list_all is_name_byte name

-- the name of one host of a hostlist
abbrev pub IsHostName : List ℕ → Type 0
IsHostName name = is_host_name name ≡ true

-- each is the name of one host
abbrev pub AreHostNames : List (List ℕ) → Type 0
AreHostNames names = list_all is_host_name names ≡ true

-- how long the longest run of digits at a name's end is
abbrev pub digits_len : List ℕ → ℕ
digits_len name = suffix_len is_ascii_digit name

-- that run, and what stands before it
abbrev pub number_digits : List ℕ → List ℕ
number_digits name = drop (length name - digits_len name) name

abbrev pub number_prefix : List ℕ → List ℕ
number_prefix name = take (length name - digits_len name) name

-- a host has a number where that run has 1 to 9 digits and something stands before it
abbrev pub is_numbered : List ℕ → Bool
is_numbered name = nat_lt 0 (digits_len name) && nat_le (digits_len name) 9
    && nat_lt (digits_len name) (length name)

-- the number that decimal digits write
abbrev pub value_of : List ℕ → ℕ
value_of digits = digits_value 10 digits

-- a number in decimal digits, with zeros before them up to this width
unfoldable pub padded : ℕ → ℕ → List ℕ
padded width number = replicate (width - length (decimal number)) digit_zero ++ decimal number

-- both hosts have numbers and what stands before these is the same
abbrev pub shares_prefix : List ℕ → List ℕ → Bool
shares_prefix a b = is_numbered a && is_numbered b && bytes_eq (number_prefix a) (number_prefix b)

-- besides, the digits of b are the number of a plus one, padded to the digits of a
abbrev pub follows : List ℕ → List ℕ → Bool
follows a b = shares_prefix a b && bytes_eq (number_digits b)
    (padded (length (number_digits a)) (value_of (number_digits a) + 1))
