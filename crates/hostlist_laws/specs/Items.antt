-- A list of hosts as data: its items, the text that writes them, and their hosts (Flux RFC 29).
use Rattle.std.specs.Prelude.{ℕ, ◌≡◌, ◌+◌, ◌-◌, ◌<◌, ◌≤◌, List, [], ◌∷◌, ◌++◌, map, flat_map, true, Option, length, unwrap_or}
use Rattle.std.specs.Option.{option_map_or}
use Rattle.std.specs.List.{AllByRecursion as Each, join_with_byte, range_with_len}
use Rattle.std.specs.Str.{all_ascii_digits}
use Rattle.lists.specs.Ascii.{closing_bracket, comma, dash, opening_bracket}
use Rattle.hostlist.specs.Names.{IsHostName, padded, value_of}

-- a range in a bracket: the digits of its first number, and of its last one where it has a dash
pub record Range : Type 0 where
  pub first : List ℕ
  pub last : Option (List ℕ)

-- one host by its name, or a prefix with ranges in a bracket
pub data Item : Type 0 where
  Host : (name : List ℕ) → Item
  Bracket : (prefix : List ℕ) (ranges : List Range) → Item

-- the digits of the last number of a range, which is its first one where it has no dash
abbrev pub last_of : Range → List ℕ
last_of range = unwrap_or range.last range.first

-- a number has 1 to 9 digits
pub record IsNumber (digits : List ℕ) : Type 0 where
  pub decimal : all_ascii_digits digits ≡ true
  pub some : 0 < length digits
  pub short : length digits ≤ 9

-- a range has such numbers, and the last isn't below the first
pub record IsRange (range : Range) : Type 0 where
  pub first : IsNumber range.first
  pub last : IsNumber (last_of range)
  pub ordered : value_of range.first ≤ value_of (last_of range)

-- an item is a host's name, or a prefix of the same bytes with at least one range
abbrev pub IsItem : Item → Type 0
IsItem (Host name) = IsHostName name
IsItem (Bracket prefix ranges) = IsHostName prefix × (0 < length ranges) × Each IsRange ranges

-- each is so
abbrev pub AreItems : List Item → Type 0
AreItems items = Each IsItem items

-- the text of a range: `3`, or `08-10`
abbrev pub range_text : Range → List ℕ
range_text range = option_map_or (λ last. range.first ++ dash ∷ last) range.last range.first

-- the text of an item: `login`, or `node[08-10,3]`
abbrev pub item_text : Item → List ℕ
item_text (Host name) = name
item_text (Bracket prefix ranges) = prefix ++ opening_bracket
    ∷ (join_with_byte comma (map range_text ranges) ++ closing_bracket ∷ [])

-- the text of items: theirs, joined by commas
abbrev pub text_of : List Item → List ℕ
text_of items = join_with_byte comma (map item_text items)

-- the numbers of a range, from its first to its last one
abbrev pub numbers_of : Range → List ℕ
numbers_of range =
    range_with_len (value_of range.first) (value_of (last_of range) + 1 - value_of range.first)

-- the hosts of a range: each number behind the prefix, with zeros before it up to as many digits as
-- the first one is written with
abbrev pub range_hosts : List ℕ → Range → List (List ℕ)
range_hosts prefix range =
    map (λ number. prefix ++ padded (length range.first) number) (numbers_of range)

-- the hosts of an item
abbrev pub item_hosts : Item → List (List ℕ)
item_hosts (Host name) = name ∷ []
item_hosts (Bracket prefix ranges) = flat_map (range_hosts prefix) ranges

-- the hosts of items, in their order
abbrev pub hosts_of : List Item → List (List ℕ)
hosts_of items = flat_map item_hosts items
