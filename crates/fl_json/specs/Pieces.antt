-- What the pieces of a text are.
use Rattle.std.specs.Prelude.{ℕ, ◌==◌, List, [], ◌∷◌, Bool, false, length, if◌then◌else◌}
use Rattle.std.specs.List.{list_all}
use Rattle.json.specs.Ascii.{quote}
use Rattle.fl_json.specs.Numbers.{begins_number, continues_number, string_len}

-- a string up to its last quote or the text's end, bytes of one number token, or one other byte
abbrev pub is_piece : List ℕ → Bool
is_piece [] = false
is_piece (b ∷ bs) = if b == quote then string_len false bs == length bs
    else if begins_number b then list_all continues_number bs
    else length bs == 0
