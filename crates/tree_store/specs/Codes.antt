-- How open directories are told apart, as the values of a type.
use Rattle.std.specs.Prelude.{ℕ, List}
use Rattle.std.specs.Coded.{Coded, coded_ℕ, coded_list, coded×}
use Rattle.tree_rules.specs.Objects.{Entries}
use Rattle.tree_objects.specs.Codes.{entries_code}
use Rattle.tree_store.specs.Shown.{Directories}

abbrev pub directories_code : Coded Directories
directories_code = coded_list (coded× (coded_list (coded_list coded_ℕ)) entries_code)

-- texts with what they tell
abbrev pub decoded_code : Coded (List ℕ × Entries)
decoded_code = coded× (coded_list coded_ℕ) entries_code

abbrev pub kept_code : Coded (List (List ℕ × Entries))
kept_code = coded_list decoded_code
