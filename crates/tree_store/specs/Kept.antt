-- Directories that stay decoded, beside their texts.
use Rattle.std.specs.Prelude.{ℕ, List, Ok}
use Rattle.tree_rules.specs.Objects.{Entries}
use Rattle.tree_objects.specs.Reading.{Gives}
use Rattle.tree_objects.specs.declared.object.Object.TheVariants.{Dir}

-- the most directories that stay decoded
abbrev pub most_kept : ℕ
most_kept = 32

-- the text tells these entries, and no others
abbrev pub IsDecoded : List ℕ × Entries → Type 0
IsDecoded decoded = Gives decoded.0 (Ok (Dir decoded.1))
