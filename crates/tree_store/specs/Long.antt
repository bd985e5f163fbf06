-- The values that don't stand in the texts of their directories.
use Rattle.std.specs.Prelude.{Bool, false}
use Rattle.tree_rules.specs.Objects.{Tree, val, valref, dir, dirref, symlink}
use Rattle.tree_rules.specs.Texts.{is_long}

-- whether an object is a value that is to stand by its reference
abbrev pub is_long_value : Tree → Bool
is_long_value (val bytes) = is_long bytes
is_long_value (valref references) = false
is_long_value (dir es) = false
is_long_value (dirref reference) = false
is_long_value (symlink target) = false
