-- Directories of objects.
use Rattle.std.specs.Prelude.{ℕ, ◌+◌, List, map, IsTrue}
use Rattle.std.specs.FinMap.Entries as finite
use Rattle.std.specs.List.{AllByRecursion}
use Rattle.std.specs.Str.{IsUtf8}
use Rattle.kvs_model.specs.Store.{Name}
use Rattle.tree_rules.specs.Names.{name_cmp}
use Rattle.tree_rules.specs.Objects.{Tree, val, valref, dir, dirref, symlink, Entries, no_entries, entry, listed}

-- how many names there are, at all levels
abbrev mutual
  pub tree_size : Tree → ℕ
  tree_size (val bytes) = 0
  tree_size (valref references) = 0
  tree_size (dir es) = entries_size es
  tree_size (dirref reference) = 0
  tree_size (symlink target) = 0

  pub entries_size : Entries → ℕ
  entries_size no_entries = 0
  entries_size (entry name tree es) = (tree_size tree + entries_size es) + 1

-- the names of entries
abbrev pub names_of : Entries → List Name
names_of es = map (λ e. e.0) (listed es)

-- entries in the byte order of their names, which are texts
pub record IsDirectory (es : Entries) : Type 0 where
  pub sorted : IsTrue (finite.is_sorted name_cmp (listed es))
  pub texts : AllByRecursion IsUtf8 (names_of es)

-- entries with one more behind them
abbrev pub with_last : Entries → Name → Tree → Entries
with_last no_entries name tree = entry name tree no_entries
with_last (entry other first es) name tree = entry other first (with_last es name tree)
