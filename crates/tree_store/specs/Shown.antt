-- The directories that a transaction has opened, and the store that they show.
use Rattle.std.specs.Prelude.{◌≡◌, ◌<◌, ℕ, zero, suc, true, List, [], ◌∷◌, ◌++◌, map, length, take, Option, Some, None, IsTrue, IsSome, option_and_then, Result, Ok, Err, not, nat_lt, if◌then◌else◌}
use Rattle.std.specs.FinMap.Entries as finite
use Rattle.std.specs.Global.{Vec}
use Rattle.std.specs.Option.{option_map_or}
use Rattle.std.specs.Ordering.{is_lt, eq_by_cmp}
use Rattle.fl_digest.specs.declared.BlobRef.{BlobRef}
use Rattle.fl_digest.specs.declared.Hash.{Hash}
use Rattle.fl_digest.specs.Reference.{reference_of}
use Rattle.kvs_txn.specs.declared.answers.Cause.{Cause}
use Rattle.kvs_txn.specs.declared.answers.Cause.TheVariants as cause
use Rattle.kvs_txn.specs.declared.txn.Author.{Author}
use Rattle.kvs_txn.specs.declared.txn.Author.TheVariants as author
use Rattle.kvs_model.specs.Store.{Name, Path, Node, Value, Directory, Link, Store, IsStore, root, node_at, path_cmp, is_within}
use Rattle.kvs_model.specs.Operation.{most_bytes}
use Rattle.kvs_txn.specs.declared.words.Target.{Target}
use Rattle.tree_store.specs.declared.walks.Further.{Further}
use Rattle.tree_store.specs.declared.walks.Further.TheVariants as further
use Rattle.tree_rules.specs.Held.{Table, IsStorable}
use Rattle.tree_rules.specs.Names.{name_cmp}
use Rattle.tree_rules.specs.Objects.{Tree, val, valref, dir, dirref, symlink, Entries, no_entries, entry, entries_of, listed, tree_text}
use Rattle.tree_rules.specs.Texts.{is_long, objects, objects_in, directory_text, directory_reference}

-- open directories, in the order of their paths
abbrev pub Directories : Type 0
Directories = List (Path × Entries)

-- the same by the components of their paths
abbrev pub keyed : List (Vec Name × Entries) → Directories
keyed directories = map (λ e. (e.0.items, e.1)) directories

-- the open directory at a path
abbrev pub opened_at : Directories → Path → Option Entries
opened_at directories path = finite.find path_cmp path directories

-- one path comes before another
abbrev pub IsBefore : Path → Path → Type 0
IsBefore path other = IsTrue (is_lt (path_cmp path other))

-- a path that begins with this name, as the directory above its end and the name there
abbrev pub split_last : Name → Path → Path × Name
split_last name [] = ([], name)
split_last name (next ∷ rest) = (name ∷ (split_last next rest).0, (split_last next rest).1)

-- the directory above a path and the name there, below the root
abbrev pub above : Path → Option (Path × Name)
above [] = None
above (name ∷ rest) = Some (split_last name rest)

-- the object under a name of an open directory
abbrev pub object_in : Directories → Path × Name → Option Tree
object_in directories at =
    option_and_then (λ es. finite.find name_cmp at.1 (listed es)) (opened_at directories at.0)

-- the object at a path below the root, if the directory above is open and has the name
abbrev pub object_at : Directories → Path → Option Tree
object_at directories path = option_and_then (object_in directories) (above path)

-- the reference of a closed directory
abbrev pub closed_reference : Option Tree → Option BlobRef
closed_reference None = None
closed_reference (Some (val bytes)) = None
closed_reference (Some (valref references)) = None
closed_reference (Some (dir es)) = None
closed_reference (Some (dirref reference)) = Some reference
closed_reference (Some (symlink target)) = None

abbrev pub closed_at : Directories → Path → Option BlobRef
closed_at directories path = closed_reference (object_at directories path)

-- the objects of a directory of a store, by their names
abbrev pub entries_at : Hash → Store → Path → Entries
entries_at hash st path = entries_of (objects_in path (objects hash st))

-- the table has these bytes under their reference
abbrev pub HasBlob : Hash → Table → List ℕ → Type 0
HasBlob hash table bytes = table (reference_of hash bytes) ≡ Some bytes

-- the table has the texts and the long values of all that stands at a path and below
pub record HasBelow (hash : Hash) (table : Table) (st : Store) (path : Path) : Type 0 where
  pub texts : (place : Path) → is_within path place ≡ true
      → node_at st place ≡ Some Directory → HasBlob hash table (directory_text hash st place)
  pub values : (place : Path) (bytes : List ℕ) → is_within path place ≡ true
      → node_at st place ≡ Some (Value bytes) → is_long bytes ≡ true → HasBlob hash table bytes

-- a long value, which stands by its reference
pub record IsLongValue (hash : Hash) (table : Table)
    (st : Store) (path : Path) (references : List BlobRef) : Type 0 where
  pub bytes : List ℕ
  pub value : node_at st path ≡ Some (Value bytes)
  pub long : is_long bytes ≡ true
  pub named : references ≡ reference_of hash bytes ∷ []
  pub held : HasBlob hash table bytes

-- a directory that isn't open, which stands by its reference
pub record IsClosed (hash : Hash) (table : Table) (directories : Directories)
    (st : Store) (path : Path) (reference : BlobRef) : Type 0 where
  pub directory : node_at st path ≡ Some Directory
  pub named : reference ≡ directory_reference hash st path
  pub closed : opened_at directories path ≡ None
  pub held : HasBelow hash table st path

-- the object, if there is one, stands for what the store has at a path: an open directory is one
-- without names here
abbrev pub Stands : Hash → Table → Directories → Store → Path → Option Tree → Type 0
Stands hash table directories st path None = node_at st path ≡ None
Stands hash table directories st path (Some (val bytes)) = node_at st path ≡ Some (Value bytes)
Stands hash table directories st path (Some (valref references)) =
    IsLongValue hash table st path references
Stands hash table directories st path (Some (dir es)) =
    (node_at st path ≡ Some Directory) × IsSome (opened_at directories path)
Stands hash table directories st path (Some (dirref reference)) =
    IsClosed hash table directories st path reference
Stands hash table directories st path (Some (symlink target)) = node_at st path ≡ Some (Link target)

-- the open directories show a store, whose other directories and long values the table has
pub record Shows (hash : Hash) (table : Table) (directories : Directories)
    (st : Store) : Type 0 where
  pub store : IsStore st
  pub storable : IsStorable st
  pub rooted : IsSome (opened_at directories root)
  pub places : (path : Path) → IsSome (opened_at directories path)
      → node_at st path ≡ Some Directory
  pub told : (path : Path) (es : Entries) (name : Name) → opened_at directories path ≡ Some es
      → Stands hash table directories st (path ++ name ∷ []) (finite.find name_cmp name (listed es))
  pub above : (path : Path) (name : Name) → IsSome (opened_at directories (path ++ name ∷ []))
      → IsSome (opened_at directories path)

-- the reference is that of a directory of a store, whose text the table has
pub record IsDirectoryOf (hash : Hash) (table : Table)
    (st : Store) (path : Path) (reference : BlobRef) : Type 0 where
  pub store : IsStore st
  pub storable : IsStorable st
  pub held : table reference ≡ Some (directory_text hash st path)

-- the same of some directory of some store
abbrev pub IsOfDirectory : Table → BlobRef → Type 0
IsOfDirectory table reference = (hash : Hash) × (st : Store)
    × (path : Path) × IsDirectoryOf hash table st path reference

-- all directories of the store above a path are open
abbrev pub OpensAbove : Directories → Store → Path → Type 0
OpensAbove directories st path = (k : ℕ) → k < length path
    → node_at st (take k path) ≡ Some Directory → IsSome (opened_at directories (take k path))

-- a directory stands above the path
abbrev pub IsInDirectory : Store → Path → Type 0
IsInDirectory st path = (at : Path × Name) → above path ≡ Some at → node_at st at.0 ≡ Some Directory

-- the store that is wanted is shown, or this is why there is none
abbrev pub Gives : {E : Type 0} → Hash → Table → Result Store E → Option E → Directories → Type 0
Gives hash table wanted None directories =
    (st : Store) × (wanted ≡ Ok st) × Shows hash table directories st
Gives hash table wanted (Some why) directories = wanted ≡ Err why

-- some store is shown
abbrev pub IsShown : Table → Directories → Type 0
IsShown table directories = (hash : Hash) × (st : Store) × Shows hash table directories st

-- an object as it stands in the text of a directory: a long value by its reference
abbrev pub shortened : Hash → Tree → Tree
shortened hash (val bytes) = if is_long bytes then valref (reference_of hash bytes ∷ [])
    else val bytes
shortened hash (valref references) = valref references
shortened hash (dir es) = dir es
shortened hash (dirref reference) = dirref reference
shortened hash (symlink target) = symlink target

-- entries as they stand there
abbrev pub all_shortened : Hash → Entries → Entries
all_shortened hash no_entries = no_entries
all_shortened hash (entry name tree es) = entry name (shortened hash tree) (all_shortened hash es)

-- entries of which the one at a place stands so
abbrev pub shortened_at : Hash → ℕ → Entries → Entries
shortened_at hash index no_entries = no_entries
shortened_at hash zero (entry name tree es) = entry name (shortened hash tree) es
shortened_at hash (suc index) (entry name tree es) = entry name tree (shortened_at hash index es)

-- ---- steps

-- with this object at a path whose directory above is open
abbrev pub put_in : Directories → Path × Name → Tree → Option Entries → Directories
put_in directories at tree None = directories
put_in directories at tree (Some es) =
    finite.put path_cmp at.0 (entries_of (finite.put name_cmp at.1 tree (listed es))) directories

abbrev pub with_object : Directories → Path → Tree → Directories
with_object directories path tree = option_map_or
    (λ at. put_in directories at tree (opened_at directories at.0)) (above path) directories

-- without the object at a path whose directory above is open
abbrev pub take_from : Directories → Path × Name → Option Entries → Directories
take_from directories at None = directories
take_from directories at (Some es) = finite.put path_cmp at.0 (entries_of (finite.where_key name_cmp
    (λ other. not (eq_by_cmp name_cmp at.1 other)) (listed es))) directories

abbrev pub without_object : Directories → Path → Directories
without_object directories path = option_map_or
    (λ at. take_from directories at (opened_at directories at.0)) (above path) directories

-- without the open directories at and below a path
abbrev pub closed_within : Directories → Path → Directories
closed_within directories path =
    finite.where_key path_cmp (λ place. not (is_within path place)) directories

-- with one more open directory, below the root
abbrev pub with_open : Directories → Path → Entries → Directories
with_open directories path es =
    finite.put path_cmp path es (with_object directories path (dir no_entries))

-- the path to which a link leads in its own store, and none where it names a namespace
abbrev pub path_in_store : Option Name → Path → Option Path
path_in_store None path = Some path
path_in_store (Some name) path = None

abbrev pub own_path : Target → Option Path
own_path target = path_in_store target.namespace target.path

-- the same of what the code tells
abbrev pub path_further : Further → Option Path
path_further (further.Inside path) = Some path.items
path_further further.Outside = None

-- the target of a link, if a link stands there
abbrev pub link_target : Option Node → Option Target
link_target None = None
link_target (Some (Value bytes)) = None
link_target (Some Directory) = None
link_target (Some (Link target)) = Some target

-- why bytes of this length are refused as a user's
abbrev pub too_long : Author → List ℕ → Option Cause
too_long author.Manager bytes = None
too_long (author.User id) bytes =
    if nat_lt most_bytes (length bytes) then Some cause.ValueFull else None

-- why an append to what stands at a place is refused
abbrev pub append_cause : Author → Option Node → List ℕ → Option Cause
append_cause who None bytes = too_long who bytes
append_cause who (Some (Value old)) bytes = too_long who (old ++ bytes)
append_cause who (Some Directory) bytes = Some cause.IsDir
append_cause who (Some (Link target)) bytes = Some cause.IsLink

-- what a value or a link that an operation writes is to the store; other objects are no such
abbrev pub IsNodeOf : Tree → Node → Type 0
IsNodeOf (val bytes) node = node ≡ Value bytes
IsNodeOf (valref references) node = ⊥
IsNodeOf (dir es) node = ⊥
IsNodeOf (dirref reference) node = ⊥
IsNodeOf (symlink target) node = node ≡ Link target

-- the long values that stand whole in entries
abbrev pub long_values : Entries → List (List ℕ)
long_values no_entries = []
long_values (entry name (val bytes) es) =
    (if is_long bytes then bytes ∷ [] else []) ++ long_values es
long_values (entry name (valref references) es) = long_values es
long_values (entry name (dir inner) es) = long_values es
long_values (entry name (dirref reference) es) = long_values es
long_values (entry name (symlink target) es) = long_values es

-- the long value that stands whole at a place of entries, if one does
abbrev pub long_values_at : ℕ → Entries → List (List ℕ)
long_values_at index no_entries = []
long_values_at zero (entry name tree es) = long_values (entry name tree no_entries)
long_values_at (suc index) (entry name tree es) = long_values_at index es

-- the text in which entries stand, none of which is an open directory
unfoldable pub entries_text : Hash → Entries → List ℕ
entries_text hash es = tree_text (dir (all_shortened hash es))

-- the byte strings that stand by their references then: the text, and the long values
abbrev pub strings_of : Hash → Entries → List (List ℕ)
strings_of hash es = entries_text hash es ∷ long_values es
