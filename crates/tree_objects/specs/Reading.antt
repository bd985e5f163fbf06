-- Which object the text of an object tells, and the faults of texts that tell none.
use Rattle.std.specs.Prelude.{◌≡◌, ◌≢◌, ◌≤◌, ℕ, ◌==◌, List, [], ◌∷◌, Bool, true, false, Option, Some, None, option_and_then, Result, Ok, Err, IfSome, IsTrue, ⊤, codes, length}
use Rattle.std.specs.FinMap.Entries as finite
use Rattle.std.specs.List.{AllByRecursion, list_any}
use Rattle.std.specs.Option.{option_map_or}
use Rattle.std.specs.Str.{IsUtf8, bytes_eq}
use Rattle.base64.specs.Engines.{standard}
use Rattle.base64.specs.GeneralPurpose.{decode_of, IsBytes}
use Rattle.fl_digest.specs.declared.BlobRef.{BlobRef}
use Rattle.fl_digest.specs.Reference.{reference_text, IsReferenceText, IsWhole}
use Rattle.fl_json.specs.Reading.{as_natural, reading}
use Rattle.kvs_model.specs.Store.{Name, Path}
use Rattle.kvs_txn.specs.Keys.{components, IsKey}
use Rattle.kvs_txn.specs.Names.{is_name}
use Rattle.kvs_txn.specs.declared.words.Target.{Target}
use Rattle.serde_json.specs.Data.{Data, string, array, object, Items, no_items, item, Members, no_members, member, depth}
use Rattle.serde_json.specs.Find.{get, as_str}
use Rattle.tree_rules.specs.Objects.{Tree, val, valref, dir, dirref, symlink, Entries, no_entries, entry, listed, tree_data}
use Rattle.tree_rules.specs.Names.{name_cmp}
use Rattle.tree_objects.specs.Level.{tree_of}
use Rattle.tree_objects.specs.declared.faults.ObjectFault.{ObjectFault}
use Rattle.tree_objects.specs.declared.faults.ObjectFault.TheVariants.{NoMemory, NotJson, BadVersion, BadType, BadData}
use Rattle.tree_objects.specs.declared.object.Object.{Object}
use Rattle.tree_objects.specs.declared.reading.Kind.{Kind}
use Rattle.tree_objects.specs.declared.reading.Kind.TheVariants as kind

-- whether the version is 1
abbrev pub is_version_1 : Data → Bool
is_version_1 d =
    option_map_or (λ n. n == 1) (option_and_then as_natural (get (codes "ver") d)) false

-- the text under `type`
abbrev pub type_of : Data → Option (List ℕ)
type_of d = option_and_then as_str (get (codes "type") d)

-- the types of objects
abbrev pub types : List (List ℕ)
types = codes "val" ∷ codes "valref" ∷ codes "dir" ∷ codes "dirref" ∷ codes "symlink" ∷ []

-- whether the type is one of them
abbrev pub has_type : Data → Bool
has_type d = option_map_or (λ kind. list_any (bytes_eq kind) types) (type_of d) false

-- an object of this type with these data
pub record IsObject (kind : List ℕ) (content d : Data) : Type 0 where
  pub version : is_version_1 d ≡ true
  pub typed : type_of d ≡ Some kind
  pub holds : get (codes "data") d ≡ Some content

-- the text of a reference
pub record TellsReference (d : Data) (reference : BlobRef) : Type 0 where
  pub text : d ≡ string (reference_text reference)
  pub well_formed : IsReferenceText (reference_text reference)

-- texts of references
abbrev pub TellReferences : Items → List BlobRef → Type 0
TellReferences no_items [] = ⊤
TellReferences no_items (r ∷ rs) = ⊥
TellReferences (item d ds) [] = ⊥
TellReferences (item d ds) (r ∷ rs) = TellsReference d r × TellReferences ds rs

-- the path of a link, whose text is a key
pub record TellsPath (d : Data) (path : Path) : Type 0 where
  pub text : List ℕ
  pub target : get (codes "target") d ≡ Some (string text)
  pub spelled : path ≡ components text
  pub short : length text ≤ 255
  pub few : length (components text) ≤ 32

-- the namespace that a link names, if there is one
abbrev pub TellsSpace : Data → Option Name → Type 0
TellsSpace d None = get (codes "namespace") d ≡ None
TellsSpace d (Some name) =
    (get (codes "namespace") d ≡ Some (string name)) × IsTrue (is_name name)

-- where a link leads
pub record TellsTarget (d : Data) (target : Target) : Type 0 where
  pub inside : TellsPath d target.path
  pub space : TellsSpace d target.namespace

-- the bytes that a text in base64 writes
pub record TellsBytes (d : Data) (bytes : List ℕ) : Type 0 where
  pub text : List ℕ
  pub written : d ≡ string text
  pub read : decode_of standard text ≡ Ok bytes

-- the references of a list, of which there is one at least
pub record TellsList (d : Data) (references : List BlobRef) : Type 0 where
  pub items : Items
  pub list : d ≡ array items
  pub told : TellReferences items references
  pub some : references ≢ []

-- the value tells the object; other keys are read over
abbrev mutual
  pub Tells : Data → Tree → Type 0
  Tells d (val bytes) = (content : Data) × IsObject (codes "val") content d
      × TellsBytes content bytes
  Tells d (valref references) = (content : Data) × IsObject (codes "valref") content d
      × TellsList content references
  Tells d (dir es) = (members : Members) × IsObject (codes "dir") (object members) d
      × TellEntries members es
  Tells d (dirref reference) = (content : Data) × IsObject (codes "dirref") content d
      × TellsList content (reference ∷ [])
  Tells d (symlink target) = (content : Data) × IsObject (codes "symlink") content d
      × TellsTarget content target

  -- the members tell the entries
  pub TellEntries : Members → Entries → Type 0
  TellEntries no_members no_entries = ⊤
  TellEntries no_members (entry name tree es) = ⊥
  TellEntries (member key d ms) no_entries = ⊥
  TellEntries (member key d ms) (entry name tree es) =
      (key ≡ name) × Tells d tree × TellEntries ms es

-- what a value gives: the object that it tells, or the first fault
abbrev pub GivesObject : Data → Result Object ObjectFault → Type 0
GivesObject d (Ok found) = Tells d (tree_of found)
GivesObject d (Err NoMemory) = ⊤
GivesObject d (Err (NotJson fault)) = ⊥
GivesObject d (Err BadVersion) = is_version_1 d ≡ false
GivesObject d (Err BadType) = (is_version_1 d ≡ true) × (has_type d ≡ false)
GivesObject d (Err BadData) = (is_version_1 d ≡ true)
    × (has_type d ≡ true) × ((tree : Tree) → Tells d tree → ⊥)

-- what a text gives: the object that it tells, or the first fault
abbrev pub Gives : List ℕ → Result Object ObjectFault → Type 0
Gives text (Err NoMemory) = ⊤
Gives text (Err (NotJson fault)) = reading text ≡ Err fault
Gives text (Err BadVersion) = (d : Data) × (reading text ≡ Ok d) × GivesObject d (Err BadVersion)
Gives text (Err BadType) = (d : Data) × (reading text ≡ Ok d) × GivesObject d (Err BadType)
Gives text (Err BadData) = (d : Data) × (reading text ≡ Ok d) × GivesObject d (Err BadData)
Gives text (Ok found) = (d : Data) × (reading text ≡ Ok d) × Tells d (tree_of found)

-- an object that is read again from its text, as each is whose parts are those of values of the
-- program: bytes are below 256, references whole and, of a value, not none, the path of a link
-- is that of a key, in a namespace with a name if it names one, and the names of a directory rise
abbrev mutual
  pub IsReadable : Tree → Type 0
  IsReadable (val bytes) = IsBytes bytes
  IsReadable (valref references) = AllByRecursion IsWhole references × (references ≢ [])
  IsReadable (dir es) = IsTrue (finite.is_sorted name_cmp (listed es)) × AreReadable es
  IsReadable (dirref reference) = IsWhole reference
  IsReadable (symlink target) =
      IsKey target.path × IfSome target.namespace (λ name. IsTrue (is_name name))

  pub AreReadable : Entries → Type 0
  AreReadable no_entries = ⊤
  AreReadable (entry name tree es) = IsReadable tree × AreReadable es

-- an object in which all names are texts
abbrev mutual
  pub HasTextNames : Tree → Type 0
  HasTextNames (val bytes) = ⊤
  HasTextNames (valref references) = ⊤
  HasTextNames (dir es) = HaveTextNames es
  HasTextNames (dirref reference) = ⊤
  HasTextNames (symlink target) = ⊤

  pub HaveTextNames : Entries → Type 0
  HaveTextNames no_entries = ⊤
  HaveTextNames (entry name tree es) = IsUtf8 name × HasTextNames tree × HaveTextNames es

-- an object that is read again, and is no directory
pub record IsFlat (tree : Tree) : Type 0 where
  pub readable : IsReadable tree
  pub shallow : depth (tree_data tree) ≤ 2

-- ---- in the making

-- what a part of a text gives
abbrev pub GivesPart : {X : Type 0} → (X → Type 0) → Result X ObjectFault → Type 0
GivesPart P (Ok x) = P x
GivesPart P (Err NoMemory) = ⊤
GivesPart P (Err (NotJson fault)) = ⊥
GivesPart P (Err BadVersion) = ⊥
GivesPart P (Err BadType) = ⊥
GivesPart {X = X} P (Err BadData) = (x : X) → P x → ⊥

-- the name of a type
abbrev pub kind_text : Kind → List ℕ
kind_text kind.Val = codes "val"
kind_text kind.Valref = codes "valref"
kind_text kind.Dir = codes "dir"
kind_text kind.Dirref = codes "dirref"
kind_text kind.Symlink = codes "symlink"

-- the type that a value tells, if it is one
abbrev pub TellsKind : Data → Option Kind → Type 0
TellsKind d (Some kind) = type_of d ≡ Some (kind_text kind)
TellsKind d None = has_type d ≡ false

abbrev pub NamesKind : List ℕ → Option Kind → Type 0
NamesKind text (Some kind) = text ≡ kind_text kind
NamesKind text None = list_any (bytes_eq text) types ≡ false

-- the fault of a directory in which an object has this fault
abbrev pub inner_fault : ObjectFault → ObjectFault
inner_fault NoMemory = NoMemory
inner_fault (NotJson fault) = BadData
inner_fault BadVersion = BadData
inner_fault BadType = BadData
inner_fault BadData = BadData

-- the reference of a list of exactly one
abbrev pub IsOnly : List BlobRef → Option BlobRef → Type 0
IsOnly references (Some reference) = references ≡ reference ∷ []
IsOnly references None = length references ≢ 1

-- these references, where there are any
abbrev pub AreSome : List BlobRef → Result (List BlobRef) ObjectFault → Type 0
AreSome references (Ok found) = (found ≡ references) × (references ≢ [])
AreSome references (Err fault) = (fault ≡ BadData) × (references ≡ [])
