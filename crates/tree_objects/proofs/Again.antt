-- What is printed is read again as the same object.
use Rattle.std.proofs.Common.{◌≡◌, ◌≢◌, ◌≤◌, ◌+◌, ◌*◌, ℕ, lit<, List, [], ◌∷◌, map, length, refl, sym, ap, ap₂, ◌∙◌, subst, arith, codes, Some}
use Rattle.std.specs.Prelude.{IfSome, IsTrue, Option, None, slice_index, Result, Ok}
use Rattle.std.specs.List.{AllByRecursion}
use Rattle.std.specs.Ordering.{is_lt}
use Rattle.std.specs.FinMap.Entries as finite
use Rattle.base64.specs.Engines.{standard}
use Rattle.base64.specs.GeneralPurpose.{encode_of, decode_of, IsBytes}
use Rattle.base64.proofs.EngineFacts.{decode_of-encode_of}
use Rattle.fl_digest.specs.declared.BlobRef.{BlobRef}
use Rattle.fl_digest.specs.Reference.{reference_text, IsWhole}
use Rattle.fl_digest.proofs.References.{reference_text_once, whole_text}
use Rattle.fl_json.specs.Valid.{IsValid, AreValid, HaveValid, IsBefore}
use Rattle.kvs_txn.specs.Keys.{components, IsKey}
use Rattle.kvs_txn.specs.Names.{is_name}
use Rattle.kvs_txn.specs.Words.{path_text}
use Rattle.kvs_txn.specs.declared.words.Target.{Target}
use Rattle.serde_json.specs.Find.{get}
use Rattle.kvs_txn.proofs.Components.{read_again}
use Rattle.kvs_model.specs.Store.{Path, Name}
use Rattle.serde_json.specs.Data.{Data, string, array, object, Items, no_items, item, Members, no_members, member}
use Rattle.serde_json.specs.View.{items_of}
use Rattle.tree_rules.specs.Objects.{Tree, val, valref, dir, dirref, symlink, Entries, no_entries, entry, listed, framed, references_data, target_data, tree_data, entries_data}
use Rattle.tree_rules.specs.Names.{name_cmp}
use Rattle.tree_objects.specs.Reading.{type_of, IsObject, TellReferences, TellsPath, TellsSpace, TellsTarget, TellsBytes, TellsList, Tells, TellEntries, IsReadable, AreReadable}
use Rattle.tree_objects.proofs.Pairs.{and_parts}

-- ---- what is written tells the object

object_framed : (kind : List ℕ) (content : Data) → IsObject kind content (framed kind content)
object_framed kind content = record { version = refl; typed = refl; holds = refl }

tell_written : (rs : List BlobRef) → AllByRecursion IsWhole rs → TellReferences (items_of (map (λ r. string (reference_text r)) rs)) rs
tell_written [] whole = tt
tell_written (r ∷ rs) whole = (record { text = refl; well_formed = whole_text r whole.0 }, tell_written rs whole.1)

list_written : (rs : List BlobRef) → AllByRecursion IsWhole rs → rs ≢ [] → TellsList (references_data rs) rs
list_written rs whole some = record { items = items_of (map (λ r. string (reference_text r)) rs); list = refl; told = tell_written rs whole; some = some }

path_written : (d : Data) (path : Path) → get (codes "target") d ≡ Some (string (path_text path)) → IsKey path → TellsPath d path
path_written d path is key =
    let again : components (path_text path) ≡ path = read_again path key.named in
    record { text = path_text path; target = is; spelled = sym again; short = key.short; few = subst (λ (p : Path). length p ≤ 32) (sym again) key.few }

-- the data of a link, with what it names taken apart
abbrev link_data : Path → Option Name → Data
link_data path namespace = target_data (record { path = path; namespace = namespace })

target_written : (path : Path) (namespace : Option Name) → IsKey path → IfSome namespace (λ name. IsTrue (is_name name)) → TellsTarget (link_data path namespace) (record { path = path; namespace = namespace })
target_written path None key named = record { inside = path_written (link_data path None) path refl key; space = refl }
target_written path (Some name) key named = record { inside = path_written (link_data path (Some name)) path refl key; space = (refl, named) }

bytes_written : (bytes : List ℕ) → IsBytes bytes → TellsBytes (string (encode_of standard bytes)) bytes
bytes_written bytes small = record { text = encode_of standard bytes; written = refl; read = decode_of-encode_of standard bytes refl small }

not_none : (r : BlobRef) → ◌≡◌ {A = List BlobRef} (r ∷ []) [] → ⊥
not_none r e = absurd (cc)

mutual
  pub tells_written : (tree : Tree) → IsReadable tree → Tells (tree_data tree) tree
  tells_written (val bytes) h = (string (encode_of standard bytes), object_framed (codes "val") (string (encode_of standard bytes)), bytes_written bytes h)
  tells_written (valref rs) h = (references_data rs, object_framed (codes "valref") (references_data rs), list_written rs h.0 h.1)
  tells_written (dir es) h = (entries_data es, object_framed (codes "dir") (object (entries_data es)), tell_entries es h.1)
  tells_written (dirref r) h = (references_data (r ∷ []), object_framed (codes "dirref") (references_data (r ∷ [])), list_written (r ∷ []) (h, tt) (not_none r))
  tells_written (symlink t) h = (target_data t, object_framed (codes "symlink") (target_data t), target_written t.path t.namespace h.0 h.1)

  tell_entries : (es : Entries) → AreReadable es → TellEntries (entries_data es) es
  tell_entries no_entries h = tt
  tell_entries (entry name tree es) h = (refl, tells_written tree h.0, tell_entries es h.1)

-- ---- what is written is valid

references_valid : (rs : List BlobRef) → AreValid (items_of (map (λ r. string (reference_text r)) rs))
references_valid [] = tt
references_valid (r ∷ rs) = (tt, references_valid rs)

framed_valid : (kind : List ℕ) (content : Data) → IsValid content → IsValid (framed kind content)
framed_valid kind content h = (refl, h, (refl, tt, (tt, lit< tt, tt)))

before : (name : Name) (es : Entries) → IsTrue (finite.below_all name_cmp name (listed es)) → IsBefore name (entries_data es)
before name no_entries h = tt
before name (entry next tree es) h = (and_parts (is_lt (name_cmp name next)) (finite.below_all name_cmp name (listed es)) h).0

link_valid : (path : Path) (namespace : Option Name) → IsValid (link_data path namespace)
link_valid path None = (tt, tt, tt)
link_valid path (Some name) = (refl, tt, (tt, tt, tt))

mutual
  pub written_valid : (tree : Tree) → IsReadable tree → IsValid (tree_data tree)
  written_valid (val bytes) h = framed_valid (codes "val") (string (encode_of standard bytes)) tt
  written_valid (valref rs) h = framed_valid (codes "valref") (references_data rs) (references_valid rs)
  written_valid (dir es) h = framed_valid (codes "dir") (object (entries_data es)) (entries_valid es h.0 h.1)
  written_valid (dirref r) h = framed_valid (codes "dirref") (references_data (r ∷ [])) (references_valid (r ∷ []))
  written_valid (symlink t) h = framed_valid (codes "symlink") (target_data t) (link_valid t.path t.namespace)

  entries_valid : (es : Entries) → IsTrue (finite.is_sorted name_cmp (listed es)) → AreReadable es → HaveValid (entries_data es)
  entries_valid no_entries s h = tt
  entries_valid (entry name tree es) s h =
      let parts = and_parts (finite.below_all name_cmp name (listed es)) (finite.is_sorted name_cmp (listed es)) s in
      (before name es parts.0, written_valid tree h.0, entries_valid es parts.1 h.1)

-- ---- a value tells one object

some_same : {A : Type 0} (a b : A) → Some a ≡ Some b → a ≡ b
some_same a b e = cc

content_same : (k l : List ℕ) (a b d : Data) → IsObject k a d → IsObject l b d → a ≡ b
content_same k l a b d x y = some_same a b (sym x.holds ∙ y.holds)

kind_same : (k l : List ℕ) (a b d : Data) → IsObject k a d → IsObject l b d → k ≡ l
kind_same k l a b d x y = some_same k l (sym x.typed ∙ y.typed)

string_same : (a b : List ℕ) → string a ≡ string b → a ≡ b
string_same a b e = cc

array_same : (a b : Items) → array a ≡ array b → a ≡ b
array_same a b e = cc

object_same : (a b : Members) → object a ≡ object b → a ≡ b
object_same a b e = cc

ok_same : {A E : Type 0} (a b : A) → ◌≡◌ {A = Result A E} (Ok a) (Ok b) → a ≡ b
ok_same a b e = cc

bytes_once : (d : Data) (a b : List ℕ) → TellsBytes d a → TellsBytes d b → a ≡ b
bytes_once d a b x y =
    let same : x.text ≡ y.text = string_same x.text y.text (sym x.written ∙ y.written) in
    ok_same a b (sym x.read ∙ ap (decode_of standard) same ∙ y.read)

references_once : (ds : Items) (rs ss : List BlobRef) → TellReferences ds rs → TellReferences ds ss → rs ≡ ss
references_once no_items [] [] x y = refl
references_once no_items [] (s ∷ ss) x y = absurd y
references_once no_items (r ∷ rs) ss x y = absurd x
references_once (item d ds) [] ss x y = absurd x
references_once (item d ds) (r ∷ rs) [] x y = absurd y
references_once (item d ds) (r ∷ rs) (s ∷ ss) x y =
    ap₂ (λ (t : BlobRef) (ts : List BlobRef). t ∷ ts) (reference_text_once r s (string_same (reference_text r) (reference_text s) (sym x.0.text ∙ y.0.text))) (references_once ds rs ss x.1 y.1)

list_once : (d : Data) (rs ss : List BlobRef) → TellsList d rs → TellsList d ss → rs ≡ ss
list_once d rs ss x y =
    let same : x.items ≡ y.items = array_same x.items y.items (sym x.list ∙ y.list) in
    references_once y.items rs ss (subst (λ (ds : Items). TellReferences ds rs) same x.told) y.told

one_same : (r s : BlobRef) → ◌≡◌ {A = List BlobRef} (r ∷ []) (s ∷ []) → r ≡ s
one_same r s e = cc

path_once : (d : Data) (p q : Path) → TellsPath d p → TellsPath d q → p ≡ q
path_once d p q x y =
    let texts : string x.text ≡ string y.text = some_same (string x.text) (string y.text) (sym x.target ∙ y.target) in
    x.spelled ∙ ap components (string_same x.text y.text texts) ∙ sym y.spelled

space_once : (d : Data) (a b : Option Name) → TellsSpace d a → TellsSpace d b → a ≡ b
space_once d None None x y = refl
space_once d None (Some b) x y = absurd (let e = sym x ∙ y.0 in cc)
space_once d (Some a) None x y = absurd (let e = sym y ∙ x.0 in cc)
space_once d (Some a) (Some b) x y = ap Some (string_same a b (some_same (string a) (string b) (sym x.0 ∙ y.0)))

target_once : (d : Data) (a b : Target) → TellsTarget d a → TellsTarget d b → a ≡ b
target_once d a b x y = ap₂ (λ p n. record { path = p; namespace = n }) (path_once d a.path b.path x.inside y.inside) (space_once d a.namespace b.namespace x.space y.space)

-- a number that tells the types apart
tag : List ℕ → ℕ
tag text = slice_index text 0 * 10 + length text

abbrev number_of : Tree → ℕ
number_of (val bytes) = 1183
number_of (valref rs) = 1186
number_of (dir es) = 1003
number_of (dirref r) = 1006
number_of (symlink target) = 1157

tagged : (d : Data) (tree : Tree) → Tells d tree → (kind : List ℕ) × (type_of d ≡ Some kind) × (tag kind ≡ number_of tree)
unfolding tag
tagged d (val bytes) told = (codes "val", told.1.typed, refl)
tagged d (valref rs) told = (codes "valref", told.1.typed, refl)
tagged d (dir es) told = (codes "dir", told.1.typed, refl)
tagged d (dirref r) told = (codes "dirref", told.1.typed, refl)
tagged d (symlink path) told = (codes "symlink", told.1.typed, refl)

same_number : (d : Data) (s t : Tree) → Tells d s → Tells d t → number_of s ≡ number_of t
same_number d s t x y =
    let a = tagged d s x in
    let b = tagged d t y in
    sym a.2 ∙ ap tag (some_same a.0 b.0 (sym a.1 ∙ b.1)) ∙ b.2

mutual
  pub told_once : (d : Data) (s t : Tree) → Tells d s → Tells d t → s ≡ t
  told_once d (val a) (val b) x y = ap val (bytes_once y.0 a b (subst (λ (c : Data). TellsBytes c a) (content_same (codes "val") (codes "val") x.0 y.0 d x.1 y.1) x.2) y.2)
  told_once d (valref a) (valref b) x y = ap valref (list_once y.0 a b (subst (λ (c : Data). TellsList c a) (content_same (codes "valref") (codes "valref") x.0 y.0 d x.1 y.1) x.2) y.2)
  told_once d (dirref a) (dirref b) x y = ap dirref (one_same a b (list_once y.0 (a ∷ []) (b ∷ []) (subst (λ (c : Data). TellsList c (a ∷ [])) (content_same (codes "dirref") (codes "dirref") x.0 y.0 d x.1 y.1) x.2) y.2))
  told_once d (symlink a) (symlink b) x y = ap symlink (target_once y.0 a b (subst (λ (c : Data). TellsTarget c a) (content_same (codes "symlink") (codes "symlink") x.0 y.0 d x.1 y.1) x.2) y.2)
  told_once d (dir a) (dir b) x y =
      ap dir (entries_once y.0 a b (subst (λ (ms : Members). TellEntries ms a) (object_same x.0 y.0 (content_same (codes "dir") (codes "dir") (object x.0) (object y.0) d x.1 y.1)) x.2) y.2)
  told_once d (val a) (valref b) x y = let e : ◌≡◌ {A = ℕ} 1183 1186 = same_number d (val a) (valref b) x y in absurd (omega arith)
  told_once d (val a) (dir b) x y = let e : ◌≡◌ {A = ℕ} 1183 1003 = same_number d (val a) (dir b) x y in absurd (omega arith)
  told_once d (val a) (dirref b) x y = let e : ◌≡◌ {A = ℕ} 1183 1006 = same_number d (val a) (dirref b) x y in absurd (omega arith)
  told_once d (val a) (symlink b) x y = let e : ◌≡◌ {A = ℕ} 1183 1157 = same_number d (val a) (symlink b) x y in absurd (omega arith)
  told_once d (valref a) (val b) x y = let e : ◌≡◌ {A = ℕ} 1186 1183 = same_number d (valref a) (val b) x y in absurd (omega arith)
  told_once d (valref a) (dir b) x y = let e : ◌≡◌ {A = ℕ} 1186 1003 = same_number d (valref a) (dir b) x y in absurd (omega arith)
  told_once d (valref a) (dirref b) x y = let e : ◌≡◌ {A = ℕ} 1186 1006 = same_number d (valref a) (dirref b) x y in absurd (omega arith)
  told_once d (valref a) (symlink b) x y = let e : ◌≡◌ {A = ℕ} 1186 1157 = same_number d (valref a) (symlink b) x y in absurd (omega arith)
  told_once d (dir a) (val b) x y = let e : ◌≡◌ {A = ℕ} 1003 1183 = same_number d (dir a) (val b) x y in absurd (omega arith)
  told_once d (dir a) (valref b) x y = let e : ◌≡◌ {A = ℕ} 1003 1186 = same_number d (dir a) (valref b) x y in absurd (omega arith)
  told_once d (dir a) (dirref b) x y = let e : ◌≡◌ {A = ℕ} 1003 1006 = same_number d (dir a) (dirref b) x y in absurd (omega arith)
  told_once d (dir a) (symlink b) x y = let e : ◌≡◌ {A = ℕ} 1003 1157 = same_number d (dir a) (symlink b) x y in absurd (omega arith)
  told_once d (dirref a) (val b) x y = let e : ◌≡◌ {A = ℕ} 1006 1183 = same_number d (dirref a) (val b) x y in absurd (omega arith)
  told_once d (dirref a) (valref b) x y = let e : ◌≡◌ {A = ℕ} 1006 1186 = same_number d (dirref a) (valref b) x y in absurd (omega arith)
  told_once d (dirref a) (dir b) x y = let e : ◌≡◌ {A = ℕ} 1006 1003 = same_number d (dirref a) (dir b) x y in absurd (omega arith)
  told_once d (dirref a) (symlink b) x y = let e : ◌≡◌ {A = ℕ} 1006 1157 = same_number d (dirref a) (symlink b) x y in absurd (omega arith)
  told_once d (symlink a) (val b) x y = let e : ◌≡◌ {A = ℕ} 1157 1183 = same_number d (symlink a) (val b) x y in absurd (omega arith)
  told_once d (symlink a) (valref b) x y = let e : ◌≡◌ {A = ℕ} 1157 1186 = same_number d (symlink a) (valref b) x y in absurd (omega arith)
  told_once d (symlink a) (dir b) x y = let e : ◌≡◌ {A = ℕ} 1157 1003 = same_number d (symlink a) (dir b) x y in absurd (omega arith)
  told_once d (symlink a) (dirref b) x y = let e : ◌≡◌ {A = ℕ} 1157 1006 = same_number d (symlink a) (dirref b) x y in absurd (omega arith)

  entries_once : (ms : Members) (a b : Entries) → TellEntries ms a → TellEntries ms b → a ≡ b
  entries_once no_members no_entries no_entries x y = refl
  entries_once no_members no_entries (entry n t b) x y = absurd y
  entries_once no_members (entry n t a) b x y = absurd x
  entries_once (member key d ms) no_entries b x y = absurd x
  entries_once (member key d ms) (entry n t a) no_entries x y = absurd y
  entries_once (member key d ms) (entry n t a) (entry m u b) x y =
      let names : n ≡ m = sym x.0 ∙ y.0 in
      let trees : t ≡ u = told_once d t u x.1 y.1 in
      let rest : a ≡ b = entries_once ms a b x.2 y.2 in cc
