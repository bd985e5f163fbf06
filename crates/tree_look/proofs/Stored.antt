-- What the objects of a store's directories tell of its nodes, and what known contents are.
use Rattle.std.proofs.Common.{◌≡◌, ℕ, Bool, true, false, cond, List, [], ◌∷◌, map, Option, Some, None, option_map, refl, sym, ap, ◌∙◌, true≢false}
use Rattle.std.specs.Prelude.{Result, Ok, Err, IfOk, IsErr}
use Rattle.std.specs.List.{cons_option}
use Rattle.fl_digest.specs.declared.BlobRef.{BlobRef}
use Rattle.fl_digest.specs.declared.Hash.{Hash}
use Rattle.fl_digest.specs.Reference.{reference_of}
use Rattle.fl_json.specs.Reading.{reading}
use Rattle.kvs_txn.specs.declared.answers.Listed.{Listed}
use Rattle.kvs_model.specs.Operation.{is_directory}
use Rattle.kvs_txn.specs.declared.words.Target.{Target}
use Rattle.kvs_model.specs.Store.{Name, Path, Node, Value, Directory, Link, Store, IsStore, root, node_at, child_name, names_in, kind_of, listed as line_of}
use Rattle.tree_rules.specs.Held.{Table}
use Rattle.tree_rules.specs.Held.{IsStorable}
use Rattle.tree_rules.specs.Objects.{Tree, val, valref, dir, dirref, symlink, Entries, entries_of, listed}
use Rattle.tree_rules.specs.Texts.{is_long, object_of, objects, objects_in, stored_at, directory_text, directory_reference, text_of, root_reference}
use Rattle.tree_rules.proofs.Blobs.{text_there, value_there}
use Rattle.tree_objects.specs.Reading.{Gives}
use Rattle.tree_objects.specs.declared.object.Object.{Object}
use Rattle.tree_objects.specs.declared.faults.ObjectFault.{ObjectFault}
use Rattle.tree_store.proofs.Opening.{listed_again}
use Rattle.tree_store.proofs.Readable.{IsOnly, gives_only, directory_readable, stored_reading}
use Rattle.tree_look.specs.Legs.{directory_in, target_in, kind_shown, shown}
use Rattle.tree_look.specs.Looks.{Reads}

-- ---- nodes by their objects

some_same : {X : Type 0} (a b : X) → Some a ≡ Some b → a ≡ b
some_same a b e = cc

-- a value, whether it stands by its reference or not
abbrev pub IsValueOf : Hash → Node → List ℕ → Bool → Type 0
IsValueOf hash node bytes long = (node ≡ Value bytes) × (is_long bytes ≡ long)

pub val_node : (h : Hash) (node : Node) (es : List (Name × Tree)) (bytes : List ℕ) → object_of h node es ≡ val bytes → IsValueOf h node bytes false
val_node h (Value b) es bytes e =
    elim (is_long b) as (λ l. is_long b ≡ l → cond l (valref (reference_of h b ∷ [])) (val b) ≡ val bytes → IsValueOf h (Value b) bytes false) [
      | true ↦ λ t f. absurd (cc)
      | false ↦ λ t f. let same : b ≡ bytes = cc in (ap Value same, ap is_long (sym same) ∙ t)
    ] refl e
val_node h Directory es bytes e = absurd (cc)
val_node h (Link target) es bytes e = absurd (cc)

pub valref_node : (h : Hash) (node : Node) (es : List (Name × Tree)) (rs : List BlobRef) → object_of h node es ≡ valref rs → (bytes : List ℕ) × IsValueOf h node bytes true × (rs ≡ reference_of h bytes ∷ [])
valref_node h (Value b) es rs e =
    elim (is_long b) as (λ l. is_long b ≡ l → cond l (valref (reference_of h b ∷ [])) (val b) ≡ valref rs → (bytes : List ℕ) × IsValueOf h (Value b) bytes true × (rs ≡ reference_of h bytes ∷ [])) [
      | true ↦ λ t f. let same : reference_of h b ∷ [] ≡ rs = cc in (b, (refl, t), sym same)
      | false ↦ λ t f. absurd (cc)
    ] refl e
valref_node h Directory es rs e = absurd (cc)
valref_node h (Link target) es rs e = absurd (cc)

pub dirref_node : (h : Hash) (node : Node) (es : List (Name × Tree)) (r : BlobRef) → object_of h node es ≡ dirref r → (node ≡ Directory) × (r ≡ reference_of h (text_of es))
dirref_node h (Value b) es r e =
    elim (is_long b) as (λ l. cond l (valref (reference_of h b ∷ [])) (val b) ≡ dirref r → (Value b ≡ Directory) × (r ≡ reference_of h (text_of es))) [
      | true ↦ λ f. absurd (cc)
      | false ↦ λ f. absurd (cc)
    ] e
dirref_node h Directory es r e = let same : reference_of h (text_of es) ≡ r = cc in (refl, sym same)
dirref_node h (Link target) es r e = absurd (cc)

pub symlink_node : (h : Hash) (node : Node) (es : List (Name × Tree)) (target : Target) → object_of h node es ≡ symlink target → node ≡ Link target
symlink_node h (Value b) es target e =
    elim (is_long b) as (λ l. cond l (valref (reference_of h b ∷ [])) (val b) ≡ symlink target → Value b ≡ Link target) [
      | true ↦ λ f. absurd (cc)
      | false ↦ λ f. absurd (cc)
    ] e
symlink_node h Directory es target e = absurd (cc)
symlink_node h (Link other) es target e = let same : other ≡ target = cc in ap Link same

pub dir_node : (h : Hash) (node : Node) (es : List (Name × Tree)) (inner : Entries) → object_of h node es ≡ dir inner → ⊥
dir_node h (Value b) es inner e =
    elim (is_long b) as (λ l. cond l (valref (reference_of h b ∷ [])) (val b) ≡ dir inner → ⊥) [
      | true ↦ λ f. cc
      | false ↦ λ f. cc
    ] e
dir_node h Directory es inner e = cc
dir_node h (Link target) es inner e = cc

-- the object that stands at the path of a node is that of the node
pub object_at : (h : Hash) (st : Store) (p : Path) (node : Node) (t : Tree) → Some t ≡ stored_at h st p → node_at st p ≡ Some node → object_of h node (objects_in p (objects h st)) ≡ t
object_at h st p node t e found =
    sym (some_same t (object_of h node (objects_in p (objects h st))) (e ∙ ap (option_map (λ n. object_of h n (objects_in p (objects h st)))) found))

-- where an object stands there is a node
pub node_there : (h : Hash) (st : Store) (p : Path) (t : Tree) → Some t ≡ stored_at h st p → (node : Node) × (node_at st p ≡ Some node)
node_there h st p t e = found (node_at st p) refl
  where
    found : (o : Option Node) → node_at st p ≡ o → (node : Node) × (node_at st p ≡ Some node)
    found None is = let gone : Some t ≡ None = e ∙ ap (option_map (λ n. object_of h n (objects_in p (objects h st)))) is in absurd (cc)
    found (Some node) is = (node, is)

-- where none stands there is none
pub none_there : (h : Hash) (st : Store) (p : Path) → None ≡ stored_at h st p → node_at st p ≡ None
none_there h st p e = found (node_at st p) refl
  where
    found : (o : Option Node) → node_at st p ≡ o → node_at st p ≡ None
    found None is = is
    found (Some node) is = let gone : ◌≡◌ {A = Option Tree} None (Some (object_of h node (objects_in p (objects h st)))) = e ∙ ap (option_map (λ n. object_of h n (objects_in p (objects h st)))) is in absurd (cc)

-- a directory, by its reference
pub record IsDirectoryAt (hash : Hash) (st : Store) (path : Path) (reference : BlobRef) : Type 0 where
  pub there : node_at st path ≡ Some Directory
  pub named : reference ≡ directory_reference hash st path

pub directory_stored : (h : Hash) (st : Store) (p : Path) (r : BlobRef) → Some (dirref r) ≡ stored_at h st p → IsDirectoryAt h st p r
unfolding directory_text
directory_stored h st p r e =
    let n = node_there h st p (dirref r) e in
    let parts = dirref_node h n.0 (objects_in p (objects h st)) r (object_at h st p n.0 (dirref r) e n.1) in
    record { there = n.1 ∙ ap Some parts.0; named = parts.1 }

pub root_stored : (h : Hash) (st : Store) (r : BlobRef) → IsStore st → r ≡ root_reference h st → Some (dirref r) ≡ stored_at h st root
unfolding directory_text
root_stored h st r is named = ap (λ (x : BlobRef). Some (dirref x)) named ∙ sym (ap (option_map (λ n. object_of h n (objects_in root (objects h st)))) is.rooted)

-- ---- what is told of a node by its object

abbrev Below : Type 0
Below = List (Name × Tree)

abbrev pub link_target : Option Node → Option Target
link_target None = None
link_target (Some (Value bytes)) = None
link_target (Some Directory) = None
link_target (Some (Link target)) = Some target

some_reference : (a b : BlobRef) → Some a ≡ Some b → a ≡ b
some_reference a b e = cc

pub reference_in : (o : Option Tree) (r : BlobRef) → Some r ≡ directory_in o → Some (dirref r) ≡ o
reference_in None r e = absurd (cc)
reference_in (Some (val bytes)) r e = absurd (cc)
reference_in (Some (valref references)) r e = absurd (cc)
reference_in (Some (dir es)) r e = absurd (cc)
reference_in (Some (dirref other)) r e = ap (λ (x : BlobRef). Some (dirref x)) (some_reference r other e)
reference_in (Some (symlink target)) r e = absurd (cc)

not_directory : (h : Hash) (o : Option Node) (es : Below) → None ≡ directory_in (option_map (λ n. object_of h n es) o) → is_directory o ≡ false
not_directory h None es e = refl
not_directory h (Some (Value b)) es e = refl
not_directory h (Some Directory) es e = absurd (cc)
not_directory h (Some (Link target)) es e = refl

pub no_directory : (h : Hash) (st : Store) (p : Path) (o : Option Tree) → o ≡ stored_at h st p → None ≡ directory_in o → is_directory (node_at st p) ≡ false
no_directory h st p o is none = not_directory h (node_at st p) (objects_in p (objects h st)) (none ∙ ap directory_in is)

target_of_node : (h : Hash) (o : Option Node) (es : Below) → target_in (option_map (λ n. object_of h n es) o) ≡ link_target o
target_of_node h None es = refl
target_of_node h (Some (Value b)) es =
    elim (is_long b) as (λ l. target_in (Some (cond l (valref (reference_of h b ∷ [])) (val b))) ≡ None) [ true ↦ refl | false ↦ refl ]
target_of_node h (Some Directory) es = refl
target_of_node h (Some (Link target)) es = refl

pub target_stored : (h : Hash) (st : Store) (p : Path) (o : Option Tree) → o ≡ stored_at h st p → target_in o ≡ link_target (node_at st p)
target_stored h st p o is = ap target_in is ∙ target_of_node h (node_at st p) (objects_in p (objects h st))

kind_of_node : (h : Hash) (node : Node) (es : Below) → kind_shown (object_of h node es) ≡ kind_of node
kind_of_node h (Value b) es = elim (is_long b) as (λ l. kind_shown (cond l (valref (reference_of h b ∷ [])) (val b)) ≡ kind_of (Value b)) [ true ↦ refl | false ↦ refl ]
kind_of_node h Directory es = refl
kind_of_node h (Link target) es = refl

-- the names in a directory are those of its objects
pub names_shown : (h : Hash) (st : Store) (p : Path) → map shown (objects_in p (objects h st)) ≡ names_in st p
unfolding objects
names_shown h [] p = refl
names_shown h (e ∷ st) p =
    let later = objects h st in
    let t = object_of h e.1 (objects_in e.0 later) in
    let kind : kind_shown t ≡ kind_of e.1 = kind_of_node h e.1 (objects_in e.0 later) in
    let rest = names_shown h st p in
    elim (child_name p e.0) as (λ o. map shown (cons_option (option_map (λ name. (name, t)) o) (objects_in p later)) ≡ cons_option (line_of o e.1) (names_in st p)) [
      | None ↦ rest
      | Some n ↦ (let same : shown (n, t) ≡ record { name = n; kind = kind_of e.1 } = ap (λ k. record { name = n; kind = k }) kind in
          ap (λ (l : Listed). l ∷ map shown (objects_in p later)) same ∙ ap (λ (ls : List Listed). record { name = n; kind = kind_of e.1 } ∷ ls) rest)
    ]

-- ---- known contents

pub known_text : (h : Hash) (st : Store) (top : BlobRef) (texts : Table) (p : Path) (r : BlobRef) (text : List ℕ) → Reads h st top texts → IsDirectoryAt h st p r → texts r ≡ Some text → text ≡ directory_text h st p
known_text h st top texts p r text reads is found =
    let kept : reads.table r ≡ Some (directory_text h st p) = ap reads.table is.named ∙ reads.holds.held (directory_text h st p) (text_there h st p is.there) in
    some_same text (directory_text h st p) (sym (reads.agrees r text found) ∙ kept)

pub known_value : (h : Hash) (st : Store) (top : BlobRef) (texts : Table) (p : Path) (bytes : List ℕ) (r : BlobRef) (found : List ℕ) → Reads h st top texts → node_at st p ≡ Some (Value bytes) → is_long bytes ≡ true → r ≡ reference_of h bytes → texts r ≡ Some found → found ≡ bytes
known_value h st top texts p bytes r found reads is long named known =
    let kept : reads.table r ≡ Some bytes = ap reads.table named ∙ reads.holds.held bytes (value_there h st p bytes is long) in
    some_same found bytes (sym (reads.agrees r found known) ∙ kept)

-- ---- the text of a directory

-- of its text alone that directory is read, or memory is wanted
pub only_directory : (h : Hash) (st : Store) (p : Path) (text : List ℕ) (result : Result Object ObjectFault) → IsStore st → IsStorable st → text ≡ directory_text h st p → Gives text result → IsOnly (entries_of (objects_in p (objects h st))) result
only_directory h st p text result is storable same gives =
    gives_only text (entries_of (objects_in p (objects h st))) (directory_readable h st p is storable) (ap reading same ∙ stored_reading h st p is storable) result gives

pub directory_listed : (h : Hash) (st : Store) (p : Path) (es : Entries) → es ≡ entries_of (objects_in p (objects h st)) → listed es ≡ objects_in p (objects h st)
directory_listed h st p es e = ap listed e ∙ listed_again (objects_in p (objects h st))

pub no_ok : {T E : Type 0} (P : T → Type 0) (result : Result T E) → IsErr result → IfOk result P
no_ok P (Ok x) h = absurd (true≢false (sym h))
no_ok P (Err e) h = tt

pub ok_by : {T E : Type 0} (P Q : T → Type 0) → ((x : T) → P x → Q x) → (result : Result T E) → IfOk result P → IfOk result Q
ok_by P Q f (Ok x) h = f x h
ok_by P Q f (Err e) h = tt
