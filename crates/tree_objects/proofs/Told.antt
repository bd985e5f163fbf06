-- What the parts of JSON values tell.
use Rattle.std.proofs.Common.{◌≡◌, ℕ, zero, suc, ◌+◌, ◌≤◌, ◌<◌, Bool, true, false, List, [], ◌∷◌, ◌++◌, length, get_or, take, refl, sym, ap, ◌∙◌, subst, arith, codes, Option, Some, None, Ordering, Less, nat_cmp, string_bytes, string_cmp}
use Rattle.std.specs.Prelude.{IsTrue, ◌&&◌, ◌*◌, slice_index, Result, Ok, Err}
use Rattle.std.specs.Option.{option_map_or}
use Rattle.std.specs.Str.{bytes_eq}
use Rattle.std.specs.Ordering.{is_lt}
use Rattle.std.specs.Cmp.Lexicographic.{slice_cmp}
use Rattle.std.specs.FinMap.Entries as finite
use Rattle.std.specs.List.{AllByRecursion, list_any}
use Rattle.std.specs.List.Sorted.{IsStrictlySortedBy}
use Rattle.std.specs.Map.{keys_of}
use Rattle.fl_digest.specs.declared.BlobRef.{BlobRef}
use Rattle.fl_json.specs.Valid.{IsValid, HaveValid}
use Rattle.kvs_model.specs.Store.{Name}
use Rattle.serde_json.specs.Data.{Data, null, boolean, number, string, array, object, Items, no_items, item, Members, depth, members_depth}
use Rattle.serde_json.specs.Find.{get, as_object, as_array}
use Rattle.serde_json.specs.View.{view, items_view, members_view}
use Rattle.serde_json.specs.declared.value.Value.{Value}
use Rattle.serde_json.proofs.Views.{Entry}
use Rattle.kvs_txn.specs.declared.words.Target.{Target}
use Rattle.tree_rules.specs.Objects.{Tree, val, valref, dir, dirref, symlink, Entries, no_entries, entry, listed}
use Rattle.tree_objects.specs.Directories.{with_last}
use Rattle.tree_rules.specs.Names.{name_cmp}
use Rattle.tree_objects.specs.declared.faults.ObjectFault.{ObjectFault}
use Rattle.tree_objects.specs.Reading.{GivesPart, AreSome, is_version_1, type_of, types, has_type, IsObject, TellsReference, TellReferences, TellsList, TellsBytes, TellsTarget, Tells, TellEntries}

some_is : {A : Type 0} (a b : A) → Some a ≡ Some b → a ≡ b
some_is a b e = cc

-- ---- references

pub tell_more : (vs : List Value) (i : ℕ) (v : Value) → i < length vs → v ≡ get_or vs i v → (rs : List BlobRef) (r : BlobRef)
    → TellReferences (items_view (take i vs)) rs → TellsReference (view v) r → TellReferences (items_view (take (suc i) vs)) (rs ++ r ∷ [])
tell_more [] i v w is rs r told one = absurd (omega arith)
tell_more (x ∷ xs) zero v w is [] r told one = (subst (λ (y : Value). TellsReference (view y) r) is one, tt)
tell_more (x ∷ xs) zero v w is (s ∷ ss) r told one = absurd told
tell_more (x ∷ xs) (suc i) v w is [] r told one = absurd told
tell_more (x ∷ xs) (suc i) v w is (s ∷ ss) r told one = (told.0, tell_more xs i v (omega arith) is ss r told.1 one)

pub tell_none : (vs : List Value) (i : ℕ) (v : Value) → i < length vs → v ≡ get_or vs i v → ((r : BlobRef) → TellsReference (view v) r → ⊥)
    → (rs : List BlobRef) → TellReferences (items_view vs) rs → ⊥
tell_none [] i v w is none rs told = absurd (omega arith)
tell_none (x ∷ xs) i v w is none [] told = told
tell_none (x ∷ xs) zero v w is none (s ∷ ss) told = none s (subst (λ (y : Value). TellsReference (view y) s) (sym is) told.0)
tell_none (x ∷ xs) (suc i) v w is none (s ∷ ss) told = tell_none xs i v (omega arith) is none ss told.1

pub same_count : (ds : Items) (rs ss : List BlobRef) → TellReferences ds rs → TellReferences ds ss → length rs ≡ length ss
same_count no_items [] [] a b = refl
same_count no_items [] (s ∷ ss) a b = absurd b
same_count no_items (r ∷ rs) ss a b = absurd a
same_count (item d ds) [] ss a b = absurd a
same_count (item d ds) (r ∷ rs) [] a b = absurd b
same_count (item d ds) (r ∷ rs) (s ∷ ss) a b = ap suc (same_count ds rs ss a.1 b.1)

array_once : (ds es : Items) → array ds ≡ array es → ds ≡ es
array_once ds es e = cc

pub same_length : (d : Data) (rs ss : List BlobRef) → TellsList d rs → TellsList d ss → length rs ≡ length ss
same_length d rs ss a b =
    let same : a.items ≡ b.items = array_once a.items b.items (sym a.list ∙ b.list) in
    same_count b.items rs ss (subst (λ (ds : Items). TellReferences ds rs) same a.told) b.told

pub list_of_one : (rs : List BlobRef) (d : BlobRef) → length rs ≡ 1 → rs ≡ get_or rs 0 d ∷ []
list_of_one [] d e = absurd (omega arith)
list_of_one (r ∷ []) d e = refl
list_of_one (r ∷ s ∷ rs) d e = absurd (omega arith)

none_of_none : (d : Data) (ds : Items) (rs ss : List BlobRef) → rs ≡ [] → d ≡ array ds → TellReferences ds rs → TellsList d ss → ⊥
none_of_none d ds rs [] e is told list = list.some refl
none_of_none d ds rs (s ∷ ss) e is told list =
    let same : ds ≡ list.items = array_once ds list.items (sym is ∙ list.list) in
    let n : length rs ≡ length (s ∷ ss) = same_count list.items rs (s ∷ ss) (subst (λ (es : Items). TellReferences es rs) same told) list.told in
    let none : length rs ≡ 0 = ap length e in
    absurd (omega arith)

pub array_is : (d : Data) (ds : Items) → as_array d ≡ Some ds → d ≡ array ds
array_is null ds e = absurd (cc)
array_is (boolean b) ds e = absurd (cc)
array_is (number n) ds e = absurd (cc)
array_is (string s) ds e = absurd (cc)
array_is (array es) ds e = ap array (some_is es ds e)
array_is (object ms) ds e = absurd (cc)

pub list_given : (d : Data) (ds : Items) (rs : List BlobRef) (r : Result (List BlobRef) ObjectFault) → as_array d ≡ Some ds → TellReferences ds rs → AreSome rs r → GivesPart (TellsList d) r
list_given d ds rs (Ok ss) is told some = record {
  items = ds;
  list = array_is d ds is;
  told = subst (TellReferences ds) (sym some.0) told;
  some = λ e. some.1 (sym some.0 ∙ e);
}
list_given d ds rs (Err fault) is told some =
    subst (λ (e : ObjectFault). GivesPart (TellsList d) (Err e)) (sym some.0) (λ ss list. none_of_none d ds rs ss some.1 (array_is d ds is) told list)

-- ---- types

-- a number that tells the types apart
tag : List ℕ → ℕ
tag text = slice_index text 0 * 10 + length text

-- the type of an object
abbrev kind_of : Tree → List ℕ
kind_of (val bytes) = codes "val"
kind_of (valref rs) = codes "valref"
kind_of (dir es) = codes "dir"
kind_of (dirref r) = codes "dirref"
kind_of (symlink path) = codes "symlink"

pub told_kind : (d : Data) (tree : Tree) → Tells d tree → type_of d ≡ Some (kind_of tree)
told_kind d (val bytes) told = told.1.typed
told_kind d (valref rs) told = told.1.typed
told_kind d (dir es) told = told.1.typed
told_kind d (dirref r) told = told.1.typed
told_kind d (symlink path) told = told.1.typed

pub told_version : (d : Data) (tree : Tree) → Tells d tree → is_version_1 d ≡ true
told_version d (val bytes) told = told.1.version
told_version d (valref rs) told = told.1.version
told_version d (dir es) told = told.1.version
told_version d (dirref r) told = told.1.version
told_version d (symlink path) told = told.1.version

abbrev known : Option (List ℕ) → Bool
known kind = option_map_or (λ kind. list_any (bytes_eq kind) types) kind false

known_kind : (tree : Tree) → known (Some (kind_of tree)) ≡ true
known_kind (val bytes) = refl
known_kind (valref rs) = refl
known_kind (dir es) = refl
known_kind (dirref r) = refl
known_kind (symlink path) = refl

pub told_type : (d : Data) (tree : Tree) → Tells d tree → has_type d ≡ true
told_type d tree told = ap known (told_kind d tree told) ∙ known_kind tree

pub typed_known : (d : Data) (k : List ℕ) → type_of d ≡ Some k → list_any (bytes_eq k) types ≡ true → has_type d ≡ true
typed_known d k e h = ap known e ∙ h

pub told_data : (d : Data) (tree : Tree) → Tells d tree → get (codes "data") d ≡ None → ⊥
told_data d (val bytes) told none = absurd (let e = sym told.1.holds ∙ none in cc)
told_data d (valref rs) told none = absurd (let e = sym told.1.holds ∙ none in cc)
told_data d (dir es) told none = absurd (let e = sym told.1.holds ∙ none in cc)
told_data d (dirref r) told none = absurd (let e = sym told.1.holds ∙ none in cc)
told_data d (symlink path) told none = absurd (let e = sym told.1.holds ∙ none in cc)

-- ---- objects of a type

abbrev other : (d : Data) (k l : List ℕ) → type_of d ≡ Some k → type_of d ≡ Some l → tag k ≡ tag l
other d k l a b = ap tag (some_is k l (sym a ∙ b))

content_is : (d a b : Data) → get (codes "data") d ≡ Some a → get (codes "data") d ≡ Some b → a ≡ b
content_is d a b e f = some_is a b (sym e ∙ f)

module _ (d content : Data) where
  pub no_val : IsObject (codes "val") content d → ((bytes : List ℕ) → TellsBytes content bytes → ⊥) → (tree : Tree) → Tells d tree → ⊥
  unfolding tag
  no_val is none (val bytes) told = none bytes (subst (λ (x : Data). TellsBytes x bytes) (content_is d told.0 content told.1.holds is.holds) told.2)
  no_val is none (valref rs) told = let e : ◌≡◌ {A = ℕ} 1186 1183 = other d (codes "valref") (codes "val") told.1.typed is.typed in absurd (omega arith)
  no_val is none (dir es) told = let e : ◌≡◌ {A = ℕ} 1003 1183 = other d (codes "dir") (codes "val") told.1.typed is.typed in absurd (omega arith)
  no_val is none (dirref r) told = let e : ◌≡◌ {A = ℕ} 1006 1183 = other d (codes "dirref") (codes "val") told.1.typed is.typed in absurd (omega arith)
  no_val is none (symlink path) told = let e : ◌≡◌ {A = ℕ} 1157 1183 = other d (codes "symlink") (codes "val") told.1.typed is.typed in absurd (omega arith)

  pub no_valref : IsObject (codes "valref") content d → ((rs : List BlobRef) → TellsList content rs → ⊥) → (tree : Tree) → Tells d tree → ⊥
  unfolding tag
  no_valref is none (valref rs) told = none rs (subst (λ (x : Data). TellsList x rs) (content_is d told.0 content told.1.holds is.holds) told.2)
  no_valref is none (val bytes) told = let e : ◌≡◌ {A = ℕ} 1183 1186 = other d (codes "val") (codes "valref") told.1.typed is.typed in absurd (omega arith)
  no_valref is none (dir es) told = let e : ◌≡◌ {A = ℕ} 1003 1186 = other d (codes "dir") (codes "valref") told.1.typed is.typed in absurd (omega arith)
  no_valref is none (dirref r) told = let e : ◌≡◌ {A = ℕ} 1006 1186 = other d (codes "dirref") (codes "valref") told.1.typed is.typed in absurd (omega arith)
  no_valref is none (symlink path) told = let e : ◌≡◌ {A = ℕ} 1157 1186 = other d (codes "symlink") (codes "valref") told.1.typed is.typed in absurd (omega arith)

  pub no_dirref : IsObject (codes "dirref") content d → ((r : BlobRef) → TellsList content (r ∷ []) → ⊥) → (tree : Tree) → Tells d tree → ⊥
  unfolding tag
  no_dirref is none (dirref r) told = none r (subst (λ (x : Data). TellsList x (r ∷ [])) (content_is d told.0 content told.1.holds is.holds) told.2)
  no_dirref is none (val bytes) told = let e : ◌≡◌ {A = ℕ} 1183 1006 = other d (codes "val") (codes "dirref") told.1.typed is.typed in absurd (omega arith)
  no_dirref is none (dir es) told = let e : ◌≡◌ {A = ℕ} 1003 1006 = other d (codes "dir") (codes "dirref") told.1.typed is.typed in absurd (omega arith)
  no_dirref is none (valref rs) told = let e : ◌≡◌ {A = ℕ} 1186 1006 = other d (codes "valref") (codes "dirref") told.1.typed is.typed in absurd (omega arith)
  no_dirref is none (symlink path) told = let e : ◌≡◌ {A = ℕ} 1157 1006 = other d (codes "symlink") (codes "dirref") told.1.typed is.typed in absurd (omega arith)

  pub no_symlink : IsObject (codes "symlink") content d → ((target : Target) → TellsTarget content target → ⊥) → (tree : Tree) → Tells d tree → ⊥
  unfolding tag
  no_symlink is none (symlink target) told = none target (subst (λ (x : Data). TellsTarget x target) (content_is d told.0 content told.1.holds is.holds) told.2)
  no_symlink is none (val bytes) told = let e : ◌≡◌ {A = ℕ} 1183 1157 = other d (codes "val") (codes "symlink") told.1.typed is.typed in absurd (omega arith)
  no_symlink is none (dir es) told = let e : ◌≡◌ {A = ℕ} 1003 1157 = other d (codes "dir") (codes "symlink") told.1.typed is.typed in absurd (omega arith)
  no_symlink is none (valref rs) told = let e : ◌≡◌ {A = ℕ} 1186 1157 = other d (codes "valref") (codes "symlink") told.1.typed is.typed in absurd (omega arith)
  no_symlink is none (dirref r) told = let e : ◌≡◌ {A = ℕ} 1006 1157 = other d (codes "dirref") (codes "symlink") told.1.typed is.typed in absurd (omega arith)

  pub no_dir : IsObject (codes "dir") content d → ((es : Entries) (ms : Members) → content ≡ object ms → TellEntries ms es → ⊥) → (tree : Tree) → Tells d tree → ⊥
  unfolding tag
  no_dir is none (dir es) told = none es told.0 (content_is d content (object told.0) is.holds told.1.holds) told.2
  no_dir is none (val bytes) told = let e : ◌≡◌ {A = ℕ} 1183 1003 = other d (codes "val") (codes "dir") told.1.typed is.typed in absurd (omega arith)
  no_dir is none (symlink path) told = let e : ◌≡◌ {A = ℕ} 1157 1003 = other d (codes "symlink") (codes "dir") told.1.typed is.typed in absurd (omega arith)
  no_dir is none (valref rs) told = let e : ◌≡◌ {A = ℕ} 1186 1003 = other d (codes "valref") (codes "dir") told.1.typed is.typed in absurd (omega arith)
  no_dir is none (dirref r) told = let e : ◌≡◌ {A = ℕ} 1006 1003 = other d (codes "dirref") (codes "dir") told.1.typed is.typed in absurd (omega arith)

-- ---- members

pub object_is : (d : Data) (ms : Members) → as_object d ≡ Some ms → d ≡ object ms
object_is null ms e = absurd (cc)
object_is (boolean b) ms e = absurd (cc)
object_is (number n) ms e = absurd (cc)
object_is (string s) ms e = absurd (cc)
object_is (array ds) ms e = absurd (cc)
object_is (object ns) ms e = ap object (some_is ns ms e)

object_once : (ms ns : Members) → object ms ≡ object ns → ms ≡ ns
object_once ms ns e = cc

pub same_members : (d : Data) (ms ns : Members) → as_object d ≡ Some ms → d ≡ object ns → ms ≡ ns
same_members d ms ns e f = object_once ms ns (sym (object_is d ms e) ∙ f)

pub no_members_there : (d : Data) (ns : Members) → as_object d ≡ None → d ≡ object ns → ⊥
no_members_there d ns e f = let g : Some ns ≡ None = sym (ap as_object f) ∙ e in absurd (cc)

pub member_valid : (done : List Entry) (e : Entry) (more : List Entry) → HaveValid (members_view (done ++ e ∷ more)) → IsValid (view e.1)
member_valid [] e more h = h.1
member_valid (first ∷ done) e more h = member_valid done e more h.2

pub member_within : (done : List Entry) (e : Entry) (more : List Entry) → depth (view e.1) ≤ members_depth (members_view (done ++ e ∷ more))
member_within [] e more = omega arith
member_within (first ∷ done) e more = let rest = member_within done e more in omega arith

pub entry_more : (done : List Entry) (e : Entry) (es : Entries) (tree : Tree) → TellEntries (members_view done) es → Tells (view e.1) tree
    → TellEntries (members_view (done ++ e ∷ [])) (with_last es (string_bytes e.0) tree)
entry_more [] e no_entries tree told one = (refl, one, tt)
entry_more [] e (entry n t es) tree told one = absurd told
entry_more (first ∷ done) e no_entries tree told one = absurd told
entry_more (first ∷ done) e (entry n t es) tree told one = (told.0, told.1, entry_more done e es tree told.2 one)

pub entry_none : (done : List Entry) (e : Entry) (more : List Entry) → ((tree : Tree) → Tells (view e.1) tree → ⊥) → (es : Entries) → TellEntries (members_view (done ++ e ∷ more)) es → ⊥
entry_none [] e more none no_entries told = told
entry_none [] e more none (entry n t es) told = none t told.1
entry_none (first ∷ done) e more none no_entries told = told
entry_none (first ∷ done) e more none (entry n t es) told = entry_none done e more none es told.2

-- ---- the names rise

both : (a b : Bool) → IsTrue a → IsTrue b → IsTrue (a && b)
both true b p q = q
both false b p q = absurd (cc)

lt_less : (o : Ordering) → o ≡ Less → IsTrue (is_lt o)
lt_less o e = ap is_lt e

told_below : (first : Entry) (done : List Entry) (e : Entry) (more : List Entry) (es : Entries) (tree : Tree) (n : Name) → n ≡ string_bytes first.0 → TellEntries (members_view done) es
    → AllByRecursion (λ y. string_cmp first.0 y ≡ Less) (keys_of (done ++ e ∷ more)) → IsTrue (finite.below_all name_cmp n (listed es ++ (string_bytes e.0, tree) ∷ []))
told_below first [] e more no_entries tree n is told all =
    both (is_lt (slice_cmp nat_cmp n (string_bytes e.0))) true (lt_less (slice_cmp nat_cmp n (string_bytes e.0)) (ap (λ (m : Name). slice_cmp nat_cmp m (string_bytes e.0)) is ∙ all.0)) refl
told_below first [] e more (entry m t es) tree n is told all = absurd told
told_below first (next ∷ done) e more no_entries tree n is told all = absurd told
told_below first (next ∷ done) e more (entry m t es) tree n is told all =
    both (is_lt (slice_cmp nat_cmp n m)) (finite.below_all name_cmp n (listed es ++ (string_bytes e.0, tree) ∷ []))
    (lt_less (slice_cmp nat_cmp n m) (ap (λ (k : Name). slice_cmp nat_cmp k m) is ∙ ap (slice_cmp nat_cmp (string_bytes first.0)) (sym told.0) ∙ all.0))
    (told_below first done e more es tree n is told.2 all.1)

pub told_sorted : (done : List Entry) (e : Entry) (more : List Entry) (es : Entries) (tree : Tree) → TellEntries (members_view done) es
    → IsStrictlySortedBy string_cmp (keys_of (done ++ e ∷ more)) → IsTrue (finite.is_sorted name_cmp (listed es ++ (string_bytes e.0, tree) ∷ []))
unfolding IsStrictlySortedBy
told_sorted [] e more no_entries tree told sorted = refl
told_sorted [] e more (entry n t es) tree told sorted = absurd told
told_sorted (first ∷ done) e more no_entries tree told sorted = absurd told
told_sorted (first ∷ done) e more (entry n t es) tree told sorted =
    both (finite.below_all name_cmp n (listed es ++ (string_bytes e.0, tree) ∷ [])) (finite.is_sorted name_cmp (listed es ++ (string_bytes e.0, tree) ∷ []))
    (told_below first done e more es tree n (sym told.0) told.2 sorted.0) (told_sorted done e more es tree told.2 sorted.1)
