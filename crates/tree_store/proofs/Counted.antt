-- An open directory has as many names as that of the store.
use Rattle.std.proofs.Common.{◌≡◌, suc, Bool, true, false, cond, T, List, [], ◌∷◌, ◌++◌, map, length, Option, Some, None, option_map, is_none, refl, sym, ap, ◌∙◌, subst, true≢false}
use Rattle.std.specs.Prelude.{IsTrue, nat_le, ◌&&◌}
use Rattle.std.specs.FinMap.Entries as finite
use Rattle.std.specs.FinMap.{nat_cmp-IsAntisymmetric, slice_cmp-IsAntisymmetric}
use Rattle.std.specs.List.{cons_option}
use Rattle.std.specs.Ordering.{is_lt, eq_by_cmp}
use Rattle.std.proofs.lemmas.Cmp.{nat_list_cmp_total}
use Rattle.fl_digest.specs.declared.Hash.{Hash}
use Rattle.kvs_txn.specs.declared.answers.Listed.{Listed}
use Rattle.kvs_model.specs.Operation.{most_names}
use Rattle.kvs_model.specs.Store.{Name, Path, Node, Directory, Store, IsStore, node_at, names_in, child_name}
use Rattle.kvs_model.specs.Store as stores
use Rattle.tree_rules.specs.Held.{Table}
use Rattle.tree_rules.specs.Names.{name_cmp}
use Rattle.tree_rules.specs.Objects.{Tree, Entries, listed}
use Rattle.tree_rules.specs.Texts.{object_of, objects, objects_in}
use Rattle.tree_rules.proofs.Below.{names_rise}
use Rattle.tree_rules.proofs.Objects.{stored_under}
use Rattle.tree_objects.specs.Directories.{names_of}
use Rattle.tree_store.specs.Shown.{Directories, opened_at, Shows}
use Rattle.tree_store.proofs.Found.{none_told, child_none}
use Rattle.tree_store.proofs.Opening.{name_self}

abbrev Rows : Type 0
Rows = List (Name × Tree)

-- ---- rows under the same names are as many

abbrev marks : Rows → List (Name × Unit {0})
marks rows = map (λ e. (e.0, tt)) rows

find_marks : (n : Name) (rows : Rows) → finite.find name_cmp n (marks rows) ≡ option_map (λ e. tt) (finite.find name_cmp n rows)
find_marks n [] = refl
find_marks n (e ∷ rows) =
    elim (eq_by_cmp name_cmp n e.0) as (λ b. cond b (Some tt) (finite.find name_cmp n (marks rows)) ≡ option_map (λ e. tt) (cond b (Some e.1) (finite.find name_cmp n rows))) [ true ↦ refl | false ↦ find_marks n rows ]

below_marks : (n : Name) (rows : Rows) → finite.below_all name_cmp n (marks rows) ≡ finite.below_all name_cmp n rows
below_marks n [] = refl
below_marks n (e ∷ rows) = ap (λ b. is_lt (name_cmp n e.0) && b) (below_marks n rows)

sorted_marks : (rows : Rows) → finite.is_sorted name_cmp (marks rows) ≡ finite.is_sorted name_cmp rows
sorted_marks [] = refl
sorted_marks (e ∷ rows) =
    ap (λ b. b && finite.is_sorted name_cmp (marks rows)) (below_marks e.0 rows) ∙ ap (λ b. finite.below_all name_cmp e.0 rows && b) (sorted_marks rows)

marks_length : (rows : Rows) → length (marks rows) ≡ length rows
marks_length [] = refl
marks_length (e ∷ rows) = ap suc (marks_length rows)

same_mark : {A B : Type 0} (a : Option A) (b : Option B) → is_none a ≡ is_none b → option_map (λ e. tt {0}) a ≡ option_map (λ e. tt {0}) b
same_mark None None e = refl
same_mark (Some x) (Some y) e = refl
same_mark None (Some y) e = absurd (true≢false e)
same_mark (Some x) None e = absurd (true≢false (sym e))

to_T : (b : Bool) → b ≡ true → T b
to_T b e = subst T (sym e) tt

as_many : (a b : Rows) → IsTrue (finite.is_sorted name_cmp a) → IsTrue (finite.is_sorted name_cmp b) → ((n : Name) → is_none (finite.find name_cmp n a) ≡ is_none (finite.find name_cmp n b)) → length a ≡ length b
as_many a b s t same =
    sym (marks_length a)
    ∙ ap (λ (xs : List (Name × Unit {0})). length xs) (finite.same_entries name_cmp nat_list_cmp_total (slice_cmp-IsAntisymmetric nat_cmp-IsAntisymmetric) (marks a) (marks b) (to_T _ (sorted_marks a ∙ s)) (to_T _ (sorted_marks b ∙ t)) (λ n.
    find_marks n a ∙ same_mark (finite.find name_cmp n a) (finite.find name_cmp n b) (same n) ∙ sym (find_marks n b)))
    ∙ marks_length b

-- ---- the names that a store lists

length-row : (o : Option Name) (node : Node) (tree : Tree) (rows : Rows) (names : List Listed) → length rows ≡ length names
    → length (cons_option (option_map (λ name. (name, tree)) o) rows) ≡ length (cons_option (stores.listed o node) names)
length-row None node tree rows names e = e
length-row (Some n) node tree rows names e = ap suc e

rows_listed : (h : Hash) (st : Store) (p : Path) → length (objects_in p (objects h st)) ≡ length (names_in st p)
unfolding objects
rows_listed h [] p = refl
rows_listed h (e ∷ st) p = length-row (child_name p e.0) e.1 (object_of h e.1 (objects_in e.0 (objects h st))) (objects_in p (objects h st)) (names_in st p) (rows_listed h st p)

none_mapped : {A B : Type 0} (f : A → B) (o : Option A) → is_none (option_map f o) ≡ is_none o
none_mapped f None = refl
none_mapped f (Some x) = refl

row_none : (h : Hash) (st : Store) (p : Path) (n : Name) → IsTrue (finite.is_sorted stores.path_cmp st) → is_none (finite.find name_cmp n (objects_in p (objects h st))) ≡ is_none (node_at st (p ++ n ∷ []))
row_none h st p n sorted =
    ap is_none (stored_under h st p n sorted) ∙ none_mapped (λ node. object_of h node (objects_in (p ++ n ∷ []) (objects h st))) (node_at st (p ++ n ∷ []))

listed_names : (es : Entries) → length (names_of es) ≡ length (listed es)
listed_names es = count (listed es)
  where
    count : (rows : Rows) → length (map (λ e. e.0) rows) ≡ length rows
    count [] = refl
    count (e ∷ rows) = ap suc (count rows)

pub names_count : (h : Hash) (table : Table) (ds : Directories) (st : Store) (p : Path) (es : Entries) → Shows h table ds st → Some es ≡ opened_at ds p → IsTrue (finite.is_sorted name_cmp (listed es)) → length (names_of es) ≡ length (names_in st p)
names_count h table ds st p es shows found sorted =
    let rows : Rows = objects_in p (objects h st) in
    listed_names es
    ∙ as_many (listed es) rows sorted (names_rise h st p shows.store.sorted) (λ n.
    none_told h table ds st (p ++ n ∷ []) (finite.find name_cmp n (listed es)) (shows.told p es n (sym found)) ∙ sym (row_none h st p n shows.store.sorted))
    ∙ rows_listed h st p

-- ---- no directory has no names

no_rows : (rows : Rows) → ((n : Name) → is_none (finite.find name_cmp n rows) ≡ true) → length rows ≡ 0
no_rows [] none = refl
no_rows (e ∷ rows) none = absurd (true≢false (sym (none e.0) ∙ ap (λ b. is_none (cond b (Some e.1) (finite.find name_cmp e.0 rows))) (name_self e.0)))

pub names_none : (h : Hash) (st : Store) (p : Path) → IsStore st → (node_at st p ≡ Some Directory → ⊥) → false ≡ nat_le most_names (length (names_in st p))
names_none h st p is unlike =
    sym (ap (nat_le most_names) (sym (rows_listed h st p) ∙ no_rows (objects_in p (objects h st)) (λ n. row_none h st p n is.sorted ∙ ap is_none (child_none st is p n unlike))))
