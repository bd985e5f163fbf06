-- Names and objects at the same places, as entries.
use Rattle.std.proofs.Common.{◌≡◌, ℕ, zero, suc, ◌<◌, Bool, true, false, List, [], ◌∷◌, ◌++◌, length, get_or, refl, sym, ap, subst, arith, Ordering, Less, Equal, Greater}
use Rattle.std.specs.Prelude.{IsTrue, ◌&&◌}
use Rattle.std.specs.Ordering.{is_lt}
use Rattle.std.specs.FinMap.Entries as finite
use Rattle.std.specs.List.{AllByRecursion}
use Rattle.std.specs.Str.{IsUtf8}
use Rattle.kvs_model.specs.Store.{Name}
use Rattle.tree_rules.specs.Objects.{Tree, Entries, no_entries, entry, listed, entries_of}
use Rattle.tree_objects.specs.Directories.{names_of, tree_size, entries_size, with_last, IsDirectory}
use Rattle.tree_rules.specs.Names.{name_cmp}
use Rattle.tree_objects.specs.Level.{tree_of, paired}
use Rattle.tree_objects.specs.declared.object.Object.{Object}

pub names_of_paired : (names : List Name) (objects : List Object) → length names ≡ length objects → names_of (paired names objects) ≡ names
names_of_paired [] objects e = refl
names_of_paired (n ∷ ns) [] e = absurd (omega arith)
names_of_paired (n ∷ ns) (o ∷ os) e = ap (λ (xs : List Name). n ∷ xs) (names_of_paired ns os (omega arith))

-- entries are those of their list
pub entries_of_listed : (es : Entries) → entries_of (listed es) ≡ es
entries_of_listed no_entries = refl
entries_of_listed (entry name tree es) = ap (λ (more : Entries). entry name tree more) (entries_of_listed es)

pub and_parts : (a b : Bool) → IsTrue (a && b) → IsTrue a × IsTrue b
and_parts true b h = (refl, h)
and_parts false b h = absurd (cc)

pub less_is : (o : Ordering) → IsTrue (is_lt o) → o ≡ Less
less_is Less h = refl
less_is Equal h = absurd (cc)
less_is Greater h = absurd (cc)

-- the object at a place is smaller than its directory
pub smaller : (names : List Name) (objects : List Object) → length names ≡ length objects → (i : ℕ) (o : Object) → i < length names → o ≡ get_or objects i o
    → tree_size (tree_of o) < entries_size (paired names objects)
smaller [] objects e i o w is = absurd (omega arith)
smaller (n ∷ ns) [] e i o w is = absurd (omega arith)
smaller (n ∷ ns) (p ∷ ps) e zero o w is = let same : tree_size (tree_of o) ≡ tree_size (tree_of p) = ap (λ (q : Object). tree_size (tree_of q)) is in omega arith
smaller (n ∷ ns) (p ∷ ps) e (suc i) o w is = let rest = smaller ns ps (omega arith) i o (omega arith) is in omega arith

-- ---- one entry more

pub paired_last : (names : List Name) (objects : List Object) → length names ≡ length objects → (name : Name) (o : Object)
    → paired (names ++ name ∷ []) (objects ++ o ∷ []) ≡ with_last (paired names objects) name (tree_of o)
paired_last [] [] e name o = refl
paired_last [] (p ∷ ps) e name o = absurd (omega arith)
paired_last (n ∷ ns) [] e name o = absurd (omega arith)
paired_last (n ∷ ns) (p ∷ ps) e name o = ap (λ (es : Entries). entry n (tree_of p) es) (paired_last ns ps (omega arith) name o)

listed_last : (es : Entries) (name : Name) (tree : Tree) → listed (with_last es name tree) ≡ listed es ++ (name, tree) ∷ []
listed_last no_entries name tree = refl
listed_last (entry n t es) name tree = ap (λ (xs : List (Name × Tree)). (n, t) ∷ xs) (listed_last es name tree)

texts_last : (es : Entries) (name : Name) (tree : Tree) → AllByRecursion IsUtf8 (names_of es) → IsUtf8 name → AllByRecursion IsUtf8 (names_of (with_last es name tree))
texts_last no_entries name tree all one = (one, tt)
texts_last (entry n t es) name tree all one = (all.0, texts_last es name tree all.1 one)

pub directory_last : (es : Entries) (name : Name) (tree : Tree) → IsDirectory es → IsTrue (finite.is_sorted name_cmp (listed es ++ (name, tree) ∷ [])) → IsUtf8 name → IsDirectory (with_last es name tree)
directory_last es name tree h sorted text = record {
  sorted = subst (λ (xs : List (Name × Tree)). IsTrue (finite.is_sorted name_cmp xs)) (sym (listed_last es name tree)) sorted;
  texts = texts_last es name tree h.texts text;
}
