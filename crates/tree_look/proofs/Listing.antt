-- The names of a directory, one after another.
use Rattle.std.proofs.Common.{◌≡◌, ℕ, zero, suc, ◌+◌, ◌<◌, ◌≤◌, List, [], ◌∷◌, ◌++◌, length, map, take, get_or, sym, ap, ap₂, ◌∙◌, subst, arith, add-one}
use Rattle.std.proofs.lemmas.List.{map-append, take_all, length-map}
use Rattle.kvs_txn.specs.declared.answers.Kind.{Kind}
use Rattle.kvs_txn.specs.declared.answers.Listed.{Listed}
use Rattle.kvs_model.specs.Store.{Name}
use Rattle.tree_rules.specs.Objects.{Tree, Entries, listed}
use Rattle.tree_objects.specs.Directories.{names_of}
use Rattle.tree_objects.specs.Level.{tree_of, paired}
use Rattle.tree_objects.specs.declared.object.Object.{Object}
use Rattle.tree_look.specs.Legs.{kind_shown, shown}

listed_next : (names : List Name) (objects : List Object) (i : ℕ) (n : Name) (o : Object) → length objects ≡ length names → i < length names → n ≡ get_or names i n → o ≡ get_or objects i o
    → take (suc i) (listed (paired names objects)) ≡ take i (listed (paired names objects)) ++ (n, tree_of o) ∷ []
listed_next [] objects i n o same within named is = absurd (omega arith)
listed_next (m ∷ names) [] i n o same within named is = absurd (omega arith)
listed_next (m ∷ names) (p ∷ objects) zero n o same within named is = ap₂ (λ (x : Name) (y : Object). (x, tree_of y) ∷ []) (sym named) (sym is)
listed_next (m ∷ names) (p ∷ objects) (suc i) n o same within named is = ap (λ (es : List (Name × Tree)). (m, tree_of p) ∷ es) (listed_next names objects i n o (omega arith) (omega arith) named is)

-- what is known of the name and the object at a place of a directory
pub record IsNext (d : Entries) (objects : List Object) (index : ℕ) (name : Name) (object : Object) : Type 0 where
  pub objects_are : paired (names_of d) objects ≡ d
  pub same_length : length objects ≡ length (names_of d)
  pub within : index < length (names_of d)
  pub named : name ≡ get_or (names_of d) index name
  pub is : object ≡ get_or objects index object

pub shown_next : (d : Entries) (objects : List Object) (i : ℕ) (n : Name) (o : Object) (list : List Listed) (name : Name) (kind : Kind) → IsNext d objects i n o → list ≡ map shown (take i (listed d)) → name ≡ n → kind ≡ kind_shown (tree_of o)
    → list ++ record { name = name; kind = kind } ∷ [] ≡ map shown (take (i + 1) (listed d))
shown_next d objects i n o list name kind next before named kinds =
    let row : ◌≡◌ {A = Listed} (record { name = name; kind = kind }) (shown (n, tree_of o)) = ap₂ (λ (x : Name) (k : Kind). let made : Listed = record { name = x; kind = k } in made) named kinds in
    let step : take (suc i) (listed d) ≡ take i (listed d) ++ (n, tree_of o) ∷ [] =
    subst (λ (es : Entries). take (suc i) (listed es) ≡ take i (listed es) ++ (n, tree_of o) ∷ []) next.objects_are (listed_next (names_of d) objects i n o next.same_length next.within next.named next.is) in
    ap₂ (λ (xs : List Listed) (x : Listed). xs ++ x ∷ []) before row
    ∙ sym (map-append shown (take i (listed d)) ((n, tree_of o) ∷ []))
    ∙ ap (map shown) (sym step)
    ∙ ap (λ k. map shown (take k (listed d))) (sym (add-one i))

pub shown_all : (d : Entries) (i : ℕ) (list : List Listed) → list ≡ map shown (take i (listed d)) → length (names_of d) ≤ i → list ≡ map shown (listed d)
shown_all d i list before all =
    before ∙ ap (map shown) (take_all i (listed d) (omega (arith, all, length-map (listed d) (λ (e : Name × Tree). e.0))))
