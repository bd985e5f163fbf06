-- What a change at a path leaves outside of it.
use Rattle.std.proofs.Common.{◌≡◌, ◌≢◌, true, false, cond, not, [], ◌∷◌, ◌++◌, Option, Some, None, refl, sym, ap, ◌∙◌, subst, inl, inr, true≢false}
use Rattle.std.specs.Prelude.{IsSome}
use Rattle.std.specs.Ordering.{eq_by_cmp}
use Rattle.kvs_model.specs.Store.{Name, Path, Node, Directory, Store, IsStore, root, path_cmp, node_at, with_node, without, is_within}
use Rattle.kvs_model.specs.Operation.{with_places_above, placed, is_directory}
use Rattle.kvs_model.proofs.Paths.{node_at-with_node, node_at-without, sorted-with_node, path_self, within_self}
use Rattle.kvs_model.proofs.Sound.{IsStore-placed, IsStore-without}
use Rattle.tree_rules.specs.Held.{IsStorable, IsStorableNode}
use Rattle.tree_rules.specs.Objects.{Entries}
use Rattle.tree_store.specs.Shown.{Directories, opened_at}
use Rattle.tree_store.proofs.Opening.{path_dec, same_parent, longer, is_some}
use Rattle.tree_store.proofs.Replacing.{IsOutside, open_within}
use Rattle.tree_store.proofs.Steps.{path_apart, not_whole}
use Rattle.tree_store.proofs.Storable.{IsNamed, put_good, filter_good, placed_good}

placed_store : (st : Store) → IsStore st → (p : Path) (n : Name) (node : Node) → IsStore (placed st (p ++ n ∷ []) node)
placed_store st is [] n node = IsStore-placed st is n [] node
placed_store st is (x ∷ p) n node = IsStore-placed st is x (p ++ n ∷ []) node

without_store : (st : Store) → IsStore st → (p : Path) (n : Name) → IsStore (without st (p ++ n ∷ []))
without_store st is [] n = IsStore-without st is n []
without_store st is (x ∷ p) n = IsStore-without st is x (p ++ n ∷ [])

-- a node in the place of all that stood at a path and below, where the directories above are made
pub outside_placed : (st : Store) (p : Path) (n : Name) (node : Node) → IsStore st → IsStorable st → IsNamed (p ++ n ∷ []) → IsStorableNode node
    → IsOutside (with_places_above st (p ++ n ∷ [])) (placed st (p ++ n ∷ []) node) (p ++ n ∷ [])
outside_placed st p n node is all named small = record {
  store = placed_store st is p n node;
  storable = placed_good st (p ++ n ∷ []) node all named small;
  others = λ q w. node_at-with_node (without (with_places_above st (p ++ n ∷ [])) (p ++ n ∷ [])) (p ++ n ∷ []) node q
      ∙ ap (λ b. cond b (Some node) (node_at (without (with_places_above st (p ++ n ∷ [])) (p ++ n ∷ [])) q)) (path_apart q (p ++ n ∷ []) (not_whole p n q w))
      ∙ node_at-without (with_places_above st (p ++ n ∷ [])) (p ++ n ∷ []) q
      ∙ ap (λ b. cond (not b) (node_at (with_places_above st (p ++ n ∷ [])) q) None) w;
}

pub placed_there : (st : Store) (path : Path) (node : Node) → node_at (placed st path node) path ≡ Some node
placed_there st path node =
    node_at-with_node (without (with_places_above st path) path) path node path
    ∙ ap (λ b. cond b (Some node) (node_at (without (with_places_above st path) path) path)) (path_self path)

pub outside_without : (st : Store) (p : Path) (n : Name) → IsStore st → IsStorable st → IsOutside st (without st (p ++ n ∷ [])) (p ++ n ∷ [])
outside_without st p n is all = record {
  store = without_store st is p n;
  storable = filter_good (λ other. not (is_within (p ++ n ∷ []) other)) st all;
  others = λ q w. node_at-without st (p ++ n ∷ []) q ∙ ap (λ b. cond (not b) (node_at st q) None) w;
}

pub without_there : (st : Store) (path : Path) → node_at (without st path) path ≡ None
without_there st path = node_at-without st path path ∙ ap (λ b. cond (not b) (node_at st path) None) (within_self path)

-- ---- one directory more

directory_made : (st : Store) (p : Path) (n : Name) (q : Path) → node_at (with_node st (p ++ n ∷ []) Directory) q ≡ cond (eq_by_cmp path_cmp q (p ++ n ∷ [])) (Some Directory) (node_at st q)
directory_made st p n q = node_at-with_node st (p ++ n ∷ []) Directory q

pub made_there : (st : Store) (p : Path) (n : Name) → node_at (with_node st (p ++ n ∷ []) Directory) (p ++ n ∷ []) ≡ Some Directory
made_there st p n = directory_made st p n (p ++ n ∷ []) ∙ ap (λ b. cond b (Some Directory) (node_at st (p ++ n ∷ []))) (path_self (p ++ n ∷ []))

pub made_elsewhere : (st : Store) (p : Path) (n : Name) (q : Path) → q ≢ p ++ n ∷ [] → node_at (with_node st (p ++ n ∷ []) Directory) q ≡ node_at st q
made_elsewhere st p n q ne = directory_made st p n q ∙ ap (λ b. cond b (Some Directory) (node_at st q)) (path_apart q (p ++ n ∷ []) ne)

-- a directory stands there still
made_stays : (st : Store) (p : Path) (n : Name) (q : Path) → node_at st q ≡ Some Directory → node_at (with_node st (p ++ n ∷ []) Directory) q ≡ Some Directory
made_stays st p n q is =
    elim (path_dec q (p ++ n ∷ [])) [
      | inl e ↦ ap (node_at (with_node st (p ++ n ∷ []) Directory)) e ∙ made_there st p n
      | inr ne ↦ made_elsewhere st p n q ne ∙ is
    ]

made_store : (st : Store) (p : Path) (n : Name) → IsStore st → node_at st p ≡ Some Directory → IsStore (with_node st (p ++ n ∷ []) Directory)
made_store st p n is above = record {
  sorted = sorted-with_node st (p ++ n ∷ []) Directory is.sorted;
  rooted = made_stays st p n root is.rooted;
  parents = λ q m some. elim (path_dec (q ++ m ∷ []) (p ++ n ∷ [])) [
    | inl e ↦ made_stays st p n q (ap (node_at st) (same_parent q p m n e).0 ∙ above)
    | inr ne ↦ made_stays st p n q (is.parents q m (subst IsSome (made_elsewhere st p n (q ++ m ∷ []) ne) some))
  ];
}

pub outside_made : (st : Store) (p : Path) (n : Name) → IsStore st → IsStorable st → IsNamed (p ++ n ∷ []) → node_at st p ≡ Some Directory → IsOutside st (with_node st (p ++ n ∷ []) Directory) (p ++ n ∷ [])
outside_made st p n is all named above = record {
  store = made_store st p n is above;
  storable = put_good (p ++ n ∷ []) Directory st all named tt;
  others = λ q w. made_elsewhere st p n q (not_whole p n q w);
}

no_directory : (o : Option Node) → is_directory o ≡ false → o ≡ Some Directory → ⊥
no_directory o e d = true≢false (sym (ap is_directory d) ∙ e)

-- where no directory stood, none lies below the new one
pub made_empty : (st : Store) (p : Path) (n m : Name) → IsStore st → is_directory (node_at st (p ++ n ∷ [])) ≡ false → node_at (with_node st (p ++ n ∷ []) Directory) ((p ++ n ∷ []) ++ m ∷ []) ≡ None
made_empty st p n m is none =
    made_elsewhere st p n ((p ++ n ∷ []) ++ m ∷ []) (λ e. longer (p ++ n ∷ []) [] m e) ∙ nothing (node_at st ((p ++ n ∷ []) ++ m ∷ [])) refl
  where
    nothing : (o : Option Node) → node_at st ((p ++ n ∷ []) ++ m ∷ []) ≡ o → o ≡ None
    nothing None e = refl
    nothing (Some node) e = absurd (no_directory (node_at st (p ++ n ∷ [])) none (is.parents (p ++ n ∷ []) m (is_some (node_at st ((p ++ n ∷ []) ++ m ∷ [])) node e)))

-- where no directory stands, none is open at the path or below
pub none_open : (ds : Directories) (st : Store) (p : Path) (n : Name) → ((q : Path) → IsSome (opened_at ds q) → node_at st q ≡ Some Directory) → ((q : Path) (m : Name) → IsSome (opened_at ds (q ++ m ∷ [])) → IsSome (opened_at ds q))
    → is_directory (node_at st (p ++ n ∷ [])) ≡ false → (q : Path) → is_within (p ++ n ∷ []) q ≡ true → opened_at ds q ≡ None
none_open ds st p n places above none q w = nothing (opened_at ds q) refl
  where
    nothing : (o : Option Entries) → opened_at ds q ≡ o → o ≡ None
    nothing None e = refl
    nothing (Some es) e = absurd (no_directory (node_at st (p ++ n ∷ [])) none (places (p ++ n ∷ []) (open_within ds above (p ++ n ∷ []) q w (is_some (opened_at ds q) es e))))
