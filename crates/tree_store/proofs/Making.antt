-- What the open directories show after a node is put, or taken away, at a path above which all directories are open.
use Rattle.std.proofs.Common.{◌≡◌, false, cond, [], ◌∷◌, ◌++◌, length, take, Some, refl, sym, ap, ◌∙◌, subst, inl, inr, arith, length-append}
use Rattle.std.specs.Prelude.{IsSome}
use Rattle.std.proofs.lemmas.List.{take_at}
use Rattle.fl_digest.specs.declared.Hash.{Hash}
use Rattle.kvs_model.specs.Store.{Name, Path, Node, Directory, Store, IsStore, node_at, with_node, without}
use Rattle.kvs_model.specs.Operation.{with_places_above, placed, is_directory}
use Rattle.kvs_model.proofs.Paths.{node_at-with_places_above, is_above}
use Rattle.kvs_model.proofs.Paths as paths
use Rattle.tree_rules.specs.Held.{Table, IsStorable, IsStorableNode}
use Rattle.tree_rules.specs.Objects.{Tree, val, valref, dir, dirref, symlink, no_entries}
use Rattle.tree_store.specs.Shown.{Directories, opened_at, Stands, Shows, OpensAbove, IsNodeOf, with_object, without_object, closed_within, with_open}
use Rattle.tree_store.proofs.Opening.{path_dec, is_some}
use Rattle.tree_store.proofs.Replacing.{some_of}
use Rattle.tree_store.proofs.Steps.{shows_put, shows_cut, shows_made, open_opened}
use Rattle.tree_store.proofs.Storable.{IsNamed}
use Rattle.tree_store.proofs.Outside.{outside_placed, placed_there, outside_without, without_there, outside_made, made_there, made_elsewhere, made_empty, none_open}

-- ---- a node is put

stands_node : (h : Hash) (table : Table) (ds : Directories) (after : Store) (q : Path) (tree : Tree) (node : Node) → IsNodeOf tree node → node_at after q ≡ Some node → Stands h table ds after q (Some tree)
stands_node h table ds after q (val bytes) node is there = there ∙ ap Some is
stands_node h table ds after q (valref references) node is there = absurd is
stands_node h table ds after q (dir es) node is there = absurd is
stands_node h table ds after q (dirref reference) node is there = absurd is
stands_node h table ds after q (symlink target) node is there = there ∙ ap Some is

-- the directory above a path is open
pub parent_open : (ds : Directories) (st : Store) (p : Path) (n : Name) → OpensAbove ds st (p ++ n ∷ []) → node_at st p ≡ Some Directory → IsSome (opened_at ds p)
parent_open ds st p n opens is =
    let same : take (length p) (p ++ n ∷ []) ≡ p = take_at p (n ∷ []) (length p) refl in
    subst (λ (q : Path). IsSome (opened_at ds q)) same (opens (length p) (omega (arith, length-append p (n ∷ []))) (ap (node_at st) same ∙ is))

above_made : (st : Store) (p : Path) (n : Name) → node_at (with_places_above st (p ++ n ∷ [])) p ≡ Some Directory
above_made st p n = node_at-with_places_above st (p ++ n ∷ []) p ∙ ap (λ b. cond b (Some Directory) (node_at st p)) (paths.above_child p n)

pub shows_placed : (h : Hash) (table : Table) (ds : Directories) (st : Store) (p : Path) (n : Name) (tree : Tree) (node : Node) → IsStore st → IsStorable st → Shows h table ds (with_places_above st (p ++ n ∷ []))
    → OpensAbove ds (with_places_above st (p ++ n ∷ [])) (p ++ n ∷ []) → IsNamed (p ++ n ∷ []) → IsStorableNode node → IsNodeOf tree node
    → Shows h table (with_object (closed_within ds (p ++ n ∷ [])) (p ++ n ∷ []) tree) (placed st (p ++ n ∷ []) node)
shows_placed h table ds st p n tree node is all shows opens named small of =
    let made : Store = with_places_above st (p ++ n ∷ []) in
    let es = some_of (opened_at ds p) (parent_open ds made p n opens (above_made st p n)) in
    shows_put h table ds made (placed st (p ++ n ∷ []) node) p n tree es.0 shows es.1 (outside_placed st p n node is all named small)
    (stands_node h table (with_object (closed_within ds (p ++ n ∷ [])) (p ++ n ∷ []) tree) (placed st (p ++ n ∷ []) node) (p ++ n ∷ []) tree node of (placed_there st (p ++ n ∷ []) node))

-- ---- what stands at a path is taken away

pub shows_without : (h : Hash) (table : Table) (ds : Directories) (st : Store) (p : Path) (n : Name) → Shows h table ds st → OpensAbove ds st (p ++ n ∷ []) → node_at st p ≡ Some Directory
    → Shows h table (closed_within (without_object ds (p ++ n ∷ [])) (p ++ n ∷ [])) (without st (p ++ n ∷ []))
shows_without h table ds st p n shows opens is =
    let es = some_of (opened_at ds p) (parent_open ds st p n opens is) in
    shows_cut h table ds st (without st (p ++ n ∷ [])) p n es.0 shows es.1 (outside_without st p n shows.store shows.storable) (without_there st (p ++ n ∷ []))

-- ---- one directory more

pub shows_directory : (h : Hash) (table : Table) (ds : Directories) (st : Store) (p : Path) (n : Name) → Shows h table ds st → IsSome (opened_at ds p) → IsNamed (p ++ n ∷ [])
    → is_directory (node_at st (p ++ n ∷ [])) ≡ false → Shows h table (with_open ds (p ++ n ∷ []) no_entries) (with_node st (p ++ n ∷ []) Directory)
shows_directory h table ds st p n shows some named none =
    let es = some_of (opened_at ds p) some in
    shows_made h table ds st (with_node st (p ++ n ∷ []) Directory) p n es.0 shows es.1
    (outside_made st p n shows.store shows.storable named (shows.places p some))
    (none_open ds st p n shows.places shows.above none)
    (made_there st p n)
    (λ m. made_empty st p n m shows.store none)

-- all that were open above a path stay so, and the new one is
pub opens_directory : (ds : Directories) (st : Store) (p : Path) (n : Name) (whole : Path) → IsSome (opened_at ds p) → OpensAbove ds st whole
    → OpensAbove (with_open ds (p ++ n ∷ []) no_entries) (with_node st (p ++ n ∷ []) Directory) whole
opens_directory ds st p n whole some opens k w is =
    let es = some_of (opened_at ds p) some in
    let opened = open_opened ds p n no_entries es.0 es.1 in
    let new : Directories = with_open ds (p ++ n ∷ []) no_entries in
    elim (path_dec (take k whole) (p ++ n ∷ [])) [
      | inl e ↦ is_some (opened_at new (take k whole)) no_entries (ap (opened_at new) e ∙ opened.there)
      | inr ne ↦ elim (path_dec (take k whole) p) [
        | inl e ↦ is_some (opened_at new (take k whole)) _ (ap (opened_at new) e ∙ opened.parent)
        | inr nf ↦ subst IsSome (sym (opened.others (take k whole) ne nf)) (opens k w (sym (made_elsewhere st p n (take k whole) ne) ∙ is))
      ]
    ]
