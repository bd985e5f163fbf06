-- The open directories after each step, and that they show the store after it.
use Rattle.std.proofs.Common.{◌≡◌, ◌≢◌, true, false, cond, not, [], ◌∷◌, ◌++◌, Option, Some, None, refl, sym, ap, ◌∙◌, subst, true≢false}
use Rattle.std.specs.FinMap.Entries as finite
use Rattle.std.specs.Option.{option_map_or}
use Rattle.std.specs.Ordering.{eq_by_cmp}
use Rattle.std.proofs.lemmas.Cmp.{nat_list_cmp_total}
use Rattle.fl_digest.specs.declared.Hash.{Hash}
use Rattle.kvs_model.specs.Store.{Name, Path, Directory, Store, node_at, path_cmp, is_within}
use Rattle.kvs_model.proofs.Paths.{path_total, same_path, path_from_test, path_self, within_self, above_not_within}
use Rattle.kvs_model.proofs.Paths as paths
use Rattle.tree_rules.specs.Held.{Table}
use Rattle.tree_rules.specs.Names.{name_cmp}
use Rattle.tree_rules.specs.Objects.{Tree, dir, Entries, no_entries, entries_of, listed}
use Rattle.tree_objects.proofs.Search.{same_name}
use Rattle.tree_store.specs.Shown.{Directories, opened_at, Stands, Shows, put_in, with_object, take_from, without_object, closed_within, with_open}
use Rattle.tree_store.proofs.Opening.{above_child, name_from_test, name_self, longer, not_both, is_some, some_same, listed_again, IsOpened}
use Rattle.tree_store.proofs.Replacing.{IsReplaced, IsOutside, shows_replaced}

pub path_apart : (q p : Path) → q ≢ p → eq_by_cmp path_cmp q p ≡ false
path_apart q p ne =
    elim (eq_by_cmp path_cmp q p) as (λ b. eq_by_cmp path_cmp q p ≡ b → b ≡ false) [ true ↦ λ e. absurd (ne (path_from_test q p e)) | false ↦ λ e. refl ] refl

name_apart : (m n : Name) → eq_by_cmp name_cmp m n ≡ false → eq_by_cmp name_cmp n m ≡ false
name_apart m n h =
    elim (eq_by_cmp name_cmp n m) as (λ b. eq_by_cmp name_cmp n m ≡ b → b ≡ false) [
      | true ↦ λ e. absurd (true≢false (sym (name_self m) ∙ ap (eq_by_cmp name_cmp m) (sym (name_from_test n m e)) ∙ h))
      | false ↦ λ e. refl
    ] refl

-- ---- which directories are open

pub opened-put : (ds : Directories) (p : Path) (up : Entries) (q : Path) → opened_at (finite.put path_cmp p up ds) q ≡ cond (eq_by_cmp path_cmp q p) (Some up) (opened_at ds q)
opened-put ds p up q = finite.find-put path_cmp path_total q p up ds

opened-closed : (ds : Directories) (whole q : Path) → opened_at (closed_within ds whole) q ≡ cond (not (is_within whole q)) (opened_at ds q) None
opened-closed ds whole q = finite.find-where_key path_cmp (λ place. not (is_within whole place)) q (λ x e. ap (λ (o : Path). not (is_within whole o)) (sym (same_path q x e))) ds

parent_outside : (p : Path) (n : Name) → is_within (p ++ n ∷ []) p ≡ false
parent_outside p n = above_not_within p (p ++ n ∷ []) (paths.above_child p n)

-- what lies at a path or below isn't the directory above
pub not_parent : (p : Path) (n : Name) (q : Path) → is_within (p ++ n ∷ []) q ≡ true → q ≢ p
not_parent p n q w e = true≢false (sym w ∙ ap (is_within (p ++ n ∷ [])) e ∙ parent_outside p n)

pub not_whole : (p : Path) (n : Name) (q : Path) → is_within (p ++ n ∷ []) q ≡ false → q ≢ p ++ n ∷ []
not_whole p n q w e = true≢false (sym (within_self (p ++ n ∷ [])) ∙ ap (is_within (p ++ n ∷ [])) (sym e) ∙ w)

-- ---- an object under a name

abbrev pub up_with : Entries → Name → Tree → Entries
up_with es n tree = entries_of (finite.put name_cmp n tree (listed es))

abbrev pub up_without : Entries → Name → Entries
up_without es n = entries_of (finite.where_key name_cmp (λ other. not (eq_by_cmp name_cmp n other)) (listed es))

pub find_with : (es : Entries) (n : Name) (tree : Tree) (m : Name) → finite.find name_cmp m (listed (up_with es n tree)) ≡ cond (eq_by_cmp name_cmp m n) (Some tree) (finite.find name_cmp m (listed es))
find_with es n tree m = ap (finite.find name_cmp m) (listed_again (finite.put name_cmp n tree (listed es))) ∙ finite.find-put name_cmp nat_list_cmp_total m n tree (listed es)

find_without : (es : Entries) (n m : Name) → finite.find name_cmp m (listed (up_without es n)) ≡ cond (not (eq_by_cmp name_cmp n m)) (finite.find name_cmp m (listed es)) None
find_without es n m =
    ap (finite.find name_cmp m) (listed_again (finite.where_key name_cmp (λ other. not (eq_by_cmp name_cmp n other)) (listed es)))
    ∙ finite.find-where_key name_cmp (λ other. not (eq_by_cmp name_cmp n other)) m (λ x e. ap (λ (o : Name). not (eq_by_cmp name_cmp n o)) (sym (same_name m x e))) (listed es)

pub object_with : (ds : Directories) (p : Path) (n : Name) (tree : Tree) (es : Entries) → opened_at ds p ≡ Some es → with_object ds (p ++ n ∷ []) tree ≡ finite.put path_cmp p (up_with es n tree) ds
object_with ds p n tree es is =
    ap (λ (o : Option (Path × Name)). option_map_or (λ at. put_in ds at tree (opened_at ds at.0)) o ds) (above_child p n) ∙ ap (put_in ds (p, n) tree) is

pub object_without : (ds : Directories) (p : Path) (n : Name) (es : Entries) → opened_at ds p ≡ Some es → without_object ds (p ++ n ∷ []) ≡ finite.put path_cmp p (up_without es n) ds
object_without ds p n es is =
    ap (λ (o : Option (Path × Name)). option_map_or (λ at. take_from ds at (opened_at ds at.0)) o ds) (above_child p n) ∙ ap (take_from ds (p, n)) is

-- ---- an object is put in the place of all that stood there and below

module _ (ds : Directories) (p : Path) (n : Name) (tree : Tree) (es : Entries) (parent : opened_at ds p ≡ Some es) where
  after_put : (q : Path) → opened_at (with_object (closed_within ds (p ++ n ∷ [])) (p ++ n ∷ []) tree) q
      ≡ cond (eq_by_cmp path_cmp q p) (Some (up_with es n tree)) (cond (not (is_within (p ++ n ∷ []) q)) (opened_at ds q) None)
  after_put q =
      let base : Directories = closed_within ds (p ++ n ∷ []) in
      let there : opened_at base p ≡ Some es = opened-closed ds (p ++ n ∷ []) p ∙ ap (λ b. cond (not b) (opened_at ds p) None) (parent_outside p n) ∙ parent in
      ap (λ (d : Directories). opened_at d q) (object_with base p n tree es there)
      ∙ opened-put base p (up_with es n tree) q
      ∙ ap (cond (eq_by_cmp path_cmp q p) (Some (up_with es n tree))) (opened-closed ds (p ++ n ∷ []) q)

  put_closed : (q : Path) → is_within (p ++ n ∷ []) q ≡ true → opened_at (with_object (closed_within ds (p ++ n ∷ [])) (p ++ n ∷ []) tree) q ≡ None
  put_closed q w =
      after_put q
      ∙ ap (λ b. cond b (Some (up_with es n tree)) (cond (not (is_within (p ++ n ∷ []) q)) (opened_at ds q) None)) (path_apart q p (not_parent p n q w))
      ∙ ap (λ b. cond (not b) (opened_at ds q) None) w

  put_replaced : IsReplaced ds (with_object (closed_within ds (p ++ n ∷ [])) (p ++ n ∷ []) tree) p n (up_with es n tree)
  put_replaced = record {
    parent = after_put p ∙ ap (λ b. cond b (Some (up_with es n tree)) (cond (not (is_within (p ++ n ∷ []) p)) (opened_at ds p) None)) (path_self p);
    below = λ q w ne. put_closed q w;
    others = λ q w nf. after_put q
        ∙ ap (λ b. cond b (Some (up_with es n tree)) (cond (not (is_within (p ++ n ∷ []) q)) (opened_at ds q) None)) (path_apart q p nf)
        ∙ ap (λ b. cond (not b) (opened_at ds q) None) w;
  }

pub shows_put : (h : Hash) (table : Table) (ds : Directories) (st after : Store) (p : Path) (n : Name) (tree : Tree) (es : Entries) → Shows h table ds st → opened_at ds p ≡ Some es → IsOutside st after (p ++ n ∷ [])
    → Stands h table (with_object (closed_within ds (p ++ n ∷ [])) (p ++ n ∷ []) tree) after (p ++ n ∷ []) (Some tree)
    → Shows h table (with_object (closed_within ds (p ++ n ∷ [])) (p ++ n ∷ []) tree) after
shows_put h table ds st after p n tree es shows parent outside stands =
    let new : Directories = with_object (closed_within ds (p ++ n ∷ [])) (p ++ n ∷ []) tree in
    let up : Entries = up_with es n tree in
    let here : finite.find name_cmp n (listed up) ≡ Some tree = find_with es n tree n ∙ ap (λ b. cond b (Some tree) (finite.find name_cmp n (listed es))) (name_self n) in
    shows_replaced h table ds new st after p n es up shows parent (put_replaced ds p n tree es parent) outside
    (subst (Stands h table new after (p ++ n ∷ [])) (sym here) stands)
    (λ m e. find_with es n tree m ∙ ap (λ b. cond b (Some tree) (finite.find name_cmp m (listed es))) e)
    (λ fs e. absurd (not_both (opened_at new (p ++ n ∷ [])) (is_some (opened_at new (p ++ n ∷ [])) fs e) (put_closed ds p n tree es parent (p ++ n ∷ []) (within_self (p ++ n ∷ [])))))

-- ---- what stands at a path and below is taken away

module _ (ds : Directories) (p : Path) (n : Name) (es : Entries) (parent : opened_at ds p ≡ Some es) where
  after_cut : (q : Path) → opened_at (closed_within (without_object ds (p ++ n ∷ [])) (p ++ n ∷ [])) q
      ≡ cond (not (is_within (p ++ n ∷ []) q)) (cond (eq_by_cmp path_cmp q p) (Some (up_without es n)) (opened_at ds q)) None
  after_cut q =
      opened-closed (without_object ds (p ++ n ∷ [])) (p ++ n ∷ []) q
      ∙ ap (λ (o : Option Entries). cond (not (is_within (p ++ n ∷ []) q)) o None)
      (ap (λ (d : Directories). opened_at d q) (object_without ds p n es parent) ∙ opened-put ds p (up_without es n) q)

  cut_closed : (q : Path) → is_within (p ++ n ∷ []) q ≡ true → opened_at (closed_within (without_object ds (p ++ n ∷ [])) (p ++ n ∷ [])) q ≡ None
  cut_closed q w = after_cut q ∙ ap (λ b. cond (not b) (cond (eq_by_cmp path_cmp q p) (Some (up_without es n)) (opened_at ds q)) None) w

  cut_outside : (q : Path) → is_within (p ++ n ∷ []) q ≡ false
      → opened_at (closed_within (without_object ds (p ++ n ∷ [])) (p ++ n ∷ [])) q ≡ cond (eq_by_cmp path_cmp q p) (Some (up_without es n)) (opened_at ds q)
  cut_outside q w = after_cut q ∙ ap (λ b. cond (not b) (cond (eq_by_cmp path_cmp q p) (Some (up_without es n)) (opened_at ds q)) None) w

  cut_replaced : IsReplaced ds (closed_within (without_object ds (p ++ n ∷ [])) (p ++ n ∷ [])) p n (up_without es n)
  cut_replaced = record {
    parent = cut_outside p (parent_outside p n) ∙ ap (λ b. cond b (Some (up_without es n)) (opened_at ds p)) (path_self p);
    below = λ q w ne. cut_closed q w;
    others = λ q w nf. cut_outside q w ∙ ap (λ b. cond b (Some (up_without es n)) (opened_at ds q)) (path_apart q p nf);
  }

pub shows_cut : (h : Hash) (table : Table) (ds : Directories) (st after : Store) (p : Path) (n : Name) (es : Entries) → Shows h table ds st → opened_at ds p ≡ Some es → IsOutside st after (p ++ n ∷ [])
    → node_at after (p ++ n ∷ []) ≡ None → Shows h table (closed_within (without_object ds (p ++ n ∷ [])) (p ++ n ∷ [])) after
shows_cut h table ds st after p n es shows parent outside none =
    let new : Directories = closed_within (without_object ds (p ++ n ∷ [])) (p ++ n ∷ []) in
    let up : Entries = up_without es n in
    let here : finite.find name_cmp n (listed up) ≡ None = find_without es n n ∙ ap (λ b. cond (not b) (finite.find name_cmp n (listed es)) None) (name_self n) in
    shows_replaced h table ds new st after p n es up shows parent (cut_replaced ds p n es parent) outside
    (subst (Stands h table new after (p ++ n ∷ [])) (sym here) none)
    (λ m e. find_without es n m ∙ ap (λ b. cond (not b) (finite.find name_cmp m (listed es)) None) (name_apart m n e))
    (λ fs e. absurd (not_both (opened_at new (p ++ n ∷ [])) (is_some (opened_at new (p ++ n ∷ [])) fs e) (cut_closed ds p n es parent (p ++ n ∷ []) (within_self (p ++ n ∷ [])))))

-- ---- a directory is opened at a path

module _ (ds : Directories) (p : Path) (n : Name) (fs es : Entries) (parent : opened_at ds p ≡ Some es) where
  after_open : (q : Path) → opened_at (with_open ds (p ++ n ∷ []) fs) q
      ≡ cond (eq_by_cmp path_cmp q (p ++ n ∷ [])) (Some fs) (cond (eq_by_cmp path_cmp q p) (Some (up_with es n (dir no_entries))) (opened_at ds q))
  after_open q =
      opened-put (with_object ds (p ++ n ∷ []) (dir no_entries)) (p ++ n ∷ []) fs q
      ∙ ap (cond (eq_by_cmp path_cmp q (p ++ n ∷ [])) (Some fs))
      (ap (λ (d : Directories). opened_at d q) (object_with ds p n (dir no_entries) es parent) ∙ opened-put ds p (up_with es n (dir no_entries)) q)

  open_there : opened_at (with_open ds (p ++ n ∷ []) fs) (p ++ n ∷ []) ≡ Some fs
  open_there =
      after_open (p ++ n ∷ [])
      ∙ ap (λ b. cond b (Some fs) (cond (eq_by_cmp path_cmp (p ++ n ∷ []) p) (Some (up_with es n (dir no_entries))) (opened_at ds (p ++ n ∷ [])))) (path_self (p ++ n ∷ []))

  open_elsewhere : (q : Path) → q ≢ p ++ n ∷ [] → opened_at (with_open ds (p ++ n ∷ []) fs) q ≡ cond (eq_by_cmp path_cmp q p) (Some (up_with es n (dir no_entries))) (opened_at ds q)
  open_elsewhere q ne =
      after_open q
      ∙ ap (λ b. cond b (Some fs) (cond (eq_by_cmp path_cmp q p) (Some (up_with es n (dir no_entries))) (opened_at ds q))) (path_apart q (p ++ n ∷ []) ne)

  open_parent : opened_at (with_open ds (p ++ n ∷ []) fs) p ≡ Some (up_with es n (dir no_entries))
  open_parent =
      open_elsewhere p (λ e. longer p [] n (sym e)) ∙ ap (λ b. cond b (Some (up_with es n (dir no_entries))) (opened_at ds p)) (path_self p)

  open_other : (q : Path) → q ≢ p ++ n ∷ [] → q ≢ p → opened_at (with_open ds (p ++ n ∷ []) fs) q ≡ opened_at ds q
  open_other q ne nf = open_elsewhere q ne ∙ ap (λ b. cond b (Some (up_with es n (dir no_entries))) (opened_at ds q)) (path_apart q p nf)

  -- for `shows_more`
  pub open_opened : IsOpened ds (with_open ds (p ++ n ∷ []) fs) p n (up_with es n (dir no_entries)) fs
  open_opened = record { there = open_there; parent = open_parent; others = open_other }

pub shows_made : (h : Hash) (table : Table) (ds : Directories) (st after : Store) (p : Path) (n : Name) (es : Entries) → Shows h table ds st → opened_at ds p ≡ Some es → IsOutside st after (p ++ n ∷ [])
    → ((q : Path) → is_within (p ++ n ∷ []) q ≡ true → opened_at ds q ≡ None) → node_at after (p ++ n ∷ []) ≡ Some Directory → ((m : Name) → node_at after ((p ++ n ∷ []) ++ m ∷ []) ≡ None)
    → Shows h table (with_open ds (p ++ n ∷ []) no_entries) after
shows_made h table ds st after p n es shows parent outside closed there empty =
    let new : Directories = with_open ds (p ++ n ∷ []) no_entries in
    let up : Entries = up_with es n (dir no_entries) in
    let here : finite.find name_cmp n (listed up) ≡ Some (dir no_entries) = find_with es n (dir no_entries) n ∙ ap (λ b. cond b (Some (dir no_entries)) (finite.find name_cmp n (listed es))) (name_self n) in
    let is : opened_at new (p ++ n ∷ []) ≡ Some no_entries = open_there ds p n no_entries es parent in
    shows_replaced h table ds new st after p n es up shows parent
    (record {
      parent = open_parent ds p n no_entries es parent;
      below = λ q w ne. open_other ds p n no_entries es parent q ne (not_parent p n q w) ∙ closed q w;
      others = λ q w nf. open_other ds p n no_entries es parent q (not_whole p n q w) nf;
    })
    outside
    (subst (Stands h table new after (p ++ n ∷ [])) (sym here) (there, is_some (opened_at new (p ++ n ∷ [])) no_entries is))
    (λ m e. find_with es n (dir no_entries) m ∙ ap (λ b. cond b (Some (dir no_entries)) (finite.find name_cmp m (listed es))) e)
    (λ fs e.
    let same : no_entries ≡ fs = some_same no_entries fs (sym is ∙ e) in
    record { directory = there; told = λ m. subst (λ (xs : Entries). Stands h table new after ((p ++ n ∷ []) ++ m ∷ []) (finite.find name_cmp m (listed xs))) same (empty m) })
