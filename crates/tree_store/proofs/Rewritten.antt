-- The map of open directories after one of them is rewritten.
use Rattle.std.proofs.Common.{◌≡◌, [], ◌∷◌, ◌++◌, length, Option, Some, None, refl, sym, ap, ◌∙◌, subst, arith}
use Rattle.std.specs.Prelude.{IsSome, IfSome, not}
use Rattle.std.specs.FinMap.Entries as finite
use Rattle.std.specs.List.Sorted.{IsStrictlySortedBy}
use Rattle.std.specs.Map.{keys_of, set_value}
use Rattle.std.specs.Option.{option_map_or}
use Rattle.std.specs.Ordering.{is_eq, eq_by_cmp}
use Rattle.std.specs.Str.{IsUtf8}
use Rattle.kvs_model.specs.Store.{Name, Path, path_cmp}
use Rattle.tree_rules.specs.Names.{name_cmp}
use Rattle.tree_rules.specs.Objects.{Tree, Entries, entries_of, listed}
use Rattle.tree_objects.proofs.Pairs.{entries_of_listed}
use Rattle.tree_store.specs.Shown.{Directories, keyed, opened_at, above, put_in, take_from, with_object, without_object}
use Rattle.tree_store.proofs.Keyed.{Rows, by_path, set_keyed}
use Rattle.tree_store.proofs.Opening.{above_child, is_some}
use Rattle.tree_store.proofs.Steps.{object_with, object_without}

pub text_of_last : (path front : Path) (name : Name) → path ≡ front ++ name ∷ [] → IfSome (above path) (λ at. IsUtf8 at.1) → IsUtf8 name
text_of_last path front name is text = subst (λ (o : Option (Path × Name)). IfSome o (λ at. IsUtf8 at.1)) (ap above is ∙ above_child front name) text

module _ (rows after : Rows) (ds : Directories) (path front : Path) (name : Name) (es new : Entries) (view : keyed rows ≡ ds) (is : path ≡ front ++ name ∷ []) (found : Some es ≡ opened_at ds front)
    (written : after ≡ set_value (λ k. is_eq (path_cmp front k.items)) rows new) (sorted : IsStrictlySortedBy by_path (keys_of rows)) where
  rewritten : keyed after ≡ finite.put path_cmp front new ds
  rewritten =
      let some : IsSome (opened_at (keyed rows) front) = is_some (opened_at (keyed rows) front) es (ap (λ (d : Directories). opened_at d front) view ∙ sym found) in
      ap keyed written ∙ set_keyed front rows new sorted some ∙ ap (λ (d : Directories). finite.put path_cmp front new d) view

  pub object_put : (tree : Tree) → listed new ≡ finite.put name_cmp name tree (listed es) → keyed after ≡ with_object ds path tree
  object_put tree put =
      rewritten
      ∙ ap (λ (up : Entries). finite.put path_cmp front up ds) (sym (entries_of_listed new) ∙ ap entries_of put)
      ∙ sym (object_with ds front name tree es (sym found))
      ∙ ap (λ (p : Path). with_object ds p tree) (sym is)

  pub object_taken : listed new ≡ finite.where_key name_cmp (λ other. not (eq_by_cmp name_cmp name other)) (listed es) → keyed after ≡ without_object ds path
  object_taken taken =
      rewritten
      ∙ ap (λ (up : Entries). finite.put path_cmp front up ds) (sym (entries_of_listed new) ∙ ap entries_of taken)
      ∙ sym (object_without ds front name es (sym found))
      ∙ ap (without_object ds) (sym is)

-- where the directory above isn't open, nothing changes
pub unput : (ds : Directories) (path front : Path) (name : Name) (tree : Tree) → path ≡ front ++ name ∷ [] → None ≡ opened_at ds front → ds ≡ with_object ds path tree
unput ds path front name tree is found =
    ap (put_in ds (front, name) tree) found
    ∙ sym (ap (λ (o : Option (Path × Name)). option_map_or (λ at. put_in ds at tree (opened_at ds at.0)) o ds) (ap above is ∙ above_child front name))

pub untaken : (ds : Directories) (path front : Path) (name : Name) → path ≡ front ++ name ∷ [] → None ≡ opened_at ds front → ds ≡ without_object ds path
untaken ds path front name is found =
    ap (take_from ds (front, name)) found
    ∙ sym (ap (λ (o : Option (Path × Name)). option_map_or (λ at. take_from ds at (opened_at ds at.0)) o ds) (ap above is ∙ above_child front name))

pub unput_root : (ds : Directories) (path : Path) (tree : Tree) → length path ≡ 0 → ds ≡ with_object ds path tree
unput_root ds [] tree e = refl
unput_root ds (x ∷ path) tree e = absurd (omega arith)

pub untaken_root : (ds : Directories) (path : Path) → length path ≡ 0 → ds ≡ without_object ds path
untaken_root ds [] e = refl
untaken_root ds (x ∷ path) e = absurd (omega arith)
