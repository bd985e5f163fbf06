-- Whether a host has a unit at a place.
use Rattle.std.proofs.Common.{◌≡◌, ◌==◌, List, [], ◌∷◌, length, Bool, true, false, not, ◌&&◌, ◌||◌, Option, Some, None, map, refl, sym, ap, ap₂, ◌∙◌, arith}
use Rattle.std.specs.Prelude.{if◌then◌else◌}
use Rattle.std.specs.List.{list_any}
use Rattle.std.specs.Str.{bytes_eq}
use Rattle.std.proofs.lemmas.Bool.{ne_eqb}
use Rattle.std.proofs.lemmas.List.Folds.{list_any-append}
use Rattle.std.proofs.lemmas.List.Concat.{flat_map-cons}
use Rattle.idset.specs.Ids.{has}
use Rattle.resource_set.specs.Units.{ResourceUnit, core_of, gpu_of, units_of, units_of_node}
use Rattle.resource_set.specs.declared.node.Node.{Node}
use Rattle.run_picture.specs.Cells.{is_at, is_unit}
use Rattle.run_picture.specs.Rows.{has_unit}
use Rattle.run_picture.specs.declared.picture.HostUnit.{HostUnit}
use Rattle.run_picture.specs.declared.picture.Place.{Place}

module _ {A : Type 0} where
  any_and : (b : Bool) (q : A → Bool) (xs : List A) → list_any (λ x. b && q x) xs ≡ (b && list_any q xs)
  any_and true q xs = refl
  any_and false q [] = refl
  any_and false q (x ∷ xs) = any_and false q xs

  any_mapped : {B : Type 0} (p : A → Bool) (f : B → A) (xs : List B) → list_any p (map f xs) ≡ list_any (λ x. p (f x)) xs
  any_mapped p f [] = refl
  any_mapped p f (x ∷ xs) = ap (λ b. p (f x) || b) (any_mapped p f xs)

  any_true : (xs : List A) → list_any (λ x. true) xs ≡ not (length xs == 0)
  any_true [] = refl
  any_true (x ∷ xs) = ap not (sym (ne_eqb (length (x ∷ xs)) 0 (λ e. omega (arith, e))))

  any_false : (xs : List A) → list_any (λ x. false) xs ≡ false
  any_false [] = refl
  any_false (x ∷ xs) = any_false xs

or_same : (a b : Bool) (x : Bool) → (x && a || x && b) ≡ (x && (a || b))
or_same a b true = refl
or_same a b false = refl

or_false : (a : Bool) → (a || false) ≡ a
or_false true = refl
or_false false = refl

on_units : (unit : Option HostUnit) (node : Node) → (list_any (λ id. is_unit unit (core_of node id)) node.cores || list_any (λ id. is_unit unit (gpu_of node id)) node.gpus) ≡ has_unit unit node
on_units None node = ap₂ (λ a b. a || b) (any_true node.cores) (any_true node.gpus)
on_units (Some u) node = by u.is_gpu
  where
    by : (g : Bool) → (list_any (λ id. (if g then false else true) && (id == u.id)) node.cores || list_any (λ id. (if g then true else false) && (id == u.id)) node.gpus) ≡ has (if g then node.gpus else node.cores) u.id
    by true = ap (λ b. b || has node.gpus u.id) (any_false node.cores)
    by false = ap (λ b. has node.cores u.id || b) (any_false node.gpus) ∙ or_false (has node.cores u.id)

pub at_node : (place : Place) (node : Node) → list_any (is_at place) (units_of_node node) ≡ (bytes_eq node.host place.host && has_unit place.unit node)
at_node place node =
    list_any-append (is_at place) (map (core_of node) node.cores) (map (gpu_of node) node.gpus)
    ∙ ap₂ (λ a b. a || b)
    (any_mapped (is_at place) (core_of node) node.cores ∙ any_and (bytes_eq node.host place.host) (λ id. is_unit place.unit (core_of node id)) node.cores)
    (any_mapped (is_at place) (gpu_of node) node.gpus ∙ any_and (bytes_eq node.host place.host) (λ id. is_unit place.unit (gpu_of node id)) node.gpus)
    ∙ or_same _ _ (bytes_eq node.host place.host)
    ∙ ap (λ b. bytes_eq node.host place.host && b) (on_units place.unit node)

-- a unit of several hosts is one of one of them
pub any_unit : (p : ResourceUnit → Bool) (nodes : List Node) → list_any p (units_of nodes) ≡ list_any (λ node. list_any p (units_of_node node)) nodes
any_unit p [] = refl
any_unit p (node ∷ nodes) =
    ap (list_any p) (flat_map-cons units_of_node node nodes)
    ∙ list_any-append p (units_of_node node) (units_of nodes)
    ∙ ap (λ b. list_any p (units_of_node node) || b) (any_unit p nodes)
