-- The first store of a grant is shown.
use Rattle.std.proofs.Common.{◌≡◌, ℕ, ◌<◌, ◌==◌, false, cond, List, [], ◌∷◌, codes, Some, refl, ap, ◌∙◌, subst, lit<, rules}
use Rattle.std.specs.List.{All}
use Rattle.std.proofs.lemmas.List.Elements.{All-from_recursion}
use Rattle.std.proofs.lemmas.Str.{IsUtf8-from_ascii}
use Rattle.fl_digest.specs.declared.Hash.{Hash}
use Rattle.kvs_txn.specs.Keys.{IsComponent}
use Rattle.kvs_model.specs.History.{first_store}
use Rattle.kvs_model.specs.Store.{Path, Value, Directory, Store, node_at, with_node, empty_store}
use Rattle.kvs_model.proofs.Histories.{IsStore-first_store}
use Rattle.kvs_model.proofs.Paths.{node_at-with_node}
use Rattle.tree_rules.specs.Held.{Table, IsStorable}
use Rattle.tree_rules.specs.Objects.{val, no_entries}
use Rattle.tree_store.specs.Shown.{Directories, opened_at, Shows, with_object, closed_within, with_open}
use Rattle.tree_store.proofs.Replacing.{some_of, IsOutside}
use Rattle.tree_store.proofs.Steps.{path_apart, not_whole, shows_put, open_opened}
use Rattle.tree_store.proofs.Outside.{none_open}
use Rattle.tree_store.proofs.Making.{shows_directory}
use Rattle.tree_store.proofs.Unchanged.{closed_none}

abbrev job : List ℕ
job = codes "job"

abbrev resource : List ℕ
resource = codes "resource"

abbrev pub grant_path : Path
grant_path = codes "resource" ∷ codes "R" ∷ []

-- the stores on the way
abbrev with_job : Store
with_job = with_node empty_store (job ∷ []) Directory

abbrev with_both : Store
with_both = with_node with_job (resource ∷ []) Directory

outside_grant : (grant : List ℕ) → IsStorable (first_store grant) → IsOutside with_both (first_store grant) grant_path
outside_grant grant all = record {
  store = IsStore-first_store grant;
  storable = all;
  others = λ q w. node_at-with_node with_both grant_path (Value grant) q ∙ ap (λ b. cond b (Some (Value grant)) (node_at with_both q)) (path_apart q grant_path (not_whole (resource ∷ []) (codes "R") q w));
}

pub granted_shows : (h : Hash) (table : Table) (ds : Directories) (grant : List ℕ) → IsComponent (codes "job") → IsComponent (codes "resource") → IsStorable (first_store grant) → Shows h table ds empty_store
    → Shows h table (with_object (with_open (with_open ds (codes "job" ∷ []) no_entries) (codes "resource" ∷ []) no_entries) grant_path (val grant)) (first_store grant)
granted_shows h table ds grant named_job named_resource all shows =
    let ds1 : Directories = with_open ds (job ∷ []) no_entries in
    let ds2 : Directories = with_open ds1 (resource ∷ []) no_entries in
    let one : Shows h table ds1 with_job = shows_directory h table ds empty_store [] job shows shows.rooted (named_job, tt) refl in
    let two : Shows h table ds2 with_both = shows_directory h table ds1 with_job [] resource one one.rooted (named_resource, tt) refl in
    let up = some_of (opened_at ds1 []) one.rooted in
    let there : opened_at ds2 (resource ∷ []) ≡ Some no_entries = (open_opened ds1 [] resource no_entries up.0 up.1).there in
    let kept : closed_within ds2 grant_path ≡ ds2 = closed_none ds2 grant_path (none_open ds2 with_both (resource ∷ []) (codes "R") two.places two.above refl) in
    subst (λ (d : Directories). Shows h table (with_object d grant_path (val grant)) (first_store grant)) kept
    (shows_put h table ds2 with_both (first_store grant) (resource ∷ []) (codes "R") (val grant) no_entries two there (outside_grant grant all) refl)

-- ---- the names of the grant's directories, and its bytes

abbrev NoDot : ℕ → Type 0
NoDot b = (b == 46) ≡ false

pub named_job : IsComponent (codes "job")
named_job = record {
  text = IsUtf8-from_ascii (codes "job") (search rules);
  some = lit< tt;
  no_dot = All-from_recursion NoDot (codes "job") (refl, (refl, (refl, tt)));
}

pub named_resource : IsComponent (codes "resource")
named_resource = record {
  text = IsUtf8-from_ascii (codes "resource") (search rules);
  some = lit< tt;
  no_dot = All-from_recursion NoDot (codes "resource") (refl, (refl, (refl, (refl, (refl, (refl, (refl, (refl, tt))))))));
}

named_grant : IsComponent (codes "R")
named_grant = record {
  text = IsUtf8-from_ascii (codes "R") (search rules);
  some = lit< tt;
  no_dot = All-from_recursion NoDot (codes "R") (refl, tt);
}

pub grant_good : (grant : List ℕ) → All (λ b. b < 256) grant → IsStorable (first_store grant)
grant_good grant small = ((tt, tt), (((named_job, tt), tt), (((named_resource, tt), tt), (((named_resource, (named_grant, tt)), small), tt))))
