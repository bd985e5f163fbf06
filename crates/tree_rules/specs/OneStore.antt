-- What a walk needs in one store none of whose links names a namespace.
use Rattle.std.specs.Prelude.{List, [], ◌∷◌, ◌++◌, Option, flat_map, map, if◌then◌else◌}
use Rattle.std.specs.Option.{option_map_or}
use Rattle.fl_digest.specs.declared.BlobRef.{BlobRef}
use Rattle.fl_digest.specs.declared.Hash.{Hash}
use Rattle.fl_digest.specs.Reference.{reference_of}
use Rattle.kvs_txn.specs.declared.answers.Query.{Query}
use Rattle.kvs_txn.specs.declared.answers.Found.{Found}
use Rattle.kvs_txn.specs.declared.answers.Found.TheVariants as found
use Rattle.kvs_model.specs.Store.{Path, Store}
use Rattle.kvs_model.specs.Walk.{followed, most_links}
use Rattle.kvs_model.specs.OneStore.{own_next, own_end, own_walk}
use Rattle.tree_rules.specs.Texts.{is_long, directory_reference}
use Rattle.tree_rules.specs.Needs.{looked_in}

-- the directories that a walk passes, link by link
abbrev pub own_passed : Store → Query → Path → List Path
own_passed st asked path = flat_map (looked_in st) (followed (own_next asked st) most_links path)

-- the reference of what is found, where it stands by its reference
abbrev pub own_found_needs : Hash → Store → Option Path → Found → List BlobRef
own_found_needs hash st end (found.Value bytes) =
    if is_long bytes then reference_of hash bytes ∷ [] else []
own_found_needs hash st end (found.Names names) =
    option_map_or (λ path. directory_reference hash st path ∷ []) end []
own_found_needs hash st end _ = []

-- the references that a walk needs
unfoldable pub own_needs : Hash → Store → Query → Path → List BlobRef
own_needs hash st asked path = map (directory_reference hash st) (own_passed st asked path)
    ++ own_found_needs hash st (own_end st asked path) (own_walk st asked path)
