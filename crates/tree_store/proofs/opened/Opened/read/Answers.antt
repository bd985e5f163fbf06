use Rattle.std.proofs.Common.{[], ◌∷◌, ap, ap₂, ◌∙◌}
use Rattle.kvs_model.specs.Store.{Path as Place, root, path_cmp}
use Rattle.tree_rules.specs.Objects.{Entries}
use Rattle.tree_store.specs.Landing.{table}
use Rattle.tree_store.specs.Shown.{Directories, keyed}
use Rattle.tree_store.proofs.Keyed.{put_keyed}
use Rattle.tree_store.proofs.Entered.{root_directory}
use Rattle.tree_store.proofs.opened.Opened.read.Goals as goal
use Rattle.std.specs.FinMap.Entries as finite

pub directory_of-requires : goal.directory_of-requires
directory_of-requires c =
    (c.requires.0, c.requires.1.0, root, root_directory c.requires.0 (table c.args.store.now) c.requires.1.0 c.args.reference.now c.requires.1.1)

pub returns : goal.returns
returns c = λ h st is.
    ap keyed c.in_ok-insert.ensures.entries
    ∙ put_keyed c.new-directories.result.entries c.new.result c.in_ok-directory.directory
    ∙ ap₂ (λ (p : Place) (ds : Directories). finite.put path_cmp p c.in_ok-directory.directory ds) c.new.ensures.items (ap keyed c.new-directories.ensures.empty)
    ∙ ap (λ (es : Entries). (root, es) ∷ []) (c.in_ok-directory.ensures h st root (root_directory h (table c.args.store.now) st c.args.reference.now is))
