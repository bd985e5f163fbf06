use Rattle.std.proofs.Common.{ap, ◌∙◌}
use Rattle.kvs_model.specs.Store.{Path as Place, path_cmp}
use Rattle.tree_rules.specs.Objects.{Entries, dir}
use Rattle.tree_store.specs.Shown.{with_object, keyed}
use Rattle.tree_store.proofs.Keyed.{put_keyed}
use Rattle.tree_store.proofs.opened.Opened.keep_open.Goals as goal
use Rattle.std.specs.FinMap.Entries as finite

pub returns : goal.returns
returns c =
    let path = c.args.path.now in
    ap keyed c.in_ok-insert.ensures.entries
    ∙ put_keyed c.self.inside.directories.entries c.in_ok-copy_of.field-0 c.args.directory
    ∙ ap (λ (p : Place). finite.put path_cmp p c.args.directory (keyed c.self.inside.directories.entries)) c.in_ok-copy_of.ensures
    ∙ ap (finite.put path_cmp path c.args.directory) (c.self.view_is ∙ c.in_ok-put.ensures ∙ ap (λ (es : Entries). with_object c.args.self.now path (dir es)) c.new.ensures)
