use Rattle.std.proofs.Common.{rules, ◌≡◌, ap, ◌∙◌}
use Rattle.kvs_model.specs.Store.{is_within}
use Rattle.tree_store.specs.Shown.{closed_within, Directories, keyed}
use Rattle.std.specs.Prelude.{not, filter}
use Rattle.std.proofs.lemmas.Map.Made.{filter_same_pairs}
use Rattle.tree_store.proofs.Keyed.{where_keyed}
use Rattle.tree_store.proofs.opened.Opened.close.Goals as goal

pub returns : goal.returns
returns c =
    let path = c.args.path.now in
    let kept : c.retain.new.self.entries ≡ filter (λ e. not (is_within path e.0.items)) c.self.inside.directories.entries = filter_same_pairs _ (λ e. not (is_within path e.0.items)) _ (λ k v b w g t. search rules) _ _ c.retain.ensures.filtered in
    ap keyed kept ∙ where_keyed (λ place. not (is_within path place)) c.self.inside.directories.entries ∙ ap (λ (ds : Directories). closed_within ds path) c.self.view_is
