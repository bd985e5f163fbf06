use Rattle.std.proofs.Common.{◌≡◌, ◌∙◌, ◌<◌, Some, ap, subst, sym}
use Rattle.std.specs.Prelude.{IsTrue, ◌↔◌}
use Rattle.cache_node.specs.Cache.{dirty_at}
use Rattle.kvs_content.specs.Node.{NodeValue}
use Rattle.kvs_content.specs.Value.{ContentValue, node_at, size_of}
use Rattle.kvs_content.proofs.Keeping.{node-read}
use Rattle.kvs_content.proofs.contents.Contents.is_dirty.Goals as goal

pub returns : goal.returns
returns c =
    let within = subst (λ v. c.args.broker < size_of v) (sym c.self.view_is) c.requires in
    let read = node-read c.self.inside.nodes.items c.args.broker c.index.result.now within c.index.ensures in
    let same = read ∙ ap (λ (v : ContentValue). node_at v c.args.broker) c.self.view_is in
    subst (λ (n : NodeValue). IsTrue c.is_dirty.result ↔ (dirty_at c.args.reference.now n.cache ≡ Some c.args.bytes.now)) same c.is_dirty.ensures
