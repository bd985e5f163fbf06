use Rattle.std.proofs.Common.{◌≡◌, ◌∙◌, ◌<◌, List, [], ℕ, not, ap, subst, sym}
use Rattle.std.specs.Prelude.{IsTrue, ◌↔◌}
use Rattle.fl_digest.specs.declared.BlobRef.{BlobRef}
use Rattle.kvs_content.specs.Node.{NodeValue}
use Rattle.kvs_content.specs.Value.{ContentValue, node_at, size_of}
use Rattle.kvs_content.proofs.Keeping.{node-read}
use Rattle.kvs_content.proofs.Lists.{none-iff}
use Rattle.kvs_content.proofs.contents.Contents.is_flushed.Goals as goal

pub returns : goal.returns
returns c =
    let within = subst (λ v. c.args.broker < size_of v) (sym c.self.view_is) c.requires in
    let read = node-read c.self.inside.nodes.items c.args.broker c.index.result.now within c.index.ensures in
    let same = ap (λ (n : NodeValue). n.cache.dirty) read ∙ ap (λ (v : ContentValue). (node_at v c.args.broker).cache.dirty) c.self.view_is in
    subst (λ (dirty : List (BlobRef × List ℕ)). IsTrue (not c.has_dirty.result) ↔ (dirty ≡ [])) same (none-iff c.index.result.now.cache.dirty c.has_dirty.result c.has_dirty.ensures)
