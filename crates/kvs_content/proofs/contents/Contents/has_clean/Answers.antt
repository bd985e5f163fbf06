use Rattle.std.proofs.Common.{◌∙◌, ◌<◌, option_map, ap, subst, sym}
use Rattle.cache_node.specs.Cache.{clean_at}
use Rattle.kvs_content.specs.Messages.{same_bytes}
use Rattle.kvs_content.specs.Node.{NodeValue}
use Rattle.kvs_content.specs.Value.{ContentValue, node_at, size_of}
use Rattle.kvs_content.proofs.Keeping.{node-read}
use Rattle.kvs_content.proofs.contents.Contents.has_clean.Goals as goal

pub returns : goal.returns
returns c =
    let within = subst (λ v. c.args.broker < size_of v) (sym c.self.view_is) c.requires in
    let read = node-read c.self.inside.nodes.items c.args.broker c.index.result.now within c.index.ensures in
    let same = read ∙ ap (λ (v : ContentValue). node_at v c.args.broker) c.self.view_is in
    c.has_clean.ensures ∙ ap (λ (n : NodeValue). option_map (λ kept. same_bytes kept c.args.bytes.now) (clean_at c.args.reference.now n.cache)) same
