use Rattle.std.proofs.Common.{◌∙◌, List, ap, sym}
use Rattle.fl_digest.specs.declared.BlobRef.{BlobRef}
use Rattle.cache_node.specs.Cache.{Cache}
use Rattle.kvs_content.specs.Node.{NodeValue}
use Rattle.kvs_content.proofs.Lists.{none-of-length, none-of-test}
use Rattle.kvs_content.proofs.node.Node.flush.Goals as goal

abbrev with_refused : Cache → List BlobRef → NodeValue
with_refused cache refused = record { cache = cache; refused = refused }

pub returns-in-Some : goal.returns-in-Some
returns-in-Some c =
    let clean = none-of-test c.self.inside.cache.dirty c.has_dirty.result c.has_dirty.ensures c.if-has_dirty.false in
    (ap (λ (n : NodeValue). n.cache.dirty) (sym c.self.view_is) ∙ clean, ap (λ (n : NodeValue). n.refused) (sym c.self.view_is) ∙ c.in-Some.ensures.items, ap (λ (n : NodeValue). n.cache) c.self.view_is)

pub returns : goal.returns
returns c =
    let clean = none-of-test c.self.inside.cache.dirty c.has_dirty.result c.has_dirty.ensures c.if-has_dirty.false in
    let none = none-of-length c.self.inside.refused.items (sym c.self.inside.refused.ok.0 ∙ c.in_default.ensures.cases.0) in
    (ap (λ (n : NodeValue). n.cache.dirty) (sym c.self.view_is) ∙ clean, ap (λ (n : NodeValue). n.refused) (sym c.self.view_is) ∙ none, ap (with_refused c.self.inside.cache) (sym c.in_default.ensures.items) ∙ c.self.view_is)
