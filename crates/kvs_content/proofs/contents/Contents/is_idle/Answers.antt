use Rattle.std.proofs.Common.{◌≡◌, ◌∙◌, ◌==◌, ap, arith, length}
use Rattle.kvs_content.proofs.Linking.{idle-else, idle-then}
use Rattle.kvs_content.proofs.contents.Contents.is_idle.Goals as goal

pub returns-then-is_empty : goal.returns-then-is_empty
returns-then-is_empty c =
    let offers : c.self.inside.offers.len ≡ length c.self.inside.offers.items = omega (arith, c.self.inside.offers.ok.0) in
    let wants : c.self.inside.wants.len ≡ length c.self.inside.wants.items = omega (arith, c.self.inside.wants.ok.0) in
    idle-then c.args.self.now c.requires c.is_empty.result c.is_empty-then-is_empty.result
    (c.is_empty.ensures ∙ ap (λ n. n == 0) (offers ∙ ap (λ v. length v.offers) c.self.view_is))
    (c.is_empty-then-is_empty.ensures ∙ ap (λ n. n == 0) (wants ∙ ap (λ v. length v.wants) c.self.view_is))
    c.if-is_empty.true

pub returns-else-is_empty : goal.returns-else-is_empty
returns-else-is_empty c =
    let offers : c.self.inside.offers.len ≡ length c.self.inside.offers.items = omega (arith, c.self.inside.offers.ok.0) in
    idle-else c.args.self.now c.requires c.is_empty.result (c.is_empty.ensures ∙ ap (λ n. n == 0) (offers ∙ ap (λ v. length v.offers) c.self.view_is)) c.if-is_empty.false
