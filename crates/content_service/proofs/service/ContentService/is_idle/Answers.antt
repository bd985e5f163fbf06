use Rattle.std.proofs.Common.{◌≡◌, ◌∙◌, ◌==◌, ap, arith, length, sym, true≢false}
use Rattle.kvs_content.specs.Steps.{can_deliver}
use Rattle.content_service.proofs.Resting.{idle-so, no-rows}
use Rattle.content_service.proofs.service.ContentService.is_idle.Goals as goal

pub returns-then-is_empty : goal.returns-then-is_empty
returns-then-is_empty c = λ idle.
    let rows : c.self.inside.rows.len ≡ length c.self.inside.rows.items = omega (arith, c.self.inside.rows.ok.0) in
    idle-so c.args.self.now (no-rows _ (sym (c.is_empty.ensures ∙ ap (λ n. n == 0) (rows ∙ ap (λ v. length v.rows) c.self.view_is)) ∙ c.if-is_empty.true))
    (λ from to. ap (λ v. can_deliver v.content from to) (sym c.self.view_is) ∙ c.is_idle.ensures.0 idle from to)

pub returns-else-is_empty : goal.returns-else-is_empty
returns-else-is_empty c = λ idle. absurd (true≢false (sym idle ∙ c.if-is_empty.false))
