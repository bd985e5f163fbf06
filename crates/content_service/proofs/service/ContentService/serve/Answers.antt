use Rattle.std.proofs.Common.{◌≡◌, ◌∙◌, true, ap, get_or, sym, subst}
use Rattle.std.specs.Prelude.{nat_lt}
use Rattle.std.specs.List.{list_any}
use Rattle.kvs_rules.specs.declared.events.KvsStep.TheVariants as kvs
use Rattle.kvs_content.proofs.Lists.{and-right}
use Rattle.content_service.specs.declared.rows.Row.{Row}
use Rattle.content_service.specs.Rows.{may_serve}
use Rattle.content_service.specs.Steps.{can_step, is_flushed}
use Rattle.content_service.proofs.Lists.{found-none, found-passes}
use Rattle.content_service.proofs.service.ContentService.serve.Goals as goal

pub unreachable-requires : goal.unreachable-requires
unreachable-requires c =
    let can = subst (λ v. can_step v (kvs.Serve c.args.broker) ≡ true) (sym c.self.view_is) c.requires.can in
    found-none (may_serve c.args.broker c.has_flushed-flushed.result) c.self.inside.rows.items c.in-None.ensures
    (ap (λ f. list_any (may_serve c.args.broker f) c.self.inside.rows.items) c.has_flushed-flushed.ensures ∙ and-right (nat_lt c.args.broker c.self.inside.size) _ can)

pub serve_row-requires-clause-can : goal.serve_row-requires-clause-can
serve_row-requires-clause-can c =
    subst (λ v. (d : Row) → may_serve c.args.broker (is_flushed v.content c.args.broker) (get_or v.rows c.in-Some.i d) ≡ true) c.self.view_is
    (λ d. ap (λ f. may_serve c.args.broker f (get_or c.self.inside.rows.items c.in-Some.i d)) (sym c.has_flushed-flushed.ensures)
    ∙ found-passes (may_serve c.args.broker c.has_flushed-flushed.result) c.self.inside.rows.items c.in-Some.i d c.in-Some.ensures)
