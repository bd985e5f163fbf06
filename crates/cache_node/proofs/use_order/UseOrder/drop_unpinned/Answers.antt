use Rattle.std.proofs.Common.{rules, ◌≡◌, ◌∙◌, ap, subst, reverse, filter, not}
use Rattle.std.specs.List.{IsDistinct}
use Rattle.std.specs.Map.{keys_of}
use Rattle.fl_digest.specs.Reference.{same_reference}
use Rattle.cache_node.specs.Order.{is_pinned, without}
use Rattle.cache_node.proofs.Walk.{without-unpinned}
use Rattle.cache_node.proofs.use_order.UseOrder.drop_unpinned.Goals as goal

pub returns-clause-rest : goal.returns-clause-rest
returns-clause-rest c =
    let listed : c.loop-key.gone ≡ keys_of (filter (λ e. not (is_pinned e.1)) (reverse c.args.self.now)) = search rules in
    let out : c.remove_all.new.self ≡ without c.loop-key.gone c.args.self.now = search rules in
    out ∙ ap (λ g. without g c.args.self.now) listed
    ∙ without-unpinned c.args.self.now (subst (λ es. IsDistinct same_reference (keys_of es)) c.self.view_is c.self.invariant.0.once)
