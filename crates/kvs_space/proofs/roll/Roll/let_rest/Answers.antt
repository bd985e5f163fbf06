use Rattle.std.proofs.Common.{rules, ◌≡◌, ◌==◌, not, ap, ap₂, sym, ◌∙◌}
use Rattle.std.specs.List.{filter}
use Rattle.std.proofs.lemmas.Fn.{filter_same}
use Rattle.kvs_space.proofs.roll.Roll.let_rest.Goals as goal

pub returns : goal.returns
returns c =
    let kept : c.retain.new.self.items ≡ filter (λ other. not (other == c.args.place)) c.self.inside.awake.items = filter_same _ _ _ (λ x b f' k. search rules) _ _ c.retain.ensures.filtered in
    ap₂ (λ names awake. record { names = names; awake = awake }) (ap (λ v. v.names) c.self.view_is) (kept ∙ ap (λ v. filter (λ other. not (other == c.args.place)) v.awake) c.self.view_is)
