use Rattle.std.proofs.Common.{◌≡◌, ◌∙◌, ◌<◌, Some, None, length, get_or, ap, sym, subst}
use Rattle.std.specs.List.{position}
use Rattle.std.proofs.lemmas.List.{get_or_default}
use Rattle.kvs_requests.specs.declared.rows.Row.{Row}
use Rattle.kvs_space.specs.Space.{is_named}
use Rattle.kvs_keys.proofs.service.Keys.take_up.Goals as goal

pub take_up_in-requires-clause-found : goal.take_up_in-requires-clause-found
take_up_in-requires-clause-found c =
    let within = subst (λ v. c.args.i < length v.rows) (sym c.self.view_is) c.requires.within in
    subst (λ v. (d : Row) → Some c.in-Some.k ≡ position (is_named (get_or v.rows c.args.i d).namespace) v.spaces) c.self.view_is
    (λ d. c.in-Some.ensures.found c.self.inside.spaces.items (c.self.invariant.1 (ap (λ v. v.spent) c.self.view_is ∙ c.requires.ready)) ∙ ap (λ r. position (is_named r.namespace) c.self.inside.spaces.items) (c.index.ensures ∙ get_or_default c.self.inside.rows.items c.args.i c.index.result.now d within))

pub take_up_new-requires-clause-new : goal.take_up_new-requires-clause-new
take_up_new-requires-clause-new c =
    let within = subst (λ v. c.args.i < length v.rows) (sym c.self.view_is) c.requires.within in
    subst (λ v. (d : Row) → None ≡ position (is_named (get_or v.rows c.args.i d).namespace) v.spaces) c.self.view_is
    (λ d. c.in-None.ensures.found c.self.inside.spaces.items (c.self.invariant.1 (ap (λ v. v.spent) c.self.view_is ∙ c.requires.ready)) ∙ ap (λ r. position (is_named r.namespace) c.self.inside.spaces.items) (c.index.ensures ∙ get_or_default c.self.inside.rows.items c.args.i c.index.result.now d within))
