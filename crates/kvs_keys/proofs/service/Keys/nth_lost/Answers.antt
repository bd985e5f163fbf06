use Rattle.std.proofs.Common.{◌∙◌, ap, sym, subst}
use Rattle.kvs_keys.specs.Sound.{IsSound}
use Rattle.kvs_keys.specs.Walk.{nth}
use Rattle.kvs_keys.proofs.Links.{lost-part}
use Rattle.kvs_keys.proofs.service.Keys.nth_lost.Goals as goal

pub returns-clause-value : goal.returns-clause-value
returns-clause-value c =
    let v = c.args.self.now in
    let sound = subst IsSound c.self.view_is (c.self.invariant.0 (ap (λ v. v.spent) c.self.view_is ∙ c.requires.ready)) in
    c.nth_along.ensures.value
    ∙ sym (ap (λ steps. nth steps c.args.number) (lost-part v sound c.args.kind c.args.from c.below-below.result.0 c.below-below.result.1 c.below-below.ensures.first c.below-below.ensures.end))
