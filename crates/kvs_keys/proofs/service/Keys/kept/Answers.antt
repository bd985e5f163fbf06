use Rattle.std.proofs.Common.{◌≡◌, ◌<◌, ◌∙◌, Some, ap, sym, subst}
use Rattle.kvs_keys.proofs.Keeping.{kept-there}
use Rattle.kvs_keys.specs.Seen.{store_at}
use Rattle.kvs_keys.proofs.service.Keys.kept.Goals as goal

pub returns : goal.returns
returns c =
    let e = c.self.view_is in
    let s = c.self.invariant.0 (ap (λ v. v.spent) e ∙ c.requires.ready) in
    let stands = kept-there s c.index.result.now c.index.ensures c.args.broker (subst (λ v. c.args.broker < v.size) (sym e) c.requires.within) ∙ ap Some (sym c.store.ensures) in
    (c.store.result.now, subst (λ v. store_at v c.args.broker ≡ Some c.store.result.now) e stands, c.value.ensures)
