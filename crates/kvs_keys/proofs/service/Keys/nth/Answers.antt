use Rattle.std.proofs.Common.{◌≡◌, ◌∙◌, Ok, sym, subst}
use Rattle.kvs_keys.specs.Order.{possible}
use Rattle.kvs_keys.specs.Walk.{nth}
use Rattle.kvs_keys.proofs.Walking.{first-at, none-first}
use Rattle.kvs_keys.proofs.service.Keys.nth.Goals as goal

pub returns-in-None-clause-value : goal.returns-in-None-clause-value
returns-in-None-clause-value c = none-first (possible c.args.self.now) c.args.number (sym c.in-None.is ∙ c.next.ensures.first)

pub returns-in-Some-clause-value : goal.returns-in-Some-clause-value
returns-in-Some-clause-value c =
    let v = c.args.self.now in
    subst (λ n. Ok c.in-Some.step ≡ nth (possible v) n) (sym c.if-number-eq0.true) (first-at (possible v) c.in-Some.step (sym c.in-Some.is ∙ c.next.ensures.first))
