use Rattle.std.proofs.Common.{ap, ◌∙◌, sym, subst}
use Rattle.kvs_keys.specs.Agrees.{Agrees}
use Rattle.kvs_keys.specs.Steps.{IsStill}
use Rattle.kvs_keys.specs.View.{value_of}
use Rattle.kvs_keys.proofs.Resting.{still-heard, still-quiet}
use Rattle.kvs_keys.proofs.service.Keys.still.Goals as goal

pub returns-clause-heard : goal.returns-clause-heard
returns-clause-heard c = λ set log a still.
    let e = c.self.view_is in
    still-heard (value_of c.self.inside) (c.self.invariant.0 (ap (λ v. v.spent) e ∙ c.requires)) (subst IsStill (sym e) still) (subst (λ v. Agrees v set log) (sym e) a)

pub returns-clause-quiet : goal.returns-clause-quiet
returns-clause-quiet c = λ set log a still plain.
    let e = c.self.view_is in
    still-quiet (value_of c.self.inside) (c.self.invariant.0 (ap (λ v. v.spent) e ∙ c.requires)) (subst IsStill (sym e) still) (subst (λ v. Agrees v set log) (sym e) a) plain
