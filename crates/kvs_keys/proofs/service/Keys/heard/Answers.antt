use Rattle.std.proofs.Common.{ap, ◌∙◌, ◌<◌, sym, subst}
use Rattle.kvs_keys.specs.Agrees.{Agrees}
use Rattle.kvs_space.specs.Space.{number_of}
use Rattle.kvs_keys.proofs.Heard.{heard-found, heard-lost}
use Rattle.kvs_keys.proofs.service.Keys.heard.Goals as goal

pub returns-in-Some : goal.returns-in-Some
returns-in-Some c = λ set log a.
    let s = c.self.invariant.0 (ap (λ v. v.spent) c.self.view_is ∙ c.requires.ready) in
    let b = subst (λ v. Agrees v set log) (sym c.self.view_is) a in
    c.number_of.ensures ∙ ap number_of c.known.ensures ∙ heard-found s b c.args.broker c.args.namespace.now c.in-Some.k c.index.result.now (subst (λ v. c.args.broker < v.size) (sym c.self.view_is) c.requires.within) (c.in-Some.ensures.found c.self.inside.spaces.items (c.self.invariant.1 (ap (λ v. v.spent) c.self.view_is ∙ c.requires.ready))) c.index.ensures

pub returns-in-None : goal.returns-in-None
returns-in-None c = λ set log a.
    let b = subst (λ v. Agrees v set log) (sym c.self.view_is) a in
    heard-lost b c.args.broker c.args.namespace.now (c.in-None.ensures.found c.self.inside.spaces.items (c.self.invariant.1 (ap (λ v. v.spent) c.self.view_is ∙ c.requires.ready)))
