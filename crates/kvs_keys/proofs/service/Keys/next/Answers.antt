use Rattle.std.proofs.Common.{◌≡◌, ◌∙◌, ap, refl, subst, None, Some}
use Rattle.std.specs.Prelude.{slice_get}
use Rattle.kvs_rules.specs.declared.events.KvsStep.TheVariants as kvs
use Rattle.kvs_keys.specs.Order.{possible}
use Rattle.kvs_keys.specs.Sound.{IsSound}
use Rattle.kvs_keys.specs.View.{value_of}
use Rattle.kvs_keys.proofs.Choosing.{IsFirstHop, delivery-first, service-first, landing-first, resync-first, no-step, no-more}
use Rattle.kvs_keys.proofs.service.Keys.next.Goals as goal

pub returns-in-Some-clause-first : goal.returns-in-Some-clause-first
returns-in-Some-clause-first c =
    subst (λ v. Some (kvs.Deliver c.in-Some.hop.from c.in-Some.hop.to) ≡ slice_get (possible v) 0) c.self.view_is
    (delivery-first (value_of c.self.inside) sound c.in-Some.hop (record { news = c.in-Some.ensures.announced; carried = c.in-Some.ensures.carried }) c.in-Some.ensures.some)
  where
    sound : IsSound (value_of c.self.inside)
    sound = c.self.invariant.0 (ap (λ v. v.spent) c.self.view_is ∙ c.requires)

pub returns-in-Some-first_answer-clause-first : goal.returns-in-Some-first_answer-clause-first
returns-in-Some-first_answer-clause-first c =
    service-first c.args.self.now c.in-Some-first_answer.broker (subst (λ v. IsFirstHop v None) c.self.view_is (record { news = c.in_default.ensures.announced; carried = c.in_default.ensures.carried }))
    c.in-Some-first_answer.ensures.some c.in-Some-first_answer.ensures.first

pub returns-in-Some-first_landing-clause-first : goal.returns-in-Some-first_landing-clause-first
returns-in-Some-first_landing-clause-first c =
    landing-first c.args.self.now c.in-Some-first_landing.namespace (subst (λ v. IsFirstHop v None) c.self.view_is (record { news = c.in_default.ensures.announced; carried = c.in_default.ensures.carried }))
    (c.in_default-first_answer.ensures.none refl) c.in-Some-first_landing.ensures.some c.in-Some-first_landing.ensures.first

pub returns-in-Some-first_resync-clause-first : goal.returns-in-Some-first_resync-clause-first
returns-in-Some-first_resync-clause-first c =
    resync-first c.args.self.now c.in-Some-first_resync.broker (subst (λ v. IsFirstHop v None) c.self.view_is (record { news = c.in_default.ensures.announced; carried = c.in_default.ensures.carried }))
    (c.in_default-first_answer.ensures.none refl) (c.in_default-first_landing.ensures.none refl) c.in-Some-first_resync.ensures.some c.in-Some-first_resync.ensures.first

pub returns-clause-first : goal.returns-clause-first
returns-clause-first c =
    no-step c.args.self.now (subst (λ v. IsFirstHop v None) c.self.view_is (record { news = c.in_default.ensures.announced; carried = c.in_default.ensures.carried }))
    (c.in_default-first_answer.ensures.none refl) (c.in_default-first_landing.ensures.none refl) (c.in_default-first_resync.ensures.none refl)

pub returns-clause-none : goal.returns-clause-none
returns-clause-none c = λ _ step.
    no-more c.args.self.now (subst (λ v. IsFirstHop v None) c.self.view_is (record { news = c.in_default.ensures.announced; carried = c.in_default.ensures.carried }))
    (c.in_default-first_answer.ensures.none refl) (c.in_default-first_landing.ensures.none refl) (c.in_default-first_resync.ensures.none refl) step
