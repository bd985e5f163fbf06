use Rattle.std.proofs.Common.{◌≡◌, ◌∙◌, ℕ, ◌-◌, ◌++◌, List, ap, sym, subst, map, length, rules, arith}
use Rattle.std.specs.Prelude.{Ok, Err}
use Rattle.std.specs.List.{filter, range_with_len}
use Rattle.kvs_rules.specs.declared.events.KvsStep.{KvsStep}
use Rattle.kvs_rules.specs.declared.events.KvsStep.TheVariants as kvs
use Rattle.kvs_keys.specs.Steps.{can_step}
use Rattle.kvs_keys.specs.Walk.{nth, deliveries}
use Rattle.kvs_keys.proofs.Walking.{behind-all, within-all}
use Rattle.kvs_keys.proofs.service.Keys.nth_of_all.Goals as goal

unfoldable services : ℕ → List KvsStep
services size = map kvs.Serve (range_with_len 0 size)

unfoldable landings : ℕ → List KvsStep
landings spaces = map kvs.Land (range_with_len 0 spaces)

unfoldable resyncs : ℕ → List KvsStep
resyncs size = map kvs.Resync (range_with_len 0 size)

pub returns-in-Ok-clause-value : goal.returns-in-Ok-clause-value
unfolding services landings resyncs
returns-in-Ok-clause-value c =
    let v = c.args.self.now in
    sym (within-all (can_step v) (deliveries v.size) (services v.size ++ (landings (length v.spaces) ++ resyncs v.size)) c.args.number c.in-Ok.step (sym c.nth_delivery.ensures.value ∙ c.in-Ok.is))

pub returns-in-Ok-nth_along-clause-value : goal.returns-in-Ok-nth_along-clause-value
unfolding services landings resyncs
returns-in-Ok-nth_along-clause-value c =
    let v = c.args.self.now in
    let can = can_step v in
    let size : c.self.inside.size ≡ v.size = ap (λ v. v.size) c.self.view_is in
    let view : c.self.inside.size - 0 ≡ v.size = omega (arith, size) in
    let e : nth (filter can (services v.size)) c.in-Err.left ≡ Ok c.in-Ok-nth_along.step =
    subst (λ n. nth (filter can (services n)) c.in-Err.left ≡ Ok c.in-Ok-nth_along.step) view (sym c.nth_along.ensures.value ∙ c.in-Ok-nth_along.is) in
    sym (behind-all can (deliveries v.size) (services v.size ++ (landings (length v.spaces) ++ resyncs v.size)) c.args.number c.in-Err.left (sym c.nth_delivery.ensures.value ∙ c.in-Err.is)
    ∙ within-all can (services v.size) (landings (length v.spaces) ++ resyncs v.size) c.in-Err.left c.in-Ok-nth_along.step e)

pub returns-in-Ok-nth_along-2-clause-value : goal.returns-in-Ok-nth_along-2-clause-value
unfolding services landings resyncs
returns-in-Ok-nth_along-2-clause-value c =
    let v = c.args.self.now in
    let can = can_step v in
    let size : c.self.inside.size ≡ v.size = ap (λ v. v.size) c.self.view_is in
    let view : c.self.inside.size - 0 ≡ v.size = omega (arith, size) in
    let e : nth (filter can (services v.size)) c.in-Err.left ≡ Err c.in-Err-nth_along.left =
    subst (λ n. nth (filter can (services n)) c.in-Err.left ≡ Err c.in-Err-nth_along.left) view (sym c.nth_along.ensures.value ∙ c.in-Err-nth_along.is) in
    let len : c.len.result ≡ length v.spaces = search rules in
    let spaces : c.len.result - 0 ≡ length v.spaces = omega (arith, len) in
    let f : nth (filter can (landings (length v.spaces))) c.in-Err-nth_along.left ≡ Ok c.in-Ok-nth_along-2.step =
    subst (λ n. nth (filter can (landings n)) c.in-Err-nth_along.left ≡ Ok c.in-Ok-nth_along-2.step) spaces (sym c.nth_along-2.ensures.value ∙ c.in-Ok-nth_along-2.is) in
    sym (behind-all can (deliveries v.size) (services v.size ++ (landings (length v.spaces) ++ resyncs v.size)) c.args.number c.in-Err.left (sym c.nth_delivery.ensures.value ∙ c.in-Err.is)
    ∙ behind-all can (services v.size) (landings (length v.spaces) ++ resyncs v.size) c.in-Err.left c.in-Err-nth_along.left e
    ∙ within-all can (landings (length v.spaces)) (resyncs v.size) c.in-Err-nth_along.left c.in-Ok-nth_along-2.step f)

pub returns-clause-value : goal.returns-clause-value
unfolding services landings resyncs
returns-clause-value c =
    let v = c.args.self.now in
    let can = can_step v in
    let size : c.self.inside.size ≡ v.size = ap (λ v. v.size) c.self.view_is in
    let view : c.self.inside.size - 0 ≡ v.size = omega (arith, size) in
    let e : nth (filter can (services v.size)) c.in-Err.left ≡ Err c.in-Err-nth_along.left =
    subst (λ n. nth (filter can (services n)) c.in-Err.left ≡ Err c.in-Err-nth_along.left) view (sym c.nth_along.ensures.value ∙ c.in-Err-nth_along.is) in
    let len : c.len.result ≡ length v.spaces = search rules in
    let spaces : c.len.result - 0 ≡ length v.spaces = omega (arith, len) in
    let f : nth (filter can (landings (length v.spaces))) c.in-Err-nth_along.left ≡ Err c.in-Err-nth_along-2.left =
    subst (λ n. nth (filter can (landings n)) c.in-Err-nth_along.left ≡ Err c.in-Err-nth_along-2.left) spaces (sym c.nth_along-2.ensures.value ∙ c.in-Err-nth_along-2.is) in
    sym (behind-all can (deliveries v.size) (services v.size ++ (landings (length v.spaces) ++ resyncs v.size)) c.args.number c.in-Err.left (sym c.nth_delivery.ensures.value ∙ c.in-Err.is)
    ∙ behind-all can (services v.size) (landings (length v.spaces) ++ resyncs v.size) c.in-Err.left c.in-Err-nth_along.left e
    ∙ behind-all can (landings (length v.spaces)) (resyncs v.size) c.in-Err-nth_along.left c.in-Err-nth_along-2.left f
    ∙ ap (λ n. nth (filter can (resyncs n)) c.in-Err-nth_along-2.left) (sym view)
    ∙ sym c.nth_along-3.ensures.value)
