use Rattle.std.proofs.Common.{◌≡◌, ◌∙◌, ◌<◌, ◌^◌, ℕ, Option, None, Some, false, true, is_some, length, refl, sym, ap, subst, arith}
use Rattle.std.specs.Prelude.{IfSome}
use Rattle.world.specs.Looks.{has_look, look_at}
use Rattle.world.specs.Order.{is_own}
use Rattle.world.specs.Value.{WorldValue}
use Rattle.world.specs.declared.run.looking.Looker.{Looker}
use Rattle.world.proofs.Lookers.{any_in, closed_quiet, none_below, one_lane}
use Rattle.world.proofs.run.World.has_look.Goals as goal

told : (v : WorldValue) (o : Option Looker) → IfSome o (λ l. look_at v l.actor ≡ Some l) → IfSome o (λ l. l.actor < length v.places)
    → (o ≡ None → (actor : ℕ) → actor < length v.places → is_own 1 0 actor ≡ true → look_at v actor ≡ None) → is_some o ≡ has_look v
told v (Some l) some within none = sym (any_in (λ a. is_some (look_at v a)) 0 (length v.places) l.actor (ap is_some some) (omega arith) (omega (arith, within)))
told v None some within none = sym (none_below (λ a. is_some (look_at v a)) 0 (length v.places) (λ k low. ap is_some (none refl k (omega (arith, low)) (one_lane k))))

pub returns : goal.returns
returns c = c.is_some.ensures ∙ told c.args.self.now c.looker_in.result c.looker_in.ensures.some c.looker_in.ensures.within c.looker_in.ensures.none

pub looker_in-requires-clause-few : goal.looker_in-requires-clause-few
looker_in-requires-clause-few c =
    let sound = c.self.invariant (ap (λ v. v.spent) c.self.view_is ∙ c.requires) in
    let all = (sound.runs c.if-self.false).places.all in
    let most = sound.run.within.actors in
    subst (λ v. length v.places < 2 ^ 32) c.self.view_is (omega (arith, all, most))

pub returns-then-self : goal.returns-then-self
returns-then-self c = sym (closed_quiet c.args.self.now (sym (ap (λ v. v.closed) c.self.view_is) ∙ c.if-self.true))
