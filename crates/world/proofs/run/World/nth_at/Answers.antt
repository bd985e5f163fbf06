use Rattle.std.proofs.Common.{◌≡◌, ◌∙◌, ◌⊎◌, ◌<◌, inl, inr, ℕ, [], ap, arith, length, map, sym}
use Rattle.std.specs.Prelude.{Some, slice_get, if◌then◌else◌}
use Rattle.instance.specs.kvs_keys.Walk.{nth}
use Rattle.instance.specs.answers.declared.steps.Step.TheVariants as step
use Rattle.world.specs.Order.{left_in, steps_at, steps_in, steps_left}
use Rattle.world.specs.Value.{WorldValue}
use Rattle.world.specs.View.{value_of}
use Rattle.homes.specs.declared.homes.Home.{Home}
use Rattle.world.specs.declared.run.drawing.Kind.{Kind}
use Rattle.world.specs.declared.run.drawing.Kind.TheVariants as kind
use Rattle.world.proofs.Housing.{all_ready}
use Rattle.homes.proofs.Walking.{item_here, item_is}
use Rattle.world.proofs.run.World.nth_at.Goals.{After-index-home}
use Rattle.world.proofs.run.World.nth_at.Goals as goal

low : (c : After-index-home) → c.args.instance < length (value_of c.self.inside).homes
low c = (let same = ap (λ v. length v.homes) c.self.view_is in omega (arith, same, c.requires.within))

-- it is the home that is looked at
same : (c : After-index-home) (home : Home) → slice_get c.args.self.now.homes c.args.instance ≡ Some home → home ≡ c.index-home.result.now
same c home e =
    item_is (value_of c.self.inside).homes c.args.instance c.index-home.result.now (low c) c.index-home.ensures home (ap (λ v. slice_get v.homes c.args.instance) c.self.view_is ∙ e)

others : (v : WorldValue) (k : Kind) (i : ℕ) → (k ≡ kind.Turn) ⊎ ((k ≡ kind.Feed) ⊎ ((k ≡ kind.Post) ⊎ ((k ≡ kind.Birth) ⊎ ((k ≡ kind.End) ⊎ (k ≡ kind.Loss))))) → steps_left v k i ≡ []
others v k i (inl e) = ap (λ k. steps_left v k i) e
others v k i (inr (inl e)) = ap (λ k. steps_left v k i) e
others v k i (inr (inr (inl e))) = ap (λ k. steps_left v k i) e
others v k i (inr (inr (inr (inl e)))) = ap (λ k. steps_left v k i) e
others v k i (inr (inr (inr (inr (inl e))))) = ap (λ k. steps_left v k i) e
others v k i (inr (inr (inr (inr (inr e))))) = ap (λ k. steps_left v k i) e

pub nth_in-requires-clause-able : goal.nth_in-requires-clause-able
nth_in-requires-clause-able c =
    let h = c.self.invariant (ap (λ v. v.spent) c.self.view_is ∙ c.requires.ready) in
    all_ready (value_of c.self.inside) (h.runs (ap (λ v. v.closed) c.self.view_is ∙ c.requires.runs)) c.args.instance c.index-home.result.now
    (item_here (value_of c.self.inside).homes c.args.instance c.index-home.result.now (low (goal.at.nth_in-requires-clause-able c).After-index-home) c.index-home.ensures)

pub returns-in-Reply : goal.returns-in-Reply
returns-in-Reply c = λ home e.
    let v = c.args.self.now in
    let i = c.args.instance in
    let number = c.args.number in
    let x = c.index-home.result.now in
    c.nth_left.ensures
    ∙ ap (λ ps. nth (map step.Answer (left_in ps i)) number) (c.deref.ensures.value ∙ ap (λ v. v.places) c.self.view_is)
    ∙ sym (ap (λ h. nth (steps_at v c.args.kind (i, h)) number) (same (goal.at.returns-in-Reply c).After-index-home home e)
    ∙ ap (λ b. nth (if b then steps_left v c.args.kind i else steps_in v c.args.kind i x) number) c.if-not-home.false
    ∙ ap (λ k. nth (steps_left v k i) number) c.in-Reply.is)

pub returns-in-Turn : goal.returns-in-Turn
returns-in-Turn c = λ home e.
    let v = c.args.self.now in
    let i = c.args.instance in
    let number = c.args.number in
    let x = c.index-home.result.now in
    sym (ap (λ h. nth (steps_at v c.args.kind (i, h)) number) (same (goal.at.returns-in-Turn c).After-index-home home e)
    ∙ ap (λ b. nth (if b then steps_left v c.args.kind i else steps_in v c.args.kind i x) number) c.if-not-home.false
    ∙ ap (λ steps. nth steps number) (others v c.args.kind i c.in-Turn.is))
