use Rattle.std.proofs.Common.{◌≡◌, ◌∙◌, true, false, ap, sym, subst, set as set₁}
use Rattle.kvs_space.specs.Space.{has_news}
use Rattle.kvs_space.proofs.Finding.{found-within, found-passes, found-none}
use Rattle.kvs_space.proofs.Rolls.{roll-told}
use Rattle.kvs_keys.specs.Makes.{Moves}
use Rattle.kvs_keys.specs.Order.{loss_step}
use Rattle.kvs_keys.specs.Sound.{IsSound}
use Rattle.kvs_keys.specs.Steps.{is_announced}
use Rattle.kvs_keys.specs.View.{value_of}
use Rattle.kvs_keys.proofs.Delivering.{coming}
use Rattle.kvs_keys.proofs.Losing.{linked-low, loss-made, lost-moves, lost-sound}
use Rattle.kvs_keys.proofs.Making.{silent}
use Rattle.kvs_keys.proofs.service.Keys.lose.Goals as goal

pub unreachable-requires : goal.unreachable-requires
unreachable-requires c = found-none (has_news c.args.to) c.self.inside.spaces.items c.in-None.ensures (coming (value_of c.self.inside) c.args.from c.args.to (subst (λ v. is_announced v c.args.from c.args.to ≡ true) (sym c.self.view_is) c.requires.can)).some

pub lose-requires : goal.lose-requires
lose-requires c =
    let s = c.self.invariant.0 (ap (λ v. v.spent) c.self.view_is ∙ c.requires.ready) in
    let on = coming (value_of c.self.inside) c.args.from c.args.to (subst (λ v. is_announced v c.args.from c.args.to ≡ true) (sym c.self.view_is) c.requires.can) in
    let within = found-within (has_news c.args.to) c.self.inside.spaces.items c.in-Some.k c.in-Some.ensures in
    record { within = linked-low s c.in-Some.k within c.index_mut-space.result.now c.index_mut-space.ensures.value c.args.to on.within }

pub let_rest-requires-clause-roll : goal.let_rest-requires-clause-roll
let_rest-requires-clause-roll c =
    let within = found-within (has_news c.args.to) c.self.inside.spaces.items c.in-Some.k c.in-Some.ensures in
    roll-told (c.self.invariant.1 (ap (λ v. v.spent) c.self.view_is ∙ c.requires.ready)) c.in-Some.k c.lose.new.self c.index_mut-space.result.now within c.index_mut-space.ensures.value (ap (λ s. s.name) c.in_ok-lose-in-Some.ensures) c.args.to
    (ap (has_news c.args.to) c.index_mut-space.ensures.value ∙ found-passes (has_news c.args.to) c.self.inside.spaces.items c.in-Some.k c.index_mut-space.result.now c.in-Some.ensures)

pub invariant_of-self-in-Some : goal.invariant_of-self-in-Some
invariant_of-self-in-Some c = (
  λ _.
      let s = c.self.invariant.0 (ap (λ v. v.spent) c.self.view_is ∙ c.requires.ready) in
      let within = found-within (has_news c.args.to) c.self.inside.spaces.items c.in-Some.k c.in-Some.ensures in
      subst (λ x. IsSound (record { spent = false; size = c.self.inside.size; fanout = c.self.inside.fanout; grant = c.self.inside.grant; spaces = set₁ c.self.inside.spaces.items c.in-Some.k x; rows = c.self.inside.rows.items })) (sym c.in_ok-lose-in-Some.ensures)
      (lost-sound s c.in-Some.k within c.index_mut-space.result.now c.index_mut-space.ensures.value c.args.kind c.args.to false),
  λ _. c.let_rest.ensures,
)

pub returns-clause-makes : goal.returns-clause-makes
returns-clause-makes c =
    let s = c.self.invariant.0 (ap (λ v. v.spent) c.self.view_is ∙ c.requires.ready) in
    let on = coming (value_of c.self.inside) c.args.from c.args.to (subst (λ v. is_announced v c.args.from c.args.to ≡ true) (sym c.self.view_is) c.requires.can) in
    let within = found-within (has_news c.args.to) c.self.inside.spaces.items c.in-Some.k c.in-Some.ensures in
    let news = ap (has_news c.args.to) c.index_mut-space.ensures.value ∙ found-passes (has_news c.args.to) c.self.inside.spaces.items c.in-Some.k c.index_mut-space.result.now c.in-Some.ensures in
    let v = value_of c.self.inside in
    silent c.new.result c.new.ensures (loss-made c.args.kind c.args.from c.args.to)
    (subst (λ old. Moves (loss_step c.args.kind c.args.from c.args.to) old (record { spent = false; size = v.size; fanout = v.fanout; grant = v.grant; spaces = set₁ v.spaces c.in-Some.k c.lose.new.self; rows = v.rows })) c.self.view_is
    (subst (λ x. Moves (loss_step c.args.kind c.args.from c.args.to) v (record { spent = false; size = v.size; fanout = v.fanout; grant = v.grant; spaces = set₁ v.spaces c.in-Some.k x; rows = v.rows })) (sym c.in_ok-lose-in-Some.ensures)
    (lost-moves s c.in-Some.k within c.index_mut-space.result.now c.index_mut-space.ensures.value c.args.kind c.args.from c.args.to on.sender on.within news)))
