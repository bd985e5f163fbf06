use Rattle.std.proofs.Common.{◌≡◌, ◌∙◌, true, false, refl, ap, sym, subst}
use Rattle.kvs_rules.specs.declared.events.KvsStep.TheVariants as kvs
use Rattle.kvs_keys.specs.Makes.{Moves}
use Rattle.kvs_keys.specs.Sound.{IsSound}
use Rattle.kvs_keys.specs.Steps.{has_missed}
use Rattle.kvs_keys.specs.View.{value_of}
use Rattle.kvs_keys.proofs.Losing.{all-linked, resynced-moves, resynced-sound}
use Rattle.kvs_keys.proofs.Making.{silent}
use Rattle.kvs_keys.proofs.service.Keys.resync.Goals as goal

pub resync-requires-clause-linked : goal.resync-requires-clause-linked
resync-requires-clause-linked c = all-linked (c.self.invariant.0 (ap (λ v. v.spent) c.self.view_is ∙ c.requires.ready))

pub invariant_of-self-2 : goal.invariant_of-self-2
invariant_of-self-2 c = (
  λ _.
      let s = c.self.invariant.0 (ap (λ v. v.spent) c.self.view_is ∙ c.requires.ready) in
      subst (λ spaces. IsSound (record { spent = false; size = c.self.inside.size; fanout = c.self.inside.fanout; grant = c.self.inside.grant; spaces = spaces; rows = c.self.inside.rows.items })) (sym c.in_ok-resync.ensures.resynced)
      (resynced-sound s c.args.broker false),
  λ _. c.in_ok-resync.ensures.roll,
)

pub returns-clause-makes : goal.returns-clause-makes
returns-clause-makes c =
    let s = c.self.invariant.0 (ap (λ v. v.spent) c.self.view_is ∙ c.requires.ready) in
    let v = value_of c.self.inside in
    silent c.new.result c.new.ensures (λ log. refl)
    (subst (λ old. Moves (kvs.Resync c.args.broker) old (record { spent = false; size = v.size; fanout = v.fanout; grant = v.grant; spaces = c.resync.new.spaces.items; rows = v.rows })) c.self.view_is
    (subst (λ spaces. Moves (kvs.Resync c.args.broker) v (record { spent = false; size = v.size; fanout = v.fanout; grant = v.grant; spaces = spaces; rows = v.rows })) (sym c.in_ok-resync.ensures.resynced)
    (resynced-moves s c.args.broker (subst (λ v. has_missed v c.args.broker ≡ true) (sym c.self.view_is) c.requires.can))))
