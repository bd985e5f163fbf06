use Rattle.std.proofs.Common.{◌≡◌, ◌∙◌, true, sym, subst, IfOk}
use Rattle.kvs_keys.specs.Makes.{Makes}
use Rattle.kvs_keys.specs.Steps.{can_step, is_announced}
use Rattle.kvs_space.proofs.Finding.{false-or-else}
use Rattle.kvs_keys.proofs.Making.{silent}
use Rattle.kvs_keys.proofs.service.Keys.turn.Goals as goal

pub deliver_number-requires-clause-can : goal.deliver_number-requires-clause-can
deliver_number-requires-clause-can c = sym c.is_announced.ensures ∙ c.if-is_announced.true

pub deliver_message-requires-clause-can : goal.deliver_message-requires-clause-can
deliver_message-requires-clause-can c =
    sym (false-or-else (is_announced c.args.self.now c.in-Deliver.from c.in-Deliver.to) _ (sym c.is_announced.ensures ∙ c.if-is_announced.false)) ∙ (subst (λ s. can_step c.args.self.now s ≡ true) c.in-Deliver.is c.requires.can)

pub land-requires-clause-can : goal.land-requires-clause-can
land-requires-clause-can c = subst (λ s. can_step c.args.self.now s ≡ true) c.in-Land.is c.requires.can

pub serve-requires-clause-can : goal.serve-requires-clause-can
serve-requires-clause-can c = subst (λ s. can_step c.args.self.now s ≡ true) c.in-Serve.is c.requires.can

pub returns-then-is_announced-clause-makes : goal.returns-then-is_announced-clause-makes
returns-then-is_announced-clause-makes c = subst (λ s. IfOk c.deliver_number.result (Makes s c.args.self.now c.deliver_number.new.self)) (sym c.in-Deliver.is) c.deliver_number.ensures.makes

pub returns-else-is_announced-clause-makes : goal.returns-else-is_announced-clause-makes
returns-else-is_announced-clause-makes c = subst (λ s. Makes s c.args.self.now c.deliver_message.new.self c.new.result) (sym c.in-Deliver.is) (silent c.new.result c.new.ensures (λ log. tt) c.deliver_message.ensures.moves)

pub returns-in-Land-clause-makes : goal.returns-in-Land-clause-makes
returns-in-Land-clause-makes c = subst (λ s. IfOk c.land.result (Makes s c.args.self.now c.land.new.self)) (sym c.in-Land.is) c.land.ensures.makes

pub returns-in-Serve-clause-makes : goal.returns-in-Serve-clause-makes
returns-in-Serve-clause-makes c = subst (λ s. IfOk c.serve.result (Makes s c.args.self.now c.serve.new.self)) (sym c.in-Serve.is) c.serve.ensures.makes
