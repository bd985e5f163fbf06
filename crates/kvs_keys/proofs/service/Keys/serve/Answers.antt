use Rattle.std.proofs.Common.{◌≡◌, ◌∙◌, ◌==◌, ◌&&◌, if◌then◌else◌, true, ap, get_or, sym, subst, IfOk}
use Rattle.std.specs.Prelude.{nat_lt}
use Rattle.kvs_rules.specs.declared.events.KvsStep.TheVariants as kvs
use Rattle.kvs_requests.specs.declared.rows.Row.{Row}
use Rattle.kvs_keys.specs.Makes.{Makes}
use Rattle.kvs_keys.specs.Steps.{can_step}
use Rattle.kvs_requests.specs.Stages.{has_come, may_serve}
use Rattle.kvs_space.proofs.Finding.{and-right, eq-is, found-none, found-passes}
use Rattle.kvs_keys.proofs.Making.{silent}
use Rattle.kvs_keys.proofs.service.Keys.serve.Goals as goal

pub unreachable-requires : goal.unreachable-requires
unreachable-requires c =
    let can = subst (λ v. can_step v (kvs.Serve c.args.broker) ≡ true) (sym c.self.view_is) c.requires.can in
    found-none (may_serve c.self.inside.spaces.items c.args.broker) c.self.inside.rows.items c.in-None.ensures (and-right (nat_lt c.args.broker c.self.inside.size) _ can)

pub answer-requires-clause-can : goal.answer-requires-clause-can
answer-requires-clause-can c =
    subst (λ v. (d : Row) → may_serve v.spaces c.args.broker (get_or v.rows c.in-Some.i d) ≡ true) c.self.view_is
    (λ d. found-passes (may_serve c.self.inside.spaces.items c.args.broker) c.self.inside.rows.items c.in-Some.i d c.in-Some.ensures)

-- rank 0 alone takes up what has come to it
pub returns-then-is_arrived-clause-makes : goal.returns-then-is_arrived-clause-makes
returns-then-is_arrived-clause-makes c =
    let row = c.index.result.now in
    let spaces = c.self.inside.spaces.items in
    let zero = eq-is c.args.broker 0 (sym (ap (λ t. if t then c.args.broker == 0 else ((row.broker == c.args.broker) && has_come spaces c.args.broker row.need row.stage)) (sym c.is_arrived.ensures ∙ c.if-is_arrived.true))
    ∙ ap (may_serve spaces c.args.broker) c.index.ensures ∙ found-passes (may_serve spaces c.args.broker) c.self.inside.rows.items c.in-Some.i row c.in-Some.ensures) in
    subst (λ b. IfOk c.take_up.result (Makes (kvs.Serve b) c.args.self.now c.take_up.new.self)) (sym zero) c.take_up.ensures.makes

pub returns-in_ok-answer-in-Some-clause-makes : goal.returns-in_ok-answer-in-Some-clause-makes
returns-in_ok-answer-in-Some-clause-makes c = silent c.new.result c.new.ensures (λ log. tt) c.in_ok-answer-in-Some.ensures.moves
