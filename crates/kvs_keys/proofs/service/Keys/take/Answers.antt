use Rattle.std.proofs.Common.{◌≡◌, ◌&&◌, true, sym, subst, refl, ap}
use Rattle.kvs_rules.specs.Log.{same_command}
use Rattle.kvs_keys.specs.Agrees.{Agrees}
use Rattle.kvs_requests.specs.Agreement.{RowsAgree}
use Rattle.kvs_keys.specs.Sound.{IsSound}
use Rattle.kvs_keys.specs.Steps.{can_take}
use Rattle.kvs_requests.specs.Stages.{is_held}
use Rattle.kvs_keys.specs.View.{value_of}
use Rattle.kvs_space.proofs.Finding.{found-none}
use Rattle.kvs_keys.proofs.Heads.{agrees-of}
use Rattle.kvs_keys.proofs.Moving.{take-held, take-within, taken-sound, taken-legal, taken-head, taken-rows}
use Rattle.kvs_keys.specs.Histories.{history_of}
use Rattle.kvs_keys.proofs.Extending.{as-before}
use Rattle.std.specs.List.{remove}
use Rattle.kvs_rules.specs.declared.events.KvsEvent.TheVariants as event
use Rattle.kvs_keys.specs.Turns.{InTurn}
use Rattle.kvs_keys.proofs.Turns.{removed-from, turns-happened, turns-moved}
use Rattle.kvs_keys.proofs.service.Keys.take.Goals as goal

pub unreachable-requires : goal.unreachable-requires
unreachable-requires c =
    found-none (λ row. same_command c.args.by row.by && is_held row) c.self.inside.rows.items c.in-None.ensures (subst (λ v. can_take v c.args.by ≡ true) (sym c.self.view_is) c.requires.can)

pub held_of-requires : goal.held_of-requires
held_of-requires c = take-held (value_of c.self.inside) c.args.by c.in-Some.i c.remove-row.result c.remove-row.ensures.value c.in-Some.ensures

pub returns-clause-legal : goal.returns-clause-legal
returns-clause-legal c = λ set log a. taken-legal (value_of c.self.inside) c.args.by c.in-Some.i c.remove-row.result c.remove-row.ensures.value c.in-Some.ensures c.held_of.result.number c.held_of.result.answer c.held_of.ensures (subst (λ v. Agrees v set log) (sym c.self.view_is) a)

pub returns-clause-agrees : goal.returns-clause-agrees
returns-clause-agrees c = λ set log a.
    let b = (subst (λ v. Agrees v set log) (sym c.self.view_is) a) in
    agrees-of (taken-head (value_of c.self.inside) c.args.by c.in-Some.i c.remove-row.result c.remove-row.ensures.value c.in-Some.ensures c.held_of.result.number c.held_of.result.answer c.held_of.ensures b)
    (subst (RowsAgree b.entered set _ (value_of c.self.inside).spaces) (sym c.remove-row.ensures.items) (taken-rows (value_of c.self.inside) c.args.by c.in-Some.i c.remove-row.result c.remove-row.ensures.value c.in-Some.ensures c.held_of.result.number c.held_of.result.answer c.held_of.ensures b))
    (λ settled. subst (InTurn b.entered set _ (value_of c.self.inside).spaces) (sym c.remove-row.ensures.items)
    (turns-moved (turns-happened (b.turns settled) (event.Answered c.args.by c.held_of.result.number c.held_of.result.answer)) (value_of c.self.inside).spaces (remove (value_of c.self.inside).rows c.in-Some.i) (λ space fence count f. f)
    (removed-from (value_of c.self.inside).rows c.in-Some.i (take-within (value_of c.self.inside) c.args.by c.in-Some.i c.remove-row.result c.remove-row.ensures.value c.in-Some.ensures))))

pub invariant_of-self : goal.invariant_of-self
invariant_of-self c = (
  λ ready.
      let v = value_of c.self.inside in
      subst (λ rs. IsSound (record { spent = v.spent; size = v.size; fanout = v.fanout; grant = v.grant; spaces = v.spaces; rows = rs })) (sym c.remove-row.ensures.items)
      (taken-sound (value_of c.self.inside) c.args.by c.in-Some.i c.remove-row.result c.remove-row.ensures.value c.in-Some.ensures (c.self.invariant.0 ready) v.spent),
  λ ready. c.self.invariant.1 ready,
)

pub returns-clause-extends : goal.returns-clause-extends
returns-clause-extends c = record { history = as-before (ap history_of c.self.view_is); inside = refl; grant = ap (λ v. v.grant) c.self.view_is; fanout = ap (λ v. v.fanout) c.self.view_is }
