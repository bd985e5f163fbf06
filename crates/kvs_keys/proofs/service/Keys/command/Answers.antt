use Rattle.std.proofs.Common.{ap, ◌∙◌, ◌<◌, max, sym, subst, refl}
use Rattle.std.specs.Option.{is_some}
use Rattle.kvs_keys.specs.Agrees.{Agrees}
use Rattle.kvs_requests.specs.Agreement.{RowsAgree}
use Rattle.kvs_requests.specs.Rows.{ArePlaced, awaited}
use Rattle.kvs_keys.specs.View.{value_of}
use Rattle.kvs_keys.proofs.Asking.{asked-placed, asked-head, asked-row, known-keys, known-within}
use Rattle.kvs_keys.proofs.Heads.{agrees-of}
use Rattle.kvs_keys.proofs.Moving.{moved-sound}
use Rattle.kvs_keys.specs.Histories.{history_of}
use Rattle.kvs_keys.proofs.Extending.{as-before}
use Rattle.kvs_keys.proofs.Coming.{asked-turns}
use Rattle.kvs_keys.specs.Steps.{IsStill}
use Rattle.kvs_keys.specs.Turns.{InTurn}
use Rattle.kvs_keys.proofs.service.Keys.command.Goals as goal

pub invariant_of-self-2 : goal.invariant_of-self-2
invariant_of-self-2 c = (
  λ _.
      let s = c.self.invariant.0 (ap (λ v. v.spent) c.self.view_is ∙ c.requires.ready) in
      let within = subst (λ v. c.args.broker < v.size) (sym c.self.view_is) c.requires.within in
      moved-sound s _ _ (subst (ArePlaced c.self.inside.fanout c.self.inside.size (value_of c.self.inside).spaces) (sym c.in_ok-push.ensures.items)
      (asked-placed s c.args.by c.args.broker c.args.namespace c.max-need.result c.entry-stage.result within (c.entry-stage.ensures.place c.self.inside.size (value_of c.self.inside).spaces within (known-within (value_of c.self.inside).spaces c.args.broker c.args.namespace c.find_known-place.result c.find_known-place.ensures)))),
  λ _. c.self.invariant.1 (ap (λ v. v.spent) c.self.view_is ∙ c.requires.ready),
)

pub returns-clause-agrees : goal.returns-clause-agrees
returns-clause-agrees c = λ set log a made floors seen fresh rested.
    let s = c.self.invariant.0 (ap (λ v. v.spent) c.self.view_is ∙ c.requires.ready) in
    let b = subst (λ v. Agrees v set log) (sym c.self.view_is) a in
    let needs = c.max-need.ensures ∙ ap (λ n. max n c.awaited.result) c.max.ensures ∙ ap (max (max c.args.floor c.heard_at-heard.result)) c.awaited.ensures ∙ ap (λ n. max (max n c.heard_at-heard.result) (awaited c.args.ask)) (sym seen) in
    agrees-of (asked-head s b c.args.by floors (ap is_some made) fresh)
    (subst (RowsAgree b.entered set _ (value_of c.self.inside).spaces) (sym c.in_ok-push.ensures.items)
    (asked-row s b c.args.by floors (ap is_some made) fresh c.args.broker (subst (λ v. c.args.broker < v.size) (sym c.self.view_is) c.requires.within) c.args.namespace c.args.ask made c.find_known-place.result c.find_known-place.ensures
    c.max-need.result c.heard_at-heard.result c.heard_at-heard.ensures needs c.entry-stage.result (known-keys c.args.ask c.requires.known) c.entry-stage.ensures.agrees c.entry-stage.ensures.unjoined))
    (λ settled. subst (InTurn b.entered set _ (value_of c.self.inside).spaces) (sym c.in_ok-push.ensures.items)
    (asked-turns s (subst IsStill (sym c.self.view_is) (rested settled)) b settled (record { by = c.args.by; broker = c.args.broker; namespace = c.args.namespace; need = c.max-need.result; stage = c.entry-stage.result }) floors (ap is_some made) fresh))

pub returns-clause-extends : goal.returns-clause-extends
returns-clause-extends c = record { history = as-before (ap history_of c.self.view_is); inside = refl; grant = ap (λ v. v.grant) c.self.view_is; fanout = ap (λ v. v.fanout) c.self.view_is }
