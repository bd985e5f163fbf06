use Rattle.std.proofs.Common.{inl, ◌≡◌, ◌∙◌, ◌<◌, None, true, length, get_or, ap, sym, subst, set as set₁, refl}
use Rattle.kvs_keys.specs.Posted.{posted}
use Rattle.kvs_requests.specs.declared.rows.Row.{Row}
use Rattle.kvs_keys.specs.Agrees.{Agrees}
use Rattle.kvs_requests.specs.Agreement.{MayTell}
use Rattle.kvs_rules.specs.Log.{Log}
use Rattle.kvs_rules.specs.Namespaces.{Setting}
use Rattle.kvs_requests.specs.Rows.{IsPlaced, with_stage}
use Rattle.kvs_requests.specs.Stages.{is_arrived, all_services}
use Rattle.kvs_keys.proofs.Heads.{head-of, agrees-of}
use Rattle.kvs_keys.proofs.Taking.{refused-fewer, refused-sound, refused-agrees}
use Rattle.kvs_keys.proofs.Extending.{as-before}
use Rattle.kvs_keys.specs.Turns.{InTurn}
use Rattle.kvs_keys.proofs.Turns.{arrived-comes, falling-goes, turns-taken}
use Rattle.kvs_keys.specs.Histories.{history_of}
use Rattle.kvs_keys.proofs.service.Keys.turn_away.Goals as goal

pub invariant_of-self : goal.invariant_of-self
invariant_of-self c = (
  λ ready.
      let s = c.self.invariant.0 ready in
      let e = sym c.self.view_is in
      let within = subst (λ v. c.args.i < length v.rows) e c.requires.within in
      let arrived = subst (λ v. (d : Row) → is_arrived (get_or v.rows c.args.i d) ≡ true) e c.requires.arrived in
      let come = ap is_arrived c.index.ensures ∙ arrived c.index.result.now in
      let rows-are = c.put_stage.ensures c.index.result.now ∙ ap (λ r. set₁ c.self.inside.rows.items c.args.i (with_stage c.falling-stage.result r)) (sym c.index.ensures) in
      let home = (subst (IsPlaced c.self.inside.fanout c.self.inside.size c.self.inside.spaces.items) (sym c.index.ensures) (s.placed c.args.i c.index.result.now within)).home in
      refused-sound s c.args.i within c.index.result.now c.index.ensures c.args.given come c.falling-stage.result c.falling-stage.ensures.falls c.put_stage.new.rows.items rows-are (c.falling-stage.ensures.place c.self.inside.size c.self.inside.spaces.items home) c.self.inside.spent,
  λ ready. c.self.invariant.1 ready,
)

pub returns-clause-moves : goal.returns-clause-moves
returns-clause-moves c =
    let s = c.self.invariant.0 (ap (λ v. v.spent) c.self.view_is ∙ c.requires.ready) in
    let e = sym c.self.view_is in
    let within = subst (λ v. c.args.i < length v.rows) e c.requires.within in
    let arrived = subst (λ v. (d : Row) → is_arrived (get_or v.rows c.args.i d) ≡ true) e c.requires.arrived in
    let come = ap is_arrived c.index.ensures ∙ arrived c.index.result.now in
    let rows-are = c.put_stage.ensures c.index.result.now ∙ ap (λ r. set₁ c.self.inside.rows.items c.args.i (with_stage c.falling-stage.result r)) (sym c.index.ensures) in
    record {
      ready = ap (λ v. v.spent) c.self.view_is ∙ c.requires.ready;
      size = ap (λ v. v.size) c.self.view_is;
      order = ap posted c.self.view_is;
      extends = record { history = as-before (ap history_of c.self.view_is); inside = refl; grant = ap (λ v. v.grant) c.self.view_is; fanout = ap (λ v. v.fanout) c.self.view_is };
      does =
          inl (subst (λ v. all_services c.put_stage.new.rows.items < all_services v.rows) c.self.view_is
          (refused-fewer s c.args.i within c.index.result.now c.index.ensures c.args.given come c.falling-stage.result c.falling-stage.ensures.falls c.put_stage.new.rows.items rows-are));
      agrees = λ set log a.
          let b = subst (λ v. Agrees v set log) e a in
          agrees-of (head-of b) (refused-agrees s c.args.i within c.index.result.now c.index.ensures c.args.given come c.falling-stage.result c.falling-stage.ensures.falls b (subst (λ v. (set₂ : Setting) (log₂ : Log) (a₂ : Agrees v set₂ log₂) (d : Row) → MayTell a₂.entered set₂ log₂ (get_or v.rows c.args.i d).by None c.args.given) e c.requires.fits set log b) c.falling-stage.ensures.agrees c.falling-stage.ensures.unjoined c.put_stage.new.rows.items rows-are)
          (λ settled. subst (InTurn b.entered set log c.self.inside.spaces.items) (sym rows-are)
          (turns-taken (b.turns settled) b.apart c.args.i within c.index.result.now c.index.ensures (arrived-comes c.index.result.now.stage come) (with_stage c.falling-stage.result c.index.result.now) refl (falling-goes c.self.inside.fanout 0 c.index.result.now.broker c.args.given c.falling-stage.result c.falling-stage.ensures.falls) c.self.inside.spaces.items));
    }
