use Rattle.std.proofs.Common.{refl, ◌≡◌, ◌∙◌, ◌<◌, true, false, length, get_or, ap, sym, subst, inl}
use Rattle.kvs_keys.specs.Posted.{posted}
use Rattle.kvs_requests.specs.declared.rows.Row.{Row}
use Rattle.kvs_requests.specs.Stages.{is_arrived, may_serve, all_services}
use Rattle.kvs_keys.specs.Agrees.{Agrees}
use Rattle.kvs_keys.proofs.Heads.{head-of, agrees-of}
use Rattle.kvs_keys.proofs.Moving.{moved-sound}
use Rattle.kvs_keys.proofs.Serving.{given-placed, given-agrees, given-less}
use Rattle.kvs_keys.proofs.Extending.{as-before}
use Rattle.kvs_keys.specs.View.{value_of}
use Rattle.kvs_keys.proofs.Turns.{given-from, turns-moved}
use Rattle.kvs_keys.specs.Histories.{history_of}
use Rattle.kvs_keys.proofs.service.Keys.answer.Goals as goal

pub invariant_of-self-2 : goal.invariant_of-self-2
invariant_of-self-2 c = (
  λ _.
      let s = c.self.invariant.0 (ap (λ v. v.spent) c.self.view_is ∙ c.requires.ready) in
      let e = sym c.self.view_is in
      let within = subst (λ v. c.args.i < length v.rows) e c.requires.within in
      let home = subst (λ v. c.args.broker < v.size) e c.requires.broker in
      let waits = subst (λ v. (d : Row) → is_arrived (get_or v.rows c.args.i d) ≡ false) e c.requires.waits in
      let can = subst (λ v. (d : Row) → may_serve v.spaces c.args.broker (get_or v.rows c.args.i d) ≡ true) e c.requires.can in
      let place = c.index-space.ensures ∙ ap (λ n. get_or c.self.inside.spaces.items n c.index-space.result.now) c.place_of.ensures in
      moved-sound s _ _ (given-placed s c.args.broker home c.args.i c.index.result.now within c.index.ensures waits can c.index-space.result.now place c.known.result c.known.ensures c.has_heard_end-ended.result c.has_heard_end-ended.ensures c.store.result.now c.store.ensures c.give.new.rows.items c.in_ok-give.ensures),
  λ _. c.self.invariant.1 (ap (λ v. v.spent) c.self.view_is ∙ c.requires.ready),
)

pub returns-clause-moves : goal.returns-clause-moves
returns-clause-moves c =
    let s = c.self.invariant.0 (ap (λ v. v.spent) c.self.view_is ∙ c.requires.ready) in
    let e = sym c.self.view_is in
    let within = subst (λ v. c.args.i < length v.rows) e c.requires.within in
    let home = subst (λ v. c.args.broker < v.size) e c.requires.broker in
    let waits = subst (λ v. (d : Row) → is_arrived (get_or v.rows c.args.i d) ≡ false) e c.requires.waits in
    let can = subst (λ v. (d : Row) → may_serve v.spaces c.args.broker (get_or v.rows c.args.i d) ≡ true) e c.requires.can in
    let place = c.index-space.ensures ∙ ap (λ n. get_or c.self.inside.spaces.items n c.index-space.result.now) c.place_of.ensures in
    record {
      ready = refl;
      size = ap (λ v. v.size) c.self.view_is;
      order = ap posted c.self.view_is;
      extends = record { history = as-before (ap history_of c.self.view_is); inside = refl; grant = ap (λ v. v.grant) c.self.view_is; fanout = ap (λ v. v.fanout) c.self.view_is };
      does =
          inl (subst (λ v. all_services c.give.new.rows.items < all_services v.rows) c.self.view_is
          (given-less s c.args.broker home c.args.i c.index.result.now within c.index.ensures waits can c.index-space.result.now place c.known.result c.known.ensures c.has_heard_end-ended.result c.has_heard_end-ended.ensures c.store.result.now c.store.ensures c.give.new.rows.items c.in_ok-give.ensures));
      agrees = λ set log a.
          let b = subst (λ v. Agrees v set log) e a in
          agrees-of (head-of b) (given-agrees s c.args.broker home c.args.i c.index.result.now within c.index.ensures waits can c.index-space.result.now place c.known.result c.known.ensures c.has_heard_end-ended.result c.has_heard_end-ended.ensures c.store.result.now c.store.ensures c.give.new.rows.items c.in_ok-give.ensures b)
          (λ settled. turns-moved (b.turns settled) (value_of c.self.inside).spaces c.give.new.rows.items (λ space fence count f. f) (given-from (value_of c.self.inside).rows c.args.i within c.known.result c.has_heard_end-ended.result c.store.result.now c.give.new.rows.items c.in_ok-give.ensures));
    }
