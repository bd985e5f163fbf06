use Rattle.std.proofs.Common.{inl, refl, ◌≡◌, ◌∙◌, ◌<◌, ◌++◌, ◌∷◌, [], ◌^◌, suc, None, true, false, length, map, arith, get_or, ap, sym, subst, set as set₁, inr, ◌≤◌}
use Rattle.std.specs.List.{AllByRecursion as Each, position}
use Rattle.std.specs.Str.{bytes_eq}
use Rattle.std.proofs.lemmas.List.{get_or_default}
use Rattle.kvs_rules.specs.Answers.{IsLegalAfter}
use Rattle.kvs_rules.specs.Log.{Happened}
use Rattle.kvs_rules.specs.Namespaces.{is_primary, most_live}
use Rattle.kvs_requests.specs.declared.rows.Kind.TheVariants as kind
use Rattle.kvs_requests.specs.declared.rows.Row.{Row}
use Rattle.kvs_requests.specs.declared.rows.Stage.TheVariants as stage
use Rattle.kvs_requests.specs.declared.rows.Work.TheVariants as work
use Rattle.kvs_keys.specs.Agrees.{Agrees}
use Rattle.kvs_keys.specs.Makes.{IsOfKeys}
use Rattle.kvs_keys.specs.Posted.{posted, posts_landed}
use Rattle.kvs_requests.specs.Rows.{with_stage}
use Rattle.kvs_keys.specs.Sound.{IsSound}
use Rattle.kvs_requests.specs.Stages.{is_arrived, kind_of}
use Rattle.kvs_space.specs.Space.{is_named, live_in}
use Rattle.kvs_space.specs.Told.{changing}
use Rattle.kvs_keys.proofs.Looking.{creates}
use Rattle.kvs_keys.proofs.Opening.{opened-order, opened-sound, opening-agrees, opening-legal, unnamed-other}
use Rattle.kvs_keys.proofs.Queueing.{waiting-posts}
use Rattle.kvs_keys.proofs.Taking.{arrived-ask}
use Rattle.kvs_rules.specs.Steps.{AreMadeBy}
use Rattle.kvs_rules.specs.declared.events.KvsStep.TheVariants as kvs
use Rattle.kvs_keys.proofs.Extending.{changing-inside, changing-told, history-in, history-wide, of-old, Inside}
use Rattle.kvs_keys.specs.Histories.{landings_in}
use Rattle.kvs_keys.proofs.Landing.{primary-there}
use Rattle.kvs_space.specs.Roll.{IsRoll}
use Rattle.kvs_space.proofs.Rolls.{named-at, roll-entered}
use Rattle.kvs_keys.proofs.service.Keys.open.Goals as goal

pub opened-requires-clause-other : goal.opened-requires-clause-other
opened-requires-clause-other c =
    let s = c.self.invariant.0 (ap (λ v. v.spent) c.self.view_is ∙ c.requires.ready) in
    let none = subst (λ v. (d : Row) → None ≡ position (is_named (get_or v.rows c.args.i d).namespace) v.spaces) (sym c.self.view_is) c.requires.new c.index-2.result.now in
    ap is_primary (c.in_ok-name.ensures ∙ ap (λ r. r.namespace) c.index-2.ensures) ∙ unnamed-other s (get_or c.self.inside.rows.items c.args.i c.index-2.result.now).namespace none

pub enter-requires : goal.enter-requires
enter-requires c =
    let e = sym c.self.view_is in
    let row = c.index.result.now in
    let within = subst (λ v. c.args.i < length v.rows) e c.requires.within in
    let none = subst (λ v. (d : Row) → None ≡ position (is_named (get_or v.rows c.args.i d).namespace) v.spaces) e c.requires.new row ∙ ap (λ r. position (is_named r.namespace) c.self.inside.spaces.items) (sym c.index.ensures) in
    let name-is = c.in_ok-space.ensures.name ∙ c.in_ok-name.ensures ∙ ap (λ r. r.namespace) (c.index-2.ensures ∙ get_or_default c.self.inside.rows.items c.args.i c.index-2.result.now row within ∙ sym c.index.ensures) in
    record { new = ap (λ n. position (bytes_eq n) c.self.inside.roll.names) (c.name-2.ensures ∙ name-is) ∙ named-at (c.self.invariant.1 (ap (λ v. v.spent) c.self.view_is ∙ c.requires.ready)) row.namespace ∙ sym none }

pub invariant_of-self-2 : goal.invariant_of-self-2
invariant_of-self-2 c = (
  λ _.
      let s = c.self.invariant.0 (ap (λ v. v.spent) c.self.view_is ∙ c.requires.ready) in
      let e = sym c.self.view_is in
      let row = c.index.result.now in
      let within = subst (λ v. c.args.i < length v.rows) e c.requires.within in
      let none = subst (λ v. (d : Row) → None ≡ position (is_named (get_or v.rows c.args.i d).namespace) v.spaces) e c.requires.new row ∙ ap (λ r. position (is_named r.namespace) c.self.inside.spaces.items) (sym c.index.ensures) in
      let ar = arrived-ask row (ap is_arrived c.index.ensures ∙ subst (λ v. (d : Row) → is_arrived (get_or v.rows c.args.i d) ≡ true) e c.requires.arrived row) in
      let create = ap (λ r. kind_of r.stage) c.index.ensures ∙ subst (λ v. (d : Row) → kind_of (get_or v.rows c.args.i d).stage ≡ kind.Create) e c.requires.asked row in
      let is = ar.is ∙ ap stage.Arrived (creates ar.asked (sym (ap kind_of ar.is) ∙ create)) in
      let name-is = c.in_ok-space.ensures.name ∙ c.in_ok-name.ensures ∙ ap (λ r. r.namespace) (c.index-2.ensures ∙ get_or_default c.self.inside.rows.items c.args.i c.index-2.result.now row within ∙ sym c.index.ensures) in
      let len : c.len-k.result ≡ length c.self.inside.spaces.items = omega (arith, c.self.inside.spaces.ok.0, c.len-k.ensures) in
      let rows-are = c.put_stage.ensures row ∙ ap (λ n. set₁ c.self.inside.rows.items c.args.i (with_stage (stage.Landed n 0 work.Create) (get_or c.self.inside.rows.items c.args.i row))) len
      ∙ ap (λ r. set₁ c.self.inside.rows.items c.args.i (with_stage (stage.Landed (length c.self.inside.spaces.items) 0 work.Create) r)) (sym c.index.ensures) in
      let few : suc (length c.self.inside.spaces.items) < 2 ^ 32 = (let f = c.if-k-ge-MOST_SPACES.false in omega (arith, len, f)) in
      let room = subst (λ v. live_in v.spaces < most_live) e c.requires.room in
      subst (λ ss. IsSound (record { spent = false; size = c.self.inside.size; fanout = c.self.inside.fanout; grant = c.self.inside.grant; spaces = ss; rows = c.put_stage.new.rows.items })) (sym c.in_ok-push.ensures.items)
      (opened-sound s c.args.i within row c.index.ensures is none c.in_ok-space.space name-is c.in_ok-space.ensures.fresh c.in_ok-space.ensures.size c.in_ok-space.ensures.known (c.in_ok-space.ensures.sound c.self.inside.grant) few room c.put_stage.new.rows.items rows-are false),
  λ _.
      let same = c.name-2.ensures in
      subst (λ r. IsRoll r c.push.new.self.items) (sym c.in_ok-enter.ensures.entered)
      (subst (IsRoll (record { names = c.self.inside.roll.names ++ c.name-2.result.now ∷ []; awake = c.self.inside.roll.awake ++ length c.self.inside.roll.names ∷ [] })) (sym c.in_ok-push.ensures.items)
      (roll-entered (c.self.invariant.1 (ap (λ v. v.spent) c.self.view_is ∙ c.requires.ready)) c.in_ok-space.space c.name-2.result.now (sym same))),
)

pub returns-clause-makes : goal.returns-clause-makes
returns-clause-makes c =
    let s = c.self.invariant.0 (ap (λ v. v.spent) c.self.view_is ∙ c.requires.ready) in
    let e = sym c.self.view_is in
    let row = c.index.result.now in
    let within = subst (λ v. c.args.i < length v.rows) e c.requires.within in
    let none = subst (λ v. (d : Row) → None ≡ position (is_named (get_or v.rows c.args.i d).namespace) v.spaces) e c.requires.new row ∙ ap (λ r. position (is_named r.namespace) c.self.inside.spaces.items) (sym c.index.ensures) in
    let ar = arrived-ask row (ap is_arrived c.index.ensures ∙ subst (λ v. (d : Row) → is_arrived (get_or v.rows c.args.i d) ≡ true) e c.requires.arrived row) in
    let create = ap (λ r. kind_of r.stage) c.index.ensures ∙ subst (λ v. (d : Row) → kind_of (get_or v.rows c.args.i d).stage ≡ kind.Create) e c.requires.asked row in
    let is = ar.is ∙ ap stage.Arrived (creates ar.asked (sym (ap kind_of ar.is) ∙ create)) in
    let name-is = c.in_ok-space.ensures.name ∙ c.in_ok-name.ensures ∙ ap (λ r. r.namespace) (c.index-2.ensures ∙ get_or_default c.self.inside.rows.items c.args.i c.index-2.result.now row within ∙ sym c.index.ensures) in
    let told = c.in_ok-events.ensures ∙ ap (λ n. changing n 0 row.by) (c.name.ensures ∙ name-is) in
    let len : c.len-k.result ≡ length c.self.inside.spaces.items = omega (arith, c.self.inside.spaces.ok.0, c.len-k.ensures) in
    record {
      ready = refl;
      size = ap (λ v. v.size) c.self.view_is;
      order =
          ap (λ es. posts_landed es ++ waiting-posts c.push.new.self.items) c.in_ok-events.ensures ∙ ap waiting-posts c.in_ok-push.ensures.items
          ∙ opened-order s c.args.i within row c.index.ensures is none c.in_ok-space.space name-is c.in_ok-space.ensures.fresh c.in_ok-space.ensures.size c.in_ok-space.ensures.known ∙ ap posted c.self.view_is;
      extends = record {
        history = of-old (landings_in c.in_ok-events.events) c.self.view_is (ap history-in c.in_ok-push.ensures.items ∙ history-wide c.self.inside.spaces.items c.in_ok-space.space (primary-there c.self.inside.spaces.items s.first) ∙ ap (λ ls. history-in c.self.inside.spaces.items ++ ls) (sym (ap landings_in told ∙ changing-told row.namespace 0 row.by (unnamed-other s row.namespace none))));
        inside = subst Inside (sym told) (changing-inside row.namespace 0 row.by (unnamed-other s row.namespace none));
        grant = ap (λ v. v.grant) c.self.view_is;
        fanout = ap (λ v. v.fanout) c.self.view_is;
      };
      does = inr (subst (λ es. 1 ≤ length es) (sym c.in_ok-events.ensures) (omega arith));
      own = subst (Each IsOfKeys) (sym told) (tt, (tt, tt));
      made = λ set log a. subst (AreMadeBy log (kvs.Serve 0)) (sym c.in_ok-events.ensures) (inr (refl, refl), (inl refl, tt));
      legal = λ set log a.
          let b = subst (λ v. Agrees v set log) e a in
          subst (λ es. IsLegalAfter set log (map Happened es)) (sym told)
          (opening-legal s c.args.i within row c.index.ensures is none c.in_ok-space.space name-is c.in_ok-space.ensures.fresh c.in_ok-space.ensures.size c.in_ok-space.ensures.known b (subst (λ v. live_in v.spaces < most_live) e c.requires.room));
      agrees = λ set log a.
          let rows-are = c.put_stage.ensures row ∙ ap (λ n. set₁ c.self.inside.rows.items c.args.i (with_stage (stage.Landed n 0 work.Create) (get_or c.self.inside.rows.items c.args.i row))) len
          ∙ ap (λ r. set₁ c.self.inside.rows.items c.args.i (with_stage (stage.Landed (length c.self.inside.spaces.items) 0 work.Create) r)) (sym c.index.ensures) in
          let told = c.in_ok-events.ensures ∙ ap (λ n. changing n 0 row.by) (c.name.ensures ∙ name-is) in
          let b = subst (λ v. Agrees v set log) e a in
          subst (λ es. Agrees (record { spent = false; size = c.self.inside.size; fanout = c.self.inside.fanout; grant = c.self.inside.grant; spaces = c.push.new.self.items; rows = c.put_stage.new.rows.items }) set (log ++ map Happened es)) (sym told)
          (subst (λ ss. Agrees (record { spent = false; size = c.self.inside.size; fanout = c.self.inside.fanout; grant = c.self.inside.grant; spaces = ss; rows = c.put_stage.new.rows.items }) set (log ++ map Happened (changing row.namespace 0 row.by))) (sym c.in_ok-push.ensures.items)
          (opening-agrees s c.args.i within row c.index.ensures is none c.in_ok-space.space name-is c.in_ok-space.ensures.fresh c.in_ok-space.ensures.size c.in_ok-space.ensures.known b c.put_stage.new.rows.items rows-are));
    }
