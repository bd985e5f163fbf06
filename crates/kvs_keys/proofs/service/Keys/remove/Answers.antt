use Rattle.std.proofs.Common.{inl, refl, ◌≡◌, ◌∙◌, ◌<◌, ◌++◌, Some, true, false, length, map, arith, get_or, ap, sym, subst, set as set₁, inr, ◌≤◌}
use Rattle.std.specs.List.{AllByRecursion as Each, position}
use Rattle.std.proofs.lemmas.List.{length-set}
use Rattle.kvs_rules.specs.Answers.{IsLegalAfter}
use Rattle.kvs_rules.specs.Log.{Happened}
use Rattle.kvs_requests.specs.declared.rows.Kind.TheVariants as kind
use Rattle.kvs_requests.specs.declared.rows.Row.{Row}
use Rattle.kvs_requests.specs.declared.rows.Stage.TheVariants as stage
use Rattle.kvs_requests.specs.declared.rows.Work.TheVariants as work
use Rattle.kvs_keys.specs.Agrees.{Agrees}
use Rattle.kvs_keys.specs.Makes.{IsOfKeys}
use Rattle.kvs_keys.specs.Posted.{posted, posts_landed}
use Rattle.kvs_requests.specs.Rows.{with_stage}
use Rattle.kvs_requests.specs.Stages.{is_arrived, kind_of}
use Rattle.kvs_space.specs.Sound.{IsSoundSpace}
use Rattle.kvs_space.specs.Space.{is_named}
use Rattle.kvs_space.specs.Told.{changing}
use Rattle.kvs_space.proofs.Finding.{found-within}
use Rattle.kvs_keys.proofs.Looking.{removes}
use Rattle.kvs_keys.proofs.Queueing.{waiting-posts}
use Rattle.kvs_keys.proofs.Removing.{dismissed-row, other-primary, removal-agrees, removal-legal, removal-sound, removed-order}
use Rattle.kvs_requests.proofs.Tables.{any}
use Rattle.kvs_keys.proofs.Taking.{arrived-ask}
use Rattle.kvs_rules.specs.Steps.{AreMadeBy}
use Rattle.kvs_rules.specs.declared.events.KvsStep.TheVariants as kvs
use Rattle.kvs_keys.proofs.Moving.{found-there}
use Rattle.kvs_keys.proofs.Extending.{changing-inside, changing-told, history-in, history-same, of-old, Inside}
use Rattle.kvs_keys.specs.Histories.{landings_in}
use Rattle.kvs_space.proofs.Rolls.{roll-living}
use Rattle.kvs_keys.proofs.service.Keys.remove.Goals as goal

pub index_mut-space-requires : goal.index_mut-space-requires
index_mut-space-requires c =
    let found = subst (λ v. (d : Row) → Some c.args.k ≡ position (is_named (get_or v.rows c.args.i d).namespace) v.spaces) (sym c.self.view_is) c.requires.found any in
    let f = found-within (is_named (get_or c.self.inside.rows.items c.args.i any).namespace) c.self.inside.spaces.items c.args.k found in
    omega (arith, c.self.inside.spaces.ok.0, f)

pub remove-requires-clause-sound : goal.remove-requires-clause-sound
remove-requires-clause-sound c =
    let s = c.self.invariant.0 (ap (λ v. v.spent) c.self.view_is ∙ c.requires.ready) in
    let found = subst (λ v. (d : Row) → Some c.args.k ≡ position (is_named (get_or v.rows c.args.i d).namespace) v.spaces) (sym c.self.view_is) c.requires.found any in
    let inside = found-within (is_named (get_or c.self.inside.rows.items c.args.i any).namespace) c.self.inside.spaces.items c.args.k found in
    (c.self.inside.grant, subst (IsSoundSpace c.self.inside.fanout c.self.inside.grant) (sym c.index_mut-space.ensures.value) (s.spaces c.args.k c.index_mut-space.result.now inside))

pub remove-requires-clause-other : goal.remove-requires-clause-other
remove-requires-clause-other c =
    let s = c.self.invariant.0 (ap (λ v. v.spent) c.self.view_is ∙ c.requires.ready) in
    let found = subst (λ v. (d : Row) → Some c.args.k ≡ position (is_named (get_or v.rows c.args.i d).namespace) v.spaces) (sym c.self.view_is) c.requires.found any in
    let inside = found-within (is_named (get_or c.self.inside.rows.items c.args.i any).namespace) c.self.inside.spaces.items c.args.k found in
    other-primary s c.args.k inside c.requires.other c.index_mut-space.result.now c.index_mut-space.ensures.value

pub let_rest-requires-clause-within : goal.let_rest-requires-clause-within
let_rest-requires-clause-within c =
    let found = subst (λ v. (d : Row) → Some c.args.k ≡ position (is_named (get_or v.rows c.args.i d).namespace) v.spaces) (sym c.self.view_is) c.requires.found any in
    let inside = found-within (is_named (get_or c.self.inside.rows.items c.args.i any).namespace) c.self.inside.spaces.items c.args.k found in
    let n = length-set c.self.inside.spaces.items c.args.k c.remove.new.self in
    omega (arith, inside)

pub let_rest-requires-clause-roll : goal.let_rest-requires-clause-roll
let_rest-requires-clause-roll c =
    let found = subst (λ v. (d : Row) → Some c.args.k ≡ position (is_named (get_or v.rows c.args.i d).namespace) v.spaces) (sym c.self.view_is) c.requires.found any in
    let inside = found-within (is_named (get_or c.self.inside.rows.items c.args.i any).namespace) c.self.inside.spaces.items c.args.k found in
    let removed = c.in_ok-number.ensures.removed in
    roll-living (c.self.invariant.1 (ap (λ v. v.spent) c.self.view_is ∙ c.requires.ready)) c.args.k c.remove.new.self c.index_mut-space.result.now inside c.index_mut-space.ensures.value removed.name removed.was

pub invariant_of-self-2 : goal.invariant_of-self-2
invariant_of-self-2 c = (
  λ _.
      let s = c.self.invariant.0 (ap (λ v. v.spent) c.self.view_is ∙ c.requires.ready) in
      let e = sym c.self.view_is in
      let row = c.index.result.now in
      let old = c.index_mut-space.result.now in
      let within = subst (λ v. c.args.i < length v.rows) e c.requires.within in
      let found = subst (λ v. (d : Row) → Some c.args.k ≡ position (is_named (get_or v.rows c.args.i d).namespace) v.spaces) e c.requires.found row ∙ ap (λ r. position (is_named r.namespace) c.self.inside.spaces.items) (sym c.index.ensures) in
      let inside = found-within (is_named row.namespace) c.self.inside.spaces.items c.args.k found in
      let ar = arrived-ask row (ap is_arrived c.index.ensures ∙ subst (λ v. (d : Row) → is_arrived (get_or v.rows c.args.i d) ≡ true) e c.requires.arrived row) in
      let remove = ap (λ r. kind_of r.stage) c.index.ensures ∙ subst (λ v. (d : Row) → kind_of (get_or v.rows c.args.i d).stage ≡ kind.Remove) e c.requires.asked row in
      let is = ar.is ∙ ap stage.Arrived (removes ar.asked (sym (ap kind_of ar.is) ∙ remove)) in
      let sound = c.in_ok-number.ensures.sound c.self.inside.grant (subst (IsSoundSpace c.self.inside.fanout c.self.inside.grant) (sym c.index_mut-space.ensures.value) (s.spaces c.args.k old inside)) in
      let rows-are = c.put_stage.ensures row ∙ ap (λ r. set₁ c.dismiss.new.rows.items c.args.i (with_stage (stage.Landed c.args.k c.in_ok-number.number work.Remove) r)) (dismissed-row s c.args.i within row c.index.ensures is c.args.k c.dismiss.new.rows.items c.dismiss.ensures) in
      removal-sound s c.args.i within row c.index.ensures is c.args.k found c.requires.other old c.remove.new.self c.index_mut-space.ensures.value c.in_ok-number.number c.in_ok-number.ensures.removed c.dismiss.new.rows.items c.dismiss.ensures sound c.put_stage.new.rows.items rows-are false,
  λ _. c.let_rest.ensures,
)

pub returns-clause-makes : goal.returns-clause-makes
returns-clause-makes c =
    let s = c.self.invariant.0 (ap (λ v. v.spent) c.self.view_is ∙ c.requires.ready) in
    let e = sym c.self.view_is in
    let row = c.index.result.now in
    let old = c.index_mut-space.result.now in
    let within = subst (λ v. c.args.i < length v.rows) e c.requires.within in
    let found = subst (λ v. (d : Row) → Some c.args.k ≡ position (is_named (get_or v.rows c.args.i d).namespace) v.spaces) e c.requires.found row ∙ ap (λ r. position (is_named r.namespace) c.self.inside.spaces.items) (sym c.index.ensures) in
    let ar = arrived-ask row (ap is_arrived c.index.ensures ∙ subst (λ v. (d : Row) → is_arrived (get_or v.rows c.args.i d) ≡ true) e c.requires.arrived row) in
    let remove = ap (λ r. kind_of r.stage) c.index.ensures ∙ subst (λ v. (d : Row) → kind_of (get_or v.rows c.args.i d).stage ≡ kind.Remove) e c.requires.asked row in
    let is = ar.is ∙ ap stage.Arrived (removes ar.asked (sym (ap kind_of ar.is) ∙ remove)) in
    let told = c.in_ok-events.ensures ∙ ap (λ n. changing n c.in_ok-number.number row.by) (c.name.ensures ∙ c.in_ok-number.ensures.removed.name) in
    let rows-are = c.put_stage.ensures row ∙ ap (λ r. set₁ c.dismiss.new.rows.items c.args.i (with_stage (stage.Landed c.args.k c.in_ok-number.number work.Remove) r)) (dismissed-row s c.args.i within row c.index.ensures is c.args.k c.dismiss.new.rows.items c.dismiss.ensures) in
    record {
      ready = refl;
      size = ap (λ v. v.size) c.self.view_is;
      order =
          ap (λ es. posts_landed es ++ waiting-posts (set₁ c.self.inside.spaces.items c.args.k c.remove.new.self)) c.in_ok-events.ensures
          ∙ removed-order s c.args.i within row c.index.ensures is c.args.k found c.requires.other old c.remove.new.self c.index_mut-space.ensures.value c.in_ok-number.number c.in_ok-number.ensures.removed c.dismiss.new.rows.items c.dismiss.ensures
          ∙ ap posted c.self.view_is;
      extends = record {
        history = of-old (landings_in c.in_ok-events.events) c.self.view_is (history-same c.self.inside.spaces.items c.args.k (found-there s row.namespace c.args.k found) old c.remove.new.self c.index_mut-space.ensures.value c.in_ok-number.ensures.removed.name c.in_ok-number.ensures.removed.history ∙ ap (λ ls. history-in c.self.inside.spaces.items ++ ls) (sym (ap landings_in told ∙ changing-told old.name c.in_ok-number.number row.by (other-primary s c.args.k (found-there s row.namespace c.args.k found) c.requires.other old c.index_mut-space.ensures.value))));
        inside = subst Inside (sym told) (changing-inside old.name c.in_ok-number.number row.by (other-primary s c.args.k (found-there s row.namespace c.args.k found) c.requires.other old c.index_mut-space.ensures.value));
        grant = ap (λ v. v.grant) c.self.view_is;
        fanout = ap (λ v. v.fanout) c.self.view_is;
      };
      does = inr (subst (λ es. 1 ≤ length es) (sym c.in_ok-events.ensures) (omega arith));
      own = subst (Each IsOfKeys) (sym told) (tt, (tt, tt));
      made = λ set log a. subst (AreMadeBy log (kvs.Serve 0)) (sym c.in_ok-events.ensures) (inr (refl, refl), (inl refl, tt));
      legal = λ set log a.
          subst (λ es. IsLegalAfter set log (map Happened es)) (sym told)
          (removal-legal s c.args.i within row c.index.ensures is c.args.k found c.requires.other old c.remove.new.self c.index_mut-space.ensures.value c.in_ok-number.number c.in_ok-number.ensures.removed c.dismiss.new.rows.items c.dismiss.ensures (subst (λ v. Agrees v set log) e a));
      agrees = λ set log a.
          subst (λ es. Agrees (record { spent = false; size = c.self.inside.size; fanout = c.self.inside.fanout; grant = c.self.inside.grant; spaces = set₁ c.self.inside.spaces.items c.args.k c.remove.new.self; rows = c.put_stage.new.rows.items }) set (log ++ map Happened es)) (sym told)
          (removal-agrees s c.args.i within row c.index.ensures is c.args.k found c.requires.other old c.remove.new.self c.index_mut-space.ensures.value c.in_ok-number.number c.in_ok-number.ensures.removed c.dismiss.new.rows.items c.dismiss.ensures (subst (λ v. Agrees v set log) e a) c.put_stage.new.rows.items rows-are);
    }
