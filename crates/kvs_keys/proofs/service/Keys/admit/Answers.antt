use Rattle.std.proofs.Common.{refl, inl, ◌≡◌, ◌∙◌, ◌<◌, Some, None, true, false, length, arith, get_or, ap, sym, subst, set as set₁, []}
use Rattle.std.specs.List.{position}
use Rattle.fence_merge.specs.Fences.{fence_of}
use Rattle.kvs_requests.specs.declared.rows.Kind.TheVariants as kind
use Rattle.kvs_requests.specs.declared.rows.Row.{Row}
use Rattle.kvs_requests.specs.declared.rows.Stage.TheVariants as stage
use Rattle.kvs_requests.specs.Rows.{ask_of, with_stage, work_of}
use Rattle.kvs_requests.specs.Stages.{is_arrived, kept_count, kind_of, all_services}
use Rattle.kvs_space.specs.Space.{SpaceValue, is_named}
use Rattle.kvs_space.proofs.Finding.{found-within}
use Rattle.kvs_keys.specs.Agrees.{Agrees}
use Rattle.kvs_keys.specs.Posted.{posted}
use Rattle.kvs_keys.specs.View.{value_of}
use Rattle.kvs_keys.proofs.Committing.{commit-sound, commit-fewer, commit-agrees, commit-order}
use Rattle.kvs_keys.proofs.Extending.{history-same, of-old}
use Rattle.kvs_keys.proofs.Fencing.{fence-sound, fence-fewer, fence-agrees, fence-order}
use Rattle.kvs_keys.proofs.Joining.{same-count}
use Rattle.kvs_keys.proofs.Moving.{found-there}
use Rattle.kvs_keys.proofs.Taking.{enters}
use Rattle.kvs_space.proofs.Rolls.{roll-living}
use Rattle.kvs_keys.proofs.service.Keys.admit.Goals as goal

pub index_mut-space-requires : goal.index_mut-space-requires
index_mut-space-requires c =
    let s = c.self.invariant.0 (ap (λ v. v.spent) c.self.view_is ∙ c.requires.ready) in
    let e = sym c.self.view_is in
    let found₀ = subst (λ v. (d : Row) → Some c.args.k ≡ position (is_named (get_or v.rows c.args.i d).namespace) v.spaces) e c.requires.found in
    let f = found-within (is_named (get_or c.self.inside.rows.items c.args.i c.index.result.now).namespace) c.self.inside.spaces.items c.args.k (found₀ c.index.result.now) in
    omega (arith, c.self.inside.spaces.ok.0, f)

pub take_entrant-entrant-requires-clause-enters : goal.take_entrant-entrant-requires-clause-enters
take_entrant-entrant-requires-clause-enters c = λ d.
    let s = c.self.invariant.0 (ap (λ v. v.spent) c.self.view_is ∙ c.requires.ready) in
    let e = sym c.self.view_is in
    let within = subst (λ v. c.args.i < length v.rows) e c.requires.within in
    let arrived = subst (λ v. (d : Row) → is_arrived (get_or v.rows c.args.i d) ≡ true) e c.requires.arrived d in
    let lands = subst (λ v. (d : Row) → kind_of (get_or v.rows c.args.i d).stage ≡ kind.Land) e c.requires.asked d in
    enters c.self.inside.fanout c.self.inside.size (value_of c.self.inside).spaces (get_or c.self.inside.rows.items c.args.i d).stage arrived lands (s.placed c.args.i d within).place

pub invariant_of-self-in-Commit : goal.invariant_of-self-in-Commit
invariant_of-self-in-Commit c = (
  λ _.
      let s = c.self.invariant.0 (ap (λ v. v.spent) c.self.view_is ∙ c.requires.ready) in
      let e = sym c.self.view_is in
      let rows = c.self.inside.rows.items in
      let row = c.index.result.now in
      let within = subst (λ v. c.args.i < length v.rows) e c.requires.within in
      let found₀ = subst (λ v. (d : Row) → Some c.args.k ≡ position (is_named (get_or v.rows c.args.i d).namespace) v.spaces) e c.requires.found in
      let found = found₀ row ∙ ap (λ r. position (is_named r.namespace) c.self.inside.spaces.items) (sym c.index.ensures) in
      let live = ap (λ x. x.removed) c.index_mut-space.ensures.value ∙ subst (λ v. (d : SpaceValue) → (get_or v.spaces c.args.k d).removed ≡ false) e c.requires.living c.index_mut-space.result.now in
      let stage-is = ap (λ r. r.stage) c.index.ensures ∙ c.take_entrant-entrant.ensures.was row ∙ ap (λ x. stage.Arrived (ask_of x)) c.in-Commit.is in
      let rows-are = c.take_entrant-entrant.ensures.rows row ∙ ap (λ r. set₁ rows c.args.i (with_stage (stage.Joined c.args.k (work_of c.take_entrant-entrant.result)) r)) (sym c.index.ensures)
      ∙ ap (λ x. set₁ rows c.args.i (with_stage (stage.Joined c.args.k (work_of x)) row)) c.in-Commit.is in
      commit-sound s c.args.i within row c.index.ensures c.args.k found c.in-Commit.txn stage-is c.index_mut-space.result.now c.push.new.self c.index_mut-space.ensures.value c.in_ok-push-in-Commit.ensures live c.take_entrant-entrant.new.rows.items rows-are false,
  λ _.
      let old = c.index_mut-space.result.now in
      let found = subst (λ v. (d : Row) → Some c.args.k ≡ position (is_named (get_or v.rows c.args.i d).namespace) v.spaces) (sym c.self.view_is) c.requires.found c.index.result.now in
      let inside = found-within (is_named (get_or c.self.inside.rows.items c.args.i c.index.result.now).namespace) c.self.inside.spaces.items c.args.k found in
      let live = ap (λ x. x.removed) c.index_mut-space.ensures.value ∙ subst (λ v. (d : SpaceValue) → (get_or v.spaces c.args.k d).removed ≡ false) (sym c.self.view_is) c.requires.living old in
      roll-living (c.self.invariant.1 (ap (λ v. v.spent) c.self.view_is ∙ c.requires.ready)) c.args.k c.push.new.self old inside c.index_mut-space.ensures.value (ap (λ x. x.name) c.in_ok-push-in-Commit.ensures) live,
)

pub invariant_of-self-in-Member : goal.invariant_of-self-in-Member
invariant_of-self-in-Member c = (
  λ _.
      let s = c.self.invariant.0 (ap (λ v. v.spent) c.self.view_is ∙ c.requires.ready) in
      let e = sym c.self.view_is in
      let rows = c.self.inside.rows.items in
      let row = c.index.result.now in
      let within = subst (λ v. c.args.i < length v.rows) e c.requires.within in
      let found₀ = subst (λ v. (d : Row) → Some c.args.k ≡ position (is_named (get_or v.rows c.args.i d).namespace) v.spaces) e c.requires.found in
      let found = found₀ row ∙ ap (λ r. position (is_named r.namespace) c.self.inside.spaces.items) (sym c.index.ensures) in
      let live = ap (λ x. x.removed) c.index_mut-space.ensures.value ∙ subst (λ v. (d : SpaceValue) → (get_or v.spaces c.args.k d).removed ≡ false) e c.requires.living c.index_mut-space.result.now in
      let stage-is = ap (λ r. r.stage) c.index.ensures ∙ c.take_entrant-entrant.ensures.was row ∙ ap (λ x. stage.Arrived (ask_of x)) c.in-Member.is in
      let rows-are = c.take_entrant-entrant.ensures.rows row ∙ ap (λ r. set₁ rows c.args.i (with_stage (stage.Joined c.args.k (work_of c.take_entrant-entrant.result)) r)) (sym c.index.ensures)
      ∙ ap (λ x. set₁ rows c.args.i (with_stage (stage.Joined c.args.k (work_of x)) row)) c.in-Member.is in
      fence-sound s c.args.i within row c.index.ensures c.args.k found c.in-Member.name c.in-Member.count c.in-Member.txn stage-is c.index_mut-space.result.now c.join.new.self c.index_mut-space.ensures.value c.in_ok-join-in-Member.ensures.joined c.in_ok-join-in-Member.ensures.open live c.take_entrant-entrant.new.rows.items rows-are false,
  λ _.
      let old = c.index_mut-space.result.now in
      let found = subst (λ v. (d : Row) → Some c.args.k ≡ position (is_named (get_or v.rows c.args.i d).namespace) v.spaces) (sym c.self.view_is) c.requires.found c.index.result.now in
      let inside = found-within (is_named (get_or c.self.inside.rows.items c.args.i c.index.result.now).namespace) c.self.inside.spaces.items c.args.k found in
      let live = ap (λ x. x.removed) c.index_mut-space.ensures.value ∙ subst (λ v. (d : SpaceValue) → (get_or v.spaces c.args.k d).removed ≡ false) (sym c.self.view_is) c.requires.living old in
      roll-living (c.self.invariant.1 (ap (λ v. v.spent) c.self.view_is ∙ c.requires.ready)) c.args.k c.join.new.self old inside c.index_mut-space.ensures.value (ap (λ x. x.name) c.in_ok-join-in-Member.ensures.joined) live,
)

pub join-requires-clause-same : goal.join-requires-clause-same
join-requires-clause-same c =
    let e = sym c.self.view_is in
    let rows = c.self.inside.rows.items in
    let row = c.index.result.now in
    let stage-is = ap (λ r. r.stage) c.index.ensures ∙ c.take_entrant-entrant.ensures.was row ∙ ap (λ x. stage.Arrived (ask_of x)) c.in-Member.is in
    let same₀ = subst (λ v. (d : Row) (x : SpaceValue) → kept_count (get_or v.spaces c.args.k x) (get_or v.rows c.args.i d).stage ≡ None) e c.requires.same in
    let same = ap (λ st. kept_count c.index_mut-space.result.now st) (sym stage-is ∙ ap (λ r. r.stage) c.index.ensures) ∙ ap (λ x. kept_count x (get_or rows c.args.i row).stage) c.index_mut-space.ensures.value ∙ same₀ row c.index_mut-space.result.now in
    same-count (fence_of c.in-Member.name c.index_mut-space.result.now.merger.fences) c.in-Member.count same

pub returns-in_ok-push-in-Commit-clause-moves : goal.returns-in_ok-push-in-Commit-clause-moves
returns-in_ok-push-in-Commit-clause-moves c =
    let s = c.self.invariant.0 (ap (λ v. v.spent) c.self.view_is ∙ c.requires.ready) in
    let e = sym c.self.view_is in
    let rows = c.self.inside.rows.items in
    let row = c.index.result.now in
    let within = subst (λ v. c.args.i < length v.rows) e c.requires.within in
    let found₀ = subst (λ v. (d : Row) → Some c.args.k ≡ position (is_named (get_or v.rows c.args.i d).namespace) v.spaces) e c.requires.found in
    let found = found₀ row ∙ ap (λ r. position (is_named r.namespace) c.self.inside.spaces.items) (sym c.index.ensures) in
    let live = ap (λ x. x.removed) c.index_mut-space.ensures.value ∙ subst (λ v. (d : SpaceValue) → (get_or v.spaces c.args.k d).removed ≡ false) e c.requires.living c.index_mut-space.result.now in
    let stage-is = ap (λ r. r.stage) c.index.ensures ∙ c.take_entrant-entrant.ensures.was row ∙ ap (λ x. stage.Arrived (ask_of x)) c.in-Commit.is in
    let rows-are = c.take_entrant-entrant.ensures.rows row ∙ ap (λ r. set₁ rows c.args.i (with_stage (stage.Joined c.args.k (work_of c.take_entrant-entrant.result)) r)) (sym c.index.ensures)
    ∙ ap (λ x. set₁ rows c.args.i (with_stage (stage.Joined c.args.k (work_of x)) row)) c.in-Commit.is in
    record {
      ready = refl;
      size = ap (λ v. v.size) c.self.view_is;
      order = commit-order s c.args.i within row c.index.ensures c.args.k found c.in-Commit.txn stage-is c.index_mut-space.result.now c.push.new.self c.index_mut-space.ensures.value c.in_ok-push-in-Commit.ensures live ∙ ap posted c.self.view_is;
      extends = record {
        history = of-old [] c.self.view_is (history-same c.self.inside.spaces.items c.args.k (found-there s row.namespace c.args.k found) c.index_mut-space.result.now c.push.new.self c.index_mut-space.ensures.value (ap (λ x. x.name) c.in_ok-push-in-Commit.ensures) (ap (λ x. x.history) c.in_ok-push-in-Commit.ensures));
        inside = refl;
        grant = ap (λ v. v.grant) c.self.view_is;
        fanout = ap (λ v. v.fanout) c.self.view_is;
      };
      does = inl (subst (λ v. all_services c.take_entrant-entrant.new.rows.items < all_services v.rows) c.self.view_is (commit-fewer s c.args.i within row c.index.ensures c.args.k found c.in-Commit.txn stage-is c.index_mut-space.result.now c.push.new.self c.index_mut-space.ensures.value c.in_ok-push-in-Commit.ensures live c.take_entrant-entrant.new.rows.items rows-are));
      agrees = λ set log a. commit-agrees s c.args.i within row c.index.ensures c.args.k found c.in-Commit.txn stage-is c.index_mut-space.result.now c.push.new.self c.index_mut-space.ensures.value c.in_ok-push-in-Commit.ensures live (subst (λ v. Agrees v set log) e a) c.take_entrant-entrant.new.rows.items rows-are;
    }

pub returns-in_ok-join-in-Member-clause-moves : goal.returns-in_ok-join-in-Member-clause-moves
returns-in_ok-join-in-Member-clause-moves c =
    let s = c.self.invariant.0 (ap (λ v. v.spent) c.self.view_is ∙ c.requires.ready) in
    let e = sym c.self.view_is in
    let rows = c.self.inside.rows.items in
    let row = c.index.result.now in
    let within = subst (λ v. c.args.i < length v.rows) e c.requires.within in
    let found₀ = subst (λ v. (d : Row) → Some c.args.k ≡ position (is_named (get_or v.rows c.args.i d).namespace) v.spaces) e c.requires.found in
    let found = found₀ row ∙ ap (λ r. position (is_named r.namespace) c.self.inside.spaces.items) (sym c.index.ensures) in
    let live = ap (λ x. x.removed) c.index_mut-space.ensures.value ∙ subst (λ v. (d : SpaceValue) → (get_or v.spaces c.args.k d).removed ≡ false) e c.requires.living c.index_mut-space.result.now in
    let stage-is = ap (λ r. r.stage) c.index.ensures ∙ c.take_entrant-entrant.ensures.was row ∙ ap (λ x. stage.Arrived (ask_of x)) c.in-Member.is in
    let rows-are = c.take_entrant-entrant.ensures.rows row ∙ ap (λ r. set₁ rows c.args.i (with_stage (stage.Joined c.args.k (work_of c.take_entrant-entrant.result)) r)) (sym c.index.ensures)
    ∙ ap (λ x. set₁ rows c.args.i (with_stage (stage.Joined c.args.k (work_of x)) row)) c.in-Member.is in
    let same₀ = subst (λ v. (d : Row) (x : SpaceValue) → kept_count (get_or v.spaces c.args.k x) (get_or v.rows c.args.i d).stage ≡ None) e c.requires.same in
    let same = ap (λ st. kept_count c.index_mut-space.result.now st) (sym stage-is ∙ ap (λ r. r.stage) c.index.ensures) ∙ ap (λ x. kept_count x (get_or rows c.args.i row).stage) c.index_mut-space.ensures.value ∙ same₀ row c.index_mut-space.result.now in
    record {
      ready = refl;
      size = ap (λ v. v.size) c.self.view_is;
      order = fence-order s c.args.i within row c.index.ensures c.args.k found c.in-Member.name c.in-Member.count c.in-Member.txn stage-is c.index_mut-space.result.now c.join.new.self c.index_mut-space.ensures.value c.in_ok-join-in-Member.ensures.joined c.in_ok-join-in-Member.ensures.open live ∙ ap posted c.self.view_is;
      extends = record {
        history = of-old [] c.self.view_is (history-same c.self.inside.spaces.items c.args.k (found-there s row.namespace c.args.k found) c.index_mut-space.result.now c.join.new.self c.index_mut-space.ensures.value (ap (λ x. x.name) c.in_ok-join-in-Member.ensures.joined) (ap (λ x. x.history) c.in_ok-join-in-Member.ensures.joined));
        inside = refl;
        grant = ap (λ v. v.grant) c.self.view_is;
        fanout = ap (λ v. v.fanout) c.self.view_is;
      };
      does = inl (subst (λ v. all_services c.take_entrant-entrant.new.rows.items < all_services v.rows) c.self.view_is (fence-fewer s c.args.i within row c.index.ensures c.args.k found c.in-Member.name c.in-Member.count c.in-Member.txn stage-is c.index_mut-space.result.now c.join.new.self c.index_mut-space.ensures.value c.in_ok-join-in-Member.ensures.joined c.in_ok-join-in-Member.ensures.open live c.take_entrant-entrant.new.rows.items rows-are));
      agrees = λ set log a. fence-agrees s c.args.i within row c.index.ensures c.args.k found c.in-Member.name c.in-Member.count c.in-Member.txn stage-is c.index_mut-space.result.now c.join.new.self c.index_mut-space.ensures.value c.in_ok-join-in-Member.ensures.joined c.in_ok-join-in-Member.ensures.open live same (subst (λ v. Agrees v set log) e a) c.take_entrant-entrant.new.rows.items rows-are;
    }
