use Rattle.std.proofs.Common.{◌≡◌, ◌≢◌, ◌<◌, ◌+◌, ℕ, ◌++◌, ◌∷◌, [], inl, inr, take, Some, refl, sym, ap, ◌∙◌, subst, arith, true≢false}
use Rattle.std.specs.Prelude.{Contains}
use Rattle.std.specs.List.{AllByRecursion as Each}
use Rattle.std.proofs.lemmas.List.{take_all}
use Rattle.backfill.specs.Reservations.{IsReservation}
use Rattle.job_rules.proofs.Among.{among_from, each_at}
use Rattle.manager_rules.specs.Sound.{AreInTime}
use Rattle.job_deeds.specs.Passing.{IsFirstLeaving, IsRefused, Leaves, asks_of}
use Rattle.job_deeds.specs.Waiting.{rank_of, waits_with}
use Rattle.job_deeds.proofs.Alike.{refused, refused_more}
use Rattle.job_deeds.proofs.Walking.{not_asked, not_leaving, now_first}
use Rattle.job_deeds.proofs.passing.first_beside.Goals as goal

pub leaves-requires-clause-reserved : goal.leaves-requires-clause-reserved
leaves-requires-clause-reserved c = subst (IsReservation c.args.head.now.spec c.args.grant.now.nodes c.args.live.now c.args.desk.now.second) (sym c.loop-row.invariant.same) c.requires.reserved

pub loop-row-preserved-then-not-goes_before : goal.loop-row-preserved-then-not-goes_before
loop-row-preserved-then-not-goes_before c = record {
  same = c.loop-row.invariant.same;
  first = λ s seen.
      not_asked s c.args.head.now c.args.desk.now.rows.now c.requires.look.in_time.rising c.loop-row.row-index c.row-item.result c.loop-row-test.true c.row-item.is c.loop-row.most c.loop-row.first (c.loop-row.invariant.first s seen)
      (λ h. true≢false (sym (c.goes_before.ensures.1 (h.0, λ e. h.1 (e ∙ ap (λ k. k.id) c.head.view_is))) ∙ c.if-not-goes_before.true));
  refused = c.loop-row.invariant.refused;
}

pub loop-row-preserved-then-is_refused : goal.loop-row-preserved-then-is_refused
loop-row-preserved-then-is_refused c = record {
  same = c.loop-row.invariant.same;
  first = λ s seen.
      let x = c.row-item.result in
      let head = c.args.head.now in
      let rows = c.args.desk.now.rows.now in
      let all = c.loop-row.refused.items in
      let known : Contains rows x = (c.loop-row.row-index, c.loop-row-test.true, sym c.row-item.is) in
      let asked : Contains all (asks_of x.spec) = subst (λ xs. Contains xs (asks_of x.spec)) c.deref.ensures.value (subst (λ j. Contains c.deref.result.now (asks_of j.spec)) c.row.view_is (c.is_refused.ensures c.if-is_refused.true)) in
      not_leaving s head rows c.requires.look.in_time.rising c.loop-row.row-index x c.loop-row-test.true c.row-item.is c.loop-row.most c.loop-row.first (c.loop-row.invariant.first s seen)
      (each_at (IsRefused s head) all (asks_of x.spec) (c.loop-row.invariant.refused s seen) (among_from all (asks_of x.spec) asked) x (subst (λ js. Contains js x) (sym seen.jobs) known) refl);
  refused = c.loop-row.invariant.refused;
}

pub loop-row-preserved-then-not-branch : goal.loop-row-preserved-then-not-branch
loop-row-preserved-then-not-branch c = record {
  same = c.in_ok-leaves.ensures.kept ∙ c.loop-row.invariant.same;
  first = λ s seen.
      not_leaving s c.args.head.now c.args.desk.now.rows.now c.requires.look.in_time.rising c.loop-row.row-index c.row-item.result c.loop-row-test.true c.row-item.is c.loop-row.most c.loop-row.first (c.loop-row.invariant.first s seen)
      (λ l. true≢false (sym ((c.in_ok-leaves.ensures.leaves s seen).1 l) ∙ c.if-not-branch.true));
  refused = λ s seen.
      let x = c.row-item.result in
      let head = c.args.head.now in
      let rows = c.args.desk.now.rows.now in
      let all = c.loop-row.refused.items in
      let goes = c.goes_before.ensures.0 c.if-not-goes_before.false in
      let known : Contains rows x = (c.loop-row.row-index, c.loop-row-test.true, sym c.row-item.is) in
      let above : 0 < waits_with x = omega (arith, goes.0) in
      let behind : x.id ≢ head.id = λ e. goes.1 (e ∙ sym (ap (λ k. k.id) c.head.view_is)) in
      let none : Leaves s head x → ⊥ = λ l. true≢false (sym ((c.in_ok-leaves.ensures.leaves s seen).1 l) ∙ c.if-not-branch.true) in
      let here : IsRefused s head (asks_of x.spec) = refused s (subst AreInTime (sym seen.jobs) c.requires.look.in_time) head x (subst (λ js. Contains js x) (sym seen.jobs) known) above behind none in
      let asks = asks_of c.row.inside.spec in
      elim c.in_ok-keep_refused.ensures [
        | inl same ↦ subst (Each (IsRefused s head)) (sym same) (c.loop-row.invariant.refused s seen)
        | inr more ↦ subst (Each (IsRefused s head)) (sym more) (refused_more s head all asks (c.loop-row.invariant.refused s seen) (subst (λ j. IsRefused s head (asks_of j.spec)) (sym c.row.view_is) here))
      ];
}

pub loop-row-preserved : goal.loop-row-preserved
loop-row-preserved c = record {
  same = c.in_ok-leaves.ensures.kept ∙ c.loop-row.invariant.same;
  first = λ s seen.
      let head = c.args.head.now in
      let rows = c.args.desk.now.rows.now in
      let i = c.loop-row.row-index in
      let x = c.row-item.result in
      let above = (c.goes_before.ensures.0 c.if-not-goes_before.false).0 in
      let now = now_first s head rows c.requires.look.in_time.rising i x c.loop-row-test.true c.row-item.is c.loop-row.most c.loop-row.first (c.loop-row.invariant.first s seen) above ((c.in_ok-leaves.ensures.leaves s seen).0 c.if-not-branch.false) in
      subst (λ n. IsFirstLeaving s head (take (i + 1) rows) n (Some c.row.inside.id)) (ap (λ j. rank_of j.job) (sym c.row.view_is) ∙ sym c.rank-most.ensures)
      (subst (λ o. IsFirstLeaving s head (take (i + 1) rows) (rank_of x.job) o) (ap (λ j. Some j.id) (sym c.row.view_is)) now);
  refused = c.loop-row.invariant.refused;
}

pub returns : goal.returns
returns c = λ s seen. (c.loop-row.most, subst (λ js. IsFirstLeaving s c.args.head.now js c.loop-row.most c.loop-row.first) (take_all c.loop-row.row-index c.args.desk.now.rows.now (omega (arith, c.loop-row-test.false))) (c.loop-row.invariant.first s seen))
