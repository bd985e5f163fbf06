use Rattle.std.proofs.Common.{◌≡◌, Some, None, true, option_map, ◌-◌, sym, ap, ◌∙◌, subst, arith}
use Rattle.kvs_model.specs.Walk.{past_inner_link}
use Rattle.plain_store.specs.Next.{is_outside}
use Rattle.plain_store.proofs.Walking.{goes_inside, goes_nowhere, goes_too_far_some, resolve_outside, resolved_is}
use Rattle.tree_store.specs.Shown.{OpensAbove, own_path, path_further}
use Rattle.tree_store.proofs.Following.{ends, goes_on, leaves, some_link}
use Rattle.tree_store.proofs.walks.resolve.Goals as goal

pub past_inner_link-requires : goal.past_inner_link-requires
past_inner_link-requires c = (c.requires.0, c.requires.1, c.loop-links.invariant.shown c.requires.0 c.requires.1 c.requires.2)

pub past_inner_link-requires-2 : goal.past_inner_link-requires-2
past_inner_link-requires-2 c = (c.requires.0, c.requires.1, c.loop-links.invariant.shown c.requires.0 c.requires.1 c.requires.2)

pub returns-in-None-clause-end : goal.returns-in-None-clause-end
returns-in-None-clause-end c = λ h st shows.
    let told : None ≡ option_map own_path (past_inner_link st c.loop-links.here.items) =
    ap (option_map path_further) (sym c.in-None.is) ∙ c.in_ok-past_inner_link.ensures.next h st (c.loop-links.invariant.shown h st shows) ∙ ap (λ p. option_map own_path (past_inner_link st p)) c.as_slice.ensures.value in
    resolved_is st c.args.path.now ∙ c.loop-links.invariant.same h st shows ∙ goes_nowhere st (10 - c.loop-links.links) c.loop-links.here.items (ends (past_inner_link st c.loop-links.here.items) told)

pub returns-in-None-clause-shown : goal.returns-in-None-clause-shown
returns-in-None-clause-shown c = λ h st shows. c.in_ok-past_inner_link.ensures.shown h st (c.loop-links.invariant.shown h st shows)

pub returns-in-None-clause-opens : goal.returns-in-None-clause-opens
returns-in-None-clause-opens c = λ h st shows.
    subst (OpensAbove c.past_inner_link.new.opened st) c.as_slice.ensures.value (c.in_ok-past_inner_link.ensures.opens h st (c.loop-links.invariant.shown h st shows) c.in-None.is)

pub returns-in-Some-Outside-clause-end : goal.returns-in-Some-Outside-clause-end
returns-in-Some-Outside-clause-end c = λ h st shows.
    let told : Some None ≡ option_map own_path (past_inner_link st c.loop-links.here.items) =
    ap (λ f. Some (path_further f)) (sym c.in-Some-Outside.field-0-is) ∙ ap (option_map path_further) (sym c.in-Some-Outside.is) ∙ c.in_ok-past_inner_link.ensures.next h st (c.loop-links.invariant.shown h st shows)
    ∙ ap (λ p. option_map own_path (past_inner_link st p)) c.as_slice.ensures.value in
    let out : is_outside (past_inner_link st c.loop-links.here.items) ≡ true = leaves (past_inner_link st c.loop-links.here.items) told in
    resolved_is st c.args.path.now ∙ c.loop-links.invariant.same h st shows ∙ resolve_outside st c.loop-links.links c.loop-links.here.items c.loop-links-test.true out

pub returns-in-Some-Outside-clause-shown : goal.returns-in-Some-Outside-clause-shown
returns-in-Some-Outside-clause-shown c = λ h st shows. c.in_ok-past_inner_link.ensures.shown h st (c.loop-links.invariant.shown h st shows)

pub loop-links-preserved : goal.loop-links-preserved
loop-links-preserved c = record {
  bound = omega arith;
  same = λ h st shows. (
      let here = c.loop-links.here.items in
      let told : Some (Some c.in-Some-Inside.next.items) ≡ option_map own_path (past_inner_link st here) =
      ap (λ f. Some (path_further f)) (sym c.in-Some-Inside.field-0-is) ∙ ap (option_map path_further) (sym c.in-Some-Inside.is) ∙ c.in_ok-past_inner_link.ensures.next h st (c.loop-links.invariant.shown h st shows)
      ∙ ap (λ p. option_map own_path (past_inner_link st p)) c.as_slice.ensures.value in
      c.loop-links.invariant.same h st shows ∙ goes_inside st c.loop-links.links here c.in-Some-Inside.next.items c.loop-links-test.true (goes_on (past_inner_link st here) c.in-Some-Inside.next.items told));
  shown = λ h st shows. c.in_ok-past_inner_link.ensures.shown h st (c.loop-links.invariant.shown h st shows);
}

pub returns-in-None-2-clause-end : goal.returns-in-None-2-clause-end
returns-in-None-2-clause-end c = λ h st shows.
    let told : None ≡ option_map own_path (past_inner_link st c.loop-links.here.items) =
    ap (option_map path_further) (sym c.in-None-2.is) ∙ c.in_ok-past_inner_link-2.ensures.next h st (c.loop-links.invariant.shown h st shows) ∙ ap (λ p. option_map own_path (past_inner_link st p)) c.as_slice-2.ensures.value in
    resolved_is st c.args.path.now ∙ c.loop-links.invariant.same h st shows ∙ goes_nowhere st (10 - c.loop-links.links) c.loop-links.here.items (ends (past_inner_link st c.loop-links.here.items) told)

pub returns-in-None-2-clause-shown : goal.returns-in-None-2-clause-shown
returns-in-None-2-clause-shown c = λ h st shows. c.in_ok-past_inner_link-2.ensures.shown h st (c.loop-links.invariant.shown h st shows)

pub returns-in-None-2-clause-opens : goal.returns-in-None-2-clause-opens
returns-in-None-2-clause-opens c = λ h st shows.
    subst (OpensAbove c.past_inner_link-2.new.opened st) c.as_slice-2.ensures.value (c.in_ok-past_inner_link-2.ensures.opens h st (c.loop-links.invariant.shown h st shows) c.in-None-2.is)

pub returns-in-Some-clause-end : goal.returns-in-Some-clause-end
returns-in-Some-clause-end c = λ h st shows.
    let here = c.loop-links.here.items in
    let told : Some (path_further c.in-Some.field-0) ≡ option_map own_path (past_inner_link st here) =
    ap (option_map path_further) (sym c.in-Some.is) ∙ c.in_ok-past_inner_link-2.ensures.next h st (c.loop-links.invariant.shown h st shows) ∙ ap (λ p. option_map own_path (past_inner_link st p)) c.as_slice-2.ensures.value in
    resolved_is st c.args.path.now ∙ c.loop-links.invariant.same h st shows
    ∙ goes_too_far_some st (10 - c.loop-links.links) here (omega (arith, c.loop-links.invariant.bound, c.loop-links-test.false)) (some_link (past_inner_link st here) (path_further c.in-Some.field-0) told)

pub returns-in-Some-clause-shown : goal.returns-in-Some-clause-shown
returns-in-Some-clause-shown c = λ h st shows. c.in_ok-past_inner_link-2.ensures.shown h st (c.loop-links.invariant.shown h st shows)
