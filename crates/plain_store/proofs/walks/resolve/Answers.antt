use Rattle.std.proofs.Common.{◌≡◌, ◌-◌, sym, ap, ◌∙◌, Some, None, true, false, option_map, arith}
use Rattle.kvs_model.specs.Walk.{past_inner_link}
use Rattle.plain_store.specs.Held.{store_of}
use Rattle.plain_store.specs.Next.{is_outside, next_of}
use Rattle.plain_store.proofs.Walking.{resolve_done, resolve_loop, resolve_more, resolve_outside, resolved_is}
use Rattle.plain_store.proofs.walks.resolve.Goals as goal

pub returns-then-leads_outside : goal.returns-then-leads_outside
returns-then-leads_outside c =
    let st = store_of c.args.table.now.slots.entries in
    let out : is_outside (past_inner_link st c.loop-count.here.items) ≡ true = ap (λ p. is_outside (past_inner_link st p)) (sym c.as_slice.ensures.value) ∙ sym c.leads_outside.ensures ∙ c.if-leads_outside.true in
    resolved_is st c.args.path.now ∙ c.loop-count.invariant.same ∙ resolve_outside st c.loop-count.count c.loop-count.here.items c.loop-count-test.true out

pub returns-in-None : goal.returns-in-None
returns-in-None c =
    let st = store_of c.args.table.now.slots.entries in
    let ends : None ≡ next_of true st c.loop-count.here.items = ap (option_map (λ v. v.items)) (sym c.in-None.is) ∙ c.in_ok-past_link.ensures ∙ ap (next_of true st) c.as_slice-in-loop-count.ensures.value in
    resolved_is st c.args.path.now ∙ c.loop-count.invariant.same ∙ resolve_done st (10 - c.loop-count.count) c.loop-count.here.items ends

pub loop-count-preserved : goal.loop-count-preserved
loop-count-preserved c =
    let st = store_of c.args.table.now.slots.entries in
    let stays : is_outside (past_inner_link st c.loop-count.here.items) ≡ false = ap (λ p. is_outside (past_inner_link st p)) (sym c.as_slice.ensures.value) ∙ sym c.leads_outside.ensures ∙ c.if-leads_outside.false in
    let goes : Some c.in-Some.next.items ≡ next_of true st c.loop-count.here.items = ap (option_map (λ v. v.items)) (sym c.in-Some.is) ∙ c.in_ok-past_link.ensures ∙ ap (next_of true st) c.as_slice-in-loop-count.ensures.value in
    record {
      bound = omega arith;
      same = c.loop-count.invariant.same ∙ resolve_more st c.loop-count.count c.loop-count.here.items c.in-Some.next.items c.loop-count-test.true stays goes;
    }

pub returns-in-None-2 : goal.returns-in-None-2
returns-in-None-2 c =
    let st = store_of c.args.table.now.slots.entries in
    let ends : None ≡ next_of true st c.loop-count.here.items = ap (option_map (λ v. v.items)) (sym c.in-None-2.is) ∙ c.in_ok-past_link-2.ensures ∙ ap (next_of true st) c.as_slice-2.ensures.value in
    resolved_is st c.args.path.now ∙ c.loop-count.invariant.same ∙ resolve_done st (10 - c.loop-count.count) c.loop-count.here.items ends

pub returns-in-Some-2 : goal.returns-in-Some-2
returns-in-Some-2 c =
    let st = store_of c.args.table.now.slots.entries in
    let goes : Some c.in-Some-2.field-0.items ≡ next_of true st c.loop-count.here.items = ap (option_map (λ v. v.items)) (sym c.in-Some-2.is) ∙ c.in_ok-past_link-2.ensures ∙ ap (next_of true st) c.as_slice-2.ensures.value in
    resolved_is st c.args.path.now ∙ c.loop-count.invariant.same ∙ resolve_loop st (10 - c.loop-count.count) c.loop-count.here.items c.in-Some-2.field-0.items (omega (arith, c.loop-count.invariant.bound, c.loop-count-test.false)) goes
