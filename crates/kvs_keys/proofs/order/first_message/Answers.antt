use Rattle.std.proofs.Common.{◌≡◌, ◌⊎◌, ◌∙◌, inl, inr, Option, None, Some, IfSome, true, get_or, ap, arith, subst, sym}
use Rattle.std.specs.List.{list_any}
use Rattle.std.proofs.lemmas.Bool.{cases_eq}
use Rattle.std.proofs.lemmas.List.Folds.{list_any_at}
use Rattle.kvs_keys.specs.declared.order.Hop.{Hop}
use Rattle.kvs_requests.specs.Stages.{is_on}
use Rattle.kvs_keys.proofs.Ordering.{any-at, leads-past}
use Rattle.kvs_keys.proofs.order.first_message.Goals as goal

pub loop-row-preserved : goal.loop-row-preserved
loop-row-preserved c = record {
  some = by c.earlier-first.ensures.either;
  first = λ k l from to h. elim (cases_eq k c.loop-row.row-index) [
    | inl e ↦ leads-past c.earlier-first.result c.hop_of.result from to c.earlier-first.ensures.other
        (c.hop_of.ensures.first from to (ap (is_on from to) (is ∙ ap (λ j. get_or c.args.rows.now.items j c.row-item.result) (sym e)) ∙ h c.row-item.result))
    | inr ne ↦ leads-past c.earlier-first.result c.loop-row.first from to c.earlier-first.ensures.one (c.loop-row.invariant.first k (omega arith) from to h)
  ];
} where
  is : c.row-item.result ≡ get_or c.args.rows.now.items c.loop-row.row-index c.row-item.result
  is = c.row-item.is ∙ ap (λ xs. get_or xs c.loop-row.row-index c.row-item.result) c.deref-row-items.ensures.value

  P : Option Hop → Type 0
  P o = IfSome o (λ hop. list_any (is_on hop.from hop.to) c.args.rows.now.items ≡ true)

  here : (o : Option Hop) → IfSome o (λ hop. is_on hop.from hop.to c.row-item.result ≡ true) → P o
  here None h = tt
  here (Some hop) h = list_any_at (is_on hop.from hop.to) c.args.rows.now.items c.loop-row.row-index c.row-item.result (let n = c.loop-row-test.true in let m = c.deref-row-items.ensures.len in omega arith) (ap (is_on hop.from hop.to) (sym is) ∙ h)

  by : (c.earlier-first.result ≡ c.loop-row.first) ⊎ (c.earlier-first.result ≡ c.hop_of.result) → P c.earlier-first.result
  by (inl e) = subst P (sym e) c.loop-row.invariant.some
  by (inr e) = subst P (sym e) (here c.hop_of.result c.hop_of.ensures.some)

pub returns-clause-first : goal.returns-clause-first
returns-clause-first c = λ from to h.
    let at = any-at (is_on from to) c.args.rows.now.items h in
    c.loop-row.invariant.first at.0 (let l = at.1 in let n = c.deref-row-items.ensures.len in omega arith) from to at.2
