use Rattle.std.proofs.Common.{◌≡◌, ◌<◌, ◌⊎◌, inl, inr, arith, true, Option, None, Some, IfSome, subst, sym}
use Rattle.std.specs.List.{list_any}
use Rattle.std.proofs.lemmas.Bool.{cases_eq}
use Rattle.kvs_keys.specs.declared.order.Hop.{Hop}
use Rattle.kvs_space.specs.Space.{has_news}
use Rattle.kvs_keys.specs.Order.{IsAnnouncing, Leads}
use Rattle.kvs_rules.specs.Brokers.{parent}
use Rattle.kvs_keys.proofs.Ordering.{leads-past}
use Rattle.kvs_keys.proofs.order.first_announced.Goals as goal

pub loop-to-preserved : goal.loop-to-preserved
loop-to-preserved c = record {
  some = by c.earlier-first.ensures.either;
  first = λ k pos l h. elim (cases_eq k c.loop-to.to) [
    | inl q ↦ leads-past c.earlier-first.result c.announced_to.result _ k c.earlier-first.ensures.other
        (subst (λ n. Leads c.announced_to.result (parent c.args.fanout n) n) (sym q) (c.announced_to.ensures.first (subst (λ n. list_any (has_news n) c.args.spaces.now.items ≡ true) q h)))
    | inr ne ↦ leads-past c.earlier-first.result c.loop-to.first _ k c.earlier-first.ensures.one (c.loop-to.invariant.first k pos (omega arith) h)
  ];
} where
  P : Option Hop → Type 0
  P o = IfSome o (λ hop. (hop.to < c.args.size) × IsAnnouncing c.args.fanout c.args.spaces.now.items hop.from hop.to)

  by : (c.earlier-first.result ≡ c.loop-to.first) ⊎ (c.earlier-first.result ≡ c.announced_to.result) → P c.earlier-first.result
  by (inl e) = subst P (sym e) c.loop-to.invariant.some
  by (inr e) = subst P (sym e) (within c.announced_to.result c.announced_to.ensures.some)
    where
      within : (o : Option Hop) → IfSome o (λ hop. (hop.to ≡ c.loop-to.to) × IsAnnouncing c.args.fanout c.args.spaces.now.items hop.from hop.to) → P o
      within None h = tt
      within (Some hop) h = (subst (λ n. n < c.args.size) (sym h.0) c.loop-to-test.true, h.1)
