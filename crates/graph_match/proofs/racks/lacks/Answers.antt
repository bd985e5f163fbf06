use Rattle.std.proofs.Common.{◌<◌, sym, subst, inl, inr}
use Rattle.std.proofs.lemmas.Bool.{ltb-true}
use Rattle.graph_match.proofs.Blocks.{lacking_block}
use Rattle.graph_match.proofs.racks.lacks.Goals as goal

pub returns-then-free-from : goal.returns-then-free-from
returns-then-free-from c = λ hosts counted less. lacking_block c.args.spec.now hosts c.args.counts.now c.args.width c.args.at c.in-Some.free.now c.if-at-width-ne0.false
    (ltb-true _ _ (sym c.in-Some.ensures.lookup.0)) c.in-Some.ensures.lookup.1 counted (inl (subst (λ n. c.in-Some.free.now.cores < n) c.from.ensures (ltb-true _ _ less)))

pub returns-else-free-from : goal.returns-else-free-from
returns-else-free-from c = λ hosts counted less. lacking_block c.args.spec.now hosts c.args.counts.now c.args.width c.args.at c.in-Some.free.now c.if-at-width-ne0.false
    (ltb-true _ _ (sym c.in-Some.ensures.lookup.0)) c.in-Some.ensures.lookup.1 counted (inr (subst (λ n. c.in-Some.free.now.gpus < n) c.from-else-free-from.ensures (ltb-true _ _ less)))
