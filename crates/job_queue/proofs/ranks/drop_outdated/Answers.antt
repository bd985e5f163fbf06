use Rattle.std.proofs.Common.{◌<◌, length, heap_len, heap_items, sym, ◌∙◌, rules}
use Rattle.std.proofs.lemmas.Bool.{false≢true}
use Rattle.job_queue.specs.Ranks.{IsLive, IsRanked}
use Rattle.job_queue.proofs.Ranking.{popped}
use Rattle.job_queue.proofs.ranks.drop_outdated.Goals as goal

pub loop-top-preserved : goal.loop-top-preserved
loop-top-preserved c =
    let some : 0 < heap_len c.loop-top.ranks = search rules in
    let long : 0 < length (heap_items c.loop-top.ranks) = search rules in
    let outdated : IsLive c.args.priorities.now c.in-Some.top.now → ⊥ = λ live. false≢true (sym c.if-is_live.false ∙ c.is_live.ensures.1 live) in
    let ranked : IsRanked c.args.priorities.now (heap_items c.pop.new.self) = popped c.args.priorities.now (heap_items c.loop-top.ranks) (heap_items c.pop.new.self) c.pop.result c.in-Some.top.now (c.pop.ensures.variant.1 some) long c.pop.ensures.top c.in-Some.ensures.lookup c.pop.ensures.permutation c.loop-top.invariant.0 outdated in
    (ranked, search rules, search rules)
